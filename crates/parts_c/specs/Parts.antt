-- Cutting for programs in C and Rust.
use Rattle.std.specs.Prelude.{List, ℕ, length}
use Rattle.answer_c.specs.Codes.{WritesByCode}
use Rattle.parts_cut.specs.Part.{CutPart}

-- the contract of an exported call that writes a part: the number of its answer, and the part in front of the output
abbrev pub WritesPartByCode : CutPart → List ℕ → ℕ → List ℕ → Type 0
WritesPartByCode part out = WritesByCode (part.answer (length out)) out 0 part.bytes
