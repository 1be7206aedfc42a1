-- Document 01, "When writing or cutting: 2, 8, 11, 14, 10": what writing a message answers, and what it leaves in the lent output.
use Rattle.std.specs.Prelude.{ℕ, ◌+◌, Result, Ok, Err}
use Rattle.wire.specs.declared.Refusal.{Refusal}
use mathlib.Core.{List.List, Bool.Bool}
use lib.{Dec.ltb, ListN.length}
use Rattle.wire.specs.{Bytes.if, Call.in_room, Call.Writes}
use Rattle.wire.specs.declared.Refusal.TheVariants.{ValueNotAllowed, NoEncoding}
use Rattle.sedna.specs.{declared.Shape.Shape, Allowed.allowed, Encode.body_bytes, Encode.encode, Message.Message, Message.shape_of}
use Rattle.sedna.specs.Table.{find_of, fit_of}

-- 2 for an instruction that the table lacks; 8 for one with another body, and for a value that is not allowed; 11 for a body above 10,240 bytes; then 10
abbrev pub judgement_by : Result (Unit {0}) Refusal → Bool → ℕ → ℕ → Result ℕ Refusal
judgement_by (Err r) ok n room = Err r
judgement_by (Ok _) ok n room = if ok (if (ltb 10240 n) (Err NoEncoding) (in_room room 0 (8 + n))) (Err ValueNotAllowed)

-- the answer to a body of n bytes of a shape, with allowed values or not, for an output of so many bytes
unfoldable pub judgement : ℕ → Shape → Bool → ℕ → ℕ → Result ℕ Refusal
judgement instruction shape = judgement_by (fit_of (find_of instruction) shape)

-- what writing m answers
abbrev pub written : ℕ → Message → Result ℕ Refusal
written room m = judgement m.instruction (shape_of m.body) (allowed m.body) (length (body_bytes m.body)) room

-- the contract of a call that writes m in front of the output
abbrev pub WritesMessage : List ℕ → Message → Result ℕ Refusal → List ℕ → Type 0
WritesMessage out m = Writes (written (length out) m) out 0 (encode m)
