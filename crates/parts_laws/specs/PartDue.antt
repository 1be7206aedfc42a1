-- Document 01, "When writing or cutting: 2, 8, 11, 14, 10": what writing part k of a cut must answer and leave, by the cut and the encodings.
use Rattle.std.specs.Prelude.{ℕ, ◌≤◌, ◌<◌, length, drop, Result, Ok, Err}
use mathlib.Core.{List.List, List.◌++◌, Option.some, Path.◌≡◌}
use Rattle.std.proofs.Math.ListN.{get_elem?}
use Rattle.wire.specs.{declared.Refusal.Refusal, Refusals.number_of}
use Rattle.sedna.specs.{Encode.encode, Message.Message}
use Rattle.parts_laws.specs.ThroughBytes.{Uncut, cut, Allowed, Fits}

-- the answer, and the lent output then
pub data PartRight (u : Uncut) (k : ℕ) (out : List ℕ) : Result ℕ Refusal → List ℕ → Type 0 where
  -- "value not allowed", whatever the part
  value : (r : Refusal) → number_of r ≡ 8 → ¬ Allowed u → PartRight u k out (Err r) out
  -- "(u above 10,227: 11)", whatever the part
  url : (r : Refusal) → number_of r ≡ 11 → Allowed u → ¬ Fits u → PartRight u k out (Err r) out
  -- "Parts count from 0 ...; beyond the last: 14."
  beyond : (r : Refusal) → number_of r ≡ 14 → Allowed u → Fits u → length (cut u) ≤ k → PartRight u k out (Err r) out
  -- "lent output shorter than the bytes to be put there"
  no_room : (r : Refusal) (m : Message) → number_of r ≡ 10 → Allowed u → Fits u → get_elem? (cut u) k ≡ some m → length out < length (encode m)
      → PartRight u k out (Err r) out
  -- message k of the cut in front, and behind it the output as it was
  put : (m : Message) → Allowed u → Fits u → get_elem? (cut u) k ≡ some m → length (encode m) ≤ length out
      → PartRight u k out (Ok (length (encode m))) (encode m ++ drop (length (encode m)) out)
