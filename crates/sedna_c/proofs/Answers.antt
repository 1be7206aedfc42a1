-- What the exports go by is what reading and the step answer.
use Rattle.std.specs.Prelude.{Option, Some, None, Result}
use Rattle.wire.specs.declared.Refusal.{Refusal}
use mathlib.Core.Bool.{Bool, not}
use mathlib.Core.List.{List}
use mathlib.Core.Path.{◌≡◌, refl, ap, ◌∙◌}
use Prim.Native.Nat.{ℕ}
use lib.Dec.{eqb}
use Rattle.wire.specs.Bytes.{if, int_at}
use Rattle.sedna.specs.declared.{Shape.Shape, Side.Side}
use Rattle.sedna.specs.Table.{find_of}
use Rattle.sedna_read.specs.declared.Reading.{Reading}
use Rattle.sedna_read.specs.Places.{located}
use Rattle.sedna_read.specs.Reading.{Answer, reading, reading_by, or_out_of_order}
use Rattle.sedna_read.proofs.Heads.{always}
use Rattle.session.specs.declared.Session.{Session}
use Rattle.session.specs.declared.Stepped.{Stepped}
use Rattle.session.specs.Machine.{move_of, next, refused}
use Rattle.session.specs.After.{after_answer}
use Rattle.session.proofs.Steps.{put-together, found_move, found-reading}
use Rattle.sedna_c.specs.Codes.{sender_of, read_from, side_reading}
use Rattle.sedna_c.specs.Sessions.{step_from, side_stepped}
use Rattle.sedna_c.specs.inner.Taking.{answer_of, phase_after}

-- a message with some phase after it is answered as reading answers it
pub read_answer : (side : ℕ) (s : List ℕ) → answer_of (sender_of side) 0 s ≡ side_reading side s
unfolding side_reading
read_answer side s = by (sender_of side)
  where
    by : (x : Option Side) → answer_of x 0 s ≡ read_from x s
    by None = refl
    by (Some side) = ap located (always (reading side s))

-- the answer and the record behind it are what the step returns
pub step-answer : (s : Session) (side : ℕ) (bytes : List ℕ) (phase : ℕ) → phase ≡ next s.phase s.version (int_at bytes 0)
    → ◌≡◌ {A = Stepped} (record { answer = answer_of (sender_of side) phase bytes; session = after_answer s phase (answer_of (sender_of side) phase bytes) })
    (side_stepped s side bytes)
unfolding side_stepped
step-answer s side bytes phase e = by (sender_of side)
  where
    by : (x : Option Side) → ◌≡◌ {A = Stepped} (record { answer = answer_of x phase bytes; session = after_answer s phase (answer_of x phase bytes) }) (step_from s x bytes)
    by None = refl
    by (Some side) = put-together s side bytes phase e

-- the same of what the code has: what it found of the instruction in front, and the phase after it
pub taken-answer : (stepping : Bool) (s : Session) (side : Side) (bytes : List ℕ) (i : ℕ) (found : Option (Side × Shape)) (phase : ℕ) (answer : Result Reading Refusal)
    → i ≡ int_at bytes 0 → found ≡ find_of i
    → phase ≡ if stepping (move_of found s.phase s.version i) 0
    → answer ≡ located (or_out_of_order (not (eqb phase refused)) (reading_by found side bytes))
    → (phase ≡ phase_after stepping s bytes) × (answer ≡ answer_of (Some side) (phase_after stepping s bytes) bytes)
taken-answer stepping s side bytes i found phase answer ei ef ep ea =
    let after : phase ≡ phase_after stepping s bytes = ep ∙ ap (λ (n : ℕ). if stepping n 0) (found_move s side bytes i found ei ef) in (
      after,
      ea
          ∙ ap (λ (n : ℕ). located (or_out_of_order (not (eqb n refused)) (reading_by found side bytes))) after
          ∙ ap (λ (a : Answer). located (or_out_of_order (not (eqb (phase_after stepping s bytes) refused)) a)) (found-reading s side bytes i found ei ef),
    )
