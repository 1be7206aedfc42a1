-- The step over a lent record: what it answers, and what it leaves in the record. Both are what the step by value returns.
use Rattle.std.specs.Prelude.{ℕ, Result}
use Rattle.wire.specs.declared.Refusal.{Refusal}
use mathlib.Core.{List.List, Path.◌≡◌}
use Rattle.sedna.specs.declared.Side.{Side}
use Rattle.sedna_read.specs.declared.Reading.{Reading}
use Rattle.session.specs.{declared.Session.Session, Step.stepped}

abbrev pub lent_answer : Session → Side → List ℕ → Result Reading Refusal
lent_answer s side bytes = (stepped s side bytes).answer

abbrev pub lent_session : Session → Side → List ℕ → Session
lent_session s side bytes = (stepped s side bytes).session

-- the contract of the step over a lent record
pub record StepsLent (s : Session) (side : Side) (bytes : List ℕ) (r : Result Reading Refusal) (after : Session) : Type 0 where
  pub answers : r ≡ lent_answer s side bytes
  pub leaves : after ≡ lent_session s side bytes
