-- Calls one after another on a record that nobody else writes: what each is answered, what the last one left, and that each answer is right, given what was
-- kept of the calls before it. What is said of a session, of a gathering and of their exported calls is said with this.
use Rattle.std.specs.Prelude.{List, [], ◌∷◌}

-- what a call does: the record that it returned or left, and its answer
pub record Done (Record Answer : Type 0) : Type 0 where
  pub record_after : Record
  pub answer : Answer

module _ {Record Call Answer : Type 0} (does : Record → Call → Done Record Answer) where
  -- "each step gets the record that the last one returned or left"
  abbrev pub answers_from : Record → List Call → List Answer
  answers_from s [] = []
  answers_from s (c ∷ calls) = (does s c).answer ∷ answers_from (does s c).record_after calls

  -- the record after all of them
  abbrev pub record_after_all : Record → List Call → Record
  record_after_all s [] = s
  record_after_all s (c ∷ calls) = record_after_all (does s c).record_after calls

  module _ {Kept : Type 0} (keep : Kept → Call → Answer → Kept) where
    -- what is kept of all of them, as the accepted messages
    abbrev pub kept_after_all : Kept → Record → List Call → Kept
    kept_after_all k s [] = k
    kept_after_all k s (c ∷ calls) = kept_after_all (keep k c (does s c).answer) (does s c).record_after calls

    -- each call came out right, given what was kept of those before it and the record that it got
    abbrev pub AllRight : (Kept → Record → Call → Done Record Answer → Type 0) → Kept → Record → List Call → Type 0
    AllRight Right k s [] = Unit {0}
    AllRight Right k s (c ∷ calls) = Right k s c (does s c) × AllRight Right (keep k c (does s c).answer) (does s c).record_after calls
