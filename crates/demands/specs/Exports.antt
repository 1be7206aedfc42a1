-- Demand 3, drawn for the calls by which programs in C and Rust reach the session: `kdr_fresh`, `kdr_step`, `kdr_closed` and `kdr_turn`, over any list of
-- calls on the bytes that the caller keeps. What they answer and tell is turned back into what it means by the header's names.
use mathlib.Core.{List.List, List.[], List.◌∷◌, List.◌++◌, Logic.◌↔◌, Option.Option, Path.◌≡◌}
use Rattle.std.specs.Prelude.{ℕ, ◌≤◌, ◌<◌, length, drop}
use Rattle.wire.specs.{Calls.Done, Calls.record_after_all, Calls.kept_after_all, Calls.AllRight, declared.Refusal.Refusal, Refusals.number_of}
use Rattle.sedna.specs.{declared.Side.Side, Message.Message}
use Rattle.sedna_read.specs.Reading.{Answer}
use Rattle.grammar.specs.{Conversation.Whole, Conversation.Begins, Turn.HasTurn}
use Rattle.sedna_c.specs.Sessions.{fresh_code, fresh_after, step_code, session_after, step_fields, closed_code, turn_code}
use Rattle.demands.specs.Answered.{Answered, answered, Call, Told, unchanged}
use Rattle.demands.specs.Header.{Nobody, ReadsAs, offered_by, TurnOf, FIELDS, SESSION_BYTES, Tells}

-- a call of `kdr_step` on the session's bytes, by the right sides of its contract
abbrev pub called : List ℕ → Call → Done (List ℕ) Told
called d c = record {
  record_after = session_after d c.side c.bytes (length c.numbers);
  answer = record {
    answer = answered (step_code d c.side c.bytes (length c.numbers));
    numbers = step_fields d c.side c.bytes c.numbers;
  };
}

-- the number of the refusal that a call gets, given the messages accepted before it
pub data Why (before : List Message) (c : Call) : ℕ → Type 0 where
  -- a side that is none
  nobody : Nobody c.side → Why before c 8
  -- "A message that 01's order of reading refuses ahead of its 9 got that refusal."
  unread : (r : Refusal) → ReadsAs c.side c.bytes (Answer.refused r) → Why before c (number_of r)
  -- "… and then with 9, exactly when no conversation begins with those accepted before it followed by it."
  out_of_order : (m : Message) (n : ℕ) → ReadsAs c.side c.bytes (Answer.accepted m n) → ¬ Begins (before ++ (m ∷ [])) → Why before c 9
  -- a message that would be accepted, and fewer than ten numbers for it
  no_room : (m : Message) (n : ℕ) → ReadsAs c.side c.bytes (Answer.accepted m n) → Begins (before ++ (m ∷ []))
      → length c.numbers < FIELDS → Why before c 10

-- a call on the session's bytes d came out right
pub data RightCall (before : List Message) (d : List ℕ) (c : Call) : Done (List ℕ) Told → Type 0 where
  refused : (k : ℕ) → Why before c k → RightCall before d c (unchanged k d c)
  -- the number of bytes read; the ten numbers mean the message; the numbers behind them stay, and the bytes behind the session's
  accepted : (m : Message) (n : ℕ) (after t : List ℕ) → ReadsAs c.side c.bytes (Answer.accepted m n) → Begins (before ++ (m ∷ []))
      → FIELDS ≤ length c.numbers
      → Tells c.bytes t m → drop FIELDS t ≡ drop FIELDS c.numbers → drop SESSION_BYTES after ≡ drop SESSION_BYTES d
      → RightCall before d c (record { record_after = after; answer = record { answer = Answered.count n; numbers = t } })

-- the accepted messages, in their order: a call that answers a count accepted what it was offered
abbrev pub accepting_by : List Message → Call → Answered → List Message
accepting_by before c (Answered.refusal k) = before
accepting_by before c (Answered.count n) = before ++ offered_by c.side c.bytes

abbrev pub accepting : List Message → Call → Told → List Message
accepting before c t = accepting_by before c t.answer

-- `kdr_closed` answers 1 exactly when the accepted messages are a whole conversation, "else 0"
pub record Closes (before : List Message) (d : List ℕ) : Type 0 where
  pub over : (closed_code d ≡ 1) ↔ Whole before
  pub goes_on : (closed_code d ≡ 0) ↔ (¬ Whole before)

-- `kdr_turn` answers the side that has the turn behind the accepted messages
pub record Turns (before : List Message) (d : List ℕ) : Type 0 where
  pub turn : Option Side
  pub names : TurnOf (turn_code d) turn
  pub has : HasTurn before turn

-- the messages accepted in a list of calls from d on
abbrev pub accepted_from : List ℕ → List Call → List Message
accepted_from = kept_after_all called accepting []

-- what holds after it
pub record After (d : List ℕ) (calls : List Call) : Type 0 where
  -- each call came out right
  pub right : AllRight called accepting RightCall [] d calls
  pub begun : Begins (accepted_from d calls)
  pub closes : Closes (accepted_from d calls) (record_after_all called d calls)
  pub turns : Turns (accepted_from d calls) (record_after_all called d calls)

pub record Demand3Exports : Type 0 where
  -- from what `kdr_fresh` leaves in two bytes or more
  pub after_any_calls : (d : List ℕ) → SESSION_BYTES ≤ length d → (calls : List Call) → After (fresh_after d) calls
  -- which answers 0, and leaves the bytes behind those two
  pub fresh : (d : List ℕ) → SESSION_BYTES ≤ length d
      → (answered (fresh_code d) ≡ Answered.count 0) × (drop SESSION_BYTES (fresh_after d) ≡ drop SESSION_BYTES d)
  -- with fewer, `kdr_fresh` and `kdr_step` refuse with 10, and leave everything as it was; and `kdr_closed` and `kdr_turn` answer 0
  pub no_record : (d : List ℕ) → length d < SESSION_BYTES → (c : Call)
      → (answered (fresh_code d) ≡ Answered.refusal 10) × (fresh_after d ≡ d) × (called d c ≡ unchanged 10 d c) × (closed_code d ≡ 0)
      × (turn_code d ≡ 0)
