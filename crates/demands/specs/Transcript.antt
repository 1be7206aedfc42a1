-- Demand 3, drawn for the records of a transcript: over the very list of records that the transcript program prints a line for, and what it answers each.
use mathlib.Core.{Bool.true, Bool.false, List.List, List.[], List.◌∷◌, List.◌++◌, Logic.◌↔◌, Path.◌≡◌}
use Rattle.std.specs.Prelude.{ℕ, ◌<◌}
use lib.{Dec.eqb, ListN.length}
use Rattle.wire.specs.{Bytes.IsBytes, Bytes.if, Calls.kept_after_all, Calls.AllRight, Refusals.number_of, declared.Refusal.Refusal}
use Rattle.sedna.specs.Message.{Message}
use Rattle.sedna_read.specs.Reading.{Answer, reading}
use Rattle.grammar.specs.Conversation.{Whole, Begins}
use Rattle.session.specs.Step.{fresh_session}
use Rattle.records.specs.Record.{Record, records}
use Rattle.records_printed.specs.Transcript.{record_call, answers, after, lines, says_closed, says_open, says_damaged, last_line, printed}

-- what a record's payload reads as
abbrev pub read_as : Record → Answer
read_as r = reading r.side r.payload

-- the right answer to a record, 0 or a refusal's number, given the messages accepted before it
pub data RightNumber (before : List Message) (r : Record) : ℕ → Type 0 where
  -- "A message that 01's order of reading refuses ahead of its 9 got that refusal."
  unread : {x : Refusal} → read_as r ≡ Answer.refused x → RightNumber before r (number_of x)
  -- "payload bytes after the message count as 7"
  left_over : {m : Message} {n : ℕ} → read_as r ≡ Answer.accepted m n → n < length r.payload → RightNumber before r 7
  -- "Any other was refused, and then with 9, exactly when no conversation begins with those accepted before it followed by it."
  out_of_order : {m : Message} → read_as r ≡ Answer.accepted m (length r.payload) → ¬ Begins (before ++ (m ∷ [])) → RightNumber before r 9
  -- all of the payload is one message that goes on
  accepted : {m : Message} → read_as r ≡ Answer.accepted m (length r.payload) → Begins (before ++ (m ∷ [])) → RightNumber before r 0

-- the accepted messages, in their order: a record that got 0 has one
abbrev pub accepting_by : List Message → Answer → ℕ → List Message
accepting_by before (Answer.refused r) x = before
accepting_by before (Answer.accepted m n) x = if (eqb x 0) (before ++ (m ∷ [])) before

abbrev pub accepting : List Message → Record → ℕ → List Message
accepting before r x = accepting_by before (read_as r) x

-- the records of an input that lines are printed for
abbrev pub records_in : List ℕ → List Record
records_in input = (records input).sound

-- the messages accepted of them
abbrev pub accepted_in : List ℕ → List Message
accepted_in input = kept_after_all record_call accepting [] fresh_session (records_in input)

-- the last line
abbrev pub last_in : List ℕ → List ℕ
last_in input = last_line (records input).damaged (after fresh_session (records_in input))

-- what holds of the records and their answers
pub record Drawn (input : List ℕ) : Type 0 where
  -- "The accepted messages, in their order, begin a conversation of document 01's grammar"
  pub begun : Begins (accepted_in input)
  -- what each record got
  pub right : AllRight record_call accepting (λ before s r done. RightNumber before r done.answer) [] fresh_session (records_in input)
  -- "The session reports itself closed exactly when the accepted ones are a whole conversation": so says the last line, where the input is not damaged
  pub closed : (last_in input ≡ says_closed) ↔ (((records input).damaged ≡ false) × Whole (accepted_in input))
  pub still_open : (last_in input ≡ says_open) ↔ (((records input).damaged ≡ false) × ¬ Whole (accepted_in input))
  pub damaged : (last_in input ≡ says_damaged) ↔ ((records input).damaged ≡ true)

-- the bytes of a slice are bytes: `IsBytes input` is no condition on a caller
pub record Demand3Transcript : Type 0 where
  -- what is printed is a line for each of these records with its answer, and that last line ..
  pub prints : (input : List ℕ) → printed input ≡ lines 1 (records_in input) (answers fresh_session (records_in input)) ++ last_in input
  -- .. of which demand 3's claim holds
  pub drawn : (input : List ℕ) → IsBytes input → Drawn input
