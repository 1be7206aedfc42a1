-- What `kdr_read` and `kdr_option` answer and leave, and what the calls that write a message answer, turned back into what it means by the header's
-- names. What `answered` is applied to, and what is named as left, are the right sides of the contracts; those of the session's calls are in Exports.antt.
use mathlib.Core.{Bool.Bool, Bool.false, List.List, Option.Option, Option.none, Option.some, Path.◌≡◌}
use Rattle.std.specs.Prelude.{Result, Ok, Err, ℕ, ◌≤◌, ◌<◌, length, drop}
use Rattle.std.proofs.Math.ListN.{get_elem?}
use Rattle.wire.specs.{Bytes.IsBytes, Call.output_after, declared.Refusal.Refusal, Refusals.number_of}
use Rattle.sedna.specs.{declared.Shape.Shape, Encode.encode, Message.Pair, Message.Body, Message.Message, Message.message}
use Rattle.sedna_read.specs.{Meaning.option_in, Places.option_at, Reading.Answer}
use Rattle.sedna_write.specs.{Pairs.given, Pairs.options_message, Pairs.options_written, Writing.judgement}
use Rattle.sedna_laws.specs.Unwritten.{UnwrittenLists}
use Rattle.sedna_c.specs.Codes.{side_reading, read_code, fields_after, option_code, option_fields_after}
use Rattle.answer_c.specs.Codes.{counted_code}
use Rattle.demands.specs.Answered.{Answered, answered}
use Rattle.demands.specs.Header.{◌at◌, slice, Inside, Nobody, ReadsAs, START_1, LENGTH_1, COUNT, FIELDS, pair_told, Tells, OPTION_START, OPTION_LENGTH}
use Rattle.demands.specs.Header.{OPTION_FIELDS}

-- a call of `kdr_read` with lent numbers came out right: what it answers, and what the numbers are then
pub data ReadRight (side : ℕ) (bytes lent : List ℕ) : Answered → List ℕ → Type 0 where
  -- "8 for a side that is none"
  nobody : Nobody side → ReadRight side bytes lent (Answered.refusal 8) lent
  -- "then 1 to 8 in document 01's order"
  unread : (r : Refusal) → ReadsAs side bytes (Answer.refused r) → ReadRight side bytes lent (Answered.refusal (number_of r)) lent
  -- "last 10 where fewer than ten numbers are lent"
  no_room : (m : Message) (n : ℕ) → ReadsAs side bytes (Answer.accepted m n) → length lent < FIELDS → ReadRight side bytes lent (Answered.refusal 10) lent
  -- the bytes of the message; the ten numbers mean it, and those behind them stay
  accepted : (m : Message) (n : ℕ) (f : List ℕ) → ReadsAs side bytes (Answer.accepted m n) → FIELDS ≤ length lent
      → Tells bytes f m → drop FIELDS f ≡ drop FIELDS lent → ReadRight side bytes lent (Answered.count n) f

-- a call of `kdr_option` came out right, where there is that option or none
pub data OptionRight (bytes lent : List ℕ) : Option Pair → Answered → List ℕ → Type 0 where
  -- "it is 0 where there is no such option"
  missing : OptionRight bytes lent none (Answered.count 0) lent
  -- "10 where there is one and fewer than three numbers are lent"
  no_room : (p : Pair) → length lent < OPTION_FIELDS → OptionRight bytes lent (some p) (Answered.refusal 10) lent
  -- "The answer is 1, and `fields` gets three numbers"
  found : (p : Pair) (f : List ℕ) → OPTION_FIELDS ≤ length lent → pair_told bytes f ≡ p → Inside bytes (f at OPTION_START) (f at OPTION_LENGTH)
      → drop OPTION_FIELDS f ≡ drop OPTION_FIELDS lent → OptionRight bytes lent (some p) (Answered.count 1) f

-- that of option k of those that stand at a start, by its contract
abbrev pub OptionCalled : List ℕ → ℕ → ℕ → ℕ → List ℕ → Option Pair → Type 0
OptionCalled bytes start length' k lent o =
    OptionRight bytes lent o (answered (option_code (option_at k start (slice bytes start length')) (length lent)))
    (option_fields_after (option_at k start (slice bytes start length')) lent)

-- what writing answers, as counts and refusals
abbrev pub written_as : Result ℕ Refusal → Answered
written_as (Ok n) = Answered.count n
written_as (Err r) = Answered.refusal (number_of r)

pub record SednaCalls : Type 0 where
  -- ten numbers mean one message
  pub one_message : (bytes f : List ℕ) (m m' : Message) → Tells bytes f m → Tells bytes f m' → m ≡ m'
  -- `kdr_read`, for any side's number, bytes and lent numbers
  pub read : (side : ℕ) (bytes lent : List ℕ) → IsBytes bytes
      → ReadRight side bytes lent (answered (read_code (side_reading side bytes) (length lent))) (fields_after (side_reading side bytes) lent)
  -- `kdr_option`, for any arguments: what `option_at` finds there. Of a message that was read, see `options`
  pub option : (bytes : List ℕ) → IsBytes bytes → (start length' k : ℕ) (lent : List ℕ)
      → OptionCalled bytes start length' k lent (option_in bytes (option_at k start (slice bytes start length')))
  -- of a SetOptions with ps that `kdr_read` told: COUNT is how many there are, and by its START_1 and LENGTH_1 `kdr_option` hands out the k-th of ps
  pub options : (side : ℕ) (bytes f : List ℕ) → IsBytes bytes → FIELDS ≤ length f
      → (i n : ℕ) (ps : List Pair) → ReadsAs side bytes (Answer.accepted (message i (Body.options ps)) n)
      → (fields_after (side_reading side bytes) f at COUNT ≡ length ps)
      × ((k : ℕ) (lent : List ℕ)
      → OptionCalled bytes (fields_after (side_reading side bytes) f at START_1) (fields_after (side_reading side bytes) f at LENGTH_1) k lent (get_elem? ps k))
  -- each call that writes a message: `written` is such a judgement, and `Demand2.sedna.writing_exact`, `Demand1.sedna.writing_refused` say which
  pub write : (instruction : ℕ) (shape : Shape) (ok : Bool) (n room : ℕ)
      → answered (counted_code (judgement instruction shape ok n room)) ≡ written_as (judgement instruction shape ok n room)
  -- `kdr_write_options`, where the three lists do not belong together: 2 or 8 by the table, and the output stays
  pub lists : (instruction : ℕ) (ids lengths values out : List ℕ) → given ids lengths values ≡ false
      → (r : Refusal) × UnwrittenLists instruction r
      × (answered (counted_code (options_written (length out) instruction ids lengths values)) ≡ Answered.refusal (number_of r))
      × (output_after (options_written (length out) instruction ids lengths values) out 0 (encode (options_message instruction ids lengths values)) ≡ out)
