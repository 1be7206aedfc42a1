-- What the calls of cutting and joining answer and leave, turned back into what it means by the header's names. What `answered` is applied to, and what
-- is named as left, are the right sides of the contracts.
use mathlib.Core.{List.List, Logic.◌⊎◌, Path.◌≡◌}
use Rattle.std.specs.Prelude.{ℕ, ◌≤◌, ◌<◌}
use lib.{Dec.eqb, Dec.leb, ListN.length, ListN.drop, ListN.set}
use Rattle.wire.specs.{Bytes.IsBytes, Bytes.if, Call.output_after, Calls.Done, declared.Refusal.Refusal, Refusals.number_of}
use Rattle.sedna.specs.{Message.Url, Message.Body, Message.Message}
use Rattle.sedna_read.specs.Reading.{Answer}
use Rattle.sedna_laws.specs.Pieces.{Bounded}
use Rattle.parts_cut.specs.Cut.{cut_statement, cut_item, cut_typed_item}
use Rattle.parts_cut.specs.Part.{statement_parts, item_count, typed_item_count, url_parts, CutPart}
use Rattle.parts_cut.specs.Part.{statement_part, item_part, typed_item_part, typed_item_url_part}
use Rattle.parts_laws.specs.{PartDue.PartRight, ThroughBytes.Uncut}
use Rattle.parts_join.specs.{declared.Assembly.Assembly, declared.Open.Open, Answers.Reply, Answers.reply, Cuttings.Ending}
use Rattle.parts_join.specs.Joining.{opened, joined, buffer_after}
use Rattle.answer_c.specs.Codes.{counted_code}
use Rattle.parts_c.specs.Joining.{open_code, open_after, Outcome, outcome}
use Rattle.demands.specs.Answered.{Answered, answered, Call, Told, unchanged}
use Rattle.demands.specs.Gatherings.{Gathering, ASSEMBLY_SPOILT, ASSEMBLY_FIELDS, Means, TOLD_LENGTH, TOLD_FIELDS, TellsReply}
use Rattle.demands.specs.{Header.◌at◌, Header.Nobody, Header.ReadsAs, SednaCalls.written_as}

-- a size_t is below 2^64
abbrev pub SIZES : ℕ
SIZES = 18446744073709551616

-- a call of `kdr_open` came out right: what it answers, and what the lent numbers are then
pub data OpenRight (what : ℕ) (d : List ℕ) : Answered → List ℕ → Type 0 where
  -- "10 where fewer than seven are lent"
  few : length d < ASSEMBLY_FIELDS → OpenRight what d (Answered.refusal 10) d
  -- "8 for another `what`" than a statement, an item and one of 4.0
  other : ASSEMBLY_FIELDS ≤ length d → ((o : Open) → Gathering what o → o ≡ Open.Nothing) → OpenRight what d (Answered.refusal 8) d
  -- "Puts a fresh opening into the first seven numbers; the answer is 0"; those behind them stay
  fresh : (o : Open) (after : List ℕ) → ASSEMBLY_FIELDS ≤ length d → Gathering what o → ¬ (o ≡ Open.Nothing)
      → Means after (opened o) → drop ASSEMBLY_FIELDS after ≡ drop ASSEMBLY_FIELDS d → OpenRight what d (Answered.count 0) after

-- what the caller of `kdr_join` keeps from call to call: the assembly's numbers, and the buffer
pub record Keeps : Type 0 where
  pub assembly : List ℕ
  pub buffer : List ℕ

-- an outcome, its code turned back
abbrev pub turned : Outcome → Done Keeps Told
turned o = record {
  record_after = record { assembly = o.assembly; buffer = o.buffer };
  answer = record { answer = answered o.code; numbers = o.told };
}

-- the call, by the right sides of its contract
abbrev pub join_called : Keeps → Call → Done Keeps Told
join_called s c = turned (outcome s.assembly s.buffer c.side c.bytes c.numbers)

-- seven numbers are lent, and four to be told
abbrev pub Lent : Keeps → Call → Type 0
Lent s c = (ASSEMBLY_FIELDS ≤ length s.assembly) × (TOLD_FIELDS ≤ length c.numbers)

-- the seven mean the assembly a, and reading accepts the message m with n bytes
pub record Offers (s : Keeps) (c : Call) (a : Assembly) (m : Message) (n : ℕ) : Type 0 where
  pub lent : Lent s c
  pub means : Means s.assembly a
  pub reads : ReadsAs c.side c.bytes (Answer.accepted m n)

-- the assembly's numbers behind a refusal: "Only a gathering that met 12 is marked spoilt."
abbrev pub refused_numbers : ℕ → List ℕ → List ℕ
refused_numbers k d = if (eqb k 12) (set d ASSEMBLY_SPOILT 1) d

-- the number alone, and all as it was but for that mark
abbrev pub refused_join : ℕ → Keeps → Call → Done Keeps Told
refused_join k s c = unchanged k (record { assembly = refused_numbers k s.assembly; buffer = s.buffer }) c

-- the bytes of the message; the assembly's numbers, the buffer and the numbers told, then
abbrev pub accepted_join : ℕ → List ℕ → List ℕ → List ℕ → Done Keeps Told
accepted_join n after buffer t = record {
  record_after = record { assembly = after; buffer = buffer };
  answer = record { answer = Answered.count n; numbers = t };
}

-- what 01 replies where m is joined to a, and the assembly then
abbrev pub replied : Keeps → Assembly → Message → Reply
replied s a m = reply (joined a (length s.buffer) m).answer

abbrev pub grown_to : Keeps → Assembly → Message → Assembly
grown_to s a m = (joined a (length s.buffer) m).assembly

-- a call of `kdr_join` came out right. Where numbers mean an assembly afterwards, the next call takes them
pub data JoinRight (s : Keeps) (c : Call) : Done Keeps Told → Type 0 where
  -- "10 where fewer than seven numbers or fewer than four to be told are lent"
  few : (length s.assembly < ASSEMBLY_FIELDS) ⊎ (length c.numbers < TOLD_FIELDS) → JoinRight s c (unchanged 10 s c)
  -- "8 for seven numbers that no assembly has"
  no_assembly : Lent s c → ((a : Assembly) → ¬ Means s.assembly a) → JoinRight s c (unchanged 8 s c)
  -- "8 for a side that is none"
  nobody : (a : Assembly) → Lent s c → Means s.assembly a → Nobody c.side → JoinRight s c (unchanged 8 s c)
  -- "then 1 to 8 as in reading"
  unread : (a : Assembly) (r : Refusal) → Lent s c → Means s.assembly a → ReadsAs c.side c.bytes (Answer.refused r)
      → JoinRight s c (unchanged (number_of r) s c)
  -- then joining's
  refused : (a : Assembly) (m : Message) (n k : ℕ) → Offers s c a m n → replied s a m ≡ Reply.number k
      → Means (refused_numbers k s.assembly) (grown_to s a m) → JoinRight s c (refused_join k s c)
  -- the four numbers mean the reply, and what it hands over lies in the buffer; the seven mean the assembly then; the text goes to the buffer, and the
  -- numbers behind stay
  accepted : (a : Assembly) (m : Message) (n : ℕ) (after t : List ℕ) → Offers s c a m n
      → TellsReply t (replied s a m) → t at TOLD_LENGTH ≤ length s.buffer → drop TOLD_FIELDS t ≡ drop TOLD_FIELDS c.numbers
      → Means after (grown_to s a m) → drop ASSEMBLY_FIELDS after ≡ drop ASSEMBLY_FIELDS s.assembly
      → JoinRight s c (accepted_join n after (buffer_after a s.buffer m) t)

-- a call that writes that part came out right: the count or the number of its answer, and what is due
pub record PartCalled (u : Uncut) (k : ℕ) (out : List ℕ) (part : CutPart) : Type 0 where
  pub answer : answered (counted_code (part.answer (length out))) ≡ written_as (part.answer (length out))
  pub due : PartRight u k out (part.answer (length out)) (output_after (part.answer (length out)) out 0 part.bytes)

pub record PartsCalls : Type 0 where
  -- seven numbers mean one assembly, and four one reply
  pub one_assembly : (d : List ℕ) (a b : Assembly) → Means d a → Means d b → a ≡ b
  pub one_reply : (t : List ℕ) (x y : Reply) → TellsReply t x → TellsReply t y → x ≡ y
  -- `kdr_statement_parts`, `kdr_item_parts`, `kdr_typed_item_parts`, for any text that a size_t can measure
  pub statement-parts : (format : ℕ) (text : List ℕ) → length text < SIZES
      → answered (statement_parts (length text)) ≡ Answered.count (length (cut_statement format text))
  pub item-parts : (text : List ℕ) → length text < SIZES → answered (item_count (length text)) ≡ Answered.count (length (cut_item text))
  pub typed_item_parts : (class kind : ℕ) (text : List ℕ) → length text < SIZES
      → answered (typed_item_count (length text)) ≡ Answered.count (length (cut_typed_item class kind Url.absent text))
  -- `kdr_typed_item_url_parts`
  pub typed_item_url_parts : (class kind : ℕ) (url text : List ℕ) → length text < SIZES
      → answered (counted_code (url_parts (length text) (length url)))
      ≡ if (leb (length url) 10227) (Answered.count (length (cut_typed_item class kind (Url.present url) text))) (Answered.refusal 11)
  -- `kdr_write_statement_part`, and those of an item up to 3.0 and of 4.0, without a URL and with one; an item's end, whichever it is, is no part
  pub write_statement_part : (format : ℕ) (text : List ℕ) → IsBytes text → (k : ℕ) (out : List ℕ)
      → PartCalled (Uncut.statement format text) k out (statement_part format text k)
  pub write_item_part : (text : List ℕ) → IsBytes text → (e : Ending) (k : ℕ) (out : List ℕ)
      → PartCalled (Uncut.item text e) k out (item_part text k)
  pub write_typed_item_part : (class kind : ℕ) (text : List ℕ) → Bounded (Body.item class kind Url.absent text) → (e : Ending) (k : ℕ) (out : List ℕ)
      → PartCalled (Uncut.typed_item class kind Url.absent text e) k out (typed_item_part class kind text k)
  pub write_typed_item_url_part : (class kind : ℕ) (url text : List ℕ) → Bounded (Body.item class kind (Url.present url) text) → (e : Ending) (k : ℕ)
      (out : List ℕ) → PartCalled (Uncut.typed_item class kind (Url.present url) text e) k out (typed_item_url_part class kind url text k)
  -- `kdr_open`, for any number and any lent numbers
  pub «open» : (what : ℕ) (d : List ℕ) → OpenRight what d (answered (open_code what d)) (open_after what d)
  -- `kdr_join`, for any arguments
  pub join : (s : Keeps) (c : Call) → JoinRight s c (join_called s c)
