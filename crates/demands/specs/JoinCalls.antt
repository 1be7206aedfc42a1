-- Joining, drawn for the calls by which programs in C and Rust reach it: any list of calls of `kdr_join` after `kdr_open`, on the seven numbers and the
-- buffer that the caller keeps. What is right is parts_join's `RightReply`, by the cuttings alone; what is answered and told is turned back into what it means
-- by the header's names.
use mathlib.Core.{Bool.true, List.List, List.[], List.◌∷◌, List.◌++◌, Path.◌≡◌}
use Rattle.std.specs.Prelude.{ℕ, ◌≤◌, ◌<◌}
use lib.{Dec.eqb, ListN.length, ListN.drop}
use Rattle.wire.specs.{Bytes.if, Calls.Done, Calls.record_after_all, Calls.kept_after_all, Calls.AllRight, declared.Refusal.Refusal, Refusals.number_of}
use Rattle.sedna.specs.Message.{Message}
use Rattle.sedna_read.specs.Reading.{Answer}
use Rattle.parts_join.specs.{declared.Assembly.Assembly, declared.Open.Open, Answers.Reply, Cuttings.fronted}
use Rattle.parts_join.specs.Offered.{text_in, RightReply, Accepted, none_accepted}
use Rattle.parts_c.specs.Joining.{open_after}
use Rattle.demands.specs.Answered.{Answered, Call, Told, unchanged}
use Rattle.demands.specs.Gatherings.{Gathering, ASSEMBLY_FIELDS, Means, TOLD_FIELDS, TellsReply}
use Rattle.demands.specs.Header.{Nobody, ReadsAs, offered_by}
use Rattle.demands.specs.PartsCalls.{Keeps, join_called, refused_join, accepted_join}

-- what is kept of the calls, as in `Offered`: the messages accepted since the opening, and whether a part has overrun
abbrev pub keep_by : Accepted → Call → Answered → Accepted
keep_by k c (Answered.count n) = record { messages = k.messages ++ offered_by c.side c.bytes; spoilt = k.spoilt }
keep_by k c (Answered.refusal n) = record { messages = k.messages; spoilt = if k.spoilt true (eqb n 12) }

abbrev pub keep : Accepted → Call → Told → Accepted
keep k c x = keep_by k c x.answer

-- a call came out right, where `what` was opened with a buffer d, and k was kept of the calls before
pub data RightJoinCall (what : Open) (d : List ℕ) (k : Accepted) (s : Keeps) (c : Call) : Done Keeps Told → Type 0 where
  -- "10 where fewer than … four to be told are lent"
  few : length c.numbers < TOLD_FIELDS → RightJoinCall what d k s c (unchanged 10 s c)
  -- "8 for a side that is none"
  nobody : TOLD_FIELDS ≤ length c.numbers → Nobody c.side → RightJoinCall what d k s c (unchanged 8 s c)
  -- "then 1 to 8 as in reading"
  unread : TOLD_FIELDS ≤ length c.numbers → (r : Refusal) → ReadsAs c.side c.bytes (Answer.refused r)
      → RightJoinCall what d k s c (unchanged (number_of r) s c)
  -- then joining's 8, 9 and 12
  refused : TOLD_FIELDS ≤ length c.numbers → (m : Message) (n j : ℕ) → ReadsAs c.side c.bytes (Answer.accepted m n)
      → RightReply what (length d) m (k.messages ++ (m ∷ [])) k.spoilt (Reply.number j) → RightJoinCall what d k s c (refused_join j s c)
  -- a part or an end is taken: the four numbers mean the reply; the text stands behind those accepted before; the numbers behind the four and behind the
  -- seven stay
  accepted : TOLD_FIELDS ≤ length c.numbers → (m : Message) (n : ℕ) (x : Reply) (after t : List ℕ) → ReadsAs c.side c.bytes (Answer.accepted m n)
      → RightReply what (length d) m (k.messages ++ (m ∷ [])) k.spoilt x
      → TellsReply t x → drop TOLD_FIELDS t ≡ drop TOLD_FIELDS c.numbers → drop ASSEMBLY_FIELDS after ≡ drop ASSEMBLY_FIELDS s.assembly
      → RightJoinCall what d k s c (accepted_join n after (fronted d (text_in (k.messages ++ (m ∷ [])))) t)

-- what holds after a list of calls
pub record AfterJoins (what : Open) (d : List ℕ) (s : Keeps) (calls : List Call) : Type 0 where
  pub right : AllRight join_called keep (RightJoinCall what d) none_accepted s calls
  -- the texts of the accepted messages stand in front of the buffer, and behind them it is as it was
  pub buffer : (record_after_all join_called s calls).buffer ≡ fronted d (text_in (kept_after_all join_called keep none_accepted s calls).messages)
  -- the seven numbers mean an assembly, and those behind them stay
  pub assembly : (a : Assembly) × Means (record_after_all join_called s calls).assembly a
  pub behind : drop ASSEMBLY_FIELDS (record_after_all join_called s calls).assembly ≡ drop ASSEMBLY_FIELDS s.assembly

pub record JoinCalls : Type 0 where
  -- from what `kdr_open` leaves for a statement, an item or one of 4.0 in seven numbers or more, with any buffer beside them
  pub after_any_calls : (number : ℕ) (what : Open) → Gathering number what → ¬ (what ≡ Open.Nothing) → (d buffer : List ℕ) → ASSEMBLY_FIELDS ≤ length d
      → (calls : List Call) → AfterJoins what buffer (record { assembly = open_after number d; buffer = buffer }) calls
