-- "Cutting a statement or an item and joining it returns its bytes, where they fit the lent buffer", through bytes: every part is written into
-- lent output, as `parts_cut::write_.._part` leaves it, read from there by `sedna_read::read`, and joined by `parts_join::join` at the places read.
use mathlib.Core.{Bool.Bool, Bool.true, List.List, List.[], List.◌∷◌, List.◌++◌, List.map, Option.some, Path.◌≡◌}
use Rattle.std.specs.Prelude.{ℕ, zero, suc, ◌-◌, ◌≤◌, ◌<◌}
use lib.{Dec.leb, ListN.length, ListN.take, ListN.get_elem?, ListN.replicate}
use Rattle.wire.specs.{Bytes.IsBytes, Call.output_after, Calls.Done, Refusals.number_of}
use Rattle.sedna.specs.{declared.Side.Side, Allowed.format_allowed, Allowed.allowed, Encode.encode, Message.Url, Message.Body, Message.Message}
use Rattle.sedna_read.specs.{Meaning.meaning, Places.located, Reading.Answer, Reading.reading}
use Rattle.sedna_write.specs.Writing.{written}
use Rattle.sedna_laws.specs.Pieces.{Bounded}
use Rattle.parts_cut.specs.Cut.{part_room, start_room, cut_statement, cut_item, cut_typed_item}
use Rattle.parts_cut.specs.Part.{statement_parts, item_parts_from, CutPart, cut_part}
use Rattle.parts_join.specs.{declared.Open.Open, Answers.Reply}
use Rattle.parts_join.specs.Calls.{Gathered, opened_with, join_call, Run, run_of, short_replies, short_text}
use Rattle.parts_join.specs.{Cuttings.Ending, Cuttings.ending, Cuttings.fronted, Joining.closed, Roles.text_of}
use Rattle.parts_laws.specs.Rejoined.{UrlFits}

-- what is cut: a statement with its format; an item up to 3.0; one of 4.0 with class, type and URL or none. An item's end is sent behind its parts
pub data Uncut : Type 0 where
  statement : ℕ → List ℕ → Uncut
  item : List ℕ → Ending → Uncut
  typed_item : ℕ → ℕ → Url → List ℕ → Ending → Uncut

abbrev pub text : Uncut → List ℕ
text (Uncut.statement format t) = t
text (Uncut.item t e) = t
text (Uncut.typed_item class kind url t e) = t

-- "with class and type in 4.0 or the format"
abbrev pub values : Uncut → List ℕ
values (Uncut.statement format t) = format ∷ []
values (Uncut.item t e) = []
values (Uncut.typed_item class kind url t e) = class ∷ kind ∷ []

-- who sends it
abbrev pub sender : Uncut → Side
sender (Uncut.statement format t) = Side.Client
sender (Uncut.item t e) = Side.Server
sender (Uncut.typed_item class kind url t e) = Side.Server

-- which opening it wants
abbrev pub opens : Uncut → Open
opens (Uncut.statement format t) = Open.Statement
opens (Uncut.item t e) = Open.Item
opens (Uncut.typed_item class kind url t e) = Open.TypedItem

abbrev pub cut : Uncut → List Message
cut (Uncut.statement format t) = cut_statement format t
cut (Uncut.item t e) = cut_item t
cut (Uncut.typed_item class kind url t e) = cut_typed_item class kind url t

-- how many parts that are, as `parts_cut::.._parts` tell
abbrev pub count : Uncut → ℕ
count (Uncut.statement format t) = statement_parts (length t)
count (Uncut.item t e) = item_parts_from part_room (length t)
count (Uncut.typed_item class kind url t e) = item_parts_from (start_room url) (length t)

-- what is sent behind them
abbrev pub end : Uncut → List Message
end (Uncut.statement format t) = []
end (Uncut.item t e) = ending e ∷ []
end (Uncut.typed_item class kind url t e) = ending e ∷ []

-- what `parts_cut::write_.._part` judges of the whole: its values, for 8 ..
abbrev pub permitted : Uncut → Bool
permitted (Uncut.statement format t) = format_allowed format
permitted (Uncut.item t e) = true
permitted (Uncut.typed_item class kind url t e) = allowed (Body.item class kind url t)

-- .. and its URL, for 11
abbrev pub encodable : Uncut → Bool
encodable (Uncut.statement format t) = true
encodable (Uncut.item t e) = true
encodable (Uncut.typed_item class kind Url.absent t e) = true
encodable (Uncut.typed_item class kind (Url.present url) t e) = leb (length url) 10227

-- its values are allowed
abbrev pub Allowed : Uncut → Type 0
Allowed (Uncut.statement format t) = format_allowed format ≡ true
Allowed (Uncut.item t e) = Unit {0}
Allowed (Uncut.typed_item class kind url t e) = allowed (Body.item class kind url t) ≡ true

-- "(u above 10,227: 11)"
abbrev pub Fits : Uncut → Type 0
Fits (Uncut.statement format t) = Unit {0}
Fits (Uncut.item t e) = Unit {0}
Fits (Uncut.typed_item class kind url t e) = UrlFits url

-- its texts are of bytes, as those of slices are, and class and type are bytes: no condition on a caller
abbrev pub Slices : Uncut → Type 0
Slices (Uncut.statement format t) = IsBytes t
Slices (Uncut.item t e) = IsBytes t
Slices (Uncut.typed_item class kind url t e) = Bounded (Body.item class kind url t)

-- it is cut, and not refused
abbrev pub Sendable : Uncut → Type 0
Sendable u = Allowed u × Slices u × Fits u

-- each message has room in the output that it is written into
abbrev pub Roomy : Uncut → (ℕ → List ℕ) → Type 0
Roomy u outs = (k : ℕ) (m : Message) → get_elem? (cut u ++ end u) k ≡ some m → length (encode m) ≤ length (outs k)

-- its part k, as `parts_cut::write_.._part` writes it, and an output behind that
abbrev pub part : Uncut → ℕ → CutPart
part u k = cut_part (permitted u) (encodable u) (cut u) k

abbrev pub part_output : Uncut → ℕ → List ℕ → List ℕ
part_output u k out = output_after ((part u k).answer (length out)) out 0 (part u k).bytes

-- so many parts from number k on, each in an output of its own
abbrev pub parts_bytes : Uncut → (ℕ → List ℕ) → ℕ → ℕ → List (List ℕ)
parts_bytes u outs k zero = []
parts_bytes u outs k (suc n) = part_output u k (outs k) ∷ parts_bytes u outs (suc k) n

-- an output behind the writing of a message
abbrev pub message_bytes : List ℕ → Message → List ℕ
message_bytes out m = output_after (written (length out) m) out 0 (encode m)

-- all that is sent
abbrev pub sent : Uncut → (ℕ → List ℕ) → List (List ℕ)
sent u outs = parts_bytes u outs 0 (count u) ++ map (message_bytes (outs (count u))) (end u)

-- what was read is joined; bytes that reading refuses are not
abbrev pub joined_read : Gathered → Answer → Done Gathered Reply
joined_read g (Answer.refused r) = record { record_after = g; answer = Reply.number (number_of r) }
joined_read g (Answer.accepted m n) = join_call g m

-- bytes read by their side, and the message, by the places of its fields, joined
abbrev pub read_and_join : Side → Gathered → List ℕ → Done Gathered Reply
read_and_join side g s = joined_read g (meaning s (located (reading side s)))

-- what joining all that is sent answers and leaves, one byte string after another, from an opening with a buffer d
unfoldable pub rejoined : Uncut → (ℕ → List ℕ) → List ℕ → Run
rejoined u outs d = run_of (read_and_join (sender u)) (opened_with (opens u) d) (sent u outs)

-- what each message adds to the text
abbrev pub texts : Uncut → List (List ℕ)
texts u = map (λ (m : Message). text_of m.body) (cut u ++ end u)

pub record Returned (u : Uncut) (outs : ℕ → List ℕ) (d : List ℕ) : Type 0 where
  -- where the text fits, each byte string but the last is taken, the last hands over that many bytes, and the assembly is closed ..
  pub fits : length (text u) ≤ length d → rejoined u outs d ≡ record {
    gathered = record { assembly = closed; buffer = fronted d (text u) };
    replies = replicate (length (sent u outs) - 1) Reply.taken ++ (Reply.whole (values u) (length (text u)) ∷ []);
  }
  -- .. and the front part of the buffer is the text
  pub handed : length (text u) ≤ length d → take (length (text u)) (rejoined u outs d).gathered.buffer ≡ text u
  -- where it does not, 12 from the part that would overrun on, for the end too; the front of the buffer keeps what was gathered before it
  pub overruns : length d < length (text u) → (rejoined u outs d).replies ≡ short_replies (length d) (texts u)
  pub front : length d < length (text u) → (rejoined u outs d).gathered.buffer ≡ fronted d (short_text (length d) (texts u))
  pub marked : length d < length (text u) → (rejoined u outs d).gathered.assembly.overflowed ≡ true
