-- How many parts a cut has, and what writing part k of it answers and leaves: "When writing or cutting: 2, 8, 11, 14, 10."
use Rattle.std.specs.Prelude.{ℕ, zero, suc, ◌+◌, ◌-◌, ◌/◌, Result, Ok, Err}
use Rattle.wire.specs.declared.Refusal.{Refusal}
use mathlib.Core.{Bool.Bool, Bool.true, List.List, List.[], Option.Option, Option.none, Option.some}
use lib.{Dec.leb, ListN.length, ListN.get_elem?}
use Rattle.wire.specs.{Bytes.if, Call.Writes}
use Rattle.wire.specs.declared.Refusal.TheVariants.{ValueNotAllowed, NoEncoding, NoSuchPart}
use Rattle.sedna.specs.{Encode.encode, Allowed.format_allowed, Allowed.allowed, Message.Url, Message.Body, Message.Message}
use Rattle.sedna_write.specs.Writing.{written}
use Rattle.parts_cut.specs.Cut.{statement_room, part_room, cut_statement, cut_item, cut_typed_item}

-- how many pieces of m bytes n bytes have
abbrev pub piece_count : ℕ → ℕ → ℕ
piece_count m zero = 0
piece_count m (suc n) = n / m + 1

-- "10,234 gives one message, 10,235 gives three"
abbrev pub statement_parts : ℕ → ℕ
statement_parts n = if (leb n statement_room) 1 (piece_count statement_room n + 1)

-- a first message that takes up to so many bytes, and parts of 10,235
abbrev pub item_parts_from : ℕ → ℕ → ℕ
item_parts_from first n = 1 + piece_count part_room (n - first)

-- "An item up to 3.0 is cut in parts of 10,235, at least one."
abbrev pub item_count : ℕ → ℕ
item_count n = item_parts_from part_room n

-- one of 4.0 without a URL: "ItemStart takes up to 10,232 bytes"
abbrev pub typed_item_count : ℕ → ℕ
typed_item_count n = item_parts_from 10232 n

-- "10,227 - u with a URL of u bytes (u above 10,227: 11)"
abbrev pub url_parts : ℕ → ℕ → Result ℕ Refusal
url_parts n url = if (leb url 10227) (Ok (item_parts_from (10227 - url) n)) (Err NoEncoding)

-- "Parts count from 0 …; beyond the last: 14", then 10
abbrev pub written_of : ℕ → Option Message → Result ℕ Refusal
written_of room none = Err NoSuchPart
written_of room (some m) = written room m

-- 8 for the values of the whole, then 11 for a URL that leaves no room, for whatever part; then the part
abbrev pub part_written : Bool → Bool → List Message → ℕ → ℕ → Result ℕ Refusal
part_written allowed encodable cut k room = if allowed (if encodable (written_of room (get_elem? cut k)) (Err NoEncoding)) (Err ValueNotAllowed)

-- the part's bytes; none where there is no such part
abbrev pub part_bytes : Option Message → List ℕ
part_bytes none = []
part_bytes (some m) = encode m

-- part k of a cut: what writing it answers, in an output of so many bytes, and what it writes
pub record CutPart : Type 0 where
  pub answer : ℕ → Result ℕ Refusal
  pub bytes : List ℕ

abbrev pub cut_part : Bool → Bool → List Message → ℕ → CutPart
cut_part allowed encodable cut k = record { answer = part_written allowed encodable cut k; bytes = part_bytes (get_elem? cut k) }

-- the contract of a call that writes it in front of the output
abbrev pub WritesPart : CutPart → List ℕ → Result ℕ Refusal → List ℕ → Type 0
WritesPart part out = Writes (part.answer (length out)) out 0 part.bytes

-- of a statement: 8 for its format, and no 11
abbrev pub statement_part : ℕ → List ℕ → ℕ → CutPart
statement_part format text k = cut_part (format_allowed format) true (cut_statement format text) k

-- of an item up to 3.0: neither
abbrev pub item_part : List ℕ → ℕ → CutPart
item_part text k = cut_part true true (cut_item text) k

-- of an item in 4.0: 8 for class and type, and 11 for a URL
abbrev pub typed_item_part : ℕ → ℕ → List ℕ → ℕ → CutPart
typed_item_part class kind text k = cut_part (allowed (Body.item class kind Url.absent text)) true (cut_typed_item class kind Url.absent text) k

abbrev pub typed_item_url_part : ℕ → ℕ → List ℕ → List ℕ → ℕ → CutPart
typed_item_url_part class kind url text k =
    cut_part (allowed (Body.item class kind (Url.present url) text)) (leb (length url) 10227) (cut_typed_item class kind (Url.present url) text) k
