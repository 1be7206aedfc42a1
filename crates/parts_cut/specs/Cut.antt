-- Document 01, "Cutting and joining": the messages that a statement and an item are cut into.
use Rattle.std.specs.Prelude.{List, [], ◌∷◌, ◌++◌, map, ℕ, zero, suc, ◌-◌}
use lib.{Dec.leb, ListN.length, ListN.take, ListN.drop}
use Rattle.wire.specs.Bytes.{if}
use Rattle.sedna.specs.Message.{Url, Body, Message, message}
use Rattle.sedna.specs.Names as M

-- s in pieces of n bytes, "with the rest … last": none of them is empty, and nothing has none. The first number bounds how many there are
unfoldable pub pieces_up_to : ℕ → ℕ → List ℕ → List (List ℕ)
pieces_up_to zero n s = []
pieces_up_to (suc most) n [] = []
pieces_up_to (suc most) n (x ∷ s) = take n (x ∷ s) ∷ pieces_up_to most n (drop n (x ∷ s))

abbrev pub pieces : ℕ → List ℕ → List (List ℕ)
pieces n s = pieces_up_to (length s) n s

-- the bytes of text that a body of 10,240 holds: behind the format byte and the string's five; behind the string's five
abbrev pub statement_room : ℕ
statement_room = 10234

abbrev pub part_room : ℕ
part_room = 10235

-- "A statement of n bytes is one Execute up to 10,234; above that, ExecuteLong parts of 10,234 with the rest (1 to 10,234) last, then LongQueryEnd"
unfoldable pub cut_statement : ℕ → List ℕ → List Message
cut_statement format text =
    if (leb (length text) statement_room)
    (message M.Execute (Body.statement format text) ∷ [])
    (map (λ (piece : List ℕ). message M.ExecuteLong (Body.statement format piece)) (pieces statement_room text) ++ (message M.LongQueryEnd Body.empty ∷ []))

abbrev pub item_parts : List ℕ → List Message
item_parts text = map (λ (piece : List ℕ). message M.ItemPart (Body.text piece)) (pieces part_room text)

-- "An item up to 3.0 is cut in parts of 10,235, at least one."
unfoldable pub cut_item : List ℕ → List Message
cut_item text = message M.ItemPart (Body.text (take part_room text)) ∷ item_parts (drop part_room text)

-- "In 4.0 ItemStart takes up to 10,232 bytes, or 10,227 - u with a URL of u bytes"
abbrev pub start_room : Url → ℕ
start_room Url.absent = 10232
start_room (Url.present url) = 10227 - length url

-- "ItemParts of 10,235 follow, none empty"
unfoldable pub cut_typed_item : ℕ → ℕ → Url → List ℕ → List Message
cut_typed_item class kind url text = message M.ItemStart (Body.item class kind url (take (start_room url) text)) ∷ item_parts (drop (start_room url) text)
