-- Document 01, "When writing or cutting: 2, 8, 11, 14, 10": what writing a response answers, item by item and then
-- its end, and the bytes.
use Rattle.std.specs.Prelude.{Option, Some, None, Result, Err, ℕ, length, take}
use Rattle.wire.specs.declared.Refusal.{Refusal}
use mathlib.Core.{Bool.Bool, Bool.true, Bool.false, List.List, List.[], List.◌∷◌}
use Rattle.wire.specs.{Bytes.if, Call.in_room, declared.Refusal.TheVariants.UnknownInstruction, declared.Refusal.TheVariants.ValueNotAllowed}
use Rattle.basex.specs.{declared.Reply.Reply, Response.Item, Response.Response, Response.item_bytes, Response.encode, Texts.unused}
use Rattle.basex.specs.Kinds.{find_of, ahead, behind, listed, is_full, id_allowed, has_uri, status_allowed}

-- the item with that id, URI and text: the URI only where it has one
abbrev pub item_of : Bool → ℕ → List ℕ → List ℕ → Item
item_of full id uri text = record { id = id; texts = if (has_uri full id) (uri ∷ text ∷ []) (text ∷ []) }

-- 2 for a kind that is none; 8 for one without items, an id that is not allowed, and a URI where the item has none; then 10
abbrev pub item_written_as : ℕ → ℕ → Option (ℕ × Reply) → ℕ → List ℕ → List ℕ → Result ℕ Refusal
item_written_as room at None id uri text = Err UnknownInstruction
item_written_as room at (Some (n, reply)) id uri text =
    if (listed reply)
    (if (id_allowed id)
    (if (if (has_uri (is_full reply) id) true (unused 0 (uri ∷ [])))
    (in_room room at (length (item_bytes (item_of (is_full reply) id uri text)))) (Err ValueNotAllowed))
    (Err ValueNotAllowed))
    (Err ValueNotAllowed)

unfoldable pub item_written : ℕ → ℕ → ℕ → ℕ → List ℕ → List ℕ → Result ℕ Refusal
item_written room at kind id uri text = item_written_as room at (find_of kind) id uri text

-- whether the items of a kind have URIs
abbrev pub full_of : Option (ℕ × Reply) → Bool
full_of None = false
full_of (Some (n, reply)) = is_full reply

-- the response with no items: all of one without a list, and the end of one with a list, behind its items
abbrev pub end_of : Reply → List ℕ → List ℕ → ℕ → List ℕ → Response
end_of reply first second status error =
    record { texts = take (ahead reply) (first ∷ second ∷ []); items = []; status = status; error = take (behind reply status) (error ∷ []) }

-- 2 for a kind that is none; 8 for a status above 01, and a text that the response does not take; then 10
abbrev pub end_written_as : ℕ → ℕ → Option (ℕ × Reply) → List ℕ → List ℕ → ℕ → List ℕ → Result ℕ Refusal
end_written_as room at None first second status error = Err UnknownInstruction
end_written_as room at (Some (n, reply)) first second status error =
    if (status_allowed status)
    (if (unused (ahead reply) (first ∷ second ∷ []))
    (if (unused (behind reply status) (error ∷ []))
    (in_room room at (length (encode reply (end_of reply first second status error)))) (Err ValueNotAllowed))
    (Err ValueNotAllowed))
    (Err ValueNotAllowed)

unfoldable pub end_written : ℕ → ℕ → ℕ → List ℕ → List ℕ → ℕ → List ℕ → Result ℕ Refusal
end_written room at kind first second status error = end_written_as room at (find_of kind) first second status error

-- the bytes of an end of a kind
abbrev pub end_bytes : Option (ℕ × Reply) → List ℕ → List ℕ → ℕ → List ℕ → List ℕ
end_bytes None first second status error = []
end_bytes (Some (n, reply)) first second status error = encode reply (end_of reply first second status error)
