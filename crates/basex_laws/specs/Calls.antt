-- Responses over several calls: the items of one that was read handed out one by one, and one written item by item.
use Rattle.std.specs.Prelude.{Option, Some, None, Result, Ok, Err, ℕ, zero, suc, ◌+◌, ◌-◌, length, take, drop, get_or}
use Rattle.wire.specs.declared.Refusal.{Refusal}
use mathlib.Core.{Bool.Bool, Bool.false, List.List, List.[], List.◌∷◌}
use Rattle.wire.specs.{Bytes.if, Call.output_after}
use Rattle.basex.specs.{declared.Reply.Reply, Kinds.find_of, Kinds.listed, Kinds.has_uri, Response.Item, Response.Response, Response.item_bytes}
use Rattle.basex_response.specs.{declared.ItemAt.ItemAt, Items.next, Items.item_at}
use Rattle.basex_response.specs.Writing.{item_of, item_written, full_of, end_written, end_bytes}

-- whether the response to a request that starts with the byte has items
abbrev pub listed_of : Option (ℕ × Reply) → Bool
listed_of None = false
listed_of (Some (n, reply)) = listed reply

-- the item that was told, its texts taken from the output, and what comes then
abbrev pub handed_next : Bool → List ℕ → ℕ → Result ItemAt Refusal → (ℕ → ℕ → List Item) → List Item
handed_next full out to (Err r) more = []
handed_next full out to (Ok (ItemAt.End at)) more = []
handed_next full out to (Ok (ItemAt.Item id uri text at)) more =
    item_of full id (take uri (drop to out)) (take text (drop (to + uri) out)) ∷ more at (to + (uri + text))

-- the items that up to n calls of item_at tell, from `at` on in the bytes s, with their texts from `to` on in the output
unfoldable pub handed : ℕ → Bool → List ℕ → List ℕ → ℕ → ℕ → List Item
handed zero full s out at to = []
handed (suc n) full s out at to = handed_next full out to (item_at full at (length s - at) (next full (drop at s))) (handed n full s out)

-- an item's URI, nothing where it has none, and its text
abbrev pub uri_of : Bool → Item → List ℕ
uri_of full i = if (has_uri full i.id) (get_or i.texts 0 []) []

abbrev pub text_of : Bool → Item → List ℕ
text_of full i = if (has_uri full i.id) (get_or i.texts 1 []) (get_or i.texts 0 [])

-- an output, and where it is free
pub record Output : Type 0 where
  pub bytes : List ℕ
  pub at : ℕ

-- behind a call that wrote n bytes, or was refused
abbrev pub further : ℕ → Result ℕ Refusal → ℕ
further at (Err r) = at
further at (Ok n) = at + n

-- the output when the items have been written one behind the other by calls of write_item
unfoldable pub wrote : Bool → ℕ → List Item → Output → Output
wrote full kind [] o = o
wrote full kind (i ∷ is) o = wrote full kind is (then (item_written (length o.bytes) o.at kind i.id (uri_of full i) (text_of full i)))
  where
    then : Result ℕ Refusal → Output
    then w = record { bytes = output_after w o.bytes o.at (item_bytes (item_of full i.id (uri_of full i) (text_of full i))); at = further o.at w }

-- .. and then the rest of the response by one call of write_end
unfoldable pub responded : ℕ → Response → Output → Output
responded kind r o = ended (wrote (full_of (find_of kind)) kind r.items o)
  where
    first : List ℕ
    first = get_or r.texts 0 []

    second : List ℕ
    second = get_or r.texts 1 []

    error : List ℕ
    error = get_or r.error 0 []

    then : Output → Result ℕ Refusal → Output
    then p w = record { bytes = output_after w p.bytes p.at (end_bytes (find_of kind) first second r.status error); at = further p.at w }

    ended : Output → Output
    ended p = then p (end_written (length p.bytes) p.at kind first second r.status error)
