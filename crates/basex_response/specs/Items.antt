-- Document 01, "An item is a type id (7-15 or 32-83, else 8), in FULL a URI string after 12, 14 and 82, and a string": reading them off the front.
use Rattle.std.specs.Prelude.{Result, Ok, Err, ℕ, zero, suc, ◌+◌, ◌-◌}
use Rattle.wire.specs.declared.Refusal.{Refusal}
use mathlib.Core.{Bool.Bool, List.List, List.[], List.◌∷◌, List.flat_map}
use lib.{Dec.eqb, ListN.length}
use Rattle.wire.specs.{Bytes.if, Fields.Got, Fields.Field, Fields.go_on, Fields.give}
use Rattle.wire.specs.declared.Refusal.TheVariants.{MoreBytes, ValueNotAllowed}
use Rattle.basex.specs.{Kinds.id_allowed, Kinds.has_uri, Kinds.item_strings, Response.Item, Texts.texts, Texts.length_at}
use Rattle.basex_response.specs.declared.ItemAt.{ItemAt}

-- an item, or the 00 behind the last
pub data Next : Type 0 where
  item : Item → Next
  end : Next

-- "8 as soon as the byte is there": the id is judged ahead of its strings
unfoldable pub next : Bool → Field Next
next full [] = Got.refused MoreBytes
next full (id ∷ s) =
    if (eqb id 0) (Got.got Next.end s)
    (if (id_allowed id) (go_on (texts (item_strings full id) s) (λ ts. give (Next.item (record { id = id; texts = ts })))) (Got.refused ValueNotAllowed))

abbrev pub on_next : {A : Type 0} → Got Next → (Item → Field A) → Field A → Got A
on_next (Got.refused r) more done = Got.refused r
on_next (Got.got (Next.item i) rest) more done = more i rest
on_next (Got.got Next.end rest) more done = done rest

-- "items, then 00"; the number bounds how many, and no list has more than it has bytes
unfoldable pub items : ℕ → Bool → Field (List Item)
items zero full s = Got.refused MoreBytes
items (suc n) full s = on_next (next full s) (λ i rest. go_on (items n full rest) (λ is. give (i ∷ is))) (give [])

abbrev pub list : Bool → Field (List Item)
list full s = items (length s) full s

abbrev pub item_texts : List Item → List (List ℕ)
item_texts = flat_map (λ (i : Item). i.texts)

-- how many bytes an item's URI has, 0 where it has none, and its text
abbrev pub uri_length : Bool → Item → ℕ
uri_length full i = if (has_uri full i.id) (length_at i.texts 0) 0

abbrev pub text_length : Bool → Item → ℕ
text_length full i = if (has_uri full i.id) (length_at i.texts 1) (length_at i.texts 0)

-- of n bytes from `at` on, what stands there, as places: the id, how long the URI and the text are, and where what follows starts
abbrev pub item_at : Bool → ℕ → ℕ → Got Next → Result ItemAt Refusal
item_at full at n (Got.refused r) = Err r
item_at full at n (Got.got (Next.item i) rest) = Ok (ItemAt.Item i.id (uri_length full i) (text_length full i) (at + (n - length rest)))
item_at full at n (Got.got Next.end rest) = Ok (ItemAt.End (at + (n - length rest)))
