-- A response that is written item by item, and then its end, is its encoding.
use Rattle.std.specs.Prelude.{Some, Ok}
use mathlib.Core.Path.{◌≡◌, refl, sym, ap, ap₂, subst, ◌∙◌}
use mathlib.Core.List.{List, [], ◌∷◌, ◌++◌, append_assoc, flatten, flat_map}
use mathlib.Core.Bool.{Bool, true, false}
use Prim.Native.Nat.{ℕ, ◌+◌, ◌≤◌}
use native.Mathlib.Omega.{arith}
use lib.ListN.{length, get_or, take, length-append}
use borrow.Author.Tests.{leb-true}
use Rattle.wire.specs.Bytes.{if, splice}
use Rattle.wire.proofs.Call.{room-there}
use Rattle.wire.proofs.Splices.{length-splice, splice-splice, splice-none}
use Rattle.wire.specs.Call.{in_room}
use Rattle.basex.specs.declared.Reply.{Reply}
use Rattle.basex.specs.declared.Reply.TheVariants.{Command, Create, Query, Results, Full}
use Rattle.basex.specs.Kinds.{find_of, has_uri, listed, is_full, ahead, behind}
use Rattle.basex.specs.Response.{Item, Response, item_bytes, items_bytes, list_bytes, encode, ItemAllowed, ItemsAllowed, ListAllowed, Published}
use Rattle.basex.specs.Texts.{strings, unused}
use Rattle.basex_response.proofs.Fields.{ahead-few, behind-few}
use Rattle.basex_response.specs.Writing.{item_of, item_written, full_of, end_of, end_written, end_bytes}
use Rattle.basex_laws.specs.Calls.{uri_of, text_of, Output, wrote, responded}
use Rattle.basex_laws.proofs.Handed.{made}

-- an item's URI is given only where it has one
pub uri-fits : (full : Bool) (i : Item) → if (has_uri full i.id) true (unused 0 (uri_of full i ∷ [])) ≡ true
unfolding flatten
uri-fits full i = by (has_uri full i.id) refl
  where
    by : (b : Bool) → has_uri full i.id ≡ b → if (has_uri full i.id) true (unused 0 (uri_of full i ∷ [])) ≡ true
    by true p = rw p refl
    by false p = rw p refl

module _ (kind n : ℕ) (reply : Reply) (known : find_of kind ≡ Some (n, reply)) where
  -- an item that is allowed is written where it fits
  item-fits : (i : Item) (room at : ℕ) → listed reply ≡ true → ItemAllowed (is_full reply) i → at + length (item_bytes i) ≤ room
      → item_written room at kind i.id (uri_of (is_full reply) i) (text_of (is_full reply) i) ≡ Ok (length (item_bytes i))
  unfolding item_written
  item-fits i room at l a h = rw known (rw (l, a.0) (rw (uri-fits (is_full reply) i)
      (ap (λ (j : Item). in_room room at (length (item_bytes j))) (made (is_full reply) i a.1).is ∙ room-there room at (length (item_bytes i)) h)))

  items-wrote : (is : List Item) (o : Output) → listed reply ≡ true → ItemsAllowed (is_full reply) is → o.at + length (items_bytes is) ≤ length o.bytes
      → wrote (is_full reply) kind is o ≡ record { bytes = splice o.bytes o.at (items_bytes is); at = o.at + length (items_bytes is) }
  unfolding wrote flat_map
  items-wrote [] o l a h =
      let z : o.at ≡ o.at + 0 = omega arith in
      ap₂ (λ (b : List ℕ) (m : ℕ). record { bytes = b; at = m }) (sym (splice-none o.bytes o.at)) z
  items-wrote (i ∷ is) o l a h =
      let s = length-append (item_bytes i) (items_bytes is) in
      let w = item-fits i (length o.bytes) o.at l a.0 (omega arith) in
      let p : splice o.bytes o.at (item_bytes (item_of (is_full reply) i.id (uri_of (is_full reply) i) (text_of (is_full reply) i))) ≡ splice o.bytes o.at
      (item_bytes i) = ap (λ (j : Item). splice o.bytes o.at (item_bytes j)) (made (is_full reply) i a.0.1).is in
      let k = length-splice o.bytes o.at (item_bytes i) (omega arith) in
      let m = items-wrote is (record { bytes = splice o.bytes o.at (item_bytes i); at = o.at + length (item_bytes i) }) l a.1 (omega arith) in
      let v = splice-splice o.bytes o.at (item_bytes i) (items_bytes is) (omega arith) in
      let e : o.at + length (item_bytes i) + length (items_bytes is) ≡ o.at + length (item_bytes i ++ items_bytes is) = omega arith in
      rw w (rw p (m ∙ ap₂ (λ (b : List ℕ) (q : ℕ). record { bytes = b; at = q }) v e))

-- a response without its items
abbrev bare : Response → Response
bare r = record { texts = r.texts; items = []; status = r.status; error = r.error }

-- of the texts given, the first n are all that the response has, and the others are empty
abbrev Given : List (List ℕ) → List (List ℕ) → ℕ → Type 0
Given ts given n = (take n given ≡ ts) × (unused n given ≡ true)

one-given : (ts : List (List ℕ)) (n : ℕ) → n ≤ 1 → length ts ≡ n → Given ts (get_or ts 0 [] ∷ []) n
unfolding flatten
one-given [] n h l = subst (Given [] ([] ∷ [])) l (refl, refl)
one-given (a ∷ []) n h l = subst (Given (a ∷ []) (a ∷ [])) l (refl, refl)
one-given (a ∷ b ∷ ts) n h l = absurd (omega arith)

two-given : (ts : List (List ℕ)) (n : ℕ) → n ≤ 2 → length ts ≡ n → Given ts (get_or ts 0 [] ∷ get_or ts 1 [] ∷ []) n
unfolding flatten
two-given [] n h l = subst (Given [] ([] ∷ [] ∷ [])) l (refl, refl)
two-given (a ∷ []) n h l = subst (Given (a ∷ []) (a ∷ [] ∷ [])) l (refl, refl)
two-given (a ∷ b ∷ []) n h l = subst (Given (a ∷ b ∷ []) (a ∷ b ∷ [])) l (refl, refl)
two-given (a ∷ b ∷ c ∷ ts) n h l = absurd (omega arith)

-- the items stand ahead of everything where there are items
items-ahead : (reply : Reply) (r : Response) → Published reply r → encode reply r ≡ items_bytes r.items ++ encode reply (bare r)
unfolding encode flat_map
items-ahead reply r p = by reply r.texts r.items p.first p.list
  where
    tail : List ℕ
    tail = r.status ∷ strings r.error

    none : (q : Reply) (ts : List (List ℕ)) (is : List Item) → listed q ≡ false → is ≡ [] → strings ts ++ (list_bytes q is ++ tail) ≡ items_bytes is ++ (strings ts ++ (list_bytes q [] ++ tail))
    none q ts is l e = rw (e, l) refl

    some : (q : Reply) (ts : List (List ℕ)) (is : List Item) → listed q ≡ true → length ts ≡ 0 → strings ts ++ (list_bytes q is ++ tail) ≡ items_bytes is ++ (strings ts ++ (list_bytes q [] ++ tail))
    some q [] is l e = rw l (append_assoc (items_bytes is) (0 ∷ []) tail)
    some q (t ∷ ts) is l e = absurd (omega arith)

    by : (q : Reply) (ts : List (List ℕ)) (is : List Item) → length ts ≡ ahead q → ListAllowed (listed q) (is_full q) is
        → strings ts ++ (list_bytes q is ++ tail) ≡ items_bytes is ++ (strings ts ++ (list_bytes q [] ++ tail))
    by Command ts is l a = none Command ts is refl a
    by Create ts is l a = none Create ts is refl a
    by Query ts is l a = none Query ts is refl a
    by Results ts is l a = some Results ts is refl l
    by Full ts is l a = some Full ts is refl l

module _ (kind n : ℕ) (reply : Reply) (known : find_of kind ≡ Some (n, reply)) (r : Response) (p : Published reply r) where
  abbrev first : List ℕ
  first = get_or r.texts 0 []

  abbrev second : List ℕ
  second = get_or r.texts 1 []

  abbrev error : List ℕ
  error = get_or r.error 0 []

  texts-given : Given r.texts (first ∷ second ∷ []) (ahead reply)
  texts-given = two-given r.texts (ahead reply) (ahead-few reply) p.first

  error-given : Given r.error (error ∷ []) (behind reply r.status)
  error-given =
      let f = behind-few reply r.status in
      let h = leb-true r.status 1 p.ended in
      one-given r.error (behind reply r.status) (omega arith) p.last

  end_is : end_of reply first second r.status error ≡ bare r
  end_is = ap₂ (λ (ts es : List (List ℕ)). record { texts = ts; items = []; status = r.status; error = es }) texts-given.0 error-given.0

  end_fits : (room at : ℕ) → at + length (encode reply (bare r)) ≤ room → end_written room at kind first second r.status error ≡ Ok (length (encode reply (bare r)))
  unfolding end_written
  end_fits room at h = rw known (rw p.ended (rw texts-given.1
      (rw error-given.1 (ap (λ (q : Response). in_room room at (length (encode reply q))) end_is ∙ room-there room at (length (encode reply (bare r))) h))))

  end-bytes : end_bytes (find_of kind) first second r.status error ≡ encode reply (bare r)
  end-bytes = rw known (ap (encode reply) end_is)

  list_wrote : (o : Output) → o.at + length (items_bytes r.items) ≤ length o.bytes
      → wrote (full_of (find_of kind)) kind r.items o ≡ record { bytes = splice o.bytes o.at (items_bytes r.items); at = o.at + length (items_bytes r.items) }
  unfolding wrote flat_map
  list_wrote o h = rw known (by (listed reply) refl p.list)
    where
      by : (b : Bool) → listed reply ≡ b → ListAllowed b (is_full reply) r.items
          → wrote (is_full reply) kind r.items o ≡ record { bytes = splice o.bytes o.at (items_bytes r.items); at = o.at + length (items_bytes r.items) }
      by true l a = items-wrote kind n reply known r.items o l a h
      by false l a =
          let z : o.at ≡ o.at + 0 = omega arith in
          rw a (ap₂ (λ (b : List ℕ) (m : ℕ). record { bytes = b; at = m }) (sym (splice-none o.bytes o.at)) z)

  -- by calls of write_item and then one of write_end, a published response is written as its encoding
  pub response_written : (out : List ℕ) (at : ℕ) → at + length (encode reply r) ≤ length out
      → responded kind r (record { bytes = out; at = at }) ≡ record { bytes = splice out at (encode reply r); at = at + length (encode reply r) }
  unfolding responded
  response_written out at h =
      let b = items_bytes r.items in
      let e = encode reply (bare r) in
      let s = items-ahead reply r p in
      let l = ap length s ∙ length-append b e in
      let w = list_wrote (record { bytes = out; at = at }) (omega arith) in
      let k = length-splice out at b (omega arith) in
      let f = end_fits (length (splice out at b)) (at + length b) (omega arith) in
      let q = splice-splice out at b e (omega arith) ∙ ap (splice out at) (sym s) in
      let m : at + length b + length e ≡ at + length (encode reply r) = omega arith in
      rw w (rw f (rw end-bytes (ap₂ (λ (c : List ℕ) (d : ℕ). record { bytes = c; at = d }) q m)))
