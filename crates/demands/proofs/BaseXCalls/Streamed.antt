-- A caller who drops each item that is told comes to the end of the items, and what is left is the response without them.
use mathlib.Core.Bool.{Bool, true, false}
use mathlib.Core.List.{List, [], ◌∷◌, ◌++◌, append_assoc, flat_map}
use mathlib.Core.Path.{◌≡◌, refl, sym, ap, subst, ◌∙◌}
use Prim.Native.Nat.{ℕ, ◌≤◌}
use native.Mathlib.Omega.{arith}
use lib.ListN.{length, drop, length-drop}
use lib.Seq.{drop-append_seam}
use Rattle.std.proofs.lemmas.List.{nil_from_length}
use Rattle.basex.specs.declared.Reply.{Reply}
use Rattle.basex.specs.Kinds.{find_of, ahead, listed, is_full}
use Rattle.basex.specs.Texts.{strings}
use Rattle.basex.specs.Response.{Item, Response, item_bytes, items_bytes, encode, ItemAllowed, ItemsAllowed, ListAllowed, Published, Stands}
use Rattle.basex_laws.specs.Calls.{listed_of}
use Rattle.demands.specs.BaseXCalls.{Lendable, Lists, ItemRead, ItemsEnd, item_called, with_items, count_of, streamed}
use Rattle.demands.proofs.BaseXCalls.Taken.{item_taken, item_none}

-- what stands ahead of an item is nothing
no-texts : (reply : Reply) → listed reply ≡ true → (ts : List (List ℕ)) → length ts ≡ ahead reply → ts ≡ []
no-texts reply l ts h = grind (arith, nil_from_length ts)

-- a response that starts with an item is that item and the response without it
record Begins (reply : Reply) (r : Response) (i : Item) (is : List Item) : Type 0 where
  pub list : listed reply ≡ true
  pub allowed : ItemAllowed (is_full reply) i
  pub published : Published reply (with_items r is)
  pub bytes : encode reply r ≡ item_bytes i ++ encode reply (with_items r is)

begins : (reply : Reply) (r : Response) (i : Item) (is : List Item) → Published reply r → r.items ≡ i ∷ is → Begins reply r i is
unfolding encode flat_map
begins reply r i is p e = by (listed reply) refl p.list
  where
    by : (b : Bool) → listed reply ≡ b → ListAllowed b (is_full reply) r.items → Begins reply r i is
    by false l a = cc
    by true l a =
        let q = subst (ItemsAllowed (is_full reply)) e a in
        let t = no-texts reply l r.texts p.first in
        let last = r.status ∷ strings r.error in
        record {
          list = l;
          allowed = q.0;
          published = record { first = p.first; list = rw l q.1; ended = p.ended; last = p.last };
          bytes =
              rw (l, e, t)
              (ap (λ (m : List ℕ). m ++ last) (append_assoc (item_bytes i) (items_bytes is) (0 ∷ [])) ∙ append_assoc (item_bytes i) (items_bytes is ++ (0 ∷ [])) last);
        }

-- without items it is the 00 behind them, and what follows
ends : (reply : Reply) (r : Response) → Published reply r → listed reply ≡ true → r.items ≡ [] → encode reply r ≡ 0 ∷ r.status ∷ strings r.error
unfolding encode flat_map
ends reply r p l e = let t = no-texts reply l r.texts p.first in rw (l, e, t) refl

module _ (kind : ℕ) (s : List ℕ) (short : Lendable s) (r : Response) (rest told : List ℕ) (h : Stands kind r s rest) where
  lists : listed h.reply ≡ true → Lists kind (is_full h.reply)
  lists l = record { strings = h.strings; reply = h.reply; known = h.known; list = l; uris = refl }

  pub item_first : (i : Item) (is : List Item) → r.items ≡ i ∷ is → 3 ≤ length told
      → (a : ItemRead kind s 0 told (item_called kind s 0 told)) × (a.item ≡ i) × Stands kind (with_items r is) (drop (length (item_bytes i)) s) rest
  item_first i is e three =
      let b = begins h.reply r i is h.published e in
      let left = encode h.reply (with_items r is) ++ rest in
      let z = h.encoded ∙ ap (λ (m : List ℕ). m ++ rest) b.bytes ∙ append_assoc (item_bytes i) (encode h.reply (with_items r is)) rest in
      let t = item_taken kind s 0 (is_full h.reply) (lists b.list) short i left told b.allowed z three in
      (t.0, t.1, record { strings = h.strings; reply = h.reply; known = h.known; published = b.published; encoded = ap (drop (length (item_bytes i))) z ∙ drop-append_seam (item_bytes i) left })

  -- and at the end of them
  pub items-end : listed h.reply ≡ true → r.items ≡ [] → ItemsEnd kind s 0 told (item_called kind s 0 told)
  items-end l e =
      item_none kind s 0 (is_full h.reply) (lists l) (r.status ∷ strings r.error ++ rest) told
      (h.encoded ∙ ap (λ (m : List ℕ). m ++ rest) (ends h.reply r h.published l e))

listed_so : (kind : ℕ) (r : Response) (s rest : List ℕ) (h : Stands kind r s rest) → listed_of (find_of kind) ≡ true → listed h.reply ≡ true
listed_so kind r s rest h l = sym (ap listed_of h.known) ∙ l

module _ (kind : ℕ) (list : listed_of (find_of kind) ≡ true) (rest told : List ℕ) (three : 3 ≤ length told) where
  -- at the end of the items, with the response without them
  abbrev Ended : Response → List ℕ → Type 0
  Ended r t = ItemsEnd kind t 0 told (item_called kind t 0 told) × Stands kind (with_items r []) t rest

  streams : (is : List Item) (s : List ℕ) → Lendable s → (r : Response) → Stands kind r s rest → r.items ≡ is → Ended r (streamed (length is) kind told s)
  unfolding streamed
  streams [] s short r h e =
      (items-end kind s short r rest told h (listed_so kind r s rest h list) e, subst (λ (is : List Item). Stands kind (with_items r is) s rest) e h)
  streams (i ∷ is) s short r h e =
      let f = item_first kind s short r rest told h i is e three in
      let k : count_of (item_called kind s 0 told).answer ≡ length (item_bytes i) = ap count_of f.0.counted ∙ ap (λ (j : Item). length (item_bytes j)) f.1 in
      let l = length-drop (length (item_bytes i)) s in
      subst (λ (n : ℕ). Ended r (streamed (length is) kind told (drop n s))) (sym k)
      (streams is (drop (length (item_bytes i)) s) (omega (arith, short, l)) (with_items r is) f.2 refl)

pub items_streamed : (kind : ℕ) (s : List ℕ) → Lendable s → listed_of (find_of kind) ≡ true → (r : Response) (rest told : List ℕ) → Stands kind r s rest → 3 ≤ length told
    → ItemsEnd kind (streamed (length r.items) kind told s) 0 told (item_called kind (streamed (length r.items) kind told s) 0 told)
    × Stands kind (with_items r []) (streamed (length r.items) kind told s) rest
items_streamed kind s short list r rest told h three = streams kind list rest told three r.items s short r h refl
