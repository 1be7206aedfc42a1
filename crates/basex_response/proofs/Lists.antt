-- Items off the front: one step of a list, what it takes, and that its bound is no bound.
use mathlib.Core.Path.{◌≡◌, refl, sym, ap, subst, ◌∙◌}
use mathlib.Core.Bool.{Bool, true, false}
use mathlib.Core.List.{List, [], ◌∷◌, ◌++◌, flatten, append_assoc, flat_map}
use Prim.Native.Nat.{ℕ, zero, suc, ◌+◌, ◌≤◌, ◌<◌}
use native.Mathlib.Omega.{arith}
use lib.Dec.{eqb}
use lib.ListN.{length, length-append}
use borrow.Author.Tests.{eqb-true}
use Rattle.wire.specs.Bytes.{if}
use Rattle.wire.specs.Fields.{Got, go_on, give}
use Rattle.wire.specs.declared.Refusal.{Refusal}
use Rattle.wire.specs.declared.Refusal.TheVariants.{MoreBytes, ValueNotAllowed}
use Rattle.basex.specs.Kinds.{id_allowed, item_strings}
use Rattle.basex.specs.Response.{Item, item_bytes, items_bytes}
use Rattle.basex.specs.Texts.{strings, texts}
use Rattle.basex.proofs.Texts.{texts_exact}
use Rattle.basex_response.specs.Items.{Next, next, on_next, items, list, item_texts}
use Rattle.basex_response.proofs.Sizes.{flatten-append, texts_shorter}

abbrev pub told : ℕ → Got (List (List ℕ)) → Got Next
told id x = go_on x (λ ts. give (Next.item (record { id = id; texts = ts })))

-- an item was read: its id, and as many strings as it takes
pub record Front (full : Bool) (s : List ℕ) (i : Item) (rest : List ℕ) : Type 0 where
  pub tail : List ℕ
  pub starts : s ≡ i.id ∷ tail
  pub known : eqb i.id 0 ≡ false
  pub allowed : id_allowed i.id ≡ true
  pub goes : texts (item_strings full i.id) tail ≡ Got.got i.texts rest

module _ (full : Bool) where
  pub next-item : (s : List ℕ) (i : Item) (rest : List ℕ) → next full s ≡ Got.got (Next.item i) rest → Front full s i rest
  unfolding next
  next-item [] i rest e = let z : ◌≡◌ {A = ℕ} 0 1 = cc in absurd (omega arith)
  next-item (id ∷ s) i rest e = by (eqb id 0) refl (id_allowed id) refl (texts (item_strings full id) s) refl e
    where
      by : (z : Bool) → eqb id 0 ≡ z → (k : Bool) → id_allowed id ≡ k → (x : Got (List (List ℕ))) → texts (item_strings full id) s ≡ x
          → if z (Got.got Next.end s) (if k (told id x) (Got.refused ValueNotAllowed)) ≡ Got.got (Next.item i) rest → Front full (id ∷ s) i rest
      by true p k q x r g = let z : ◌≡◌ {A = ℕ} 0 1 = cc in absurd (omega arith)
      by false p false q x r g = let z : ◌≡◌ {A = ℕ} 0 1 = cc in absurd (omega arith)
      by false p true q (Got.refused f) r g = let z : ◌≡◌ {A = ℕ} 0 1 = cc in absurd (omega arith)
      by false p true q (Got.got ts last) r g =
          let u : record { id = id; texts = ts } ≡ i = cc in
          let l : last ≡ rest = cc in
          let f : Front full (id ∷ s) (record { id = id; texts = ts }) last = record { tail = s; starts = refl; known = p; allowed = q; goes = r } in
          subst (λ (m : List ℕ). Front full (id ∷ s) i m) l (subst (λ (j : Item). Front full (id ∷ s) j last) u f)

  pub next-end : (s rest : List ℕ) → next full s ≡ Got.got Next.end rest → s ≡ 0 ∷ rest
  unfolding next
  next-end [] rest e = let z : ◌≡◌ {A = ℕ} 0 1 = cc in absurd (omega arith)
  next-end (id ∷ s) rest e = by (eqb id 0) refl (id_allowed id) (texts (item_strings full id) s) e
    where
      by : (z : Bool) → eqb id 0 ≡ z → (k : Bool) (x : Got (List (List ℕ))) → if z (Got.got Next.end s) (if k (told id x) (Got.refused ValueNotAllowed)) ≡ Got.got Next.end rest → id ∷ s ≡ 0 ∷ rest
      by true p k x g = let i : id ≡ 0 = eqb-true id 0 p in let l : s ≡ rest = cc in (cc)
      by false p false x g = let z : ◌≡◌ {A = ℕ} 0 1 = cc in absurd (omega arith)
      by false p true (Got.refused f) g = let z : ◌≡◌ {A = ℕ} 0 1 = cc in absurd (omega arith)
      by false p true (Got.got ts last) g = let z : ◌≡◌ {A = ℕ} 0 1 = cc in absurd (omega arith)

  -- an item is what a writer writes of it
  pub item_exact : (s : List ℕ) (i : Item) (rest : List ℕ) → next full s ≡ Got.got (Next.item i) rest → s ≡ item_bytes i ++ rest
  unfolding item_bytes
  item_exact s i rest e =
      let f = next-item s i rest e in
      f.starts ∙ ap (λ (m : List ℕ). i.id ∷ m) (texts_exact _ f.tail i.texts rest f.goes).1

  item_shorter : (s : List ℕ) (i : Item) (rest : List ℕ) → next full s ≡ Got.got (Next.item i) rest → length rest < length s
  unfolding item_bytes
  item_shorter s i rest e = let x = ap length (item_exact s i rest e) in omega (arith, length-append (strings i.texts) rest)

  -- the bound is no bound: a list has no more items than bytes
  same : (m k : ℕ) (s : List ℕ) → length s ≤ m → length s ≤ k → items m full s ≡ items k full s
  unfolding items next
  same zero zero s h g = refl
  same zero (suc k) [] h g = refl
  same zero (suc k) (id ∷ s) h g = absurd (omega arith)
  same (suc m) zero [] h g = refl
  same (suc m) zero (id ∷ s) h g = absurd (omega arith)
  same (suc m) (suc k) s h g = by (next full s) refl (same m k)
    where
      by : (x : Got Next) → next full s ≡ x → ((t : List ℕ) → length t ≤ m → length t ≤ k → items m full t ≡ items k full t)
          → on_next x (λ i rest. go_on (items m full rest) (λ is. give (i ∷ is))) (give []) ≡ on_next x (λ i rest. go_on (items k full rest) (λ is. give (i ∷ is))) (give [])
      by (Got.refused r) p ih = refl
      by (Got.got Next.end rest) p ih = refl
      by (Got.got (Next.item i) rest) p ih = let l = item_shorter s i rest p in ap (λ (y : Got (List Item)). go_on y (λ is. give (i ∷ is))) (ih rest (omega arith) (omega arith))

  -- a list, one step at a time
  pub list-refused : (s : List ℕ) (r : Refusal) → next full s ≡ Got.refused r → list full s ≡ Got.refused r
  unfolding items next
  list-refused [] r e = let z : MoreBytes ≡ r = cc in ap Got.refused z
  list-refused (id ∷ s) r e = rw e refl

  pub list-end : (s rest : List ℕ) → next full s ≡ Got.got Next.end rest → list full s ≡ Got.got [] rest
  unfolding items
  list-end [] rest e = let z = next-end [] rest e in let y : ◌≡◌ {A = ℕ} 0 1 = cc in absurd (omega arith)
  list-end (id ∷ s) rest e = rw e refl

  pub list-item : (s : List ℕ) (i : Item) (rest : List ℕ) → next full s ≡ Got.got (Next.item i) rest → list full s ≡ go_on (list full rest) (λ is. give (i ∷ is))
  unfolding items
  list-item [] i rest e = let f = (next-item [] i rest e).starts in let y : ◌≡◌ {A = ℕ} 0 1 = cc in absurd (omega arith)
  list-item (id ∷ s) i rest e =
      let l = item_shorter (id ∷ s) i rest e in
      rw e (ap (λ (y : Got (List Item)). go_on y (λ is. give (i ∷ is))) (same (length s) (length rest) rest (omega arith) (omega arith)))

  -- a list is what a writer writes of it
  items_exact : (n : ℕ) (s : List ℕ) (is : List Item) (rest : List ℕ) → items n full s ≡ Got.got is rest → s ≡ items_bytes is ++ (0 ∷ rest)
  unfolding items flat_map
  items_exact zero s is rest e = let z : ◌≡◌ {A = ℕ} 0 1 = cc in absurd (omega arith)
  items_exact (suc n) s is rest e = by (next full s) refl (items_exact n) e
    where
      by : (x : Got Next) → next full s ≡ x → ((t : List ℕ) (js : List Item) (last : List ℕ) → items n full t ≡ Got.got js last → t ≡ items_bytes js ++ (0 ∷ last))
          → on_next x (λ i more. go_on (items n full more) (λ js. give (i ∷ js))) (give []) ≡ Got.got is rest → s ≡ items_bytes is ++ (0 ∷ rest)
      by (Got.refused r) p ih g = let z : ◌≡◌ {A = ℕ} 0 1 = cc in absurd (omega arith)
      by (Got.got Next.end more) p ih g =
          let l : more ≡ rest = cc in
          let n : [] ≡ is = cc in
          next-end s more p ∙ ap (λ (m : List ℕ). 0 ∷ m) l ∙ ap (λ (js : List Item). items_bytes js ++ (0 ∷ rest)) n
      by (Got.got (Next.item i) more) p ih g = then (items n full more) refl g
        where
          then : (y : Got (List Item)) → items n full more ≡ y → go_on y (λ js. give (i ∷ js)) ≡ Got.got is rest → s ≡ items_bytes is ++ (0 ∷ rest)
          then (Got.refused r) q f = let z : ◌≡◌ {A = ℕ} 0 1 = cc in absurd (omega arith)
          then (Got.got js last) q f =
              let l : last ≡ rest = cc in
              let u : i ∷ js ≡ is = cc in
              item_exact s i more p ∙ ap (λ (m : List ℕ). item_bytes i ++ m) (ih more js last q) ∙ sym (append_assoc (item_bytes i) (items_bytes js) (0 ∷ last))
              ∙ ap (λ (m : List ℕ). items_bytes (i ∷ js) ++ (0 ∷ m)) l ∙ ap (λ (ks : List Item). items_bytes ks ++ (0 ∷ rest)) u

  pub list_exact : (s : List ℕ) (is : List Item) (rest : List ℕ) → list full s ≡ Got.got is rest → s ≡ items_bytes is ++ (0 ∷ rest)
  list_exact s is rest e = items_exact (length s) s is rest e

-- an item and its texts are shorter than its bytes
pub item-size : (i : Item) → length (flatten i.texts) < length (item_bytes i)
unfolding item_bytes
item-size i = omega (arith, texts_shorter i.texts)

pub items-size : (is : List Item) → length (flatten (item_texts is)) + length is ≤ length (items_bytes is)
unfolding flat_map flatten
items-size [] = omega arith
items-size (i ∷ is) =
    let h = items-size is in
    let g = item-size i in
    omega (arith, ap length (flatten-append i.texts (item_texts is)), length-append (flatten i.texts) (flatten (item_texts is)), length-append (item_bytes i) (items_bytes is))

-- a list takes more bytes than its items have text
pub list-room : (full : Bool) (s : List ℕ) (is : List Item) (rest : List ℕ) → list full s ≡ Got.got is rest → length (flatten (item_texts is)) + length rest < length s
list-room full s is rest e =
    let x = ap length (list_exact full s is rest e) in
    let z = items-size is in
    omega (arith, length-append (items_bytes is) (0 ∷ rest))
