-- Items: reading takes exactly what is written.
use mathlib.Core.Path.{◌≡◌, refl, sym, ap, subst, ◌∙◌}
use mathlib.Core.List.{List, [], ◌∷◌, ◌++◌, append_assoc, flat_map}
use mathlib.Core.Bool.{Bool, true, false}
use mathlib.Core.Logic.{◌⊎◌, inl, inr}
use Prim.Native.Nat.{ℕ, zero, suc, ◌<◌}
use native.Mathlib.Omega.{arith}
use lib.Dec.{eqb}
use lib.ListN.{length, length-append}
use borrow.Author.Tests.{eqb-true, ne_eqb}
use Rattle.wire.specs.Bytes.{if}
use Rattle.wire.specs.Fields.{Got, go_on, give}
use Rattle.wire.specs.declared.Refusal.{Refusal}
use Rattle.wire.specs.declared.Refusal.TheVariants.{MoreBytes, ValueNotAllowed, BadEscape}
use Rattle.wire.proofs.Fields.{Split, split, stopped}
use Rattle.basex.specs.Kinds.{id_allowed, item_strings}
use Rattle.basex.specs.Response.{Item, item_bytes, items_bytes, ItemAllowed, ItemsAllowed}
use Rattle.basex.specs.Texts.{strings, texts}
use Rattle.basex.proofs.Texts.{texts_exact, texts-written, texts_refuses}
use Rattle.basex_response.specs.Items.{Next, next, items}

-- what was got is the one thing
pub same : {A : Type 0} {a b : A} {s t : List ℕ} → Got.got a s ≡ Got.got b t → (a ≡ b) × (s ≡ t)
same e = ((cc), (cc))

-- what a field is refused with: 1, 8 or 13
abbrev pub OfFields : Refusal → Type 0
OfFields r = (r ≡ MoreBytes) ⊎ ((r ≡ ValueNotAllowed) ⊎ (r ≡ BadEscape))

pub of_texts : (n : ℕ) (s : List ℕ) (r : Refusal) → texts n s ≡ Got.refused r → OfFields r
of_texts n s r e = by (texts_refuses n s r e)
  where
    by : (r ≡ MoreBytes) ⊎ (r ≡ BadEscape) → OfFields r
    by (inl m) = inl m
    by (inr m) = inr (inr m)

module _ (full : Bool) where
  -- what stands in front is an item's bytes, or the 00 behind the last
  abbrev Stands : List ℕ → Next → List ℕ → Type 0
  Stands s (Next.item i) rest = ItemAllowed full i × (s ≡ item_bytes i ++ rest)
  Stands s Next.end rest = s ≡ 0 ∷ rest

  pub next_exact : (s : List ℕ) (x : Next) (rest : List ℕ) → next full s ≡ Got.got x rest → Stands s x rest
  unfolding next item_bytes
  next_exact [] x rest e = let z : ◌≡◌ {A = ℕ} 0 1 = cc in absurd (omega arith)
  next_exact (id ∷ s) x rest e = zero? (eqb id 0) refl e
    where
      zero? : (b : Bool) → eqb id 0 ≡ b → next full (id ∷ s) ≡ Got.got x rest → Stands (id ∷ s) x rest
      zero? true p e =
          let g = same (rw p at e) in
          subst (λ (y : Next). Stands (id ∷ s) y rest) g.0 (rw (eqb-true id 0 p, g.1) refl)
      zero? false p e = allowed? (id_allowed id) refl (rw p at e)
        where
          allowed? : (b : Bool) → id_allowed id ≡ b → if (id_allowed id) (go_on (texts (item_strings full id) s) (λ ts. give (Next.item (record { id = id; texts = ts }))))
              (Got.refused ValueNotAllowed) ≡ Got.got x rest → Stands (id ∷ s) x rest
          allowed? true q e =
              let f = split (texts (item_strings full id) s) (λ ts. give (Next.item (record { id = id; texts = ts }))) x rest (rw q at e) in
              let g = same f.goes in
              let t = texts_exact (item_strings full id) s f.value f.behind f.got in
              subst (λ (y : Next). Stands (id ∷ s) y rest) g.0 ((q, t.0), ap (λ (m : List ℕ). id ∷ m) (t.1 ∙ ap (λ (m : List ℕ). strings f.value ++ m) g.1))
          allowed? false q e = let d = rw q at e in let z : ◌≡◌ {A = ℕ} 0 1 = cc in absurd (omega arith)

  -- no id that is allowed is 00
  pub id_not_zero : (id : ℕ) → id_allowed id ≡ true → eqb id 0 ≡ false
  unfolding id_allowed
  id_not_zero zero p = let z : ◌≡◌ {A = ℕ} 0 1 = cc in absurd (omega arith)
  id_not_zero (suc n) p = ne_eqb (suc n) 0 (λ (e : suc n ≡ 0). omega arith)

  pub next-item : (i : Item) (rest : List ℕ) → ItemAllowed full i → next full (item_bytes i ++ rest) ≡ Got.got (Next.item i) rest
  unfolding next item_bytes
  next-item i rest h =
      let t : texts (item_strings full i.id) (strings i.texts ++ rest) ≡ Got.got i.texts rest = ap (λ (n : ℕ). texts n (strings i.texts ++ rest)) (sym h.1)
      ∙ texts-written i.texts rest in
      rw (id_not_zero i.id h.0) (rw h.0 (rw t refl))

  pub next-end : (rest : List ℕ) → next full (0 ∷ rest) ≡ Got.got Next.end rest
  unfolding next
  next-end rest = refl

  pub next_refuses : (s : List ℕ) (r : Refusal) → next full s ≡ Got.refused r → OfFields r
  unfolding next
  next_refuses [] r e = inl (cc)
  next_refuses (id ∷ s) r e = zero? (eqb id 0) refl e
    where
      zero? : (b : Bool) → eqb id 0 ≡ b → next full (id ∷ s) ≡ Got.refused r → OfFields r
      zero? true p e = let d = rw p at e in let z : ◌≡◌ {A = ℕ} 0 1 = cc in absurd (omega arith)
      zero? false p e = allowed? (id_allowed id) refl (rw p at e)
        where
          allowed? : (b : Bool) → id_allowed id ≡ b → if (id_allowed id) (go_on (texts (item_strings full id) s) (λ ts. give (Next.item (record { id = id; texts = ts }))))
              (Got.refused ValueNotAllowed) ≡ Got.refused r → OfFields r
          allowed? false q e = let d = rw q at e in inr (inl (cc))
          allowed? true q e = by (stopped (texts (item_strings full id) s) (λ ts. give (Next.item (record { id = id; texts = ts }))) r (rw q at e))
            where
              by : (texts (item_strings full id) s ≡ Got.refused r) ⊎ Split (texts (item_strings full id) s) (λ ts. give (Next.item (record { id = id; texts = ts }))) (Got.refused r) → OfFields r
              by (inl d) = of_texts (item_strings full id) s r d
              by (inr d) = let g = d.goes in let z : ◌≡◌ {A = ℕ} 0 1 = cc in absurd (omega arith)

  -- an item more, ahead of what follows
  abbrev with : Item → Got (List Item) → Got (List Item)
  with i x = go_on x (λ is. give (i ∷ is))

  items-item : (n : ℕ) (s : List ℕ) (i : Item) (rest : List ℕ) → next full s ≡ Got.got (Next.item i) rest → items (suc n) full s ≡ with i (items n full rest)
  unfolding items
  items-item n s i rest e = rw e refl

  items-end : (n : ℕ) (s rest : List ℕ) → next full s ≡ Got.got Next.end rest → items (suc n) full s ≡ Got.got [] rest
  unfolding items
  items-end n s rest e = rw e refl

  items_refused : (n : ℕ) (s : List ℕ) (r : Refusal) → next full s ≡ Got.refused r → items (suc n) full s ≡ Got.refused r
  unfolding items
  items_refused n s r e = rw e refl

  abbrev Are : List ℕ → List Item → List ℕ → Type 0
  Are s is rest = ItemsAllowed full is × (s ≡ items_bytes is ++ (0 ∷ rest))

  -- the items that were read are what a writer writes
  pub items_exact : (n : ℕ) (s : List ℕ) (is : List Item) (rest : List ℕ) → items n full s ≡ Got.got is rest → Are s is rest
  unfolding items flat_map
  items_exact zero s is rest e = let z : ◌≡◌ {A = ℕ} 0 1 = cc in absurd (omega arith)
  items_exact (suc n) s is rest e = by (items_exact n) (next full s) refl
    where
      by : ((s : List ℕ) (is : List Item) (rest : List ℕ) → items n full s ≡ Got.got is rest → Are s is rest) → (x : Got Next) → next full s ≡ x → Are s is rest
      by more (Got.refused r) p = let d : Got.refused r ≡ Got.got is rest = sym (items_refused n s r p) ∙ e in let z : ◌≡◌ {A = ℕ} 0 1 = cc in absurd (omega arith)
      by more (Got.got Next.end left) p =
          let g = same (sym (items-end n s left p) ∙ e) in
          subst (λ (js : List Item). Are s js rest) g.0 (tt, next_exact s Next.end left p ∙ ap (λ (m : List ℕ). 0 ∷ m) g.1)
      by more (Got.got (Next.item i) left) p =
          let f = split (items n full left) (λ js. give (i ∷ js)) is rest (sym (items-item n s i left p) ∙ e) in
          let g = same f.goes in
          let h = next_exact s (Next.item i) left p in
          let k = more left f.value f.behind f.got in
          let w = h.1 ∙ ap (λ (m : List ℕ). item_bytes i ++ m) k.1 ∙ sym (append_assoc (item_bytes i) (items_bytes f.value) (0 ∷ f.behind))
          ∙ ap (λ (m : List ℕ). item_bytes i ++ items_bytes f.value ++ (0 ∷ m)) g.1 in
          subst (λ (js : List Item). Are s js rest) g.0 ((h.0, k.0), w)

  pub items-written : (n : ℕ) (is : List Item) (rest : List ℕ) → ItemsAllowed full is → length is < n → items n full (items_bytes is ++ (0 ∷ rest)) ≡ Got.got is rest
  unfolding flat_map
  items-written zero is rest a h = absurd (omega arith)
  items-written (suc n) [] rest a h = items-end n (0 ∷ rest) rest (next-end rest)
  items-written (suc n) (i ∷ is) rest a h =
      let e = ap (next full) (append_assoc (item_bytes i) (items_bytes is) (0 ∷ rest)) ∙ next-item i (items_bytes is ++ (0 ∷ rest)) a.0 in
      items-item n _ i (items_bytes is ++ (0 ∷ rest)) e ∙ ap (with i) (items-written n is rest a.1 (omega arith))

  -- there are fewer items than bytes
  pub items-few : (is : List Item) (rest : List ℕ) → length is < length (items_bytes is ++ (0 ∷ rest))
  unfolding flat_map item_bytes
  items-few [] rest = omega arith
  items-few (i ∷ is) rest =
      let k = items-few is rest in
      let l = length-append (items_bytes is) (0 ∷ rest) in
      let m = length-append (i.id ∷ strings i.texts ++ items_bytes is) (0 ∷ rest) in
      let o = length-append (strings i.texts) (items_bytes is) in
      omega arith

  pub items_refuses : (n : ℕ) (s : List ℕ) (r : Refusal) → items n full s ≡ Got.refused r → OfFields r
  unfolding items
  items_refuses zero s r e = inl (cc)
  items_refuses (suc n) s r e = by (items_refuses n) (next full s) refl
    where
      by : ((s : List ℕ) (r : Refusal) → items n full s ≡ Got.refused r → OfFields r) → (x : Got Next) → next full s ≡ x → OfFields r
      by more (Got.refused q) p = let d : Got.refused q ≡ Got.refused r = sym (items_refused n s q p) ∙ e in let z : q ≡ r = cc in next_refuses s r (p ∙ ap Got.refused z)
      by more (Got.got Next.end left) p = let d : Got.got [] left ≡ Got.refused r = sym (items-end n s left p) ∙ e in let z : ◌≡◌ {A = ℕ} 0 1 = cc in absurd (omega arith)
      by more (Got.got (Next.item i) left) p = then (stopped (items n full left) (λ js. give (i ∷ js)) r (sym (items-item n s i left p) ∙ e))
        where
          then : (items n full left ≡ Got.refused r) ⊎ Split (items n full left) (λ js. give (i ∷ js)) (Got.refused r) → OfFields r
          then (inl d) = more left r d
          then (inr d) = let g = d.goes in let z : ◌≡◌ {A = ℕ} 0 1 = cc in absurd (omega arith)
