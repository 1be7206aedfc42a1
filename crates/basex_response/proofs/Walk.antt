-- The walk over a list of items in a slice: each starts where the one before it ends.
use Rattle.std.specs.Prelude.{Result, Ok, Err}
use Rattle.basex_response.specs.inner.Judging.{items_there, items_at}
use mathlib.Core.Path.{◌≡◌, refl, sym, ap, ◌∙◌}
use mathlib.Core.Bool.{Bool, true, false}
use mathlib.Core.List.{List, ◌∷◌, ◌++◌, flatten, flat_map}
use Prim.Native.Nat.{ℕ, suc, ◌+◌, ◌-◌}
use native.Mathlib.Omega.{arith}
use lib.ListN.{length, drop, length-append, length-drop}
use Rattle.wire.specs.Bytes.{if}
use Rattle.wire.specs.Fields.{Got, go_on, give}
use Rattle.wire.specs.declared.Refusal.{Refusal}
use Rattle.basex.specs.Kinds.{has_uri, item_strings}
use Rattle.basex.specs.Response.{Item, item_bytes}
use Rattle.basex.specs.Texts.{length_at}
use Rattle.basex.proofs.Texts.{texts_exact}
use Rattle.basex_response.specs.declared.ItemAt.TheVariants as item-at
use Rattle.basex_response.specs.declared.items.ItemsAt.{ItemsAt}
use Rattle.basex_response.specs.Items.{Next, next, list, item_texts, item_at, uri_length, text_length}
use Rattle.basex_response.proofs.Sizes.{flatten-append, two-lengths, one-length, all_of, behind-at, behind-is}
use Rattle.basex_response.proofs.Lists.{next-item, item_exact, item-size, list-refused, list-end, list-item, list-room}

-- an item's URI and text are all of its texts
item-lengths : (full : Bool) (i : Item) → length i.texts ≡ item_strings full i.id → uri_length full i + text_length full i ≡ length (flatten i.texts)
item-lengths full i e = by (has_uri full i.id) e
  where
    by : (u : Bool) → length i.texts ≡ if u 2 1 → if u (length_at i.texts 0) 0 + if u (length_at i.texts 1) (length_at i.texts 0) ≡ length (flatten i.texts)
    by true p = two-lengths i.texts (omega arith)
    by false p = let l = one-length i.texts (omega arith) in omega arith

-- an item stands at `at`: what stands behind it, and where that starts
pub record Here (full : Bool) (b : List ℕ) (at uri text last : ℕ) : Type 0 where
  pub item : Item
  pub rest : List ℕ
  pub got : next full (drop at b) ≡ Got.got (Next.item item) rest
  pub sizes : uri + text ≡ length (flatten item.texts)
  pub ends : last ≡ at + length (item_bytes item)
  pub behind : drop last b ≡ rest
  pub sum : last + length rest ≡ length b

module _ (full : Bool) (b : List ℕ) (at : ℕ) where
  stands : (i : Item) (rest : List ℕ) → next full (drop at b) ≡ Got.got (Next.item i) rest → Here full b at (uri_length full i) (text_length full i) (at + (length b - at - length rest))
  stands i rest e =
      let x = item_exact full (drop at b) i rest e in
      let f = next-item full (drop at b) i rest e in
      let a = all_of b at (item_bytes i) rest x in
      let n = behind-at b at (item_bytes i) rest x in
      let z = item-size i in
      record {
        item = i;
        rest = rest;
        got = e;
        sizes = item-lengths full i (texts_exact _ f.tail i.texts rest f.goes).0;
        ends = n;
        behind = ap (λ (m : ℕ). drop m b) n ∙ behind-is b at (item_bytes i) rest x;
        sum = omega arith;
      }

  pub here : (id uri text last : ℕ) → item_at full at (length b - at) (next full (drop at b)) ≡ Ok (item-at.Item id uri text last) → Here full b at uri text last
  here id uri text last e = by (next full (drop at b)) refl e
    where
      by : (x : Got Next) → next full (drop at b) ≡ x → item_at full at (length b - at) x ≡ Ok (item-at.Item id uri text last) → Here full b at uri text last
      by (Got.refused r) p q = let z : ◌≡◌ {A = ℕ} 0 1 = cc in absurd (omega arith)
      by (Got.got Next.end rest) p q = let z : ◌≡◌ {A = ℕ} 0 1 = cc in absurd (omega arith)
      by (Got.got (Next.item i) rest) p q =
          let s = stands i rest p in
          let u : uri ≡ uri_length full i = cc in
          let t : text ≡ text_length full i = cc in
          let l : last ≡ at + (length b - at - length rest) = cc in
          rw (u, t, l) s

  not_here : (r : Refusal) → item_at full at (length b - at) (next full (drop at b)) ≡ Err r → next full (drop at b) ≡ Got.refused r
  not_here r e = by (next full (drop at b)) e
    where
      by : (x : Got Next) → item_at full at (length b - at) x ≡ Err r → x ≡ Got.refused r
      by (Got.refused q) p = let z : q ≡ r = cc in ap Got.refused z
      by (Got.got Next.end rest) p = let z : ◌≡◌ {A = ℕ} 0 1 = cc in absurd (omega arith)
      by (Got.got (Next.item i) rest) p = let z : ◌≡◌ {A = ℕ} 0 1 = cc in absurd (omega arith)

  -- what the list from here on is told as, by what stands here
  pub walk_refused : (r : Refusal) → item_at full at (length b - at) (next full (drop at b)) ≡ Err r → items_at at (length b - at) (list full (drop at b)) ≡ Err r
  walk_refused r e = ap (items_at at (length b - at)) (list-refused full (drop at b) r (not_here r e))

  pub walk_end : (last : ℕ) → item_at full at (length b - at) (next full (drop at b)) ≡ Ok (item-at.End last) → items_at at (length b - at) (list full (drop at b)) ≡ items_there 0 0 last
  unfolding flat_map flatten
  walk_end last e = by (next full (drop at b)) refl e
    where
      by : (x : Got Next) → next full (drop at b) ≡ x → item_at full at (length b - at) x ≡ Ok (item-at.End last) → items_at at (length b - at) (list full (drop at b)) ≡ items_there 0 0 last
      by (Got.refused r) p q = let z : ◌≡◌ {A = ℕ} 0 1 = cc in absurd (omega arith)
      by (Got.got (Next.item i) rest) p q = let z : ◌≡◌ {A = ℕ} 0 1 = cc in absurd (omega arith)
      by (Got.got Next.end rest) p q = let l : at + (length b - at - length rest) ≡ last = cc in rw (list-end full (drop at b) rest p) (ap (items_there 0 0) l)

-- so many items with so many bytes of text ahead of a list
abbrev pub after : ℕ → ℕ → Result ItemsAt Refusal → Result ItemsAt Refusal
after count listed (Err r) = Err r
after count listed (Ok told) = items_there (count + told.count) (listed + told.listed) told.next

pub after_none : (x : Result ItemsAt Refusal) → x ≡ after 0 0 x
after_none (Err r) = refl
after_none (Ok told) =
    let p : told.count ≡ 0 + told.count = omega arith in
    let q : told.listed ≡ 0 + told.listed = omega arith in
    ap (λ (n : ℕ). items_there n told.listed told.next) p ∙ ap (λ (n : ℕ). items_there (0 + told.count) n told.next) q

pub after_one : (count listed m : ℕ) (x : Result ItemsAt Refusal) → after count listed (after 1 m x) ≡ after (count + 1) (listed + m) x
after_one count listed m (Err r) = refl
after_one count listed m (Ok x) =
    let p : count + (1 + x.count) ≡ count + 1 + x.count = omega arith in
    let q : listed + (m + x.listed) ≡ listed + m + x.listed = omega arith in
    (cc)

pub walk_item : (full : Bool) (b : List ℕ) (at uri text last : ℕ) → Here full b at uri text last
    → items_at at (length b - at) (list full (drop at b)) ≡ after 1 (uri + text) (items_at last (length b - last) (list full (drop last b)))
unfolding flat_map
walk_item full b at uri text last h = ap (items_at at (length b - at)) (list-item full (drop at b) h.item h.rest h.got) ∙ by (list full (drop last b)) refl
  where
    by : (x : Got (List Item)) → list full (drop last b) ≡ x → items_at at (length b - at) (go_on (list full h.rest) (λ is. give (h.item ∷ is))) ≡ after 1 (uri + text)
        (items_at last (length b - last) x)
    by (Got.refused r) p = rw (ap (list full) (sym h.behind) ∙ p) refl
    by (Got.got is rest) p =
        let e = ap (list full) (sym h.behind) ∙ p in
        let l = list-room full (drop last b) is rest p in
        let d = length-drop last b in
        let t = h.ends in
        let u = h.sizes in
        let n : suc (length is) ≡ 1 + length is = omega arith in
        let m : length (flatten (h.item.texts ++ item_texts is)) ≡ uri + text + length (flatten (item_texts is)) = omega
        (arith, ap length (flatten-append h.item.texts (item_texts is)), length-append (flatten h.item.texts) (flatten (item_texts is))) in
        let k : at + (length b - at - length rest) ≡ last + (length b - last - length rest) = omega arith in
        rw e (cc)
