-- Storing a list of items that was judged: what is still ahead makes the whole.
use mathlib.Core.Path.{◌≡◌, refl, sym, ap, subst, ◌∙◌}
use mathlib.Core.Bool.{Bool, true, false}
use mathlib.Core.List.{List, [], ◌∷◌, ◌++◌, flatten, flat_map}
use Prim.Native.Nat.{ℕ, suc, ◌+◌, ◌-◌, ◌≤◌, ◌<◌}
use native.Mathlib.Omega.{arith}
use lib.ListN.{length, get_or, drop, length-append, length-drop}
use Rattle.wire.specs.Bytes.{splice}
use Rattle.wire.specs.Call.{Gives}
use Rattle.wire.specs.Fields.{Got, go_on, give}
use Rattle.wire.proofs.Splices.{Ahead, start, step, put_at-fits, splice-none}
use Rattle.basex_string.proofs.Steps.{here, ahead_none}
use Rattle.basex_string.specs.declared.Ends.{Ends}
use Rattle.basex.specs.declared.Reply.{Reply}
use Rattle.basex.specs.Kinds.{item_strings, listed, is_full}
use Rattle.basex.specs.Response.{Item, items_bytes}
use Rattle.basex.specs.Texts.{strings, texts, TextsStored, texts_stored, ends}
use Rattle.basex.proofs.Texts.{texts_exact, texts-stored}
use Rattle.basex_response.specs.Items.{Next, next, list, item_texts}
use Rattle.basex_response.specs.Reading.{list_field}
use Rattle.basex_response.specs.inner.Judging.{ListFits, list_stored}
use Rattle.basex_response.proofs.Sizes.{flatten-append, all_of, behind-at, behind-is}
use Rattle.basex_response.proofs.Lists.{next-item, list-refused, list-end, list-item, list_exact}

-- so many bytes were put from `to` on; the rest is to be read from there, and what is ahead makes t
pub record Put (b t : List ℕ) (at to size : ℕ) (rest : List ℕ) (r : Ends) (out ahead : List ℕ) : Type 0 where
  pub reads : drop r.next b ≡ rest
  pub sum : r.next + length rest ≡ length b
  pub on : at ≤ r.next
  pub free : r.to ≡ to + size
  pub writes : Ahead t out r.to ahead

-- texts that were judged, and more ahead
pub put-texts : (b t : List ℕ) (at to n : ℕ) (ts : List (List ℕ)) (rest out ahead : List ℕ) → at ≤ length b → texts n (drop at b) ≡ Got.got ts rest → Ahead t out to (flatten ts ++ ahead)
    → (r : Ends) (out' : List ℕ) → r ≡ ends at (length b - at) (texts_stored n out to (drop at b)) → out' ≡ (texts_stored n out to (drop at b)).out → Put b t at to (length (flatten ts)) rest r out' ahead
put-texts b t at to n ts rest out ahead h x w r out' p q =
    let l = length-append (flatten ts) ahead in
    let fit : to + length (flatten ts) ≤ length out = let z = w.fits in omega arith in
    let st = texts-stored n out to (drop at b) ts rest x fit in
    let y = (texts_exact n (drop at b) ts rest x).1 in
    let z = all_of b at (strings ts) rest y in
    let rn : r.next ≡ at + length (strings ts) = ap (λ (m : Ends). m.next) (p ∙ ap (ends at (length b - at)) st) ∙ behind-at b at (strings ts) rest y in
    let rt : r.to ≡ to + length (flatten ts) = ap (λ (m : Ends). m.to) (p ∙ ap (ends at (length b - at)) st) in
    let o : out' ≡ splice out to (flatten ts) = q ∙ ap (λ (m : TextsStored). m.out) st in
    record {
      reads = ap (λ (m : ℕ). drop m b) rn ∙ behind-is b at (strings ts) rest y;
      sum = omega arith;
      on = omega arith;
      free = rt;
      writes = step (flatten ts) r.to w (o ∙ sym (put_at-fits out to (flatten ts) fit)) rt;
    }

-- a list with a first item: the item, and the list behind it
record More (full : Bool) (s : List ℕ) (i : Item) (is : List Item) (rest : List ℕ) : Type 0 where
  behind : List ℕ
  first : next full s ≡ Got.got (Next.item i) behind
  then : list full behind ≡ Got.got is rest

list-more : (full : Bool) (s : List ℕ) (i : Item) (is : List Item) (rest : List ℕ) → list full s ≡ Got.got (i ∷ is) rest → More full s i is rest
list-more full s i is rest e = by (next full s) refl
  where
    by : (x : Got Next) → next full s ≡ x → More full s i is rest
    by (Got.refused r) p = let g = sym (list-refused full s r p) ∙ e in let z : ◌≡◌ {A = ℕ} 0 1 = cc in absurd (omega arith)
    by (Got.got Next.end more) p = let g = sym (list-end full s more p) ∙ e in let z : ◌≡◌ {A = ℕ} 0 1 = cc in absurd (omega arith)
    by (Got.got (Next.item j) more) p = then (list full more) refl (sym (list-item full s j more p) ∙ e)
      where
        then : (y : Got (List Item)) → list full more ≡ y → go_on y (λ js. give (j ∷ js)) ≡ Got.got (i ∷ is) rest → More full s i is rest
        then (Got.refused r) q f = let z : ◌≡◌ {A = ℕ} 0 1 = cc in absurd (omega arith)
        then (Got.got js last) q f =
            let a : j ≡ i = cc in
            let b : js ≡ is = cc in
            let l : last ≡ rest = cc in
            record { behind = more; first = p ∙ ap (λ (k : Item). Got.got (Next.item k) more) a; then = q ∙ ap (λ (ks : List Item). Got.got ks last) b ∙ ap (Got.got is) l }

-- from `from` on so many items are left; their texts, put from `to` on, make the whole
pub record Going (full : Bool) (b : List ℕ) (whole : TextsStored) (from left : ℕ) (out : List ℕ) (to : ℕ) : Type 0 where
  pub is : List Item
  pub got : list full (drop from b) ≡ Got.got is whole.rest
  pub count : left ≡ length is
  pub ahead : Ahead whole.out out to (flatten (item_texts is))
  pub ends : to + length (flatten (item_texts is)) ≡ whole.to

pub going_start : (full : Bool) (b : List ℕ) (at count left : ℕ) (out : List ℕ) (to : ℕ) → ListFits count to (length out) (list full (drop at b)) → left ≡ count
    → Going full b (list_stored out to (list full (drop at b))) at left out to
going_start full b at count left out to h e = by (list full (drop at b)) refl h
  where
    by : (x : Got (List Item)) → list full (drop at b) ≡ x → ListFits count to (length out) x → Going full b (list_stored out to x) at left out to
    by (Got.refused r) p f = absurd f
    by (Got.got is rest) p f = record { is = is; got = p; count = e ∙ f.0; ahead = start out to (flatten (item_texts is)) f.1; ends = refl }

-- one turn
module _ (full : Bool) (b : List ℕ) (whole : TextsStored) (from left : ℕ) (out : List ℕ) (to : ℕ) (g : Going full b whole from left out to) where
  pub going_inside : from < length b
  going_inside = let x = ap length (list_exact full (drop from b) g.is whole.rest g.got) in omega (arith, length-drop from b, length-append (items_bytes g.is) (0 ∷ whole.rest))

  module _ (n : ℕ) (e : n ≡ item_strings full (get_or b from 0)) (r : Ends) (out' : List ℕ)
      (p : r ≡ ends (from + 1) (length b - (from + 1)) (texts_stored n out to (drop (from + 1) b))) (q : out' ≡ (texts_stored n out to (drop (from + 1) b)).out) where
    pub going_on : (k : ℕ) → left ≡ suc k → Going full b whole r.next k out' r.to × (from ≤ r.next)
    unfolding flat_map
    going_on k h = by g.is g.got g.count g.ahead g.ends
      where
        by : (is : List Item) → list full (drop from b) ≡ Got.got is whole.rest → left ≡ length is → Ahead whole.out out to (flatten (item_texts is))
            → to + length (flatten (item_texts is)) ≡ whole.to → Going full b whole r.next k out' r.to × (from ≤ r.next)
        by [] s c a t = absurd (omega arith)
        by (i ∷ is) s c a t =
            let m = list-more full (drop from b) i is whole.rest s in
            let f = next-item full (drop from b) i m.behind m.first in
            let d : get_or b from 0 ∷ drop (from + 1) b ≡ i.id ∷ f.tail = sym (here b from going_inside) ∙ f.starts in
            let k' : get_or b from 0 ≡ i.id = cc in
            let j : drop (from + 1) b ≡ f.tail = cc in
            let x : texts n (drop (from + 1) b) ≡ Got.got i.texts m.behind = ap (λ (z : ℕ). texts z (drop (from + 1) b)) (e ∙ ap (item_strings full) k')
            ∙ ap (texts (item_strings full i.id)) j ∙ f.goes in
            let v = flatten-append i.texts (item_texts is) in
            let w : Ahead whole.out out to (flatten i.texts ++ flatten (item_texts is)) = subst (Ahead whole.out out to) v a in
            let y = put-texts b whole.out (from + 1) to n i.texts m.behind out (flatten (item_texts is)) (let h' = going_inside in omega arith) x w r out' p q in
            let l = ap length v ∙ length-append (flatten i.texts) (flatten (item_texts is)) in
            let u = y.free in
            let o = y.on in
            (record { is = is; got = ap (list full) y.reads ∙ m.then; count = omega arith; ahead = y.writes; ends = omega arith }, omega arith)

  pub going_done : (at : ℕ) → at ≤ from → left ≡ 0 → Gives (ends at (length b - at) whole) whole.out (record { next = from + 1; to = to }) out
  unfolding flat_map flatten
  going_done at k h = by g.is g.got g.count g.ahead g.ends
    where
      by : (is : List Item) → list full (drop from b) ≡ Got.got is whole.rest → left ≡ length is → Ahead whole.out out to (flatten (item_texts is))
          → to + length (flatten (item_texts is)) ≡ whole.to
          → Gives (ends at (length b - at) whole) whole.out (record { next = from + 1; to = to }) out
      by (i ∷ is) s c a t = absurd (omega arith)
      by [] s c a t =
          let x = ap length (list_exact full (drop from b) [] whole.rest s) in
          let d = length-drop from b in
          let n : from + 1 ≡ at + (length b - at - length whole.rest) = omega arith in
          let m : to ≡ whole.to = omega arith in
          let k : ℕ = at + (length b - at - length whole.rest) in
          record { answers = ap (λ (z : ℕ). record { next = z; to = to }) n ∙ ap (λ (z : ℕ). record { next = k; to = z }) m; leaves = ahead_none a refl }

-- the list of a response, or none
module _ (reply : Reply) (s : List ℕ) where
  pub field_list_lem : (f : Bool) → listed reply ≡ true → f ≡ is_full reply → list f s ≡ list_field reply s
  field_list_lem f e p = rw (e, p) refl

  pub field_none : listed reply ≡ false → list_field reply s ≡ Got.got [] s
  field_none e = rw e refl

pub none-stored : (reply : Reply) (b : List ℕ) (at : ℕ) (out : List ℕ) (to : ℕ) → listed reply ≡ false
    → Gives (ends at (length b - at) (list_stored out to (list_field reply (drop at b)))) (list_stored out to (list_field reply (drop at b))).out (record { next = at; to = to }) out
unfolding flat_map flatten
none-stored reply b at out to e =
    let n : at ≡ at + (length b - at - length (drop at b)) = omega (arith, length-drop at b) in
    let m : to ≡ to + 0 = omega arith in
    let k : ℕ = at + (length b - at - length (drop at b)) in
    rw (field_none reply (drop at b) e) (record {
      answers = ap (λ (z : ℕ). record { next = z; to = to }) n ∙ ap (λ (z : ℕ). record { next = k; to = z }) m;
      leaves = sym (splice-none out to);
    })
