-- The loop of `put_few`: n bytes of the text stand in the output, and i is the next byte to look at.
use mathlib.Core.Path.{◌≡◌, refl, subst, sym, ap, ◌∙◌}
use mathlib.Core.List.{List}
use mathlib.Core.Bool.{Bool, true, false, not}
use Prim.Native.Nat.{ℕ, ◌+◌, ◌*◌, ◌-◌, ◌≤◌, ◌<◌}
use native.Mathlib.Omega.{arith}
use lib.Dec.{eqb}
use lib.ListN.{length, drop, get_or, set}
use borrow.Author.Tests.{eqb-true}
use Rattle.wire.specs.Bytes.{if, splice}
use Rattle.wire.proofs.Splices.{Ahead}
use Rattle.basex_string.specs.Scan.{scan, reading}
use Rattle.basex_string.specs.inner.Storing.{text_read}
use Rattle.basex_string.proofs.Steps.{ahead-from, ahead-one}
use Rattle.basex_string.proofs.Parts.{ahead-set}
use Rattle.basex_string.proofs.Scans.{opening, escape, text-left, text-byte}

-- e: an FF was read that escapes the byte at i, and stands where that byte goes
pub record Midst (s : List ℕ) (from most : ℕ) (t d : List ℕ) (to n i : ℕ) (e : Bool) : Type 0 where
  pub past : from ≤ i
  pub goes : i ≤ from + 2 * n + if e 1 0
  pub more : n + if e 1 0 ≤ most
  pub adds : n + length (text_read (scan e (drop i s))) ≡ most
  pub back : e ≡ true → text_read (reading (drop (i - 1) s)) ≡ text_read (scan e (drop i s))
  pub ahead : Ahead t d (to + n) (text_read (scan e (drop i s)))

pub one_at_most : (e : Bool) → if e 1 0 ≤ 1
one_at_most true = omega arith
one_at_most false = omega arith

pub midst_start : (s : List ℕ) (from most : ℕ) (d : List ℕ) (to : ℕ) → most ≡ length (text_read (reading (drop from s))) → to + most ≤ length d
    → Midst s from most (splice d to (text_read (reading (drop from s)))) d to 0 from false
midst_start s from most d to e f =
    record {
      past = omega arith;
      goes = omega arith;
      more = omega arith;
      adds = omega arith;
      back = (λ (p : false ≡ true). cc);
      ahead = ahead-from d to (text_read (reading (drop from s)))
          (omega arith);
    }

module _ {s : List ℕ} {from most : ℕ} {t d : List ℕ} {to n i : ℕ} {e : Bool} (m : Midst s from most t d to n i e) where
  -- it ends where no text is left
  pub midst_end : most ≤ n → e ≡ false
  midst_end h = by e m.more
    where
      by : (e : Bool) → n + if e 1 0 ≤ most → e ≡ false
      by true k = absurd (omega arith)
      by false k = refl

  -- it may stop ahead of what is left, at an FF too
  pub midst_stop : (k : ℕ) → text_read (reading (drop k s)) ≡ text_read (scan e (drop i s)) → (n + length (text_read (reading (drop k s))) ≡ most)
      × (splice d (to + n) (text_read (reading (drop k s))) ≡ t)
  midst_stop k p = let l = ap length p in let a = m.adds in (omega arith, ap (splice d (to + n)) p ∙ m.ahead.makes)

  module _ (h : n < most) where
    left : 0 < length (text_read (scan e (drop i s)))
    left = let a = m.adds in omega arith

    pub midst_here : i < length s
    midst_here = text-left e s i left

    open_step : e ≡ false → get_or s i 0 ≡ 255 → Midst s from most t (set d (to + n) (get_or s i 0)) to n (i + 1) true
    open_step p q =
        let g = m.goes in
        let b = m.past in
        let a = m.adds in
        let z = ap {B = ℕ} (λ (f : Bool). if f 1 0) p in
        let x = ap (λ (f : Bool). text_read (scan f (drop i s))) p ∙ ap text_read (escape s i midst_here q) in
        let l = ap length x in
        let j : i + 1 - 1 ≡ i = omega arith in
        record {
          past = omega arith;
          goes = omega arith;
          more = omega arith;
          adds = omega arith;
          back = (λ (w : true ≡ true). ap (λ (k : ℕ). text_read (reading (drop k s))) j ∙ ap text_read
              (escape s i midst_here q));
          ahead = subst (Ahead t (set d (to + n) (get_or s i 0)) (to + n)) x (ahead-set (get_or s i 0) m.ahead left);
        }

    byte_step : opening (get_or s i 0) e ≡ false → Midst s from most t (set d (to + n) (get_or s i 0)) to (n + 1) (i + 1) false
    byte_step o =
        let g = m.goes in
        let b = m.past in
        let a = m.adds in
        let z = one_at_most e in
        let x = text-byte e s i left o in
        let l = ap length x in
        record { past = omega arith; goes = omega arith; more = omega arith; adds = omega arith; back = (λ (w : false ≡ true). cc); ahead = ahead-one to n x m.ahead }

    -- the byte at i is stored; r says whether it escapes the next one, and k counts it otherwise
    pub midst_next : {r : Bool} {k : ℕ} → r ≡ opening (get_or s i 0) e → k ≡ n + if r 0 1 → Midst s from most t (set d (to + n) (get_or s i 0)) to k (i + 1) r
    midst_next {r} {k} o q = by r o q
      where
        to_open : (f e : Bool) → true ≡ if f (not e) false → (e ≡ false) × (f ≡ true)
        to_open true true p = ((cc), (cc))
        to_open true false p = (refl, refl)
        to_open false e p = ((cc), (cc))

        by : (r : Bool) → r ≡ opening (get_or s i 0) e → k ≡ n + if r 0 1 → Midst s from most t (set d (to + n) (get_or s i 0)) to k (i + 1) r
        by true o q =
            let p = to_open (eqb (get_or s i 0) 255) e o in
            let z : n ≡ k = omega arith in
            subst (λ (j : ℕ). Midst s from most t (set d (to + n) (get_or s i 0)) to j (i + 1) true) z (open_step p.0 (eqb-true (get_or s i 0) 255 p.1))
        by false o q = subst (λ (j : ℕ). Midst s from most t (set d (to + n) (get_or s i 0)) to j (i + 1) false) (sym q) (byte_step (sym o))
