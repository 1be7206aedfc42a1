-- The last byte of a front, repeated.
use Rattle.std.specs.Prelude.{Option, Some, None}
use mathlib.Core.Path.{◌≡◌, refl, ap, ◌∙◌}
use mathlib.Core.List.{List, ◌++◌}
use mathlib.Core.Bool.{Bool, true, false}
use Prim.Native.Nat.{ℕ, ◌+◌, ◌-◌, ◌≤◌, ◌<◌}
use native.Mathlib.Omega.{arith}
use lib.Dec.{eqb, ltb}
use lib.ListN.{length, take, get_or, length-append, replicate, length-replicate}
use lib.Seq.{length-take-le, get_or-take}
use borrow.Author.Tests.{eq-eqb, ne_eqb, ltb-true, ltb-false}
use Rattle.wire.specs.Bytes.{if, splice}
use Rattle.wire.proofs.Splices.{put_mid-splice, splice-splice}
use borrow.Rule.Slice.PartMut.{put_mid}
use Rattle.text_lines.specs.Spelling.{and_then, first_of, that_fit, with_last, last_at, Spells}
use Rattle.text_lines.proofs.Fronts.{answers, first_short, first-whole, room-none, room-some, over_first}

-- the first n bytes of d, and the last of them k times more
abbrev pub again : List ℕ → ℕ → ℕ → List ℕ
again d n k = take n d ++ replicate k (get_or d (n - 1) 0)

length-again : (d : List ℕ) (n k : ℕ) → n ≤ length d → length (again d n k) ≡ n + k
length-again d n k h = omega (arith, length-append (take n d) (replicate k (get_or d (n - 1) 0)), length-take-le n d h, length-replicate k (get_or d (n - 1) 0))

module _ (d : List ℕ) (n times : ℕ) where
  pub last_of_none : n ≡ 0 → last_at d n times ≡ None
  unfolding with_last
  last_of_none e =
      let h : n ≤ length d = omega arith in
      let l : length (take n d) ≡ 0 = length-take-le n d h ∙ e in
      rw (first-whole d n h) (simp (eq-eqb (length (take n d)) 0 l))

  pub last_never : times ≡ 0 → last_at d n times ≡ None
  unfolding with_last
  last_never e = by (first_of d n)
    where
      either : (b : Bool) {x : Option (List ℕ)} → x ≡ None → if b None x ≡ None
      either true p = refl
      either false p = p

      by : (o : Option (List ℕ)) → and_then o (λ t. that_fit (length d) (with_last t times)) ≡ None
      by None = refl
      by (Some t) = ap (that_fit (length d)) (either (eqb (length t) 0) (simp (eq-eqb times 0 e)))

  module _ (p : n ≡ 0 → ⊥) (q : times ≡ 0 → ⊥) where
    last-is : n ≤ length d → last_at d n times ≡ that_fit (length d) (Some (again d n (times - 1)))
    unfolding with_last
    last-is h =
        let l : length (take n d) ≡ n = length-take-le n d h in
        let k : n - 1 < n = omega arith in
        rw (first-whole d n h) (simp (l, ne_eqb n 0 p, ne_eqb times 0 q, get_or-take n d (n - 1) 0 k))

    pub last-long : length d < n + (times - 1) → last_at d n times ≡ None
    last-long r = by (ltb (length d) n) refl
      where
        by : (b : Bool) → ltb (length d) n ≡ b → last_at d n times ≡ None
        by true e = rw (first_short d n (ltb-true _ _ e))
        by false e =
            let h = ltb-false _ _ e in
            let l = length-again d n (times - 1) h in
            last-is h ∙ room-none (length d) (again d n (times - 1)) (omega arith)

    pub last_end : {out : List ℕ} → n + (times - 1) ≤ length d → out ≡ splice d 0 (again d n (times - 1)) → Spells d n (last_at d n times) (Some (n + (times - 1))) out
    last_end r w =
        let h : n ≤ length d = omega arith in
        let l = length-again d n (times - 1) h in
        answers (again d n (times - 1)) (last-is h ∙ room-some (length d) (again d n (times - 1)) (omega arith)) (omega arith) (record { makes = w; grows = omega arith; fits = omega arith })

-- k bytes put behind the first n of d
pub filled : (d ys : List ℕ) (n k : ℕ) → k ≡ length ys → n + k ≤ length d → put_mid n k d ys ≡ splice d 0 (take n d ++ ys)
filled d ys n k e h =
    let l : length (take n d) ≡ n = length-take-le n d (omega arith) in
    let m : n ≡ 0 + length (take n d) = omega arith in
    ap (λ (i : ℕ). put_mid n i d ys) e
    ∙ put_mid-splice d n ys
    ∙ ap (λ (y : List ℕ). splice y n ys) (over_first d n (omega arith))
    ∙ ap (λ (i : ℕ). splice (splice d 0 (take n d)) i ys) m
    ∙ splice-splice d 0 (take n d) ys (omega arith)
