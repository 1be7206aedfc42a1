-- The loop over pairs of digits.
use Rattle.std.specs.Prelude.{Option, Some, None}
use mathlib.Core.Path.{◌≡◌, refl, ap, ◌∙◌}
use mathlib.Core.List.{List, [], ◌∷◌, ◌++◌}
use mathlib.Core.Bool.{Bool, true, false}
use Prim.Native.Nat.{ℕ, ◌+◌, ◌*◌, ◌/◌, ◌%◌, ◌≤◌, ◌<◌}
use native.Mathlib.Omega.{arith}
use lib.Dec.{ltb}
use lib.ListN.{length, take, drop, get_or, length-append, drop_of_length-le}
use lib.Seq.{length-take-le}
use borrow.Author.Tests.{lt-ltb, le-ltb, ltb-true, ltb-false}
use Rattle.wire.specs.Bytes.{if, splice}
use Rattle.wire.specs.Call.{put_at}
use Rattle.text_lines.specs.Numbers.{digit_of}
use Rattle.text_lines.specs.Spelling.{and_then, first_of, that_fit, with_pairs, pairs_at, Spells}
use Rattle.text_lines.proofs.Parts.{drop_here}
use Rattle.text_lines.proofs.Fronts.{answers, first_short, first-whole, room-none, room-some, over_first, front-byte}

-- the byte that two digits spell
abbrev pub byte_of : ℕ → ℕ → ℕ
byte_of a b = digit_of a * 16 + digit_of b

odd_pairs : (t s : List ℕ) → (length s % 2 ≡ 0 → ⊥) → with_pairs t s ≡ None
unfolding with_pairs
odd_pairs t [] h = absurd (h refl)
odd_pairs t (a ∷ []) h = refl
odd_pairs t (a ∷ b ∷ s) h = by (ltb 15 (digit_of a)) (ltb 15 (digit_of b)) (odd_pairs (t ++ (byte_of a b ∷ [])) s (λ (e : length s % 2 ≡ 0). h (omega arith)))
  where
    by : (p q : Bool) → with_pairs (t ++ (byte_of a b ∷ [])) s ≡ None → if p None (if q None (with_pairs (t ++ (byte_of a b ∷ [])) s)) ≡ None
    by true q e = refl
    by false true e = refl
    by false false e = e

long-pairs : (room : ℕ) (t s : List ℕ) → room < length t + length s / 2 → that_fit room (with_pairs t s) ≡ None
unfolding with_pairs
long-pairs room t [] h = room-none room t (omega arith)
long-pairs room t (a ∷ []) h = refl
long-pairs room t (a ∷ b ∷ s) h =
    let l = length-append t (byte_of a b ∷ []) in
    by (ltb 15 (digit_of a)) (ltb 15 (digit_of b)) (long-pairs room (t ++ (byte_of a b ∷ [])) s (omega arith))
  where
    by : (p q : Bool) → that_fit room (with_pairs (t ++ (byte_of a b ∷ [])) s) ≡ None → that_fit room (if p None (if q None (with_pairs (t ++ (byte_of a b ∷ [])) s))) ≡ None
    by true q e = refl
    by false true e = refl
    by false false e = e

after_none : (f : List ℕ → Option (List ℕ)) (o : Option (List ℕ)) → ((t : List ℕ) → f t ≡ None) → and_then o f ≡ None
after_none f None h = refl
after_none f (Some t) h = h t

module _ (d : List ℕ) (n : ℕ) (s : List ℕ) where
  pub pairs_odd : (length s % 2 ≡ 0 → ⊥) → pairs_at d n s ≡ None
  pairs_odd h = after_none (λ t. that_fit (length d) (with_pairs t s)) (first_of d n) (λ t. ap (that_fit (length d)) (odd_pairs t s h))

  pub pairs-long : length d < n + length s / 2 → pairs_at d n s ≡ None
  pairs-long k = by (ltb (length d) n) refl
    where
      by : (b : Bool) → ltb (length d) n ≡ b → pairs_at d n s ≡ None
      by true e = rw (first_short d n (ltb-true _ _ e))
      by false e =
          let h = ltb-false _ _ e in
          let l = length-take-le n d h in
          rw (first-whole d n h) (long-pairs (length d) (take n d) s (omega arith))

two : (s : List ℕ) (i : ℕ) → 2 * i + 1 < length s → drop (2 * i) s ≡ get_or s (2 * i) 0 ∷ get_or s (2 * i + 1) 0 ∷ drop (2 * (i + 1)) s
two s i h =
    let e : 2 * i + 1 + 1 ≡ 2 * (i + 1) = omega arith in
    drop_here s (2 * i) (omega arith) ∙ ap (λ (l : List ℕ). get_or s (2 * i) 0 ∷ l) (drop_here s (2 * i + 1) h ∙ ap (λ (k : ℕ). get_or s (2 * i + 1) 0 ∷ drop k s) e)

-- i pairs of s were read, and stand in the output behind the first n bytes of d
pub record Paired (d : List ℕ) (n : ℕ) (s out : List ℕ) (i : ℕ) : Type 0 where
  pub t : List ℕ
  pub long : length t ≡ n + i
  pub makes : out ≡ splice d 0 t
  pub left : pairs_at d n s ≡ that_fit (length d) (with_pairs t (drop (2 * i) s))

pub paired_start : (d : List ℕ) (n : ℕ) (s : List ℕ) → n ≤ length d → Paired d n s d 0
paired_start d n s h =
    let l = length-take-le n d h in
    record { t = take n d; long = omega arith; makes = over_first d n h; left = rw (first-whole d n h) }

module _ {d : List ℕ} {n : ℕ} {s out : List ℕ} {i : ℕ} (p : Paired d n s out i) where
  module _ (h : 2 * i + 1 < length s) where
    pub high_bad : 15 < digit_of (get_or s (2 * i) 0) → pairs_at d n s ≡ None
    unfolding with_pairs
    high_bad a = p.left ∙ rw (two s i h) (simp (lt-ltb _ _ a))

    pub low_bad : digit_of (get_or s (2 * i) 0) ≤ 15 → 15 < digit_of (get_or s (2 * i + 1) 0) → pairs_at d n s ≡ None
    unfolding with_pairs
    low_bad a b = p.left ∙ rw (two s i h) (simp (le-ltb _ _ a, lt-ltb _ _ b))

    pair-on : digit_of (get_or s (2 * i) 0) ≤ 15 → digit_of (get_or s (2 * i + 1) 0) ≤ 15
        → with_pairs p.t (drop (2 * i) s) ≡ with_pairs (p.t ++ (byte_of (get_or s (2 * i) 0) (get_or s (2 * i + 1) 0) ∷ [])) (drop (2 * (i + 1)) s)
    unfolding with_pairs
    pair-on a b = rw (two s i h) (simp (le-ltb _ _ a, le-ltb _ _ b))

    pub paired_next : {e : List ℕ} (v : ℕ) → digit_of (get_or s (2 * i) 0) ≤ 15 → digit_of (get_or s (2 * i + 1) 0) ≤ 15 → v ≡ byte_of (get_or s (2 * i) 0) (get_or s (2 * i + 1) 0)
        → n + i < length d → e ≡ put_at out (n + i) (v ∷ []) → Paired d n s e (i + 1)
    paired_next {e} v a b q r w =
        let x = byte_of (get_or s (2 * i) 0) (get_or s (2 * i + 1) 0) in
        let l = length-append p.t (x ∷ []) in
        let k : length p.t ≡ n + i = p.long in
        record {
          t = p.t ++ (x ∷ []);
          long = omega arith;
          makes = w ∙ ap (λ (y : ℕ). put_at out (n + i) (y ∷ [])) q ∙ ap (λ (y : List ℕ). put_at y (n + i) (x ∷ [])) p.makes ∙ front-byte d p.t x (n + i) (omega arith) (omega arith);
          left = p.left ∙ ap (that_fit (length d)) (pair-on a b);
        }

  pub paired_end : (m : ℕ) → length s ≤ 2 * i → m ≡ n + i → n + i ≤ length d → Spells d n (pairs_at d n s) (Some m) out
  unfolding with_pairs
  paired_end m h q r =
      let k : length p.t ≡ n + i = p.long in
      let e : drop (2 * i) s ≡ [] = drop_of_length-le s h in
      answers p.t (p.left ∙ ap (λ (l : List ℕ). that_fit (length d) (with_pairs p.t l)) e ∙ room-some (length d) p.t (omega arith)) (omega arith)
      (record { makes = p.makes; grows = omega arith; fits = omega arith })
