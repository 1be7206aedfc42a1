-- Piece k of a list in pieces of m: the next m elements from k * m on, as long as there are any; and how many pieces there are.
use mathlib.Core.Bool.{Bool, true, false}
use mathlib.Core.Path.{◌≡◌, refl, ap, ◌∙◌}
use mathlib.Core.List.{List, [], ◌∷◌}
use mathlib.Core.Option.{none, some}
use Prim.Native.Nat.{ℕ, zero, suc, ◌+◌, ◌*◌, ◌-◌, ◌/◌, ◌≤◌, ◌<◌}
use native.Mathlib.Nat.{suc-mul, zero-mul, div-eq_of_lt, div-eq-sub-div, le-div_iff_mul-le, div-lt_iff_lt-mul}
use native.Mathlib.Omega.{arith}
use lib.Dec.{leb}
use borrow.Author.Tests.{leb-true, leb-false}
use lib.ListN.{length, take, drop, get_elem?, length-drop}
use lib.Seq.{drop-drop}
use Rattle.parts_cut.specs.Cut.{pieces_up_to, pieces}
use Rattle.parts_cut.specs.Part.{piece_count}

-- what holds of a bound on the pieces holds of one fewer behind the first piece
pub shorter : (most m x : ℕ) (s : List ℕ) → 0 < m → length (x ∷ s) ≤ suc most → length (drop m (x ∷ s)) ≤ most
shorter most m x s p h = omega (arith, length-drop m (x ∷ s))

piece_up_to : (most m : ℕ) (s : List ℕ) (k : ℕ) → 0 < m → length s ≤ most → k * m < length s → get_elem? (pieces_up_to most m s) k ≡ some (take m (drop (k * m) s))
unfolding pieces_up_to
piece_up_to zero m s k p h l = absurd (omega arith)
piece_up_to (suc most) m [] k p h l = absurd (omega arith)
piece_up_to (suc most) m (x ∷ s) zero p h l = rw (zero-mul m)
piece_up_to (suc most) m (x ∷ s) (suc k) p h l =
    let e : suc k * m ≡ k * m + m = suc-mul k m in
    let d : length (drop m (x ∷ s)) ≡ length (x ∷ s) - m = length-drop m (x ∷ s) in
    let f : m + k * m ≡ suc k * m = omega arith in
    piece_up_to most m (drop m (x ∷ s)) k p (shorter most m x s p h) (omega arith)
    ∙ ap (λ (t : List ℕ). some (take m t)) (drop-drop (k * m) m (x ∷ s) ∙ ap (λ (n : ℕ). drop n (x ∷ s)) f)

none-up_to : (most m : ℕ) (s : List ℕ) (k : ℕ) → 0 < m → length s ≤ most → length s ≤ k * m → get_elem? (pieces_up_to most m s) k ≡ none
unfolding pieces_up_to
none-up_to zero m s k p h l = refl
none-up_to (suc most) m [] k p h l = refl
none-up_to (suc most) m (x ∷ s) zero p h l = absurd (omega (arith, zero-mul m))
none-up_to (suc most) m (x ∷ s) (suc k) p h l =
    none-up_to most m (drop m (x ∷ s)) k p (shorter most m x s p h) (omega (arith, suc-mul k m, length-drop m (x ∷ s)))

pub piece_at : (m : ℕ) (s : List ℕ) (k : ℕ) → 0 < m → k * m < length s → get_elem? (pieces m s) k ≡ some (take m (drop (k * m) s))
piece_at m s k p l = piece_up_to (length s) m s k p (omega arith) l

pub piece_past : (m : ℕ) (s : List ℕ) (k : ℕ) → 0 < m → length s ≤ k * m → get_elem? (pieces m s) k ≡ none
piece_past m s k p l = none-up_to (length s) m s k p (omega arith) l

-- one piece, and those of what is behind it
count_next : (m n : ℕ) → 0 < m → suc (piece_count m (suc n - m)) ≡ piece_count m (suc n)
count_next m n p = by (leb m n) refl
  where
    by : (b : Bool) → leb m n ≡ b → suc (piece_count m (suc n - m)) ≡ piece_count m (suc n)
    by true t =
        let h : m ≤ n = leb-true m n t in
        let e : suc n - m ≡ suc (n - m) = omega arith in
        let d : n / m ≡ (n - m) / m + 1 = div-eq-sub-div p h in
        rw (e, d) (omega arith)
    by false f =
        let h : n < m = leb-false m n f in
        let e : suc n - m ≡ 0 = omega arith in
        let d : n / m ≡ 0 = div-eq_of_lt h in
        rw (e, d)

length-up_to : (most m : ℕ) (s : List ℕ) → 0 < m → length s ≤ most → length (pieces_up_to most m s) ≡ piece_count m (length s)
unfolding pieces_up_to
length-up_to zero m [] p h = refl
length-up_to zero m (x ∷ s) p h = absurd (omega arith)
length-up_to (suc most) m [] p h = refl
length-up_to (suc most) m (x ∷ s) p h =
    ap suc (length-up_to most m (drop m (x ∷ s)) p (shorter most m x s p h) ∙ ap (piece_count m) (length-drop m (x ∷ s))) ∙ count_next m (length s) p

pub length-pieces : (m : ℕ) (s : List ℕ) → 0 < m → length (pieces m s) ≡ piece_count m (length s)
length-pieces m s p = length-up_to (length s) m s p (omega arith)

-- the pieces that there are start ahead of the end, and no others
pub within : (m n k : ℕ) → 0 < m → k < piece_count m n → k * m < n
within m zero k p h = absurd (omega arith)
within m (suc n) k p h =
    let l : k ≤ n / m = omega arith in
    omega (arith, (le-div_iff_mul-le p).0 l)

pub beyond : (m n k : ℕ) → 0 < m → piece_count m n ≤ k → n ≤ k * m
beyond m zero k p h = omega arith
beyond m (suc n) k p h =
    let l : n / m < k = omega arith in
    omega (arith, (div-lt_iff_lt-mul p).0 l)
