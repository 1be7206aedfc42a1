-- The pieces are the text again; none is empty, and none is longer than a piece may be.
use mathlib.Core.Path.{◌≡◌, refl, ap, ◌∙◌}
use mathlib.Core.List.Memᴰ
use mathlib.Core.List.{List, [], ◌∷◌, ◌++◌, flatten, Memᴰ}
use Prim.Native.Nat.{ℕ, zero, suc, ◌≤◌, ◌<◌}
use native.Mathlib.Omega.{arith}
use lib.ListN.{length, take, drop, length-take, take-append-drop}
use Rattle.parts_cut.specs.Cut.{pieces_up_to, pieces}
use Rattle.parts_cut.proofs.Pieces.{shorter}

joined-up_to : (most m : ℕ) (s : List ℕ) → 0 < m → length s ≤ most → flatten (pieces_up_to most m s) ≡ s
unfolding pieces_up_to flatten
joined-up_to zero m [] p h = refl
joined-up_to zero m (x ∷ s) p h = absurd (omega arith)
joined-up_to (suc most) m [] p h = refl
joined-up_to (suc most) m (x ∷ s) p h =
    ap (λ (r : List ℕ). take m (x ∷ s) ++ r) (joined-up_to most m (drop m (x ∷ s)) p (shorter most m x s p h)) ∙ take-append-drop m (x ∷ s)

pub pieces-joined : (m : ℕ) (s : List ℕ) → 0 < m → flatten (pieces m s) ≡ s
pieces-joined m s p = joined-up_to (length s) m s p (omega arith)

-- what a first message takes, and the pieces of the others
pub first-joined : (first m : ℕ) (s : List ℕ) → 0 < m → take first s ++ flatten (pieces m (drop first s)) ≡ s
first-joined first m s p = rw (pieces-joined m (drop first s) p) (take-append-drop first s)

sized_up_to : (most m : ℕ) (s : List ℕ) → 0 < m → (piece : List ℕ) → Memᴰ piece (pieces_up_to most m s) → (0 < length piece) × (length piece ≤ m)
unfolding pieces_up_to
sized_up_to zero m s p piece i = absurd (Memᴰ.not-nil i)
sized_up_to (suc most) m [] p piece i = absurd (Memᴰ.not-nil i)
sized_up_to (suc most) m (x ∷ s) p piece (Memᴰ.head e) =
    let n : length piece ≡ length (take m (x ∷ s)) = ap length e in
    (omega (arith, length-take m (x ∷ s)), omega (arith, length-take m (x ∷ s)))
sized_up_to (suc most) m (x ∷ s) p piece (Memᴰ.tail i) = sized_up_to most m (drop m (x ∷ s)) p piece i

pub pieces_sized : (m : ℕ) (s : List ℕ) → 0 < m → (piece : List ℕ) → Memᴰ piece (pieces m s) → (0 < length piece) × (length piece ≤ m)
pieces_sized m s p piece i = sized_up_to (length s) m s p piece i
