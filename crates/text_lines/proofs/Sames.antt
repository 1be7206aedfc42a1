-- `same_bytes` is the library's test of two slices, and equality.
use mathlib.Core.Path.{◌≡◌, refl, sym, ◌∙◌}
use mathlib.Core.List.{List, [], ◌∷◌}
use mathlib.Core.Bool.{Bool, true, false, ◌&&◌}
use mathlib.Core.Logic.{◌↔◌}
use Prim.Native.Nat.{ℕ}
use lib.Dec.{eqb}
use lib.Pointwise.{pointwise, bytes_decides}
use Rattle.wire.specs.Bytes.{if}
use Rattle.text_lines.specs.Cuts.{same_bytes}

-- the library's test, byte by byte
pub same_pointwise : (s t : List ℕ) → pointwise eqb s t ≡ same_bytes s t
unfolding same_bytes
same_pointwise [] [] = refl
same_pointwise [] (y ∷ t) = refl
same_pointwise (x ∷ s) [] = refl
same_pointwise (x ∷ s) (y ∷ t) = by (eqb x y) (same_pointwise s t)
  where
    by : (o : Bool) → pointwise eqb s t ≡ same_bytes s t → (o && pointwise eqb s t) ≡ if o (same_bytes s t) false
    by true e = e
    by false e = refl

-- two texts are told the same exactly where they are equal
pub same-exactly : (s t : List ℕ) → (same_bytes s t ≡ true) ↔ (s ≡ t)
same-exactly s t =
    let e = same_pointwise s t in
    ((λ h. (bytes_decides s t).0 (e ∙ h)), (λ h. sym e ∙ (bytes_decides s t).1 h))
