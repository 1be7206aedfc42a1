-- Element k of a mapped list, and of two lists one behind the other.
use mathlib.Core.Path.{◌≡◌, refl, ap, ◌∙◌}
use mathlib.Core.List.{List, [], ◌∷◌, ◌++◌, map}
use mathlib.Core.Option
use Prim.Native.Nat.{ℕ, zero, suc, ◌-◌, ◌≤◌, ◌<◌}
use native.Mathlib.Omega.{arith}
use lib.ListN.{length, get_elem?}

pub at_map : {A B : Type 0} (f : A → B) (l : List A) (k : ℕ) → get_elem? (map f l) k ≡ Option.map f (get_elem? l k)
at_map f [] k = refl
at_map f (x ∷ l) zero = refl
at_map f (x ∷ l) (suc k) = at_map f l k

pub at_front : {A : Type 0} (l r : List A) (k : ℕ) → k < length l → get_elem? (l ++ r) k ≡ get_elem? l k
at_front [] r k h = absurd (omega arith)
at_front (x ∷ l) r zero h = refl
at_front (x ∷ l) r (suc k) h = at_front l r k (omega arith)

pub at-behind : {A : Type 0} (l r : List A) (k : ℕ) → length l ≤ k → get_elem? (l ++ r) k ≡ get_elem? r (k - length l)
at-behind [] r k h =
    let e : k ≡ k - 0 = omega arith in
    ap (get_elem? r) e
at-behind (x ∷ l) r zero h = absurd (omega arith)
at-behind (x ∷ l) r (suc k) h =
    let e : k - length l ≡ suc k - length (x ∷ l) = omega arith in
    at-behind l r k (omega arith) ∙ ap (get_elem? r) e

pub at_next : {A : Type 0} (x : A) (l : List A) (k : ℕ) → 0 < k → get_elem? (x ∷ l) k ≡ get_elem? l (k - 1)
at_next x l zero h = absurd (omega arith)
at_next x l (suc k) h =
    let e : k ≡ suc k - 1 = omega arith in
    ap (get_elem? l) e
