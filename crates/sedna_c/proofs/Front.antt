-- Numbers stored at the front of a list.
use mathlib.Core.Path.{◌≡◌, ◌∙◌}
use mathlib.Core.List.{List, ◌++◌}
use Prim.Native.Nat.{ℕ, ◌+◌, ◌≤◌}
use native.Mathlib.Omega.{arith}
use lib.ListN.{length, drop}
use lib.Seq.{sets, sets-eq}

pub front-sets : (d vs : List ℕ) → length vs ≤ length d → sets d 0 vs ≡ vs ++ drop (length vs) d
front-sets d vs h =
    let e : 0 + length vs ≡ length vs = omega arith in
    sets-eq vs d 0 (omega arith) ∙ rw e
