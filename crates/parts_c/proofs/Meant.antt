-- Putting back the assembly that the lent numbers hold leaves them as they are: so a refusal that marks nothing changes nothing.
use Rattle.std.specs.Prelude.{Option, Some, None}
use mathlib.Core.Bool.{Bool, true, false}
use mathlib.Core.List.{List, [], ◌∷◌}
use mathlib.Core.Path.{◌≡◌, refl, subst}
use Prim.Native.Nat.{ℕ, zero, suc, ◌≤◌}
use native.Mathlib.Omega.{arith}
use borrow.Author.Tests.{ltb-false}
use lib.Dec.{eqb, ltb}
use lib.ListN.{length, get_or}
use Rattle.wire.specs.Bytes.{if}
use Rattle.parts_join.specs.declared.Assembly.{Assembly}
use Rattle.parts_c.specs.Joining.{open_of, open_number, flag_of, assembly_in, assembly_put, meant_by}

number_back : (n : ℕ) → n ≤ 3 → open_number (open_of n) ≡ n
number_back zero h = refl
number_back (suc zero) h = refl
number_back (suc (suc zero)) h = refl
number_back (suc (suc (suc zero))) h = refl
number_back (suc (suc (suc (suc n)))) h = absurd (omega arith)

bit_back : (n : ℕ) → n ≤ 1 → flag_of (eqb n 1) ≡ n
bit_back zero h = refl
bit_back (suc zero) h = refl
bit_back (suc (suc n)) h = absurd (omega arith)

put_in : (d : List ℕ) → 7 ≤ length d → get_or d 0 0 ≤ 3 → get_or d 1 0 ≤ 1 → get_or d 3 0 ≤ 1 → assembly_put (assembly_in d) d ≡ d
put_in [] h w b o = absurd (omega arith)
put_in (x0 ∷ []) h w b o = absurd (omega arith)
put_in (x0 ∷ x1 ∷ []) h w b o = absurd (omega arith)
put_in (x0 ∷ x1 ∷ x2 ∷ []) h w b o = absurd (omega arith)
put_in (x0 ∷ x1 ∷ x2 ∷ x3 ∷ []) h w b o = absurd (omega arith)
put_in (x0 ∷ x1 ∷ x2 ∷ x3 ∷ x4 ∷ []) h w b o = absurd (omega arith)
put_in (x0 ∷ x1 ∷ x2 ∷ x3 ∷ x4 ∷ x5 ∷ []) h w b o = absurd (omega arith)
put_in (x0 ∷ x1 ∷ x2 ∷ x3 ∷ x4 ∷ x5 ∷ x6 ∷ d) h w b o = λ i. number_back x0 w i ∷ bit_back x1 b i ∷ x2 ∷ bit_back x3 o i ∷ x4 ∷ x5 ∷ x6 ∷ d

-- what is meant passed each test on the way
passed : (b : Bool) (x : Option Assembly) (a : Assembly) → if b None x ≡ Some a → (b ≡ false) × (x ≡ Some a)
passed true x a e = cc
passed false x a e = (refl, e)

pub meant-same : (d : List ℕ) (a : Assembly) → 7 ≤ length d → meant_by d ≡ Some a → assembly_put a d ≡ d
unfolding meant_by
meant-same d a h e =
    let p0 = passed (ltb 3 (get_or d 0 0)) _ a e in
    let p1 = passed (ltb 1 (get_or d 1 0)) _ a p0.1 in
    let p3 = passed (ltb 1 (get_or d 3 0)) _ a p1.1 in
    let p4 = passed (ltb 255 (get_or d 4 0)) _ a p3.1 in
    let p5 = passed (ltb 255 (get_or d 5 0)) _ a p4.1 in
    let p6 = passed (ltb 255 (get_or d 6 0)) _ a p5.1 in
    let e6 = p6.1 in
    let same : assembly_in d ≡ a = cc in
    subst (λ (x : Assembly). assembly_put x d ≡ d) same (put_in d h (ltb-false _ _ p0.0) (ltb-false _ _ p1.0) (ltb-false _ _ p3.0))
