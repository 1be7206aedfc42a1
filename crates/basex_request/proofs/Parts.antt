-- Texts one behind the other, told apart by their lengths.
use mathlib.Core.Path.{◌≡◌, refl, ap, ◌∙◌}
use mathlib.Core.List.{List, [], ◌∷◌, ◌++◌, flatten, append_assoc}
use Prim.Native.Nat.{ℕ, zero, suc, ◌+◌}
use native.Mathlib.Omega.{arith}
use lib.ListN.{length, get_or, take, drop, length-append}
use lib.Seq.{take-append_seam, drop-append-add}
use Rattle.basex.specs.Texts.{length_at}
use Rattle.basex_request.specs.Calls.{padded, cut}

-- a text behind others, and ahead of others
text_at : (ts : List (List ℕ)) (more : List ℕ) (k : ℕ) → take (length_at ts k) (drop (length (flatten (take k ts))) (flatten ts ++ more)) ≡ get_or ts k []
unfolding flatten
text_at [] more zero = refl
text_at [] more (suc k) = refl
text_at (t ∷ ts) more zero = rw append_assoc (take-append_seam t (flatten ts ++ more))
text_at (t ∷ ts) more (suc k) = rw (append_assoc, length-append, drop-append-add) (text_at ts more k)

-- where the next starts
text-next : (ts : List (List ℕ)) (k : ℕ) → length (flatten (take (suc k) ts)) ≡ length (flatten (take k ts)) + length_at ts k
unfolding flatten
text-next [] zero = refl
text-next [] (suc k) = refl
text-next (t ∷ ts) zero = omega (arith, length-append t [])
text-next (t ∷ ts) (suc k) = let i = text-next ts k in omega (arith, length-append t (flatten (take (suc k) ts)), length-append t (flatten (take k ts)))

-- texts one behind the other, cut so, are those texts
pub cut-flatten : (ts : List (List ℕ)) (more : List ℕ) → cut (flatten ts ++ more) (length_at ts 0) (length_at ts 1) (length_at ts 2) (length_at ts 3) ≡ padded ts
unfolding flatten
cut-flatten ts more =
    let f : List ℕ = flatten ts ++ more in
    let p = text-next ts 0 in
    let q = text-next ts 1 in
    let r = text-next ts 2 in
    let i : length_at ts 0 ≡ length (flatten (take 1 ts)) = omega arith in
    let j : length_at ts 0 + length_at ts 1 ≡ length (flatten (take 2 ts)) = omega arith in
    let k : length_at ts 0 + length_at ts 1 + length_at ts 2 ≡ length (flatten (take 3 ts)) = omega arith in
    let x : take (length_at ts 0) f ≡ get_or ts 0 [] = text_at ts more 0 in
    let y : take (length_at ts 1) (drop (length_at ts 0) f) ≡ get_or ts 1 [] = ap (λ (m : ℕ). take (length_at ts 1) (drop m f)) i ∙ text_at ts more 1 in
    let z : take (length_at ts 2) (drop (length_at ts 0 + length_at ts 1) f) ≡ get_or ts 2 [] = ap (λ (m : ℕ). take (length_at ts 2) (drop m f)) j ∙ text_at ts more 2 in
    let w : take (length_at ts 3) (drop (length_at ts 0 + length_at ts 1 + length_at ts 2) f) ≡ get_or ts 3 [] = ap (λ (m : ℕ). take (length_at ts 3) (drop m f)) k ∙ text_at ts more 3 in
    λ t. x t ∷ y t ∷ z t ∷ w t ∷ []
