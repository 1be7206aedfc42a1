-- `decimal` is the one way to spell a number in digits.
use mathlib.Core.Bool.{Bool, true, false}
use mathlib.Core.List.{List, [], ◌∷◌, ◌++◌, append_assoc, append-nil}
use mathlib.Core.Path.{◌≡◌, refl, sym, ap, ◌∙◌}
use Prim.Native.Nat.{ℕ, zero, suc, ◌+◌, ◌-◌, ◌*◌, ◌/◌, ◌%◌, ◌≤◌, ◌<◌}
use native.Mathlib.Omega.{arith}
use lib.Dec.{ltb}
use borrow.Author.Tests.{ltb-true, ltb-false}
use Rattle.wire.specs.Bytes.{if}
use Rattle.wire.specs.Every.{Every}
use Rattle.records_printed.specs.Digits.{spelt, Digit, Leading, InDecimal}
use Rattle.records_printed.specs.Line.{digit, decimal_up_to, decimal}
use Rattle.records_printed.proofs.Decimals.{decimal-one, decimal-more}

-- digits spelt one behind the other
spelt-append : (n : ℕ) (s : List ℕ) (c : ℕ) → spelt n (s ++ (c ∷ [])) ≡ spelt n s * 10 + (c - 48)
spelt-append n [] c = refl
spelt-append n (x ∷ s) c = spelt-append (n * 10 + (x - 48)) s c

digits-up_to : (most n : ℕ) → n < most → spelt 0 (decimal_up_to most n) ≡ n
unfolding decimal_up_to
digits-up_to zero n h = absurd (omega arith)
digits-up_to (suc most) n h = by (ltb n 10) refl (digits-up_to most (n / 10))
  where
    by : (t : Bool) → ltb n 10 ≡ t → (n / 10 < most → spelt 0 (decimal_up_to most (n / 10)) ≡ n / 10)
        → spelt 0 (if t (digit n ∷ []) (decimal_up_to most (n / 10) ++ (digit (n % 10) ∷ []))) ≡ n
    by true e more = omega arith
    by false e more =
        let l = ltb-false n 10 e in
        let a = spelt-append 0 (decimal_up_to most (n / 10)) (digit (n % 10)) in
        let b = more (omega arith) in
        omega arith

digits_back : (n : ℕ) → spelt 0 (decimal n) ≡ n
digits_back n = digits-up_to (suc n) n (omega arith)

-- one digit more behind others
digits_append : (s : List ℕ) (c : ℕ) → Every Digit s → 48 ≤ c → c ≤ 57 → Every Digit (s ++ (c ∷ []))
digits_append [] c h a b = ((a, b), tt)
digits_append (x ∷ s) c h a b = (h.0, digits_append s c h.1 a b)

digits-all-up_to : (most n : ℕ) → n < most → Every Digit (decimal_up_to most n)
unfolding decimal_up_to
digits-all-up_to zero n h = absurd (omega arith)
digits-all-up_to (suc most) n h = by (ltb n 10) refl (digits-all-up_to most (n / 10))
  where
    by : (t : Bool) → ltb n 10 ≡ t → (n / 10 < most → Every Digit (decimal_up_to most (n / 10))) → Every Digit (if t (digit n ∷ []) (decimal_up_to most (n / 10) ++ (digit (n % 10) ∷ [])))
    by true e more = let l = ltb-true n 10 e in ((omega arith, omega arith), tt)
    by false e more = let l = ltb-false n 10 e in digits_append (decimal_up_to most (n / 10)) (digit (n % 10)) (more (omega arith)) (omega arith) (omega arith)

digits-all : (n : ℕ) → Every Digit (decimal n)
digits-all n = digits-all-up_to (suc n) n (omega arith)

-- a text that starts with another character than '0'
abbrev First : List ℕ → Type 0
First [] = ⊥
First (c ∷ s) = ¬ (c ≡ 48)

first-append : (s t : List ℕ) → First s → First (s ++ t)
first-append [] t h = absurd h
first-append (c ∷ s) t h = h

first_leading : (s : List ℕ) → First s → Leading s
first_leading [] h = h
first_leading (c ∷ []) h = tt
first_leading (c ∷ d ∷ s) h = h

first-digit : (most n : ℕ) → n < most → 0 < n → First (decimal_up_to most n)
unfolding decimal_up_to
first-digit zero n h p = absurd (omega arith)
first-digit (suc most) n h p = by (ltb n 10) refl (first-digit most (n / 10))
  where
    by : (t : Bool) → ltb n 10 ≡ t → (n / 10 < most → 0 < n / 10 → First (decimal_up_to most (n / 10))) → First (if t (digit n ∷ []) (decimal_up_to most (n / 10) ++ (digit (n % 10) ∷ [])))
    by true e more = λ q. absurd (omega arith)
    by false e more = let l = ltb-false n 10 e in first-append (decimal_up_to most (n / 10)) (digit (n % 10) ∷ []) (more (omega arith) (omega arith))

leading : (n : ℕ) → Leading (decimal n)
unfolding decimal_up_to
leading zero = tt
leading (suc n) = first_leading (decimal (suc n)) (first-digit (suc (suc n)) (suc n) (omega arith) (omega arith))

-- no other such digits: those that stand behind a number's own spell on from it
spells-on : (n : ℕ) (s : List ℕ) → 0 < n → Every Digit s → decimal n ++ s ≡ decimal (spelt n s)
spells-on n [] h k = append-nil (decimal n)
spells-on n (c ∷ s) h k =
    let m = n * 10 + (c - 48) in
    let d : m / 10 ≡ n = omega (arith, k.0.0, k.0.1) in
    let e : digit (m % 10) ≡ c = omega (arith, k.0.0, k.0.1) in
    let x : decimal m ≡ decimal n ++ (c ∷ []) = decimal-more m (omega arith) ∙ ap (λ (i : ℕ). decimal i ++ (digit (m % 10) ∷ [])) d ∙ ap (λ (i : ℕ). decimal n ++ (i ∷ [])) e in
    sym (append_assoc (decimal n) (c ∷ []) s) ∙ ap (λ (l : List ℕ). l ++ s) (sym x) ∙ spells-on m s (omega arith) k.1

one-digit : (c : ℕ) → 48 ≤ c → c ≤ 57 → decimal (c - 48) ≡ c ∷ []
one-digit c a b = let e : digit (c - 48) ≡ c = omega arith in decimal-one (c - 48) (omega arith) ∙ ap (λ (i : ℕ). i ∷ []) e

digits_only : (s : List ℕ) → Every Digit s → Leading s → s ≡ decimal (spelt 0 s)
digits_only [] h k = absurd k
digits_only (c ∷ []) h k =
    let z : 0 * 10 + (c - 48) ≡ c - 48 = omega arith in
    rw z (sym (one-digit c h.0.0 h.0.1))
digits_only (c ∷ d ∷ s) h k =
    let z : 0 * 10 + (c - 48) ≡ c - 48 = omega arith in
    rw z (sym (ap (λ (l : List ℕ). l ++ (d ∷ s)) (one-digit c h.0.0 h.0.1)) ∙ spells-on (c - 48) (d ∷ s) (omega (arith, h.0.0, k)) h.1)

pub in_decimal : InDecimal
in_decimal = record { digits_back = digits_back; digits = λ n. (digits-all n, leading n); digits_only = digits_only }
