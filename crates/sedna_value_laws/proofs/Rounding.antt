-- One rounded division of two whole numbers that are doubles exactly.
use mathlib.Core.Bool.{Bool, true, false, cond, true≢false}
use mathlib.Core.List.{List}
use mathlib.Core.Path.{◌≡◌, refl, sym, ◌∙◌}
use Prim.Native.Nat.{ℕ, zero, suc, ◌+◌, ◌*◌, ◌^◌, ◌≤◌, ◌<◌}
use native.Mathlib.Nat.{mul_assoc, mul_comm, mul_left_comm, mul-one, zero-mul, mul-pos, mul-le-mul_left, le_trans, lt_of_lt_of_le, one-le-pow, pow-le-pow_right}
use native.Mathlib.Omega.{arith}
use borrow.Author.Tests.{ne_eqb}
use lib.Dec.{T, ltb, lit<, lit≤}
use lib.Ieee.{Float, nan, inf, fin, Format, binary64, prec, emax, low, up, down, of_int, odd, units, round, div, neg, is_nan, le}
use lib.Ieee.Exact.{HasValue}
use lib.Ieee.Back.{round_whole}
use lib.Ieee.Fits.{down_pos, up_pos, round_is}
use lib.Ieee.Scale.{round_same, finite}
use lib.Ieee.Order.{round_mono}
use lib.IntN.{ℤ, pos}
use lib.ListN.{length, length-append}
use Rattle.sedna_digits.specs.Numbers.{number, AreDigits}
use Rattle.sedna_value_laws.specs.DoubleTexts.{Mantissa, digits, places, negated}
use Rattle.sedna_value_laws.specs.Division.{divided, Rounded}
use Rattle.sedna_digits.proofs.Numbers.{number_below}

-- x has the value of n and y that of p: the two fractions are equal
cross : (x y n p up down : ℕ) → x * 1 ≡ n * down → y * 1 ≡ p * up → x * up * p ≡ n * (y * down)
cross x y n p up down e f =
    let x' : x ≡ n * down = sym (mul-one x) ∙ e in
    let y' : y ≡ p * up = sym (mul-one y) ∙ f in
    rw (x', y') (simp (mul_assoc, mul_comm, mul_left_comm))

-- what has the value of a number above 0 is not 0
not_zero : (q n : ℕ) (d : ℤ) → 0 < n → q * up d * 1 ≡ n * down d → 0 < q
not_zero zero n d h e = absurd (omega (arith, mul-pos h (down_pos d), zero-mul (up d)))
not_zero (suc q) n d h e = omega arith

-- what has the values of n and of p, divided: n / p is rounded, and nothing else
div_values : (x y : Float) (n p : ℕ) → 0 < p → HasValue x false n 1 → HasValue y false p 1 → div binary64 x y ≡ round binary64 false n p
unfolding div
div_values nan y n p above v w = absurd v
div_values (inf s) y n p above v w = absurd v
div_values (fin true m e) y n p above v w = absurd (true≢false v.0)
div_values (fin false m e) nan n p above v w = absurd w
div_values (fin false m e) (inf t) n p above v w = absurd w
div_values (fin false m e) (fin true q d) n p above v w = absurd (true≢false w.0)
div_values (fin false m e) (fin false q d) n p above v w =
    let q+ : 0 < q = not_zero q p d above w.1 in
    rw (ne_eqb q 0 (omega arith))
    (round_same binary64 false (m * up e * down d) (q * up d * down e) n p (mul-pos (mul-pos q+ (up_pos d)) (down_pos e)) above
    (cross (m * up e) (q * up d) n p (down d) (down e) v.1 w.1))

whole_exact : (n : ℕ) → n ≤ 2 ^ 53 → HasValue (of_int binary64 (pos n)) false n 1
unfolding of_int
whole_exact n h = round_whole binary64 false n h

-- ---- it is finite

odd_finite : (d : ℕ) (s : Bool) (q k l : ℕ) → T (finite (odd d s q k l))
unfolding odd
odd_finite d s zero k l = tt
odd_finite d s (suc q) k l = tt

-- an infinity is not at most a finite number
no_infinity : (b : Bool) (x y : Float) → T (finite x) → T (finite y) → T (le (cond b x (inf false)) y) → T (finite (cond b x (inf false)))
unfolding le
no_infinity true x y h k l = h
no_infinity false x nan h k l = absurd k
no_infinity false x (inf s) h k l = absurd k
no_infinity false x (fin s m e) h k l = absurd l

units_finite : (f : Format) (q k : ℕ) (y : Float) → T (finite y) → T (le (units f false q k) y) → T (finite (units f false q k))
unfolding units
units_finite f q k y = no_infinity (ltb (q * 2 ^ k) (2 ^ (low f + suc (emax f)))) (odd (suc (prec f)) false q k (low f)) y (odd_finite (suc (prec f)) false q k (low f))

valued_finite : (x : Float) (s : Bool) (n p : ℕ) → HasValue x s n p → T (finite x)
valued_finite nan s n p v = v
valued_finite (inf t) s n p v = v
valued_finite (fin t m e) s n p v = tt

-- a whole number that is a double, divided by another number
round_finite : (n p : ℕ) → n ≤ 2 ^ 53 → 0 < p → T (finite (round binary64 false n p))
round_finite n p h above =
    let whole : T (finite (round binary64 false n 1)) = valued_finite (round binary64 false n 1) false n 1 (round_whole binary64 false n h) in
    let less : T (le (round binary64 false n p) (round binary64 false n 1)) = round_mono binary64 n p n 1 above (lit< tt) (mul-le-mul_left n above) in
    rw (round_is binary64 false n p) (units_finite binary64 _ _ (round binary64 false n 1) whole (rw (round_is binary64 false n p) at less))

finite_number : (minus : Bool) (x : Float) → T (finite x) → is_nan (negated minus x) ≡ false
unfolding is_nan neg
finite_number minus nan h = absurd h
finite_number minus (inf s) h = absurd h
finite_number true (fin s m e) h = refl
finite_number false (fin s m e) h = refl

-- ---- fifteen digits

pub power_above : (k : ℕ) → 0 < 10 ^ k
power_above k = one-le-pow k 10 (lit< tt)

power_most : (k : ℕ) → k ≤ 15 → 10 ^ k ≤ 2 ^ 53
power_most k h = le_trans (pow-le-pow_right (lit< tt) h) (lit≤ tt)

pub rounded : (n k : ℕ) → n < 10 ^ 15 → k ≤ 15 → Rounded n k
rounded n k h l =
    let small : n ≤ 2 ^ 53 = omega arith in
    let once : divided n (10 ^ k) ≡ round binary64 false n (10 ^ k) =
    div_values _ _ n (10 ^ k) (power_above k) (whole_exact n small) (whole_exact (10 ^ k) (power_most k l)) in
    record {
      digits_exact = whole_exact n small;
      power_exact = whole_exact (10 ^ k) (power_most k l);
      once = once;
      not_nan = λ minus. finite_number minus (divided n (10 ^ k)) (rw once (round_finite n (10 ^ k) small (power_above k)));
    }

fifteen : (ds : List ℕ) → AreDigits ds → length ds ≤ 15 → number ds < 10 ^ 15
fifteen ds h l = lt_of_lt_of_le (number_below ds h) (pow-le-pow_right (lit< tt) l)

pub places-few : (d : Mantissa) → places d ≤ length (digits d)
places-few (Mantissa.plain ds) = omega arith
places-few (Mantissa.pointed before behind) = omega (arith, length-append before behind)

-- of a decimal that has no more
pub decimal_rounded : (d : Mantissa) → AreDigits (digits d) → length (digits d) ≤ 15 → Rounded (number (digits d)) (places d)
decimal_rounded d h l = rounded (number (digits d)) (places d) (fifteen (digits d) h l) (le_trans (places-few d) l)
