-- Numbers in decimal: one digit after another, and how many there are.
use mathlib.Core.Path.{◌≡◌, refl, sym, ap, ◌∙◌}
use mathlib.Core.List.{List, [], ◌∷◌, ◌++◌, append_assoc}
use mathlib.Core.Bool.{Bool, true, false}
use Prim.Native.Nat.{ℕ, zero, suc, ◌+◌, ◌*◌, ◌/◌, ◌%◌, ◌-◌, ◌^◌, ◌≤◌, ◌<◌}
use native.Mathlib.Nat.{pow-suc}
use native.Mathlib.Omega.{arith}
use lib.Dec.{ltb}
use lib.ListN.{length, take, drop, set, get_or, length-append, length-drop, drop_of_length-le}
use lib.Seq.{take_all, take_at, take-suc, drop-cons, take-take, length-take-le, get_or_at, get_or-take, set_at}
use borrow.Author.Tests.{lt-ltb, le-ltb, ltb-true, ltb-false}
use Rattle.wire.specs.Bytes.{if, splice}
use Rattle.wire.specs.Call.{put_at}
use Rattle.wire.proofs.Splices.{splice-none, put_at-fits}
use Rattle.records_printed.specs.Line.{digit, decimal_up_to, decimal}

-- a larger bound changes nothing
same : (a b n : ℕ) → n < a → n < b → decimal_up_to a n ≡ decimal_up_to b n
unfolding decimal_up_to
same zero b n h k = absurd (omega arith)
same (suc a) zero n h k = absurd (omega arith)
same (suc a) (suc b) n h k = by (ltb n 10) refl (λ p q. same a b (n / 10) p q)
  where
    by : (t : Bool) → ltb n 10 ≡ t → (n / 10 < a → n / 10 < b → decimal_up_to a (n / 10) ≡ decimal_up_to b (n / 10))
        → if t (digit n ∷ []) (decimal_up_to a (n / 10) ++ (digit (n % 10) ∷ [])) ≡ if t (digit n ∷ []) (decimal_up_to b (n / 10) ++ (digit (n % 10) ∷ []))
    by true e shorter = refl
    by false e shorter =
        let l : 10 ≤ n = ltb-false n 10 e in
        ap (λ (s : List ℕ). s ++ (digit (n % 10) ∷ [])) (shorter (omega arith) (omega arith))

pub decimal-one : (n : ℕ) → n < 10 → decimal n ≡ digit n ∷ []
unfolding decimal_up_to
decimal-one n h = simp (lt-ltb n 10 h)

pub decimal-more : (n : ℕ) → 10 ≤ n → decimal n ≡ decimal (n / 10) ++ (digit (n % 10) ∷ [])
unfolding decimal_up_to
decimal-more n h = rw (le-ltb n 10 h) (ap (λ (s : List ℕ). s ++ (digit (n % 10) ∷ [])) (same n (suc (n / 10)) (n / 10) (omega arith) (omega arith)))

pub length_more : (n : ℕ) → 10 ≤ n → length (decimal n) ≡ length (decimal (n / 10)) + 1
length_more n h = ap length (decimal-more n h) ∙ length-append (decimal (n / 10)) (digit (n % 10) ∷ [])

pub length_some : (n : ℕ) → 0 < length (decimal n)
length_some n = by (ltb n 10) refl
  where
    by : (t : Bool) → ltb n 10 ≡ t → 0 < length (decimal n)
    by true e = let l = ap length (decimal-one n (ltb-true n 10 e)) in omega arith
    by false e = let l = length_more n (ltb-false n 10 e) in omega arith

-- a number below 10 ^ (k + 1) has at most k + 1 digits
pub length_most : (k n : ℕ) → n < 10 ^ suc k → length (decimal n) ≤ suc k
length_most zero n h = let l = ap length (decimal-one n h) in omega arith
length_most (suc k) n h = by (ltb n 10) refl (length_most k (n / 10))
  where
    by : (t : Bool) → ltb n 10 ≡ t → (n / 10 < 10 ^ suc k → length (decimal (n / 10)) ≤ suc k) → length (decimal n) ≤ suc (suc k)
    by true e shorter = let l = ap length (decimal-one n (ltb-true n 10 e)) in omega arith
    by false e shorter =
        let l = length_more n (ltb-false n 10 e) in
        let p : 10 ^ suc (suc k) ≡ 10 ^ suc k * 10 = pow-suc 10 (suc k) in
        let q = shorter (omega arith) in
        omega arith

-- .. and from 10 ^ k on more than k
pub length_least : (k n : ℕ) → 10 ^ k ≤ n → suc k ≤ length (decimal n)
length_least zero n h = length_some n
length_least (suc k) n h =
    let p : 10 ^ suc k ≡ 10 ^ k * 10 = pow-suc 10 k in
    let some : 1 ≤ 10 ^ k = pow-some k in
    let q = length_least k (n / 10) (omega arith) in
    let l = length_more n (omega arith) in
    omega arith
  where
    pow-some : (i : ℕ) → 1 ≤ 10 ^ i
    pow-some zero = omega arith
    pow-some (suc i) = let p : 10 ^ suc i ≡ 10 ^ i * 10 = pow-suc 10 i in let q = pow-some i in omega arith

pub digits-of : (n k : ℕ) → 10 ^ k ≤ n → n < 10 * 10 ^ k → length (decimal n) ≡ k + 1
digits-of n k h l =
    let p : 10 ^ suc k ≡ 10 ^ k * 10 = pow-suc 10 k in
    let a = length_least k n h in
    let b = length_most k n (omega arith) in
    omega arith

-- the first i digits of a number, where `rest` has them: none are left at 0
abbrev pub ahead : ℕ → ℕ → List ℕ
ahead zero rest = []
ahead (suc i) rest = decimal rest

ahead-some : (i rest : ℕ) → 0 < i → ahead i rest ≡ decimal rest
ahead-some zero rest h = absurd (omega arith)
ahead-some (suc i) rest h = refl

abbrev Ends : List ℕ → ℕ → ℕ → Type 0
Ends s i rest = (get_or s i 0 ≡ digit (rest % 10)) × (take i s ≡ ahead i (rest / 10))

ends-one : (s : List ℕ) (i rest : ℕ) → rest < 10 → s ≡ digit rest ∷ [] → length s ≡ suc i → Ends s i rest
ends-one s zero rest h e l =
    let m : rest % 10 ≡ rest = omega arith in
    rw (e, m) (refl, refl)
ends-one s (suc i) rest h e l = let m = ap length e in absurd (omega arith)

ends_more : (s : List ℕ) (i rest : ℕ) → 10 ≤ rest → s ≡ decimal (rest / 10) ++ (digit (rest % 10) ∷ []) → length s ≡ suc i → Ends s i rest
ends_more s i rest h e l =
    let m = ap length e in
    let n = length-append (decimal (rest / 10)) (digit (rest % 10) ∷ []) in
    let k : length (decimal (rest / 10)) ≡ i = omega arith in
    let p = length_some (rest / 10) in
    rw e (get_or_at (decimal (rest / 10)) _ [] 0 i k, take_at (decimal (rest / 10)) _ i k ∙ sym (ahead-some i (rest / 10) (omega arith)))

ends : (s : List ℕ) (i rest : ℕ) → s ≡ decimal rest → length s ≡ suc i → Ends s i rest
ends s i rest e l = by (ltb rest 10) refl
  where
    by : (t : Bool) → ltb rest 10 ≡ t → Ends s i rest
    by true q = let h = ltb-true rest 10 q in ends-one s i rest h (e ∙ decimal-one rest h) l
    by false q = let h = ltb-false rest 10 q in ends_more s i rest h (e ∙ decimal-more rest h) l

-- the last of i + 1 digits is that of `rest`, and the others are those of a tenth of it
pub last-digit : (s : List ℕ) (i rest : ℕ) → i < length s → take (suc i) s ≡ ahead (suc i) rest → Ends s i rest
last-digit s i rest h e =
    let l : length (take (suc i) s) ≡ suc i = length-take-le (suc i) s h in
    let x = ends (take (suc i) s) i rest e l in
    (sym (get_or-take (suc i) s i 0 (omega arith)) ∙ x.0, sym (take-take i (suc i) s (omega arith)) ∙ x.1)

-- one more in front of what was written
pub over-front : (d : List ℕ) (k x : ℕ) (s : List ℕ) → k + 1 + length s ≤ length d → set (splice d (k + 1) s) k x ≡ splice d k (x ∷ s)
unfolding splice
over-front d k x s h =
    let e : k + 1 ≡ suc k = omega arith in
    let f : suc k + length s ≡ k + length (x ∷ s) = omega arith in
    let n : length (take k d) ≡ k = length-take-le k d (omega arith) in
    rw (e, take-suc d k 0 (omega arith), f) (simp append_assoc (set_at (take k d) (get_or d k 0) (s ++ drop (k + length (x ∷ s)) d) x k n))

-- the digits written from the last one on: those from i on stand there, and the first i are those of `rest`
pub record Written (d out s : List ℕ) (at i rest : ℕ) : Type 0 where
  pub ahead_of : take i s ≡ ahead i rest
  pub stands : out ≡ splice d (at + i) (drop i s)

pub none_written : (d : List ℕ) (at n count : ℕ) → count ≡ length (decimal n) → Written d d (decimal n) at count n
none_written d at n count e = record {
  ahead_of = take_all count (decimal n) (omega arith) ∙ sym (ahead-some count n (omega (arith, length_some n)));
  stands = sym (ap (splice d (at + count)) (drop_of_length-le (decimal n) {i = count} (omega arith)) ∙ splice-none d (at + count));
}

pub one_written : (d out s : List ℕ) (at i rest : ℕ) → 0 < i → i ≤ length s → at + length s ≤ length d → Written d out s at i rest
    → Written d (set out (at + (i - 1)) (48 + rest % 10)) s at (i - 1) (rest / 10)
one_written d out s at zero rest p h f w = absurd (omega arith)
one_written d out s at (suc j) rest p h f w =
    let e : suc j - 1 ≡ j = omega arith in
    let x = last-digit s j rest h w.ahead_of in
    let a : at + suc j ≡ at + j + 1 = omega arith in
    let l : length (drop (suc j) s) ≡ length s - suc j = length-drop (suc j) s in
    rw e (record {
      ahead_of = x.1;
      stands =
          ap (λ (m : List ℕ). set m (at + j) (48 + rest % 10)) (w.stands ∙ ap (λ (m : ℕ). splice d m (drop (suc j) s)) a)
          ∙ over-front d (at + j) (48 + rest % 10) (drop (suc j) s) (omega arith)
          ∙ ap (splice d (at + j)) (sym (drop-cons s j 0 h ∙ ap (λ (m : ℕ). m ∷ drop (suc j) s) x.0));
    })

pub all-written : (d out s : List ℕ) (at i rest : ℕ) → i ≤ 0 → at + length s ≤ length d → Written d out s at i rest → out ≡ put_at d at s
all-written d out s at zero rest h f w =
    let e : at + 0 ≡ at = omega arith in
    w.stands ∙ ap (λ (m : ℕ). splice d m s) e ∙ sym (put_at-fits d at s f)
all-written d out s at (suc i) rest h f w = absurd (omega arith)
