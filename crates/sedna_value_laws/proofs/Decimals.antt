-- Digits with a point among or beside them, or with none, written and read.
use mathlib.Core.Bool.{Bool, true, false}
use mathlib.Core.List.{List, [], ◌∷◌, ◌++◌, append_assoc}
use mathlib.Core.Path.{◌≡◌, refl, sym, ap, ◌∙◌}
use Prim.Native.Nat.{ℕ, ◌+◌}
use Rattle.wire.specs.Every.{Every}
use native.Mathlib.Nat.{add-zero, add-sub_cancel_left}
use native.Mathlib.Omega.{arith}
use lib.Dec.{eqb, lit<}
use lib.ListN.{length, drop, get_or, length-append, length-map}
use lib.Seq.{drop_at, get_or-drop}
use borrow.Author.Tests.{eqb-true}
use Rattle.sedna_digits.specs.Numbers.{number, AreDigits, text}
use Rattle.sedna_digits.specs.Digits.{is_digit, run, kept}
use Rattle.sedna_digits.proofs.Runs.{run-text, run-digits, run-front, run-stops}
use Rattle.sedna_value.specs.declared.doubles.Decimal as read
use Rattle.sedna_value.specs.Doubles.{decimal_at}
use Rattle.sedna_value_laws.specs.DoubleTexts.{Mantissa, mantissa_text, digits}
use Rattle.sedna_value_laws.proofs.Signs.{at-end, byte-there}

-- what is counted and kept of digits that stand at `at`
abbrev pub decimal_of : ℕ → Mantissa → read.Decimal
decimal_of at (Mantissa.plain ds) = record { before = length ds; behind = 0; whole = kept (number ds); fraction = 0; end = at + length ds }
decimal_of at (Mantissa.pointed before behind) = record {
  before = length before;
  behind = length behind;
  whole = kept (number before);
  fraction = kept (number behind);
  end = at + length before + 1 + length behind;
}

-- no digit follows, and no point where there is none yet
abbrev pub Stops : Mantissa → List ℕ → Type 0
Stops (Mantissa.plain ds) rest = (is_digit (get_or rest 0 0) ≡ false) × (eqb (get_or rest 0 0) 46 ≡ false)
Stops (Mantissa.pointed before behind) rest = is_digit (get_or rest 0 0) ≡ false

-- digits one behind the other
pub both-digits : (a b : List ℕ) → AreDigits a → AreDigits b → AreDigits (a ++ b)
both-digits [] b h k = k
both-digits (x ∷ a) b h k = (h.0, both-digits a b h.1 k)

pub front-digits : (a b : List ℕ) → AreDigits (a ++ b) → AreDigits a
front-digits [] b h = tt
front-digits (x ∷ a) b h = (h.0, front-digits a b h.1)

pub back_digits : (a b : List ℕ) → AreDigits (a ++ b) → AreDigits b
back_digits [] b h = h
back_digits (x ∷ a) b h = back_digits a b h.1

-- digits that are all 0
pub digits-zero : (ds : List ℕ) → Every (λ (d : ℕ). d ≡ 0) ds → number ds ≡ 0
unfolding number
digits-zero [] h = refl
digits-zero (d ∷ ds) h = rw (h.0, digits-zero ds h.1) (omega arith)

pub length-text : (ds : List ℕ) → length (text ds) ≡ length ds
length-text ds = length-map ds (λ (d : ℕ). 48 + d)

-- digits are read where they stand
pub digits_forth : (front ds rest : List ℕ) (at : ℕ) → at ≡ length front → AreDigits ds → is_digit (get_or rest 0 0) ≡ false
    → run (drop at (front ++ (text ds ++ rest))) ≡ ds
digits_forth front ds rest at h ok stops = rw (drop_at front (text ds ++ rest) at (sym h)) (run-text ds rest ok stops)

-- and what follows them stands behind them
pub behind-digits : (front ds rest : List ℕ) (at : ℕ) → at ≡ length front → get_or (front ++ (text ds ++ rest)) (at + length ds) 0 ≡ get_or rest 0 0
behind-digits front ds rest at h =
    ap (λ (s : List ℕ). get_or s (at + length ds) 0) (sym (append_assoc front (text ds) rest))
    ∙ at-end (front ++ text ds) rest (at + length ds) (omega (arith, length-append front (text ds), length-text ds))

pub decimal_forth : (front : List ℕ) (d : Mantissa) (rest : List ℕ) (at : ℕ) → at ≡ length front → AreDigits (digits d) → Stops d rest
    → decimal_at (front ++ (mantissa_text d ++ rest)) at ≡ decimal_of at d
unfolding decimal_at
decimal_forth front (Mantissa.plain ds) rest at h ok stops =
    rw (digits_forth front ds rest at h ok stops.0, behind-digits front ds rest at h, stops.1, add-sub_cancel_left)
decimal_forth front (Mantissa.pointed before behind) rest at h ok stops =
    let tail : List ℕ = 46 ∷ (text behind ++ rest) in
    let short : List ℕ = front ++ (text before ++ (46 ∷ [])) in
    let s : List ℕ = front ++ (text before ++ tail) in
    let long : at + length before + 1 ≡ length short = simp length-append (omega (arith, length-text before)) in
    let whole : front ++ (mantissa_text (Mantissa.pointed before behind) ++ rest) ≡ s = simp append_assoc in
    let regrouped : short ++ (text behind ++ rest) ≡ s = simp append_assoc in
    let first : run (drop at s) ≡ before = digits_forth front before tail at h (front-digits before behind ok) refl in
    let second : run (drop (at + length before + 1) s) ≡ behind =
    rw (← regrouped) (digits_forth short behind rest (at + length before + 1) long (back_digits before behind ok) stops) in
    rw (whole, first, behind-digits front before tail at h, second, add-sub_cancel_left at, add-sub_cancel_left (at + length before + 1))

-- whatever a text is, it starts with digits and a point, as many as there are
pub record Leading (s : List ℕ) : Type 0 where
  pub decimal : Mantissa
  pub rest : List ℕ
  pub stands : s ≡ mantissa_text decimal ++ rest
  pub ok : AreDigits (digits decimal)
  pub stops : Stops decimal rest

behind-run : (s : List ℕ) → is_digit (get_or (drop (length (run s)) s) 0 0) ≡ false
behind-run s = rw (get_or-drop (length (run s)) s 0 0, add-zero) (run-stops s)

pub leading : (s : List ℕ) → Leading s
leading s = by (eqb (get_or q 0 0) 46) refl
  where
    q : List ℕ
    q = drop (length (run s)) s

    by : (t : Bool) → eqb (get_or q 0 0) 46 ≡ t → Leading s
    by false e = record { decimal = Mantissa.plain (run s); rest = q; stands = run-front s; ok = run-digits s; stops = (behind-run s, e) }
    by true e =
        let more : List ℕ = drop 1 q in
        record {
          decimal = Mantissa.pointed (run s) (run more);
          rest = drop (length (run more)) more;
          stands =
              run-front s
              ∙ ap (λ (l : List ℕ). text (run s) ++ l) (byte-there q 0 46 (lit< tt) (eqb-true (get_or q 0 0) 46 e) ∙ ap (λ (l : List ℕ). 46 ∷ l) (run-front more))
              ∙ sym (append_assoc (text (run s)) (46 ∷ text (run more)) (drop (length (run more)) more));
          ok = both-digits (run s) (run more) (run-digits s) (run-digits more);
          stops = behind-run more;
        }
