-- A whole number by where its digits start and the run that stands there.
use Rattle.std.specs.Prelude.{Err}
use mathlib.Core.Path.{◌≡◌, sym, ap, ◌∙◌}
use mathlib.Core.List.{List}
use Prim.Native.Nat.{ℕ, ◌≤◌, ◌<◌}
use lib.Dec.{eqb}
use lib.ListN.{length, get_or}
use borrow.Author.Tests.{eq-eqb, ne_eqb, lt-ltb, le-ltb}
use Rattle.wire.specs.declared.Refusal.TheVariants.{NotOfForm}
use Rattle.sedna_digits.specs.declared.Run.{Run}
use Rattle.sedna_digits.specs.Digits.{digits_at, behind_sign}
use Rattle.sedna_value.specs.Wholes.{signed_of, ranged_of, whole_by, whole_of}

module _ (kind : ℕ) (s : List ℕ) (at : ℕ) (r : Run) (starts : at ≡ behind_sign s 0) (runs : r ≡ digits_at s at) where
  whole_by_lem : whole_of kind s ≡ whole_by kind s at r
  unfolding whole_of
  whole_by_lem = ap (λ (n : ℕ). whole_by kind s n (digits_at s n)) (sym starts) ∙ ap (whole_by kind s at) (sym runs)

  pub no_digit : r.end ≡ at → Err NotOfForm ≡ whole_of kind s
  no_digit e = sym (whole_by_lem ∙ simp (eq-eqb _ _ e))

  pub more-behind : (r.end ≡ at → ⊥) → r.end < length s → Err NotOfForm ≡ whole_of kind s
  more-behind n h = sym (whole_by_lem ∙ simp (ne_eqb _ _ n, lt-ltb _ _ h))

  pub digits_alone : (r.end ≡ at → ⊥) → length s ≤ r.end → whole_of kind s ≡ ranged_of kind (signed_of (eqb (get_or s 0 0) 45) r.number)
  digits_alone n h = whole_by_lem ∙ simp (ne_eqb _ _ n, le-ltb _ _ h)
