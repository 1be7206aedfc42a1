-- An instant that is handed over has its nanoseconds below a second.
use mathlib.Core.List.{List, ◌++◌}
use mathlib.Core.Path.{◌≡◌, refl, ◌∙◌}
use Prim.Native.Nat.{ℕ, zero, suc, ◌-◌}
use native.Mathlib.Omega.{arith}
use lib.ListN.{length, length-append, replicate, length-replicate}
use Rattle.sedna_digits.specs.Numbers.{AreDigits}
use Rattle.sedna_digits.proofs.Numbers.{number_below}
use Rattle.sedna_value_laws.proofs.Decimals.{both-digits}
use Rattle.wire.proofs.Branches.{apart}
use Rattle.sedna_instant.specs.declared.Instant.{Instant}
use Rattle.sedna_value.specs.declared.Value.{Value}
use Rattle.sedna_value.specs.declared.Value.TheVariants.{At}
use Rattle.sedna_value_laws.specs.DateTimeTexts as date-times
use Rattle.sedna_value_laws.specs.DateTimeTexts.{DateTime}
use Rattle.sedna_value_laws.specs.DoubleTexts as doubles
use Rattle.sedna_value_laws.specs.DoubleTexts.{DoubleText}
use Rattle.sedna_value_laws.specs.Exactly.{Valuing}
use Rattle.sedna_value_laws.specs.Order.{Proper, HandedProper}
use Rattle.sedna_value_laws.specs.Texts.{Kind, Text, Formed, Means}

zeros_digits : (n : ℕ) → AreDigits (replicate n 0)
zeros_digits zero = tt
zeros_digits (suc n) = (omega arith, zeros_digits n)

proper-text : (t : DateTime) (i : Instant) → AreDigits t.fraction → date-times.Means t (At i) → Proper i
proper-text t i d m =
    let n = 9 - length t.fraction in
    let b = number_below (t.fraction ++ replicate n 0) (both-digits t.fraction (replicate n 0) d (zeros_digits n)) in
    let l : length (t.fraction ++ replicate n 0) ≡ 9 = length-append t.fraction (replicate n 0) ∙ (rw (length-replicate {A = ℕ} n 0) (omega (arith, m.nine))) in
    let own : i ≡ m.instant = cc in
    rw (own, m.nanos_are) (rw l at b)

proper-kind : (k : Kind) (t : Text k) (i : Instant) → Formed k t → Means k t (At i) → Proper i
proper-kind (Kind.whole w) t i f m = apart (cc)
proper-kind Kind.instant t i f m = proper-text t i f.fraction m
proper-kind Kind.boolean t i f m = apart (cc)
proper-kind Kind.double t i f m = never m refl
  where
    never : {t : DoubleText} {v : Value} → doubles.Means t v → v ≡ At i → Proper i
    never (doubles.Means.decimal few e) q = apart (cc)

pub handed-proper : ((class type : ℕ) (s : List ℕ) → Valuing class type s) → HandedProper
handed-proper exact class type s i e = let t = ((exact class type s).accepted (At i)).0 e in proper-kind t.0.kind t.0.text i t.0.formed t.1
