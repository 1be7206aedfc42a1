-- What a judgement says of the body and the room, and which lengths it judges alike.
use Rattle.std.specs.Prelude.{Result, Ok, Err}
use mathlib.Core.Path.{◌≡◌, refl, ap}
use mathlib.Core.Bool.{Bool, true, false}
use Prim.Native.Nat.{ℕ, ◌+◌, ◌≤◌, ◌<◌, min}
use native.Mathlib.Omega.{arith}
use lib.Dec.{ltb}
use borrow.Author.Tests.{ltb-true, ltb-false, lt-ltb}
use Rattle.wire.proofs.Branches.{apart, either}
use Rattle.wire.proofs.Call.{counted-there}
use Rattle.sedna.specs.declared.Shape.{Shape}
use Rattle.wire.specs.declared.Refusal.{Refusal}
use Rattle.sedna.specs.Table.{find_of, fit_of}
use Rattle.sedna_write.specs.Writing.{judgement_by, judgement}

-- what is true where a body is counted
pub record Counts (f : Result (Unit {0}) Refusal) (ok : Bool) (n room k : ℕ) : Type 0 where
  pub same : f ≡ Ok tt
  pub allowed : ok ≡ true
  pub short : n ≤ 10240
  pub fits : 8 + n ≤ room
  pub count : k ≡ 8 + n

pub counts : (i : ℕ) (sh : Shape) (ok : Bool) (n room k : ℕ) → judgement i sh ok n room ≡ Ok k → Counts (fit_of (find_of i) sh) ok n room k
unfolding judgement
counts i sh ok n room k = by (fit_of (find_of i) sh)
  where
    by : (f : Result (Unit {0}) Refusal) → judgement_by f ok n room ≡ Ok k → Counts f ok n room k
    by (Err r) e = apart (cc)
    by (Ok _) e =
        either ok _ _ e
        (λ ok e₁. either (ltb 10240 n) _ _ e₁ (λ _ q. apart (cc)) λ short e₂.
        let there = counted-there room 0 (8 + n) k e₂ in
        record { same = refl; allowed = ok; short = ltb-false _ _ short; fits = omega (arith, there.1); count = there.0 })
        (λ _ q. apart (cc))

-- lengths that are the same up to 10,241 are judged alike, and any two where the values are not allowed
pub judged_alike : (i : ℕ) (sh : Shape) (ok : Bool) (x y room : ℕ) → (ok ≡ true → min 10241 x ≡ min 10241 y) → judgement i sh ok x room ≡ judgement i sh ok y room
unfolding judgement
judged_alike i sh ok x y room alike = by (fit_of (find_of i) sh) ok alike
  where
    by_size : (b : Bool) → ltb 10240 x ≡ b → min 10241 x ≡ min 10241 y → judgement_by (Ok tt) true x room ≡ judgement_by (Ok tt) true y room
    by_size true e m =
        let h : 10240 < x = ltb-true _ _ e in
        let k : 10240 < y = omega arith in
        rw (lt-ltb 10240 x h, lt-ltb 10240 y k)
    by_size false e m =
        let h : x ≤ 10240 = ltb-false _ _ e in
        let k : x ≡ y = omega arith in
        ap (λ (n : ℕ). judgement_by (Ok tt) true n room) k

    by : (f : Result (Unit {0}) Refusal) (ok : Bool) → (ok ≡ true → min 10241 x ≡ min 10241 y) → judgement_by f ok x room ≡ judgement_by f ok y room
    by (Err r) ok alike = refl
    by (Ok _) true alike = by_size (ltb 10240 x) refl (alike refl)
    by (Ok _) false alike = refl
