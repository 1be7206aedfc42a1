-- What `?` hands on, what two equal answers hold, and what `ok_or` was asked about.
use Rattle.std.specs.Prelude.{Result, Ok, Err, Option, Some, None}
use Rattle.std.specs.Option.{ok_or}
use Rattle.std.specs.Result.{IsErrAnd}
use Rattle.std.proofs.lemmas.Result.{err_from_is_err_and}
use mathlib.Core.Path.{◌≡◌, refl, sym, ap, ◌∙◌}
use Prim.Native.Nat.{ℕ}
use native.Mathlib.Omega.{arith}
use Rattle.wire.specs.declared.Refusal.{Refusal}

-- a refusal that `?` handed on is the one that it met
pub handed : {T : Type 0} (w : Result T Refusal) {r : Refusal} → IsErrAnd w (λ e. e ≡ r) → w ≡ Err r
handed w h = let p = err_from_is_err_and w h in p.1 ∙ ap Err p.2

-- what two answers hold is the same where the answers are
pub ok-same : {A : Type 0} {a b : A} → ◌≡◌ {A = Result A Refusal} (Ok a) (Ok b) → a ≡ b
ok-same e = cc

-- what `ok_or` was asked about
pub was-some : {A : Type 0} (r : Refusal) {a : A} (o : Option A) → ◌≡◌ {A = Result A Refusal} (Ok a) (ok_or o r) → o ≡ Some a
was-some r None e = let z : ◌≡◌ {A = ℕ} 0 1 = cc in absurd (omega arith)
was-some r (Some x) e = ap Some (sym (ok-same e))

pub was-none : {A : Type 0} {r q : Refusal} (o : Option A) → ◌≡◌ {A = Result A Refusal} (Err q) (ok_or o r) → (o ≡ None) × (q ≡ r)
was-none None e = (refl, cc)
was-none (Some x) e = let z : ◌≡◌ {A = ℕ} 0 1 = cc in absurd (omega arith)
