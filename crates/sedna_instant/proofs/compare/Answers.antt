use mathlib.Core.Bool.{Bool, true, false}
use mathlib.Core.Path.{◌≡◌, refl, ◌∙◌}
use native.Mathlib.Omega.{arith}
use lib.Dec.{ltb}
use lib.Signed.{lt_z}
use borrow.Author.Tests.{eq-eqb, ne_eqb, ltb-true, ltb-false}
use Rattle.std.specs.Ordering.{nat_cmp, int_cmp, ordering_then}
use Rattle.sedna_instant.specs.declared.Instant.{Instant}
use Rattle.sedna_instant.specs.Orders.{ordered}
use Rattle.sedna_instant.proofs.compare.Goals as goal

-- the order of the fields, the seconds first, is the order of instants
by_fields : (a b : Instant) → ordering_then (int_cmp a.seconds b.seconds) (nat_cmp a.nanos b.nanos) ≡ ordered a b
unfolding ordered
by_fields a b = by (lt_z a.seconds b.seconds) refl (lt_z b.seconds a.seconds) refl (ltb a.nanos b.nanos) refl (ltb b.nanos a.nanos) refl
  where
    by : (p : Bool) → lt_z a.seconds b.seconds ≡ p → (q : Bool) → lt_z b.seconds a.seconds ≡ q → (r : Bool) → ltb a.nanos b.nanos ≡ r → (s : Bool) → ltb b.nanos a.nanos ≡ s
        → ordering_then (int_cmp a.seconds b.seconds) (nat_cmp a.nanos b.nanos) ≡ ordered a b
    by true e q f r g s h = simp e
    by false e true f r g s h = simp (e, f)
    by false e false f true g s h = simp (e, f, g)
    by false e false f false g true h = simp (e, f, g, h, ne_eqb a.nanos b.nanos (λ k. omega (arith, ltb-true b.nanos a.nanos h)))
    by false e false f false g false h = simp (e, f, g, h, eq-eqb a.nanos b.nanos (omega (arith, ltb-false a.nanos b.nanos g, ltb-false b.nanos a.nanos h)))

pub returns : goal.returns
returns c = c.cmp.ensures ∙ by_fields c.args.a c.args.b
