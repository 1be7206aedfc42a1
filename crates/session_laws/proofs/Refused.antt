-- A refused step: which refusals there are, and that the record stays.
use Rattle.std.specs.Prelude.{Result, Err}
use mathlib.Core.Bool.{Bool, true, false}
use mathlib.Core.List.{List}
use mathlib.Core.Path.{◌≡◌, refl, subst}
use Prim.Native.Nat.{ℕ, ◌≤◌}
use native.Mathlib.Omega.{arith}
use lib.Dec.{eqb}
use Rattle.wire.specs.Bytes.{if}
use Rattle.wire.specs.Refusals.{number_of}
use Rattle.wire.specs.declared.Refusal.{Refusal}
use Rattle.wire.specs.declared.Refusal.TheVariants.{OutOfOrder}
use Rattle.sedna.specs.declared.Side.{Side}
use Rattle.sedna.specs.Message.{Message}
use Rattle.wire.proofs.Branches.{apart}
use Rattle.sedna_laws.proofs.Refusals.{reading-refusals}
use Rattle.sedna_read.specs.declared.Reading.{Reading}
use Rattle.sedna_read.specs.Places.{located}
use Rattle.sedna_read.specs.Reading.{Answer, reading}
use Rattle.session.specs.declared.Session.{Session}
use Rattle.session.specs.Machine.{refused, next}
use Rattle.session.specs.Step.{Outcome, version_after, settled, outcome, stepped}

-- the record as it was, and a refusal of a step's
abbrev Stays : Session → Refusal → Outcome → Type 0
Stays s r x = (x.session ≡ s) × (1 ≤ number_of r) × (number_of r ≤ 9)

nine_stays : (s : Session) (r : Refusal) → ◌≡◌ {A = Result Reading Refusal} (Err OutOfOrder) (Err r) → Stays s r (record { session = s; answer = Answer.refused OutOfOrder })
nine_stays s r e =
    let same : OutOfOrder ≡ r = cc in
    subst (λ (x : Refusal). Stays s x (record { session = s; answer = Answer.refused OutOfOrder })) same (refl, omega arith, omega arith)

settled_stays : (s : Session) (m : Message) (n to : ℕ) (r : Refusal) → located (settled s m n to).answer ≡ Err r → Stays s r (settled s m n to)
settled_stays s m n to r = by (eqb to refused)
  where
    on : Outcome
    on = record { session = record { phase = to; version = version_after m.instruction s.version m.body }; answer = Answer.accepted m n }

    either_way : Bool → Outcome
    either_way t = if t (record { session = s; answer = Answer.refused OutOfOrder }) on

    by : (t : Bool) → located (either_way t).answer ≡ Err r → Stays s r (either_way t)
    by true e = nine_stays s r e
    by false e = apart (cc)

-- a refused step leaves the record as it was, and refuses with 1 to 9
pub step_refused : (s : Session) (side : Side) (bytes : List ℕ) (r : Refusal) → (stepped s side bytes).answer ≡ Err r
    → ((stepped s side bytes).session ≡ s) × (1 ≤ number_of r) × (number_of r ≤ 9)
unfolding stepped
step_refused s side bytes r = by (reading side bytes) refl
  where
    by : (a : Answer) → reading side bytes ≡ a → located (outcome s a).answer ≡ Err r → Stays s r (outcome s a)
    by (Answer.refused k) e h =
        let same : k ≡ r = cc in
        let n = reading-refusals side bytes k e in
        subst (λ (x : Refusal). Stays s x (outcome s (Answer.refused k))) same (refl, n.0, omega (arith, n.1))
    by (Answer.accepted m n) e h = settled_stays s m n (next s.phase s.version m.instruction) r h
