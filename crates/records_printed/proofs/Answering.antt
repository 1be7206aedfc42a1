-- From the step's answer to a record's.
use Rattle.std.specs.Prelude.{Err}
use Rattle.sedna_read.specs.Places.{read_as_message}
use Rattle.session.specs.Step.{by_places as stepped_as}
use Rattle.sedna_read.specs.Reading.{answered as parsed}
use mathlib.Core.Bool.{Bool, true, false}
use mathlib.Core.List.{List}
use mathlib.Core.Path.{◌≡◌, refl, sym, ap}
use Prim.Native.Nat.{ℕ, ◌+◌, ◌-◌}
use native.Mathlib.Omega.{arith}
use lib.Dec.{ltb, eqb}
use lib.ListN.{length, take, drop}
use borrow.Author.Tests.{ne_eqb}
use Rattle.wire.specs.Bytes.{if, int_at}
use Rattle.wire.specs.Fields.{Got}
use Rattle.wire.specs.Refusals.{number_of}
use Rattle.wire.specs.declared.Refusal.{Refusal}
use Rattle.wire.specs.declared.Refusal.TheVariants.{OutOfOrder}
use Rattle.sedna.specs.declared.Side.{Side}
use Rattle.sedna.specs.Message.{Body, Message}
use Rattle.wire.proofs.Branches.{apart, either}
use Rattle.sedna_laws.proofs.Heads.{head_back}
use Rattle.sedna_laws.proofs.Refusals.{reading-refusals}
use Rattle.sedna_read.specs.declared.{Places.Places, Reading.Reading}
use Rattle.sedna_read.specs.Places.{located, places_of}
use Rattle.sedna_read.specs.Reading.{Heading, heading, Answer, body_field, after_head, reading}
use Rattle.session.specs.declared.Session.{Session}
use Rattle.session.specs.Machine.{next, refused}
use Rattle.session.specs.Step.{Outcome, version_after, outcome, stepped}
use Rattle.records_printed.specs.declared.Answered.{Answered}
use Rattle.records.specs.Record.{record_of}
use Rattle.records_printed.specs.Answer.{by_number, after_reading, answered}
use Rattle.records_printed.specs.inner.Line.{refused_with}

-- a message that was read has eight bytes, and as many more as its head says
pub read_count : (side : Side) (s : List ℕ) (m : Message) (n : ℕ) → reading side s ≡ Answer.accepted m n → n ≡ 8 + int_at s 4
unfolding reading heading
read_count side s m n = by (heading side s) refl
  where
    body : (k : ℕ) (g : Got Body) → k ≡ int_at s 4 → parsed (int_at s 0) (8 + k) g ≡ Answer.accepted m n → n ≡ 8 + int_at s 4
    body k (Got.refused r) z e = apart (cc)
    body k (Got.got b rest) z e = let q : 8 + k ≡ n = cc in omega arith

    by : (h : Heading) → heading side s ≡ h → after_head s h ≡ Answer.accepted m n → n ≡ 8 + int_at s 4
    by (Heading.refused r) q e = apart (cc)
    by (Heading.headed shape k) q e =
        either (ltb (length s) (8 + k)) _ _ e (λ cut e₁. apart (cc)) λ fits e₁.
        body k (body_field shape (take k (drop 8 s))) (head_back side s shape k q).size e₁

abbrev answer_of : ℕ → Session → Answered
answer_of n s = record { number = n; session = s }

module _ (s : Session) (side : Side) (p : List ℕ) where
  -- a message that reads well, by the phase that its move leads to
  abbrev moved : Message → ℕ → ℕ → Bool → Outcome
  moved m n to t =
      if t (record { session = s; answer = Answer.refused OutOfOrder })
      (record { session = record { phase = to; version = version_after m.instruction s.version m.body }; answer = Answer.accepted m n })

  refused_moved : (m : Message) (n to : ℕ) (x : Refusal) (t : Bool) → n ≡ 8 + int_at p 4 → located (moved m n to t).answer ≡ Err x
      → if (ltb n (length p)) (answer_of 7 s) (by_number (stepped_as (moved m n to t))) ≡ answer_of (refused_with p x) s
  refused_moved m n to x true c e =
      let same : OutOfOrder ≡ x = cc in
      rw (c, ← same) (by (ltb (8 + int_at p 4) (length p)))
    where
      by : (t : Bool) → if t (answer_of 7 s) (answer_of 9 s) ≡ answer_of (if t 7 9) s
      by true = refl
      by false = refl
  refused_moved m n to x false c e = apart (cc)

  taken_moved : (m : Message) (n to : ℕ) (i : ℕ) (places : Places) (k : ℕ) (t : Bool) → located (moved m n to t).answer ≡ read_as_message i places k
      → if (ltb n (length p)) (answer_of 7 s) (by_number (stepped_as (moved m n to t))) ≡ if (ltb k (length p)) (answer_of 7 s) (answer_of 0 (moved m n to t).session)
  taken_moved m n to i places k true e = apart (cc)
  taken_moved m n to i places k false e =
      let read : ◌≡◌ {A = Reading} (record { instruction = m.instruction; places = places_of 8 (n - 8) m.body; count = n }) (record { instruction = i; places = places; count = k }) = cc in
      rw (ap (λ (x : Reading). x.count) read)

  -- the step refused
  pub answer-refused : (x : Refusal) → (stepped s side p).answer ≡ Err x → answer_of (refused_with p x) s ≡ answered s (record_of side p)
  unfolding stepped answered
  answer-refused x h = sym (by (reading side p) refl h)
    where
      by : (a : Answer) → reading side p ≡ a → located (outcome s a).answer ≡ Err x → after_reading s (record_of side p) a ≡ answer_of (refused_with p x) s
      by (Answer.refused r) e h =
          let same : r ≡ x = cc in
          let few = reading-refusals side p r e in
          rw (← same, ne_eqb (number_of r) 9 (λ nine. omega arith))
      by (Answer.accepted m n) e h =
          rw e (refused_moved m n (next s.phase s.version m.instruction) x (eqb (next s.phase s.version m.instruction) refused) (read_count side p m n e) h)

  -- the step took a message of k bytes
  pub answer-taken : (i : ℕ) (places : Places) (k : ℕ) → (stepped s side p).answer ≡ read_as_message i places k
      → if (ltb k (length p)) (answer_of 7 s) (answer_of 0 (stepped s side p).session) ≡ answered s (record_of side p)
  unfolding stepped answered
  answer-taken i places k h = sym (by (reading side p) refl h)
    where
      by : (a : Answer) → reading side p ≡ a → located (outcome s a).answer ≡ read_as_message i places k
          → after_reading s (record_of side p) a ≡ if (ltb k (length p)) (answer_of 7 s) (answer_of 0 (outcome s (reading side p)).session)
      by (Answer.refused r) e h = apart (cc)
      by (Answer.accepted m n) e h = rw e (taken_moved m n (next s.phase s.version m.instruction) i places k (eqb (next s.phase s.version m.instruction) refused) h)
