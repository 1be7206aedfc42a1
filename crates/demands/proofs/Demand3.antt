-- Demand 3 holds: over the list offered, the session record follows the accepted messages.
use mathlib.Core.List.{List, []}
use mathlib.Core.Path.{◌≡◌, refl, sym, ◌∙◌, ap, subst}
use Prim.Native.Nat.{ℕ}
use native.Mathlib.Omega.{arith}
use Rattle.std.proofs.lemmas.Bool.Decides.{nat_tests}
use Rattle.wire.specs.Calls.{Done}
use Rattle.wire.proofs.Calls.{Goes, all_right, holds_after}
use Rattle.sedna.specs.Message.{Message}
use Rattle.sedna_laws.proofs.Exact.{exact}
use Rattle.sedna_laws.proofs.Meaning.{meaning-located}
use Rattle.sedna_read.specs.Meaning.{meaning}
use Rattle.sedna_read.specs.Places.{located}
use Rattle.sedna_read.specs.Reading.{Answer, reading}
use Rattle.grammar.proofs.Ended.{ended}
use Rattle.grammar.proofs.One.{one_layout}
use Rattle.session.specs.declared.Session.{Session}
use Rattle.session.specs.Machine.{next}
use Rattle.session.specs.Step.{fresh_session, Outcome, outcome, settled, stepped}
use Rattle.session_laws.proofs.Begun.{has-turn, one_turn, broken_off, error_answers}
use Rattle.session_laws.proofs.Follows.{Follows, fresh_follows, begins, whole-closed, Settled, settles, moved, nine}
use Rattle.session_laws.proofs.Published.{published-sent, published_exact, begun-published}
use Rattle.session_laws.proofs.Turn.{turn_exact}
use Rattle.demands.specs.Demand3.{Offer, RightAnswer, accepting, step, Demand3}

module _ (o : Offer) where
  abbrev read : Answer
  read = reading o.side o.bytes

  abbrev meant : Answer → Answer
  meant a = meaning o.bytes (located a)

  -- the step's answer, told by places, means itself
  means : (s : Session) (a : Answer) → read ≡ a → meant (outcome s a).answer ≡ (outcome s a).answer
  means s (Answer.refused r) e = refl
  means s (Answer.accepted m n) e =
      let same : meant (Answer.accepted m n) ≡ Answer.accepted m n = ap meant (sym e) ∙ meaning-located o.side o.bytes o.are_bytes ∙ e in
      grind (arith, nat_tests, same)

  -- both forms do what the definition of the step says
  abbrev done : Outcome → Done Session Answer
  done x = record { record_after = x.session; answer = x.answer }

  does : (s : Session) → step s o ≡ done (outcome s read)
  unfolding stepped
  does s = let same = means s read refl in grind arith

-- what is right of a step, as `AllRight` asks for it
abbrev pub Right : List Message → Session → Offer → Done Session Answer → Type 0
Right before s o done = RightAnswer before o done.answer

-- after one step: the answer is right, and the record follows
abbrev Stands : List Message → Offer → Done Session Answer → Type 0
Stands before o d = RightAnswer before o d.answer × Follows (accepting before o d.answer) d.record_after

pub goes : Goes step accepting Right Follows
goes before s o i = subst (Stands before o) (sym (does o s)) (by (read o) refl)
  where
    met : (m : Message) (n : ℕ) → read o ≡ Answer.accepted m n → (x : Outcome) → Settled before s m n x → Stands before o (done o x)
    met m n e x (moved f) = (RightAnswer.accepted e (begins f), f)
    met m n e x (nine b) = (RightAnswer.out_of_order e b refl, i)

    by : (a : Answer) → read o ≡ a → Stands before o (done o (outcome s a))
    by (Answer.refused r) e = (RightAnswer.unread e, i)
    by (Answer.accepted m n) e =
        met m n e (settled s m n (next s.phase s.version m.instruction))
        (settles i m n (published-sent ((exact o.side o.bytes o.are_bytes m n).0 e).0))

pub demand_3 : Demand3
demand_3 = record {
  after_any_list = λ offers.
      let i = holds_after step accepting Right Follows goes [] fresh_session offers fresh_follows in
      record {
        begun = begins i;
        right = all_right step accepting Right Follows goes [] fresh_session offers fresh_follows;
        whole = whole-closed i;
        turned = turn_exact i;
      };
  one_layout = one_layout;
  ended = ended;
  payloads = published_exact;
  sendable = begun-published;
  turn = has-turn;
  one_turn = one_turn;
  broken_off = broken_off;
  error_answers = error_answers;
}
