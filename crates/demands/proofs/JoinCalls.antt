-- Any list of calls of `kdr_join` after an opening: the numbers that the caller keeps mean a record that follows the messages accepted.
use mathlib.Core.Bool.{Bool, true, false}
use mathlib.Core.List.{List, [], ◌∷◌, ◌++◌}
use mathlib.Core.Logic.{inl, inr}
use mathlib.Core.Path.{◌≡◌, refl, sym, ap, subst, ◌∙◌}
use Prim.Native.Nat.{ℕ, ◌≤◌}
use native.Mathlib.Omega.{arith}
use lib.Dec.{eqb, ltb}
use lib.ListN.{length, drop}
use borrow.Author.Tests.{ne_eqb}
use Rattle.std.specs.Prelude.{Option, Result}
use Rattle.std.proofs.lemmas.Bool.Decides.{nat_tests}
use Rattle.wire.specs.declared.Refusal.{Refusal}
use Rattle.wire.specs.Bytes.{if, splice}
use Rattle.wire.specs.Calls.{Done, record_after_all, kept_after_all}
use Rattle.wire.specs.declared.Refusal.TheVariants.{NoRoom}
use Rattle.wire.specs.Refusals.{number_of}
use Rattle.wire.proofs.Calls.{all_right, holds_after}
use Rattle.sedna.specs.Message.{Message}
use Rattle.sedna_read.specs.declared.Reading.{Reading}
use Rattle.sedna_laws.proofs.Refusals.{reading-refusals}
use Rattle.parts_join.specs.declared.Assembly.{Assembly}
use Rattle.parts_join.specs.declared.Open.{Open}
use Rattle.parts_join.specs.declared.Open.TheVariants.{Nothing}
use Rattle.parts_join.specs.Answers.{Reply}
use Rattle.parts_join.specs.Calls.{Gathered, join_call}
use Rattle.parts_join.specs.Cuttings.{fronted}
use Rattle.parts_join.specs.Joining.{opened, buffer_after}
use Rattle.parts_join.specs.Offered.{text_in, RightReply, Accepted, none_accepted, accept, RightCall}
use Rattle.parts_join.proofs.Cuttings.{over-fronted}
use Rattle.parts_join.proofs.Offered.{Holds, call_right, fresh_holds}
use Rattle.parts_join.proofs.Refusals.{refusal-leaves}
use Rattle.sedna_c.specs.Codes.{side_reading}
use Rattle.parts_c.specs.Joining.{assembly_put, meant_by, open_after, Outcome, unchanged as left_alone, meant_joined, outcome}
use Rattle.demands.specs.Answered.{Answered, Call, Told}
use Rattle.demands.specs.Gatherings.{Gathering, Means, TellsReply}
use Rattle.demands.specs.JoinCalls.{keep_by, keep, RightJoinCall, AfterJoins, JoinCalls}
use Rattle.demands.specs.PartsCalls.{Keeps, join_called, Offers, refused_numbers, accepted_join, replied, grown_to, JoinRight}
use Rattle.demands.proofs.Gatherings.{means-put, one_assembly}
use Rattle.demands.proofs.PartsCalls.{join}
use Rattle.demands.proofs.SednaCalls.{is-offered}

-- seven numbers stay seven
module _ (d buffer bytes told : List ℕ) (h : 7 ≤ length d) where
  outcome_seven : (t u : Bool) (k : Option Assembly) (r : Result Reading Refusal)
      → 7 ≤ length (if {A = Outcome} t (left_alone NoRoom d buffer told) (if u (left_alone NoRoom d buffer told) (meant_joined k r bytes d buffer told))).assembly
  outcome_seven t u k r = grind (arith, nat_tests)

  seven : (side : ℕ) → 7 ≤ length (outcome d buffer side bytes told).assembly
  unfolding outcome
  seven side = outcome_seven (ltb (length d) 7) (ltb (length told) 4) (meant_by d) (side_reading side bytes)

-- a message that is taken is accepted, and spoils nothing
accepted : (k : Accepted) (m : Message) {t : List ℕ} {x : Reply} → TellsReply t x → accept k m x ≡ record { messages = k.messages ++ (m ∷ []); spoilt = k.spoilt }
accepted k m t = grind arith

-- the mark is one of the seven
marked-behind : (j : ℕ) (d : List ℕ) → drop 7 (refused_numbers j d) ≡ drop 7 d
marked-behind j d = grind (arith, nat_tests)

module _ (what : Open) (d numbers : List ℕ) where
  -- what holds between the calls: the numbers mean a record that follows the messages accepted
  record Follows (k : Accepted) (s : Keeps) : Type 0 where
    pub assembly : Assembly
    pub means : Means s.assembly assembly
    pub holds : Holds what d k (record { assembly = assembly; buffer = s.buffer })
    pub seven : 7 ≤ length s.assembly
    pub behind : drop 7 s.assembly ≡ drop 7 numbers

  module _ (k : Accepted) (s : Keeps) (c : Call) (f : Follows k s) where
    abbrev Comes : Done Keeps Told → Type 0
    Comes x = RightJoinCall what d k s c x × Follows (keep k c x.answer) x.record_after

    -- a number other than 12 leaves what was kept
    kept : (n : ℕ) → eqb n 12 ≡ false → Follows (keep_by k c (Answered.refusal n)) s
    kept n e =
        let same : k.spoilt ≡ (if k.spoilt true (eqb n 12)) = grind (arith, nat_tests) in
        subst (λ (t : Bool). Follows (record { messages = k.messages; spoilt = t }) s) same f

    module _ (a : Assembly) (m : Message) (n : ℕ) (o : Offers s c a m n) where
      -- parts_join's call of the same message
      right : RightReply what (length d) m (k.messages ++ (m ∷ [])) k.spoilt (replied s a m)
          × Holds what d (accept k m (replied s a m)) (join_call (record { assembly = a; buffer = s.buffer }) m).record_after
      right =
          subst (λ (b : Assembly). let g : Gathered = record { assembly = b; buffer = s.buffer } in
          RightCall what (length d) k g m (join_call g m) × Holds what d (accept k m (join_call g m).answer) (join_call g m).record_after)
          (one_assembly s.assembly f.assembly a f.means o.means) (call_right what d k (record { assembly = f.assembly; buffer = s.buffer }) m f.holds)

    by : (x : Done Keeps Told) → JoinRight s c x → 7 ≤ length x.record_after.assembly → Comes x
    by x (JoinRight.few (inl h)) l = let z = f.seven in absurd (omega (arith, h, z))
    by x (JoinRight.few (inr h)) l = (RightJoinCall.few h, kept 10 refl)
    by x (JoinRight.no_assembly lent none) l = absurd (none f.assembly f.means)
    by x (JoinRight.nobody a lent means none) l = (RightJoinCall.nobody lent.1 none, kept 8 refl)
    by x (JoinRight.unread a r lent means reads) l =
        let few = (reading-refusals reads.side c.bytes r reads.read).1 in
        (RightJoinCall.unread lent.1 r reads, kept (number_of r) (ne_eqb (number_of r) 12 (λ z. absurd (omega (arith, few, z)))))
    by x (JoinRight.refused a m n j o e means) l =
        let holds = subst (λ (y : Reply). Holds what d (accept k m y) (join_call (record { assembly = a; buffer = s.buffer }) m).record_after) e (right a m n o).1 in (
          RightJoinCall.refused o.lent.1 m n j o.reads (subst (RightReply what (length d) m (k.messages ++ (m ∷ [])) k.spoilt) e (right a m n o).0),
          record {
            assembly = grown_to s a m;
            means = means;
            holds =
                subst (λ (b : List ℕ). Holds what d (accept k m (Reply.number j)) (record { assembly = grown_to s a m; buffer = b }))
                (refusal-leaves a s.buffer m j e).buffer holds;
            seven = l;
            behind = marked-behind j s.assembly ∙ f.behind;
          },
        )
    by x (JoinRight.accepted a m n after t o tells inside told means behind) l =
        let again = (right a m n o).1 in
        let buffer : buffer_after a s.buffer m ≡ fronted d (text_in (k.messages ++ (m ∷ []))) =
        again.buffer ∙ ap (λ (q : Accepted). splice d 0 (text_in q.messages)) (accepted k m tells) ∙ over-fronted d (text_in (k.messages ++ (m ∷ []))) in
        let same : accept k m (replied s a m) ≡ keep_by k c (Answered.count n) =
        accepted k m tells ∙ ap (λ (ms : List Message). record { messages = k.messages ++ ms; spoilt = k.spoilt }) (sym (is-offered c.bytes o.reads.is o.reads.read)) in (
          subst (λ (b : List ℕ). RightJoinCall what d k s c (accepted_join n after b t)) (sym buffer)
              (RightJoinCall.accepted o.lent.1 m n (replied s a m) after t o.reads (right a m n o).0 tells told behind),
          record {
            assembly = grown_to s a m;
            means = means;
            holds = subst (λ (q : Accepted). Holds what d q (join_call (record { assembly = a; buffer = s.buffer }) m).record_after) same again;
            seven = l;
            behind = behind ∙ f.behind;
          },
        )

  goes : (k : Accepted) (s : Keeps) (c : Call) → Follows k s → RightJoinCall what d k s c (join_called s c) × Follows (keep k c (join_called s c).answer) (join_called s c).record_after
  goes k s c f = by k s c f _ (join s c) (seven s.assembly s.buffer c.bytes c.numbers f.seven c.side)

-- from a fresh opening
after : (what : Open) (d buffer : List ℕ) (calls : List Call) → AfterJoins what buffer (record { assembly = assembly_put (opened what) d; buffer = buffer }) calls
after what d buffer calls = record {
  right = all_right join_called keep (RightJoinCall what buffer) (Follows what buffer d) (goes what buffer d) none_accepted start calls fresh;
  buffer = end.holds.buffer ∙ over-fronted buffer _;
  assembly = (end.assembly, end.means);
  behind = end.behind;
}
  where
    start : Keeps
    start = record { assembly = assembly_put (opened what) d; buffer = buffer }

    fresh : Follows what buffer d none_accepted start
    fresh = record {
      assembly = opened what;
      means = means-put (opened what) d (omega arith, omega arith, omega arith);
      holds = fresh_holds what buffer;
      seven = omega arith;
      behind = refl;
    }

    end : Follows what buffer d (kept_after_all join_called keep none_accepted start calls) (record_after_all join_called start calls)
    end = holds_after join_called keep (RightJoinCall what buffer) (Follows what buffer d) (goes what buffer d) none_accepted start calls fresh

opened-numbers : {number : ℕ} {what : Open} → Gathering number what → ¬ (what ≡ Nothing) → (d : List ℕ) → 7 ≤ length d → open_after number d ≡ assembly_put (opened what) d
opened-numbers g some d h = grind (arith, nat_tests)

pub join_calls : JoinCalls
join_calls = record {
  after_any_calls = λ number what g some d buffer h calls.
      subst (λ (numbers : List ℕ). AfterJoins what buffer (record { assembly = numbers; buffer = buffer }) calls) (sym (opened-numbers g some d h)) (after what d buffer calls);
}
