-- Joining answers every list of messages as the cuttings say: the record follows the messages accepted.
use mathlib.Core.Bool.{Bool, true, false}
use mathlib.Core.List.{List, [], ◌∷◌, ◌++◌, append-nil, flat_map}
use mathlib.Core.Path.{◌≡◌, refl, sym, ap, subst, ◌∙◌}
use Prim.Native.Nat.{ℕ, ◌≤◌, ◌<◌}
use native.Mathlib.Omega.{arith}
use lib.Dec.{ltb, eqb}
use lib.ListN.{length}
use borrow.Author.Tests.{ltb-true, ltb-false}
use Rattle.wire.specs.Bytes.{if, splice}
use Rattle.wire.specs.Calls.{Done}
use Rattle.wire.specs.Refusals.{number_of}
use Rattle.wire.specs.declared.Refusal.{Refusal}
use Rattle.wire.specs.declared.Refusal.TheVariants.{ValueNotAllowed, OutOfOrder, BufferOverrun}
use Rattle.wire.proofs.Calls.{all_right, holds_after}
use Rattle.wire.proofs.Lists.{flat_map-append}
use Rattle.wire.proofs.Splices.{splice-none}
use Rattle.sedna.specs.Allowed.{allowed}
use Rattle.sedna.specs.Message.{Message}
use Rattle.parts_join.specs.declared.Assembly.{Assembly}
use Rattle.parts_join.specs.declared.Label.{Label}
use Rattle.parts_join.specs.declared.Open.{Open}
use Rattle.parts_join.specs.declared.Open.TheVariants as gathering
use Rattle.parts_join.specs.declared.Role.TheVariants.{Other}
use Rattle.parts_join.specs.Answers.{Reply}
use Rattle.parts_join.specs.Calls.{Gathered, opened_with, join_call}
use Rattle.parts_join.specs.Cuttings.{values, whole}
use Rattle.parts_join.specs.Joining.{closed, refused, joined}
use Rattle.parts_join.specs.Offered.{Cut, Begun, text_in, RightReply, Accepted, none_accepted, accept, RightCall, Offered}
use Rattle.parts_join.specs.Roles.{together, role_of, takes, in_order, ends, text_of, label, label_of}
use Rattle.parts_join.proofs.Cuttings.{over-fronted, text-made}
use Rattle.parts_join.proofs.Forms.{form, part_of, Reached, reached_begun, Ended, Goes, goes}
use Rattle.parts_join.proofs.Places.{not_both, since, cut_at, begun-at, part-kind, cut-ends}
use Rattle.parts_join.proofs.Steps.{Taken, going, beside, did, joined-value, joined-other, joined-late, joined-spoilt, call_refused}
use Rattle.parts_join.proofs.Steps.{step_part, step_end, step-over}

-- the record with these messages accepted, and the label of the first
abbrev pub holding : Open → List Message → Bool → Label → Assembly
holding what ms spoilt l = record { what = what; begun = since false ms; held = length (text_in ms); overflowed = spoilt; label = l }

-- the record follows the messages accepted: a cutting is under way, spoilt or not, or was handed over
pub data Follows (what : Open) (ms : List Message) : Bool → Assembly → Type 0 where
  under_way : (spoilt : Bool) (l : Label) → Reached what ms l → Follows what ms spoilt (holding what ms spoilt l)
  ended : Cut what ms → Follows what ms false closed

text-behind : (ms : List Message) (m : Message) → text_in (ms ++ (m ∷ [])) ≡ text_in ms ++ text_of m.body
unfolding flat_map
text-behind ms m = flat_map-append (λ (x : Message). text_of x.body) ms (m ∷ []) ∙ ap (λ (t : List ℕ). text_in ms ++ t) (append-nil (text_of m.body))

since_behind : (ms : List Message) (m : Message) → since false (ms ++ (m ∷ [])) ≡ true
since_behind [] m = refl
since_behind (x ∷ ms) m = refl

-- where nothing is open, every message is of another kind
nothing-taken : (m : Message) → takes (role_of gathering.Nothing m) ≡ false
unfolding role_of
nothing-taken m = by (together m.instruction m.body)
  where
    by : (t : Bool) → takes (if t Other Other) ≡ false
    by true = refl
    by false = refl

still : (spoilt : Bool) → spoilt ≡ (if spoilt true false)
still true = refl
still false = refl

-- what holds between the calls: the record follows the messages accepted, and their texts stand in front of the buffer
pub record Holds (what : Open) (d : List ℕ) (k : Accepted) (g : Gathered) : Type 0 where
  pub follows : Follows what k.messages k.spoilt g.assembly
  pub buffer : g.buffer ≡ splice d 0 (text_in k.messages)
  pub room : length (text_in k.messages) ≤ length d

module _ (what : Open) (d : List ℕ) (ms : List Message) (m : Message) (room : length (text_in ms) ≤ length d) where
  -- a call that was so answered came out right, and it holds again
  abbrev Comes : Bool → Done Gathered Reply → Type 0
  Comes spoilt x =
      let k : Accepted = record { messages = ms; spoilt = spoilt } in
      RightReply what (length d) m (ms ++ (m ∷ [])) spoilt x.answer × Holds what d (accept k m x.answer) x.record_after

  abbrev Step : Bool → Assembly → Type 0
  Step spoilt a = Comes spoilt (join_call (beside a d (text_in ms)) m)

  comes : {spoilt : Bool} (a : Assembly) {x : Done Gathered Reply} → join_call (beside a d (text_in ms)) m ≡ x → Comes spoilt x → Step spoilt a
  comes {spoilt} a e h = subst (Comes spoilt) (sym e) h

  refuses : {spoilt : Bool} {a : Assembly} (r : Refusal) → joined a (length (splice d 0 (text_in ms))) m ≡ refused r a
      → RightReply what (length d) m (ms ++ (m ∷ [])) spoilt (Reply.number (number_of r)) → Follows what ms (if spoilt true (eqb (number_of r) 12)) a → Step spoilt a
  refuses {spoilt} {a} r j right f =
      comes a (call_refused (beside a d (text_in ms)) m (refused r a) j refl) (right, record { follows = f; buffer = refl; room = room })

  -- once spoilt: 12 for its parts and ends, 9 for another kind
  spoilt-step : (l : Label) → Reached what ms l → allowed m.body ≡ true → Step true (holding what ms true l)
  spoilt-step l r v = by (takes (role_of what m)) refl
    where
      by : (k : Bool) → takes (role_of what m) ≡ k → Step true (holding what ms true l)
      by true k = refuses BufferOverrun (joined-spoilt _ _ m v k refl) (RightReply.spoilt_part v (part_of (form what m) k)) (Follows.under_way true l r)
      by false k =
          refuses OutOfOrder (joined-other _ _ m v k) (RightReply.spoilt_other v (λ p. not_both (sym (part-kind m p) ∙ k))) (Follows.under_way true l r)

  -- a message in order: it overruns, is a part, or is the last
  module _ (l : Label) (r : Reached what ms l) (v : allowed m.body ≡ true) (k : takes (role_of what m) ≡ true)
      (o : in_order (role_of what m) (since false ms) ≡ true) where
    abbrev first : Label
    first = if (since false ms) l (label_of m.body)

    taken : (end : Bool) → ends (role_of what m) ≡ end → Taken what (since false ms) end m
    taken end e = record { values = v; place = record { kind = k; order = o; ending = e } }

    begun : (end : Bool) → Goes what (ms ++ (m ∷ [])) first end → Begun what (ms ++ (m ∷ []))
    begun true g = ([], rw append-nil g.cut)
    begun false g = reached_begun g (since_behind ms m)

    over-step : (end : Bool) → ends (role_of what m) ≡ end → Goes what (ms ++ (m ∷ [])) first end → length d < length (text_in (ms ++ (m ∷ [])))
        → Step false (holding what ms false l)
    over-step end e g f =
        comes (holding what ms false l)
        (step-over (holding what ms false l) d (text_in ms) m refl refl (taken end e) room (subst (λ (s : List ℕ). length d < length s) (text-behind ms m) f))
        (RightReply.overruns v (begun end g) f, record { follows = Follows.under_way true l r; buffer = refl; room = room })

    module _ (f : length (text_in (ms ++ (m ∷ []))) ≤ length d) where
      in_room_lem : length (text_in ms ++ text_of m.body) ≤ length d
      in_room_lem = subst (λ (s : List ℕ). length s ≤ length d) (text-behind ms m) f

      now : splice d 0 (text_in ms ++ text_of m.body) ≡ splice d 0 (text_in (ms ++ (m ∷ [])))
      now = ap (splice d 0) (sym (text-behind ms m))

      part_step : ends (role_of what m) ≡ false → Reached what (ms ++ (m ∷ [])) first → Step false (holding what ms false l)
      part_step e g =
          let same : holding what (ms ++ (m ∷ [])) false first ≡ going what first (length (text_in ms ++ text_of m.body)) =
          (λ i. record { what = what; begun = since_behind ms m i; held = length (text-behind ms m i); overflowed = false; label = first }) in
          comes (holding what ms false l)
          (step_part (holding what ms false l) d (text_in ms) m refl refl (taken false e) in_room_lem) (
            RightReply.taken v (begun false g) (λ c. not_both (sym (cut_at ms m [] c).ending ∙ e)) f,
            record { follows = subst (Follows what (ms ++ (m ∷ [])) false) same (Follows.under_way false first g); buffer = now; room = f },
          )

      end_step : ends (role_of what m) ≡ true → Ended what (ms ++ (m ∷ [])) first → Step false (holding what ms false l)
      end_step e g =
          let c = g.cut.cutting in
          let all : text_in (ms ++ (m ∷ [])) ≡ whole c = ap text_in (sym g.cut.made) ∙ text-made c in
          comes (holding what ms false l)
          (step_end (holding what ms false l) d (text_in ms) m refl refl (taken true e) in_room_lem
          ∙ ap (did (beside closed d (text_in ms ++ text_of m.body)))
          (g.handed (length (text_in ms ++ text_of m.body)) ∙ ap (λ (s : List ℕ). Reply.whole (values c) (length s)) (sym (text-behind ms m) ∙ all)))
          (RightReply.handed v g.cut (subst (λ (s : List ℕ). length s ≤ length d) all f), record { follows = Follows.ended g.cut; buffer = now; room = f })

    ordered_step : Step false (holding what ms false l)
    ordered_step = by (ends (role_of what m)) refl (goes r (form what m) o) (ltb (length d) (length (text_in (ms ++ (m ∷ []))))) refl
      where
        by : (end : Bool) → ends (role_of what m) ≡ end → Goes what (ms ++ (m ∷ [])) first end
            → (t : Bool) → ltb (length d) (length (text_in (ms ++ (m ∷ [])))) ≡ t → Step false (holding what ms false l)
        by end e g true t = over-step end e g (ltb-true _ _ t)
        by true e g false t = end_step (ltb-false _ _ t) e g
        by false e g false t = part_step (ltb-false _ _ t) e g

  -- before: 9 where no cutting goes on with it
  open_step : (l : Label) → Reached what ms l → allowed m.body ≡ true → Step false (holding what ms false l)
  open_step l r v = by (takes (role_of what m)) refl (in_order (role_of what m) (since false ms)) refl
    where
      untaken : ¬ Begun what (ms ++ (m ∷ [])) → joined (holding what ms false l) (length (splice d 0 (text_in ms))) m ≡ refused OutOfOrder (holding what ms false l)
          → Step false (holding what ms false l)
      untaken none e = refuses OutOfOrder e (RightReply.untaken v none) (Follows.under_way false l r)

      by : (k : Bool) → takes (role_of what m) ≡ k → (o : Bool) → in_order (role_of what m) (since false ms) ≡ o → Step false (holding what ms false l)
      by false k o e = untaken (λ b. not_both (sym (begun-at ms m b).kind ∙ k)) (joined-other _ _ m v k)
      by true k true e = ordered_step l r v k e
      by true k false e = untaken (λ b. not_both (sym (begun-at ms m b).order ∙ e)) (joined-late _ _ m v k refl e)

  allowed-step : {spoilt : Bool} {a : Assembly} → Follows what ms spoilt a → allowed m.body ≡ true → Step spoilt a
  allowed-step (Follows.under_way true l r) v = spoilt-step l r v
  allowed-step (Follows.under_way false l r) v = open_step l r v
  allowed-step (Follows.ended c) v = refuses OutOfOrder (joined-other _ _ m v (nothing-taken m)) (RightReply.untaken v (cut-ends ms m c)) (Follows.ended c)

  -- 8 ahead of all
  step : {spoilt : Bool} {a : Assembly} → Follows what ms spoilt a → Step spoilt a
  step {spoilt} {a} f = by (allowed m.body) refl
    where
      by : (t : Bool) → allowed m.body ≡ t → Step spoilt a
      by true v = allowed-step f v
      by false v = refuses ValueNotAllowed (joined-value a _ m v) (RightReply.value v) (subst (λ (s : Bool). Follows what ms s a) (still spoilt) f)

module _ (what : Open) (d : List ℕ) where
  -- one call
  pub call_right : (k : Accepted) (g : Gathered) (m : Message) → Holds what d k g
      → RightCall what (length d) k g m (join_call g m) × Holds what d (accept k m (join_call g m).answer) (join_call g m).record_after
  call_right k g m h =
      subst (λ (b : List ℕ). Comes what d k.messages m h.room k.spoilt (join_call (record { assembly = g.assembly; buffer = b }) m)) (sym h.buffer)
      (step what d k.messages m h.room h.follows)

  pub fresh_holds : Holds what d none_accepted (opened_with what d)
  unfolding flat_map
  fresh_holds = record { follows = Follows.under_way false (label 0 0 0) Reached.fresh; buffer = sym (splice-none d 0); room = omega arith }

  pub offered : (offers : List Message) → Offered what d offers
  offered offers = record {
    replies = all_right join_call accept (RightCall what (length d)) (Holds what d) call_right none_accepted (opened_with what d) offers fresh_holds;
    buffer =
        (holds_after join_call accept (RightCall what (length d)) (Holds what d) call_right none_accepted (opened_with what d) offers fresh_holds).buffer
        ∙ over-fronted d _;
  }
