-- Demand 3 holds of a transcript's records: those that are offered to the step are a list offered, and the others change nothing.
use mathlib.Core.Bool.{Bool, true, false}
use mathlib.Core.List.{List, [], ◌∷◌}
use mathlib.Core.Logic.{◌↔◌}
use mathlib.Core.Path.{◌≡◌, refl, ap, subst, ◌∙◌}
use Prim.Native.Nat.{ℕ, zero, suc, ◌≤◌, ◌<◌}
use native.Mathlib.Omega.{arith}
use lib.Dec.{ltb}
use lib.ListN.{length, take, drop, length-take, take-append-drop}
use borrow.Author.Tests.{lt-ltb, le-ltb, ltb-true, ltb-false}
use Rattle.std.specs.Prelude.{Option, Some, None, Result, Ok, Err}
use Rattle.std.proofs.lemmas.Bool.Decides.{nat_tests}
use Rattle.wire.specs.declared.Refusal.{Refusal}
use Rattle.wire.specs.Bytes.{IsBytes}
use Rattle.wire.specs.Calls.{Done}
use Rattle.wire.specs.Every.{Every}
use Rattle.wire.specs.Refusals.{number_of}
use Rattle.wire.proofs.Calls.{GoesFor, all-right_for, holds_after_for}
use Rattle.sedna.specs.Message.{Message}
use Rattle.wire.proofs.Branches.{either}
use Rattle.sedna_laws.proofs.Bytes.{bytes-behind, bytes-part}
use Rattle.sedna_laws.proofs.Exact.{exact}
use Rattle.sedna_read.specs.Meaning.{meaning}
use Rattle.sedna_read.specs.Reading.{Answer}
use Rattle.sedna_read.specs.declared.Reading.{Reading}
use Rattle.grammar.specs.Conversation.{Whole}
use Rattle.session.specs.declared.Session.{Session}
use Rattle.session.specs.Step.{fresh_session, stepped, closed_of}
use Rattle.session_laws.proofs.Follows.{Follows, fresh_follows, begins, whole-closed}
use Rattle.records_printed.specs.Answer.{number_in, after_reading, answered}
use Rattle.records_printed.specs.declared.Answered.{Answered}
use Rattle.records.specs.declared.Head.{Head}
use Rattle.records.specs.Record.{Record, head_of, record_of, Front, behind, front, from_front, records_up_to, records}
use Rattle.records_printed.specs.Transcript.{record_call, after, says_closed, says_open, says_damaged, last_line, printed}
use Rattle.demands.specs.Demand3.{Form, Offer, RightAnswer, step}
use Rattle.demands.specs.Demand3 as demand
use Rattle.demands.specs.Transcript.{read_as, RightNumber, accepting, records_in, accepted_in, Demand3Transcript}
use Rattle.demands.proofs.Demand3.{goes}

-- a record as an offer to the step by value
abbrev offer : (r : Record) → IsBytes r.payload → Offer
offer r b = record { form = Form.by_value; side = r.side; bytes = r.payload; are_bytes = b }

-- a message that was read has no more bytes than there are
read-within : (r : Record) → IsBytes r.payload → (m : Message) (n : ℕ) → read_as r ≡ Answer.accepted m n → n ≤ length r.payload
read-within r b m n e =
    let f = ((exact r.side r.payload b m n).0 e).1 in
    omega (arith, f.count, ap length f.bytes, length-take n r.payload)

-- the number of an answer
abbrev numbered : Answer → ℕ
numbered (Answer.refused x) = number_of x
numbered (Answer.accepted m n) = 0

-- nothing is left over behind a record's message
abbrev NoneLeft : Record → Type 0
NoneLeft r = (m : Message) (n : ℕ) → read_as r ≡ Answer.accepted m n → length r.payload ≤ n

-- then a message that was read is the whole payload
whole-read : (r : Record) → IsBytes r.payload → NoneLeft r → (m : Message) (n : ℕ) → read_as r ≡ Answer.accepted m n → read_as r ≡ Answer.accepted m (length r.payload)
whole-read r b all m n e = grind (arith, read-within r b m n e, all m n e)

-- from what is right for the offer to what is right for the record
right-number : {before : List Message} (r : Record) (b : IsBytes r.payload) {a : Answer} → RightAnswer before (offer r b) a → NoneLeft r
    → RightNumber before r (numbered a) × (accepting before r (numbered a) ≡ demand.accepting before (offer r b) a)
right-number r b (RightAnswer.unread e) all = (RightNumber.unread e, rw e)
right-number r b (RightAnswer.out_of_order {m} {n} {r = x} e never nine) all = rw nine (RightNumber.out_of_order (whole-read r b all m n e) never, rw e)
right-number r b (RightAnswer.accepted {m} {n} e goes_on) all = (RightNumber.accepted (whole-read r b all m n e) goes_on, rw e)

-- an answer by places has the number of what it means
number-meant : (s : List ℕ) (x : Result Reading Refusal) → number_in x ≡ numbered (meaning s x)
number-meant s (Err r) = refl
number-meant s (Ok m) = refl

-- where nothing is left over, a record is answered what the step answers
answered-offered : (s : Session) (r : Record) (b : IsBytes r.payload) → NoneLeft r
    → answered s r ≡ record { number = numbered (step s (offer r b)).answer; session = (step s (offer r b)).record_after }
unfolding answered stepped
answered-offered s r b all =
    by (read_as r) refl ∙ ap (λ (n : ℕ). record { number = n; session = (step s (offer r b)).record_after }) (number-meant r.payload (stepped s r.side r.payload).answer)
  where
    by : (a : Answer) → read_as r ≡ a → after_reading s r a ≡ record { number = number_in (stepped s r.side r.payload).answer; session = (stepped s r.side r.payload).session }
    by (Answer.refused x) e = rw e
    by (Answer.accepted m n) e = rw (le-ltb n (length r.payload) (all m n e))

-- what is right of a record's answer, as `AllRight` asks for it
abbrev Right : List Message → Session → Record → Done Session ℕ → Type 0
Right before s r done = RightNumber before r done.answer

module _ (before : List Message) (s : Session) (r : Record) (b : IsBytes r.payload) (i : Follows before s) where
  abbrev Stands : Answered → Type 0
  Stands x = RightNumber before r x.number × Follows (accepting before r x.number) x.session

  -- a record whose payload is one message, or none, is answered what the step answers
  offered : NoneLeft r → Stands (answered s r)
  offered all =
      let g = goes before s (offer r b) i in
      let x = right-number r b g.0 all in
      rw (answered-offered s r b all) (x.0, rw x.1 g.1)

  -- one behind whose message bytes are left over is not offered
  passed : (m : Message) (n : ℕ) → read_as r ≡ Answer.accepted m n → n < length r.payload → Stands (answered s r)
  unfolding answered
  passed m n e h = rw (e, lt-ltb n (length r.payload) h) (RightNumber.left_over e h, i)

  answered_so : Stands (answered s r)
  answered_so = by (read_as r) refl
    where
      by : (a : Answer) → read_as r ≡ a → Stands (answered s r)
      by (Answer.refused x) e = offered (λ m n q. cc)
      by (Answer.accepted m n) e = left (ltb n (length r.payload)) refl
        where
          left : (t : Bool) → ltb n (length r.payload) ≡ t → Stands (answered s r)
          left true q = passed m n e (ltb-true n (length r.payload) q)
          left false q =
              offered (λ (k : Message) (j : ℕ) (f : read_as r ≡ Answer.accepted k j).
              let same : n ≡ j = cc in omega (arith, ltb-false n (length r.payload) q))

-- every payload is bytes
abbrev Payload : Record → Type 0
Payload r = IsBytes r.payload

records_go : GoesFor record_call accepting Right Follows Payload
records_go before s r b i = answered_so before s r b i

-- what stands in bytes is bytes
bytes_rest : (s : List ℕ) (n : ℕ) → IsBytes s → IsBytes (drop n s)
bytes_rest s n h = bytes-behind (take n s) (drop n s) (rw (take-append-drop n s) h)

front_bytes : (s : List ℕ) → IsBytes s → (r : Record) (rest : List ℕ) → front s ≡ Front.sound r rest → IsBytes r.payload × IsBytes rest
unfolding front
front_bytes [] h r rest e = cc
front_bytes (b ∷ s) h r rest e = by (head_of (b ∷ s)) e
  where
    by : (x : Option Head) → behind (drop 6 (b ∷ s)) x ≡ Front.sound r rest → IsBytes r.payload × IsBytes rest
    by None e = cc
    by (Some m) e =
        let n = m.len in
        either (ltb (length (drop 6 (b ∷ s))) n) _ _ e (λ cut p. cc) λ whole p.
        let q : record_of m.side (take n (drop 6 (b ∷ s))) ≡ r = cc in
        let z : drop n (drop 6 (b ∷ s)) ≡ rest = cc in
        let w : IsBytes (drop 6 (b ∷ s)) = bytes_rest (b ∷ s) 6 h in
        (subst (λ (r : Record). IsBytes r.payload) q (bytes-part (b ∷ s) 6 n h), subst IsBytes z (bytes_rest (drop 6 (b ∷ s)) n w))

payloads : (most : ℕ) (s : List ℕ) → IsBytes s → Every Payload (records_up_to most s).sound
unfolding records_up_to
payloads zero s h = tt
payloads (suc most) s h = by (front s) refl (payloads most)
  where
    by : (f : Front) → front s ≡ f → ((rest : List ℕ) → IsBytes rest → Every Payload (records_up_to most rest).sound)
        → Every Payload (from_front (records_up_to most) f).sound
    by Front.end e more = tt
    by Front.damaged e more = tt
    by (Front.sound r rest) e more = let b = front_bytes s h r rest e in (b.0, more rest b.1)

-- the last line, by how the input ended and whether the session is closed
module _ (whole : Type 0) (u : Session) (e : (closed_of u ≡ true) ↔ whole) (d : Bool) where
  says-closed : (last_line d u ≡ says_closed) ↔ ((d ≡ false) × whole)
  says-closed = grind (arith, nat_tests)

  says_open_lem : (last_line d u ≡ says_open) ↔ ((d ≡ false) × ¬ whole)
  says_open_lem = grind (arith, nat_tests)

says-damaged : (d : Bool) (u : Session) → (last_line d u ≡ says_damaged) ↔ (d ≡ true)
says-damaged d u = grind (arith, nat_tests)

pub demand_3_transcript : Demand3Transcript
unfolding printed
demand_3_transcript = record {
  prints = λ input. refl;
  drawn = λ input h.
      let bs = payloads (length input) input h in
      let i = holds_after_for record_call accepting Right Follows Payload records_go [] fresh_session (records_in input) bs fresh_follows in
      let u = after fresh_session (records_in input) in
      let whole : (closed_of u ≡ true) ↔ Whole (accepted_in input) = whole-closed i in
      record {
        begun = begins i;
        right = all-right_for record_call accepting Right Follows Payload records_go [] fresh_session (records_in input) bs fresh_follows;
        closed = says-closed _ u whole (records input).damaged;
        still_open = says_open_lem _ u whole (records input).damaged;
        damaged = says-damaged (records input).damaged u;
      };
}
