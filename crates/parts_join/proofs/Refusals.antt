-- What a refusal leaves, and that what is handed over lies in the buffer.
use Rattle.std.specs.Prelude.{Result, Ok, Err}
use mathlib.Core.Bool.{Bool, true, false}
use mathlib.Core.List.{List}
use mathlib.Core.Logic.{◌⊎◌, inl, inr, ⊎_elim}
use mathlib.Core.Path.{◌≡◌, refl, sym, ap, ◌∙◌}
use Prim.Native.Nat.{ℕ, ◌+◌, ◌≤◌}
use native.Mathlib.Omega.{arith}
use lib.Dec.{ltb}
use lib.ListN.{length}
use borrow.Author.Tests.{ltb-false}
use Rattle.wire.specs.Bytes.{if}
use Rattle.wire.specs.Refusals.{number_of}
use Rattle.wire.specs.declared.Refusal.{Refusal}
use Rattle.wire.specs.declared.Refusal.TheVariants.{ValueNotAllowed, OutOfOrder, BufferOverrun}
use Rattle.sedna.specs.Allowed.{allowed}
use Rattle.sedna.specs.Message.{Message}
use Rattle.parts_join.specs.declared.Answer.{Answer}
use Rattle.parts_join.specs.declared.Answer.TheVariants as answer
use Rattle.parts_join.specs.declared.Assembly.{Assembly}
use Rattle.parts_join.specs.declared.Joined.{Joined}
use Rattle.parts_join.specs.declared.Label.{Label}
use Rattle.parts_join.specs.declared.Open.{Open}
use Rattle.parts_join.specs.declared.Open.TheVariants as gathering
use Rattle.parts_join.specs.declared.Role.{Role}
use Rattle.parts_join.specs.Answers.{Reply, reply, bytes_handed}
use Rattle.parts_join.specs.Joining.{closed, refused, marked, grown, whole_of, accepted, fitted, joined_as, joined, is_accepted, buffer_after}
use Rattle.parts_join.specs.Refusals.{RefusalLeaves}
use Rattle.parts_join.specs.Roles.{role_of, takes, in_order, ends, text_of, label_of}
use Rattle.parts_join.proofs.Order.{after-refused, whole-accepted}
use Rattle.parts_join.proofs.Places.{not_both}

-- the three ways in which a call can come out
data Outcome (a : Assembly) (room : ℕ) (j : Joined) : Type 0 where
  unchanged : (r : Refusal) → (number_of r ≡ 8) ⊎ (number_of r ≡ 9) → j ≡ refused r a → Outcome a room j
  spoilt : j ≡ refused BufferOverrun (marked a) → Outcome a room j
  taken : (b : Assembly) (k : Role) → b.held ≤ room → j ≡ accepted b k → Outcome a room j

either : (a : Assembly) (room : ℕ) (t : Bool) (i j : Joined) → Outcome a room i → Outcome a room j → Outcome a room (if t i j)
either a room true i j p q = p
either a room false i j p q = q

fitted-outcome : (a : Assembly) (k : Role) (l : Label) (n room : ℕ) → Outcome a room (fitted a k l n room)
unfolding fitted
fitted-outcome a k l n room = by (ltb room (a.held + n)) refl
  where
    by : (t : Bool) → ltb room (a.held + n) ≡ t → Outcome a room (if t (refused BufferOverrun (marked a)) (accepted (grown a l n) k))
    by true e = Outcome.spoilt refl
    by false e = Outcome.taken (grown a l n) k (ltb-false room (a.held + n) e) refl

as_outcome : (a : Assembly) (k : Role) (l : Label) (n room : ℕ) → Outcome a room (joined_as a k l n room)
unfolding joined_as
as_outcome a k l n room =
    either a room (takes k) _ _ (by a.overflowed refl (either a room (in_order k a.begun) _ _ (fitted-outcome a k l n room) nine)) nine
  where
    nine : Outcome a room (refused OutOfOrder a)
    nine = Outcome.unchanged OutOfOrder (inr refl) refl

    by : (t : Bool) → a.overflowed ≡ t → {j : Joined} → Outcome a room j → Outcome a room (if t (refused BufferOverrun a) j)
    by true e o = Outcome.spoilt (λ i. refused BufferOverrun (record { what = a.what; begun = a.begun; held = a.held; overflowed = e i; label = a.label }))
    by false e o = o

joined-outcome : (a : Assembly) (room : ℕ) (m : Message) → Outcome a room (joined a room m)
unfolding joined
joined-outcome a room m =
    either a room (allowed m.body) _ _
    (as_outcome a (role_of a.what m) (label_of m.body) (length (text_of m.body)) room)
    (Outcome.unchanged ValueNotAllowed (inl refl) refl)

-- an accepted message is no more than its record, or hands over
of_accepted : (P : Result Answer Refusal → Type 0) (b : Assembly) (k : Role) → P (whole_of b.what b.label b.held) → P (Ok answer.Part) → P (accepted b k).answer
of_accepted P b k full part = by (ends k)
  where
    by : (t : Bool) → P (if {A = Joined} t (record { assembly = closed; answer = whole_of b.what b.label b.held }) (record { assembly = b; answer = Ok answer.Part })).answer
    by true = full
    by false = part

accepted-accepted : (b : Assembly) (k : Role) → is_accepted (accepted b k).answer ≡ true
accepted-accepted b k = of_accepted (λ x. is_accepted x ≡ true) b k (whole-accepted b.what b.label b.held) refl

whole_length : (what : Open) (l : Label) (n room : ℕ) → n ≤ room → bytes_handed (reply (whole_of what l n)) ≤ room
whole_length gathering.Nothing l n room h = omega arith
whole_length gathering.Statement l n room h = h
whole_length gathering.Item l n room h = h
whole_length gathering.TypedItem l n room h = h

accepted-length : (b : Assembly) (k : Role) (room : ℕ) → b.held ≤ room → bytes_handed (reply (accepted b k).answer) ≤ room
accepted-length b k room h = of_accepted (λ x. bytes_handed (reply x) ≤ room) b k (whole_length b.what b.label b.held room h) (omega arith)

-- what is handed over lies in the buffer, whatever the record: `handed` gives exactly that many bytes
pub handed-inside : (a : Assembly) (room : ℕ) (m : Message) → bytes_handed (reply (joined a room m).answer) ≤ room
handed-inside a room m = by (joined a room m) (joined-outcome a room m)
  where
    by : (j : Joined) → Outcome a room j → bytes_handed (reply j.answer) ≤ room
    by j (Outcome.unchanged r l e) = rw e (omega arith)
    by j (Outcome.spoilt e) = rw e (omega arith)
    by j (Outcome.taken b k h e) = rw e (accepted-length b k room h)

abbrev number_in : Reply → ℕ
number_in (Reply.number n) = n
number_in Reply.taken = 0
number_in (Reply.whole values n) = 0

abbrev is_refusal : Reply → Bool
is_refusal (Reply.number n) = true
is_refusal Reply.taken = false
is_refusal (Reply.whole values n) = false

-- what is replied with a number was not accepted
refused-reply : (x : Result Answer Refusal) → is_refusal (reply x) ≡ true → is_accepted x ≡ false
refused-reply (Ok answer.Part) h = not_both (sym h)
refused-reply (Ok (answer.Statement format n)) h = not_both (sym h)
refused-reply (Ok (answer.Item n)) h = not_both (sym h)
refused-reply (Ok (answer.TypedItem class kind n)) h = not_both (sym h)
refused-reply (Err r) h = refl

-- a refusal leaves the buffer, and the record but for the mark of 12
pub refusal-leaves : (a : Assembly) (d : List ℕ) (m : Message) (n : ℕ) → reply (joined a (length d) m).answer ≡ Reply.number n → RefusalLeaves a d m n
refusal-leaves a d m n h = by (joined-outcome a (length d) m)
  where
    not_accepted : is_accepted (joined a (length d) m).answer ≡ false
    not_accepted = refused-reply (joined a (length d) m).answer (ap is_refusal h)

    same : buffer_after a d m ≡ d
    same = sym (after-refused a d m refl not_accepted)

    number : (s : Refusal) (b : Assembly) → joined a (length d) m ≡ refused s b → number_of s ≡ n
    number s b e = ap number_in (sym (ap (λ (j : Joined). reply j.answer) e) ∙ h)

    by : Outcome a (length d) (joined a (length d) m) → RefusalLeaves a d m n
    by (Outcome.unchanged s l e) = alone (⊎_elim (λ z. inl (eight z)) (λ z. inr (eight z)) l)
      where
        eight : {k : ℕ} → number_of s ≡ k → n ≡ k
        eight z = sym (number s a e) ∙ z

        same_record : (joined a (length d) m).assembly ≡ a
        same_record = ap (λ (j : Joined). j.assembly) e

        alone : (n ≡ 8) ⊎ (n ≡ 9) → RefusalLeaves a d m n
        alone (inl z) = record { listed = inl z; buffer = same; assembly = rw z same_record }
        alone (inr z) = record { listed = inr (inl z); buffer = same; assembly = rw z same_record }
    by (Outcome.spoilt e) =
        let twelve : n ≡ 12 = sym (number BufferOverrun (marked a) e) in
        record { listed = inr (inr twelve); buffer = same; assembly = rw twelve (ap (λ (j : Joined). j.assembly) e) }
    by (Outcome.taken b k f e) = not_both (sym (ap (λ (j : Joined). is_accepted j.answer) e ∙ accepted-accepted b k) ∙ not_accepted)
