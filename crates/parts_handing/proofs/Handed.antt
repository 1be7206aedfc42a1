-- What is handed over has as many bytes as the answer tells, and of a cutting it is the text.
use mathlib.Core.Bool.{Bool, true, false}
use mathlib.Core.List.{List, [], ◌∷◌, ◌++◌, map}
use mathlib.Core.Path.{◌≡◌, refl, sym, ap, subst, ◌∙◌}
use Prim.Native.Nat.{ℕ, ◌≤◌}
use lib.ListN.{length, take}
use lib.Seq.{length-take-le}
use Rattle.wire.specs.Bytes.{if, splice}
use Rattle.wire.specs.Calls.{Done, answers_from, record_after_all}
use Rattle.wire.proofs.Splices.{length-splice}
use Rattle.sedna.specs.Message.{Message}
use Rattle.parts_join.specs.declared.Assembly.{Assembly}
use Rattle.parts_join.specs.Answers.{Reply, reply, bytes_handed}
use Rattle.parts_join.specs.Calls.{Gathered, opened_with, join_call, Run, run}
use Rattle.parts_join.specs.Cuttings.{Cutting, before, last, messages, opening, values, whole, AllAllowed}
use Rattle.parts_join.specs.Joining.{joined, is_accepted, buffer_after}
use Rattle.parts_join.specs.Roles.{text_of}
use Rattle.parts_join.proofs.Cuttings.{joins}
use Rattle.parts_join.proofs.Order.{joined-fits}
use Rattle.parts_join.proofs.Refusals.{handed-inside}
use Rattle.parts_handing.specs.Handing.{handed_over, gathered, HandsOver}

length-after : (a : Assembly) (d : List ℕ) (m : Message) → length (buffer_after a d m) ≡ length d
unfolding buffer_after
length-after a d m = by (is_accepted (joined a (length d) m).answer) refl
  where
    by : (t : Bool) → is_accepted (joined a (length d) m).answer ≡ t → length (if t (splice d a.held (text_of m.body)) d) ≡ length d
    by true e = length-splice d a.held (text_of m.body) (joined-fits a (length d) m e)
    by false e = refl

handed-all : (a : Assembly) (d : List ℕ) (m : Message) → length (handed_over a d m) ≡ bytes_handed (reply (joined a (length d) m).answer)
handed-all a d m =
    let n : ℕ = bytes_handed (reply (joined a (length d) m).answer) in
    length-take-le n (buffer_after a d m) (subst (λ (k : ℕ). n ≤ k) (sym (length-after a d m)) (handed-inside a (length d) m))

-- the last of some replies, or z where there are none
abbrev final : Reply → List Reply → Reply
final z [] = z
final z (x ∷ xs) = final x xs

final_last : (z : Reply) (xs : List Reply) (y : Reply) → final z (xs ++ (y ∷ [])) ≡ y
final_last z [] y = refl
final_last z (x ∷ xs) y = final_last x xs y

-- one more call behind a list of them: what it leaves, and its answer
module _ {Record Call Answer : Type 0} (does : Record → Call → Done Record Answer) where
  record_last : (s : Record) (calls : List Call) (c : Call) → record_after_all does s (calls ++ (c ∷ [])) ≡ (does (record_after_all does s calls) c).record_after
  record_last s [] c = refl
  record_last s (x ∷ calls) c = record_last (does s x).record_after calls c

  answers-last : (s : Record) (calls : List Call) (c : Call)
      → answers_from does s (calls ++ (c ∷ [])) ≡ answers_from does s calls ++ ((does (record_after_all does s calls) c).answer ∷ [])
  answers-last s [] c = refl
  answers-last s (x ∷ calls) c = ap (λ (xs : List Answer). (does s x).answer ∷ xs) (answers-last (does s x).record_after calls c)

handed-text : (c : Cutting) → AllAllowed (messages c) → (d : List ℕ) → length (whole c) ≤ length d
    → handed_over (gathered c d).assembly (gathered c d).buffer (last c) ≡ whole c
unfolding run
handed-text c v d f =
    ap (λ (x : Reply). take (bytes_handed x) (join_call (gathered c d) (last c)).record_after.buffer) replied
    ∙ ap (take (length (whole c))) (ap (λ (g : Gathered). g.buffer) (sym (record_last join_call (opened_with (opening c) d) (before c) (last c))))
    ∙ (joins c v d).handed f
  where
    earlier : List Reply
    earlier = answers_from join_call (opened_with (opening c) d) (before c)

    replied : (join_call (gathered c d) (last c)).answer ≡ Reply.whole (values c) (length (whole c))
    replied =
        sym (final_last Reply.taken earlier (join_call (gathered c d) (last c)).answer)
        ∙ ap (final Reply.taken) (sym (answers-last join_call (opened_with (opening c) d) (before c) (last c)) ∙ ap (λ (r : Run). r.replies) ((joins c v d).fits f))
        ∙ final_last Reply.taken (map (λ (m : Message). Reply.taken) (before c)) (Reply.whole (values c) (length (whole c)))

pub hands_over : HandsOver
hands_over = record { all = handed-all; text = handed-text }
