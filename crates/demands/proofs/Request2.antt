-- Document 02, request 2, is met.
use mathlib.Core.List.{List, [], ◌∷◌, ◌++◌}
use mathlib.Core.Logic.{inl, inr}
use mathlib.Core.Path.{◌≡◌, sym, ◌∙◌, subst}
use Prim.Native.Nat.{ℕ}
use Rattle.wire.specs.Calls.{record_after_all}
use Rattle.wire.proofs.Calls.{holds_after}
use Rattle.sedna.specs.Message.{Message}
use Rattle.sedna.specs.Names.{BulkLoadError}
use Rattle.sedna_laws.proofs.Exact.{exact}
use Rattle.sedna_read.specs.Reading.{Answer, reading}
use Rattle.grammar.specs.Conversation.{Begins}
use Rattle.grammar.specs.Files.{InFile}
use Rattle.session.specs.declared.Session.{Session}
use Rattle.session.specs.Step.{fresh_session}
use Rattle.session_laws.proofs.Files.{asked, in_file, only_there, behind-end, behind_error, still_inside}
use Rattle.session_laws.proofs.Follows.{Follows, fresh_follows, begins}
use Rattle.demands.specs.Demand3.{Offer, RightAnswer, accepting, accepted_from, step}
use Rattle.demands.specs.Request2.{Request2}
use Rattle.demands.proofs.Demand3.{Right, goes}

module _ (offers : List Offer) (o : Offer) (m : Message) (n : ℕ) (read : reading o.side o.bytes ≡ Answer.accepted m n) where
  abbrev before : List Message
  before = accepted_from Session step fresh_session offers

  -- what the grammar goes on with is accepted
  right-taken : Begins (before ++ (m ∷ [])) → (a : Answer) → RightAnswer before o a → a ≡ Answer.accepted m n
  right-taken g a (RightAnswer.unread e) = cc
  right-taken g a (RightAnswer.out_of_order {m = k} e none nine) = let same : m ≡ k = cc in absurd (none (subst (λ (x : Message). Begins (before ++ (x ∷ []))) same g))
  right-taken g a (RightAnswer.accepted e on) = sym e ∙ read

  taken : InFile before → m.instruction ≡ BulkLoadError → (step (record_after_all step fresh_session offers) o).answer ≡ Answer.accepted m n
  taken f is =
      let i = holds_after step accepting Right Follows goes [] fresh_session offers fresh_follows in
      let sent = ((exact o.side o.bytes o.are_bytes m n).0 read).0 in
      right-taken ((in_file before f (begins i) m).1 ((o.side, sent), inr (inr (inl is)))) _ (goes before (record_after_all step fresh_session offers) o i).0

pub request_2 : Request2
request_2 = record {
  asked = asked;
  in_file = in_file;
  only_there = only_there;
  behind-end = behind-end;
  behind_error = behind_error;
  still_inside = still_inside;
  taken = λ offers f o m n read is. taken offers o m n read f is;
}
