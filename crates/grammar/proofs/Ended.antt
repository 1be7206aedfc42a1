-- Nothing goes on behind a whole conversation.
use mathlib.Core.List.{List, [], ◌∷◌, ◌++◌, append_assoc}
use mathlib.Core.Option.{some-injective}
use mathlib.Core.Path.{◌≡◌, sym, ◌∙◌, ap, subst}
use Prim.Native.Nat.{ℕ}
use Rattle.sedna.specs.Message.{Message, message}
use Rattle.grammar.specs.Conversation.{Whole, Begins}
use Rattle.grammar.specs.Sent.{Version, Sent}
use Rattle.grammar.proofs.Arrow.{Rest, lay, Arrow, find}
use Rattle.grammar.proofs.Back.{to, laid_to}
use Rattle.grammar.proofs.Phase.{Phase, start_up, same_sent}
use Rattle.grammar.proofs.Rows.{row}
use Rattle.grammar.proofs.Takes.{At, Look, take, at-end, split}
use Rattle.grammar.proofs.Unique.{Behind, lay_behind, head_of, nothing_left, no_cons, heads, tails}

module _ (m : Message) (rest : List Message) where
  -- at no phase does one layout go on behind all of another
  abbrev NoLonger : List Message → Type 0
  NoLonger l = (p : Phase) (v : Version) (t u : Rest p v) → lay p v t ≡ l → lay p v u ≡ l ++ (m ∷ rest) → ⊥

  module _ (l : List Message) (again : NoLonger l) (p : Phase) (v : Version) where
    -- nor behind the same first message
    behind-same : (a c : Arrow v (Rest p v) (lay p v)) → a ≡ c → (b : Sent a.kind) (d : Sent c.kind) → b.body ≡ d.body
        → (t : Behind a b) (u : Behind c d) → lay_behind a b t ≡ l → lay_behind c d u ≡ l ++ (m ∷ rest) → ⊥
    behind-same a c ac b d bd t u et eu =
        subst (λ (c : Arrow v (Rest p v) (lay p v)). (d : Sent c.kind) → b.body ≡ d.body → (u : Behind c d) → lay_behind c d u ≡ l ++ (m ∷ rest) → ⊥) ac
        (λ d bd. subst (λ (d : Sent a.kind). (u : Behind a d) → lay_behind a d u ≡ l ++ (m ∷ rest) → ⊥) (same_sent a.kind b d bd) (λ u eu. again a.to _ t u et eu))
        d bd u eu

    both-split : (x : Message) (t u : Rest p v) → At p v t → At p v u → lay p v t ≡ x ∷ l → lay p v u ≡ x ∷ (l ++ (m ∷ rest)) → ⊥
    both-split x t u s r et eu =
        let ht = sym (head_of p v t s) ∙ et in
        let hu = sym (head_of p v u r) ∙ eu in
        let same : message s.arrow.kind s.body.body ≡ message r.arrow.kind r.body.body = heads ht ∙ sym (heads hu) in
        let ks : s.arrow.kind ≡ r.arrow.kind = ap (λ (y : Message). y.instruction) same in
        let bs : s.body.body ≡ r.body.body = ap (λ (y : Message). y.body) same in
        let ar : s.arrow ≡ r.arrow = some-injective _ _ (sym s.found ∙ ap (λ (k : ℕ). find k (row p v)) ks ∙ r.found) in
        behind-same s.arrow r.arrow ar s.body r.body bs s.tail r.tail (tails ht) (tails hu)

  no_longer : (l : List Message) → NoLonger l
  no_longer [] p v t u et eu = by (take p v t)
    where
      by : Look p v t → ⊥
      by (at-end c) = no_cons (sym eu ∙ nothing_left p v c u)
      by (split s) = no_cons (sym (head_of p v t s) ∙ et)
  no_longer (x ∷ l) p v t u et eu = by (take p v t) (take p v u) (no_longer l)
    where
      by : Look p v t → Look p v u → NoLonger l → ⊥
      by (at-end c) o again = no_cons (sym et ∙ nothing_left p v c t)
      by (split s) (at-end c) again = no_cons (sym eu ∙ nothing_left p v c u)
      by (split s) (split r) again = both-split l again p v x t u s r et eu

-- "After the end every message gets 9": with no message does a conversation go on behind a whole one
pub ended : (l : List Message) (m : Message) → Whole l → ¬ Begins (l ++ (m ∷ []))
unfolding Whole Begins
ended l m w (rest, g) = no_longer m rest l start_up 0 (to w.0) (to g.0) (laid_to w.0 ∙ w.1) (laid_to g.0 ∙ g.1 ∙ append_assoc l (m ∷ []) rest)
