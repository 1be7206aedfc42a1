-- What a session record says of the messages that were accepted: which layouts go on from there.
use mathlib.Core.Bool.{Bool, true, false}
use mathlib.Core.List.{List, [], ◌∷◌, ◌++◌, append_assoc, append-nil}
use mathlib.Core.Logic.{◌↔◌}
use mathlib.Core.Option.{Option, none, some, some-injective, none-ne-some}
use mathlib.Core.Path.{◌≡◌, refl, sym, ◌∙◌, ap, subst}
use Prim.Native.Nat.{ℕ, ◌≤◌}
use lib.Dec.{T}
use borrow.Author.Tests.{eqb-true, eq-eqb}
use Rattle.wire.specs.declared.Refusal.TheVariants.{OutOfOrder}
use Rattle.sedna.specs.Message.{Message, message}
use Rattle.sedna_read.specs.Reading.{Answer}
use Rattle.grammar.specs.Conversation.{Whole, Begins}
use Rattle.grammar.specs.Sent.{Version, can_send}
use Rattle.grammar.proofs.Arrow.{Rest, lay, Arrow, find, find_kind}
use Rattle.grammar.proofs.Back.{to, laid_to}
use Rattle.grammar.proofs.Fill.{fill}
use Rattle.grammar.proofs.From.{from, laid}
use Rattle.grammar.proofs.Linear.{Conversation, lay_conversation}
use Rattle.grammar.proofs.Phase.{Phase, start_up, closed, version_after, choose}
use Rattle.grammar.proofs.Rows.{row}
use Rattle.grammar.proofs.Sendable.{Sendable}
use Rattle.grammar.proofs.Takes.{Look, take, at-end, split}
use Rattle.grammar.proofs.Unique.{head_of, nothing_left, no_cons, heads, tails}
use Rattle.session.specs.declared.Session.{Session}
use Rattle.session.specs.Machine.{next}
use Rattle.session.specs.Phases as N
use Rattle.session.specs.Step.{fresh_session, Outcome, settled, closed_of}
use Rattle.session_laws.proofs.Phases.{code, code-closed, code-last, code_marks}
use Rattle.session_laws.proofs.Link.{led, mark, next-found}

choose_guard : (w : Bool) (q : Phase) → T w → choose w q none ≡ some q
choose_guard true q g = refl
choose_guard false q g = absurd g

-- where an instruction leads from a place
abbrev goal : Phase → Version → ℕ → Option Phase
goal p v k = led (find k (row p v))

abbrev after : Version → Message → Version
after v m = version_after m.instruction v m.body

module _ (p : Phase) (v : Version) (m : Message) where
  abbrev Out : Type 0
  Out = Arrow v (Rest p v) (lay p v)

  -- what is left behind m, where it leads to q
  abbrev Left : Phase → Type 0
  Left q = Rest q (after v m)

  abbrev lay_left : (q : Phase) → Left q → List Message
  lay_left q t = lay q (after v m) t

  -- a message that leads to q stands in front of whatever is left there
  abbrev Fronts : Phase → Type 0
  Fronts q = (t : Left q) → (x : Rest p v) × (lay p v x ≡ m ∷ lay_left q t)

  abbrev Put : Out → ℕ → Type 0
  Put a k = T (can_send k m.body) → (t : Rest a.to (version_after k v m.body))
      → (x : Rest p v) × (lay p v x ≡ message k m.body ∷ lay a.to (version_after k v m.body) t)

  forth : (q : Phase) → Sendable m → goal p v m.instruction ≡ some q → Fronts q
  forth q sent e = by (find m.instruction (row p v)) refl e
    where
      at-kind : (a : Out) → T a.when → (k : ℕ) → a.kind ≡ k → Put a k
      at-kind a g k h = subst (Put a) h (λ w t. (a.put (record { body = m.body; sent = w }) g t, a.laid (record { body = m.body; sent = w }) g t))

      put : (a : Out) → a.kind ≡ m.instruction → (w : Bool) → a.when ≡ w → choose w a.to none ≡ some q → Fronts q
      put a k true w h = subst Fronts (some-injective _ _ h) (at-kind a (subst (λ (y : Bool). T y) (sym w) tt) m.instruction k sent)
      put a k false w h = absurd (none-ne-some q h)

      by : (o : Option Out) → find m.instruction (row p v) ≡ o → led o ≡ some q → Fronts q
      by none f h = absurd (none-ne-some q h)
      by (some a) f h = put a (find_kind m.instruction a (row p v) f) a.when refl h

  -- a layout that begins with m leads where the row says
  back : (l : List Message) (x : Rest p v) → lay p v x ≡ m ∷ l → (q : Phase) × (goal p v m.instruction ≡ some q) × (t : Left q) × (lay_left q t ≡ l)
  back l x e = by (take p v x)
    where
      by : Look p v x → (q : Phase) × (goal p v m.instruction ≡ some q) × (t : Left q) × (lay_left q t ≡ l)
      by (at-end c) = absurd (no_cons (sym e ∙ nothing_left p v c x))
      by (split a) =
          let h = sym (head_of p v x a) ∙ e in
          subst (λ (n : Message). (q : Phase) × (goal p v n.instruction ≡ some q) × (t : Rest q (after v n)) × (lay q (after v n) t ≡ l)) (heads h)
          (a.arrow.to, ap led a.found ∙ choose_guard a.arrow.when a.arrow.to a.guard, a.tail, tails h)

-- a place and a version say which layouts begin with the messages accepted so far
record At (acc : List Message) (p : Phase) (v : Version) : Type 0 where
  ahead : (t : Rest p v) → (c : Conversation) × (lay_conversation c ≡ acc ++ lay p v t)
  behind : (c : Conversation) (w : List Message) → lay_conversation c ≡ acc ++ w → (t : Rest p v) × (lay p v t ≡ w)

moves : {acc : List Message} {p q : Phase} {v : Version} (m : Message) → Sendable m → goal p v m.instruction ≡ some q → At acc p v → At (acc ++ (m ∷ [])) q (after v m)
moves {acc} {p} {q} {v} m sent e i = record {
  ahead = λ t.
      let x = forth p v m q sent e t in
      let c = i.ahead x.0 in
      (c.0, c.1 ∙ ap (λ (r : List Message). acc ++ r) x.1 ∙ sym (append_assoc acc (m ∷ []) (lay q (after v m) t)));
  behind = λ c w h.
      let x = i.behind c (m ∷ w) (h ∙ append_assoc acc (m ∷ []) w) in
      let y = back p v m w x.0 x.1 in
      subst (λ (r : Phase). (t : Rest r (after v m)) × (lay r (after v m) t ≡ w)) (some-injective _ _ (sym y.1 ∙ e)) (y.2, y.3);
}

-- the session record stands where the accepted messages lead
pub record Follows (acc : List Message) (s : Session) : Type 0 where
  place : Phase
  coded : s.phase ≡ code place
  stands : At acc place s.version

pub fresh_follows : Follows [] fresh_session
fresh_follows = record { place = start_up; coded = refl; stands = record { ahead = λ t. (t, refl); behind = λ c w e. (c, e) } }

-- what was accepted so far can be finished
pub begins : {acc : List Message} {s : Session} → Follows acc s → Begins acc
unfolding Begins Whole
begins {acc} {s} i =
    let t = fill i.place s.version in
    let c = i.stands.ahead t in
    (lay i.place s.version t, (from c.0, laid c.0 ∙ c.1))

-- the record is closed exactly when what was accepted is whole
pub whole-closed : {acc : List Message} {s : Session} → Follows acc s → (closed_of s ≡ true) ↔ Whole acc
unfolding Whole closed_of
whole-closed {acc} {s} i = (there, here)
  where
    there : closed_of s ≡ true → Whole acc
    there e =
        let is : i.place ≡ closed = code-closed i.place (sym i.coded ∙ eqb-true s.phase N.closed e) in
        let t = fill i.place s.version in
        let c = i.stands.ahead t in
        (from c.0, laid c.0 ∙ c.1 ∙ ap (λ (l : List Message). acc ++ l) (nothing_left i.place s.version is t) ∙ append-nil acc)

    here : Whole acc → closed_of s ≡ true
    here w =
        let x = i.stands.behind (to w.0) [] (laid_to w.0 ∙ w.1 ∙ sym (append-nil acc)) in
        by x.0 x.1 (take i.place s.version x.0)
      where
        by : (t : Rest i.place s.version) → lay i.place s.version t ≡ [] → Look i.place s.version t → closed_of s ≡ true
        by t e (at-end c) = eq-eqb s.phase N.closed (i.coded ∙ ap code c)
        by t e (split a) = absurd (no_cons (sym (head_of i.place s.version t a) ∙ e))

-- behind the server's phases there is only the closed one
pub last-closed : {acc : List Message} {s : Session} → Follows acc s → N.closed ≤ s.phase → closed_of s ≡ true
unfolding closed_of
last-closed {acc} {s} i l = eq-eqb s.phase N.closed (i.coded ∙ ap code (code-last i.place (subst (λ (n : ℕ). N.closed ≤ n) i.coded l)))

-- what becomes of a message that was read: it is taken, and the record follows; or it gets 9, and no conversation goes on with it
pub data Settled (acc : List Message) (s : Session) (m : Message) (n : ℕ) : Outcome → Type 0 where
  moved : {s' : Session} → Follows (acc ++ (m ∷ [])) s' → Settled acc s m n (record { session = s'; answer = Answer.accepted m n })
  nine : ¬ Begins (acc ++ (m ∷ [])) → Settled acc s m n (record { session = s; answer = Answer.refused OutOfOrder })

module _ {acc : List Message} {s : Session} (i : Follows acc s) (m : Message) (n : ℕ) (sent : Sendable m) where
  abbrev found : Option Phase
  found = goal i.place s.version m.instruction

  refuses : found ≡ none → ¬ Begins (acc ++ (m ∷ []))
  unfolding Begins Whole
  refuses e g =
      let x = i.stands.behind (to g.1.0) (m ∷ g.0) (laid_to g.1.0 ∙ g.1.1 ∙ append_assoc acc (m ∷ []) g.0) in
      let y = back i.place s.version m g.0 x.0 x.1 in
      none-ne-some y.0 (sym e ∙ y.1)

  by : (x : Option Phase) → found ≡ x → Settled acc s m n (settled s m n (mark x))
  by none e = nine (refuses e)
  by (some q) e =
      rw (code_marks q) (moved (record { place = q; coded = refl; stands = moves m sent e i.stands }))

  pub settles : Settled acc s m n (settled s m n (next s.phase s.version m.instruction))
  settles =
      let there : next s.phase s.version m.instruction ≡ mark found =
      ap (λ (p : ℕ). next p s.version m.instruction) i.coded ∙ next-found i.place s.version m.instruction in
      rw there (by found refl)
