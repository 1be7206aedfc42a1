-- Laws of any list that begins a conversation: somebody has the turn behind it, one side only, and what ErrorResponse does there.
use Rattle.std.specs.Prelude.{Option as Found, Some, None}
use mathlib.Core.Bool.{Bool, true, false}
use mathlib.Core.List.{List, [], ◌∷◌, ◌++◌, append_assoc, append-nil}
use mathlib.Core.Logic.{◌↔◌, inl, inr}
use mathlib.Core.Option.{Option, some}
use mathlib.Core.Path.{◌≡◌, refl, sym, ◌∙◌, ap, subst}
use Prim.Native.Nat.{ℕ, ◌≤◌, ◌<◌}
use native.Mathlib.Omega.{arith}
use lib.Dec.{eqb, ltb}
use lib.ListN.{length}
use borrow.Author.Tests.{eqb-true, eq-eqb, ltb-true}
use Rattle.wire.specs.Bytes.{if}
use Rattle.wire.specs.Every.{Every, OneOf}
use Rattle.sedna.specs.declared.{Shape.Shape, Side.Side, Side.TheVariants.Client, Side.TheVariants.Server}
use Rattle.sedna.specs.Message.{Message}
use Rattle.sedna.specs.Names as M
use Rattle.sedna.specs.Published.{Published}
use Rattle.sedna.specs.Table.{find_of, rows, search}
use Rattle.wire.proofs.Branches.{both}
use Rattle.grammar.specs.Conversation.{Whole, Begins}
use Rattle.grammar.specs.Files.{version_said}
use Rattle.grammar.specs.Sent.{version_of}
use Rattle.grammar.specs.Turn.{HasTurn}
use Rattle.grammar.proofs.Ended.{ended}
use Rattle.grammar.proofs.Sendable.{Sendable, begun-sendable}
use Rattle.session.specs.declared.Session.{Session}
use Rattle.session.specs.Machine.{Row, along, refused, client_rows, server_rows, client_row, server_row, move_of, client_move, server_move, next}
use Rattle.session.specs.Phases as N
use Rattle.session.specs.Step.{fresh_session, version_after, closed_of, turn_of, side_of}
use Rattle.session_laws.proofs.Follows.{Follows, fresh_follows, begins, whole-closed}
use Rattle.session_laws.proofs.Published.{published-sent}
use Rattle.session.proofs.Rows.{broken_row}
use Rattle.session_laws.proofs.Ways.{row_each, row_led_by, row_only_at}
use Rattle.session_laws.proofs.Turn.{on, accepted_follows, refused_not, moves, answered, turn_exact, client_phase, server_phase}

-- one side has the turn
pub one_turn : (l : List Message) (a b : Option Side) → HasTurn l a → HasTurn l b → a ≡ b
one_turn l a b (HasTurn.client c e) (HasTurn.client d f) = refl
one_turn l a b (HasTurn.client c e) (HasTurn.server d none_of) = absurd (none_of c)
one_turn l a b (HasTurn.client c e) (HasTurn.over w) = absurd (ended l c.next w c.begins)
one_turn l a b (HasTurn.server c none_of) (HasTurn.client d f) = absurd (none_of d)
one_turn l a b (HasTurn.server c none_of) (HasTurn.server d f) = refl
one_turn l a b (HasTurn.server c none_of) (HasTurn.over w) = absurd (ended l c.next w c.begins)
one_turn l a b (HasTurn.over w) (HasTurn.client d f) = absurd (ended l d.next w d.begins)
one_turn l a b (HasTurn.over w) (HasTurn.server d none_of) = absurd (ended l d.next w d.begins)
one_turn l a b (HasTurn.over w) (HasTurn.over x) = refl

-- no row leads back to the first phase
abbrev onward : Row → Bool
onward [] = true
onward (w ∷ ws) = if (ltb 0 w.to) (onward ws) false

along-onward : (k : ℕ) (r : Row) → onward r ≡ true → 0 < along k r
along-onward k [] h = omega arith
along-onward k (w ∷ ws) h = by (eqb k w.kind) w.when (along-onward k ws ((both (ltb 0 w.to) (onward ws)).0 h).1)
  where
    by : (t u : Bool) → 0 < along k ws → 0 < if t (if u w.to refused) (along k ws)
    by true true g = ltb-true 0 w.to ((both (ltb 0 w.to) (onward ws)).0 h).0
    by true false g = omega arith
    by false u g = g

next-onward : (p v k : ℕ) → 0 < next p v k
unfolding next client_move server_move
next-onward p v k = by (find_of k)
  where
    by : (f : Found (Side × Shape)) → 0 < move_of f p v k
    by None = omega arith
    by (Some (Client, shape)) = along-onward k (client_row p v) (row_each onward refl p (client_rows v) refl)
    by (Some (Server, shape)) = along-onward k (server_row p v) (row_each onward refl p (server_rows v) refl)

-- ahead of SessionParameters: the phases, and that no message is one
abbrev pub Early : ℕ → Type 0
Early p = OneOf (N.start_up ∷ N.start_up_answer ∷ N.parameters ∷ []) p

abbrev pub Unsaid : List Message → Type 0
Unsaid l = Every (λ (m : Message). eqb m.instruction M.SessionParameters ≡ false) l

-- an early phase is entered from one, and not with SessionParameters
into_early : (p v k : ℕ) → Early (next p v k) → Early p × (eqb k M.SessionParameters ≡ false)
unfolding next client_move server_move
into_early p v k (inl e) = absurd (omega (arith, next-onward p v k, e))
into_early p v k (inr (inl e)) = by (find_of k) e
  where
    sent : along k (client_row p v) ≡ N.start_up_answer → OneOf (M.StartUp ∷ []) k → Early p × (eqb k M.SessionParameters ≡ false)
    sent q (inl is) = (inl (row_only_at M.StartUp N.start_up p (client_rows v) refl (rw (sym is) (ap (λ (n : ℕ). eqb n refused) q))), rw is)
    sent q (inr o) = absurd o

    by : (f : Found (Side × Shape)) → move_of f p v k ≡ N.start_up_answer → Early p × (eqb k M.SessionParameters ≡ false)
    by None q = absurd (omega (arith, q))
    by (Some (Client, shape)) q = sent q (row_led_by k N.start_up_answer (M.StartUp ∷ []) p (client_rows v) refl refl q)
    by (Some (Server, shape)) q = absurd (row_led_by k N.start_up_answer [] p (server_rows v) refl refl q)
into_early p v k (inr (inr (inl e))) = by (find_of k) e
  where
    sent : along k (server_row p v) ≡ N.parameters → OneOf (M.SendSessionParameters ∷ []) k → Early p × (eqb k M.SessionParameters ≡ false)
    sent q (inl is) = (inr (inl (row_only_at M.SendSessionParameters N.start_up_answer p (server_rows v) refl (rw (sym is) (ap (λ (n : ℕ). eqb n refused) q)))), rw is)
    sent q (inr o) = absurd o

    by : (f : Found (Side × Shape)) → move_of f p v k ≡ N.parameters → Early p × (eqb k M.SessionParameters ≡ false)
    by None q = absurd (omega (arith, q))
    by (Some (Client, shape)) q = absurd (row_led_by k N.parameters [] p (client_rows v) refl refl q)
    by (Some (Server, shape)) q = sent q (row_led_by k N.parameters (M.SendSessionParameters ∷ []) p (server_rows v) refl refl q)
into_early p v k (inr (inr (inr o))) = absurd o

pub unsaid_next : (l : List Message) (p v : ℕ) (m : Message) → (Early p → Unsaid l) → Early (next p v m.instruction) → Unsaid (l ++ (m ∷ []))
unsaid_next l p v m h e = let a = into_early p v m.instruction e in more l (h a.0) a.1
  where
    more : (l : List Message) → Unsaid l → eqb m.instruction M.SessionParameters ≡ false → Unsaid (l ++ (m ∷ []))
    more [] u q = (q, tt)
    more (x ∷ l) u q = (u.0, more l u.1 q)

-- SessionParameters is taken at one phase, an early one, so the version is the one that it names
parameters_phase : (p v k : ℕ) → k ≡ M.SessionParameters → eqb (next p v k) refused ≡ false → p ≡ N.parameters
unfolding next client_move find_of rows search
parameters_phase p v k is e = row_only_at M.SessionParameters N.parameters p (client_rows v) refl (ap (λ (j : ℕ). eqb (next p v j) refused) (sym is) ∙ e)

pub said_kept : (l : List Message) (m : Message) → eqb m.instruction M.SessionParameters ≡ false → version_said (l ++ (m ∷ [])) ≡ version_said l
said_kept [] m q = rw q
said_kept (x ∷ l) m q = ap (λ (v : ℕ). if (eqb x.instruction M.SessionParameters) (version_of x.body) v) (said_kept l m q)

said_now : (l : List Message) (m : Message) → Unsaid l → eqb m.instruction M.SessionParameters ≡ true → version_said (l ++ (m ∷ [])) ≡ version_of m.body
said_now [] m u q = rw q
said_now (x ∷ l) m u q = rw u.0 (said_now l m u.1 q)

pub said_next : (l : List Message) (p v : ℕ) (m : Message) → eqb (next p v m.instruction) refused ≡ false → (Early p → Unsaid l) → v ≡ version_said l
    → version_after m.instruction v m.body ≡ version_said (l ++ (m ∷ []))
said_next l p v m taken early h = by (eqb m.instruction M.SessionParameters) refl
  where
    by : (t : Bool) → eqb m.instruction M.SessionParameters ≡ t → if t (version_of m.body) v ≡ version_said (l ++ (m ∷ []))
    by true q =
        let at : p ≡ N.parameters = parameters_phase p v m.instruction (eqb-true m.instruction M.SessionParameters q) taken in
        sym (said_now l m (early (inr (inr (inl at)))) q)
    by false q = h ∙ sym (said_kept l m q)

-- the record that the messages of a begun list lead to
pub record Reached (l : List Message) : Type 0 where
  pub session : Session
  pub follows : Follows l session
  pub early : Early session.phase → Unsaid l
  pub said : session.version ≡ version_said l

-- what a conversation goes on with is what can be sent and the machine takes
pub goes_exact : (l : List Message) (r : Reached l) (m : Message)
    → Begins (l ++ (m ∷ [])) ↔ (Sendable m × (eqb (next r.session.phase r.session.version m.instruction) refused ≡ false))
goes_exact l r m = (λ g. let sent = last-sendable l (begun-sendable (l ++ (m ∷ [])) g) in (sent, by sent g _ refl), λ h. begins (accepted_follows r.follows m h.0 h.1))
  where
    last-sendable : (l : List Message) → Every Sendable (l ++ (m ∷ [])) → Sendable m
    last-sendable [] h = h.0
    last-sendable (x ∷ l) h = last-sendable l h.1

    by : Sendable m → Begins (l ++ (m ∷ [])) → (t : Bool) → eqb (next r.session.phase r.session.version m.instruction) refused ≡ t → t ≡ false
    by sent g true e = absurd (refused_not r.follows m sent (eqb-true _ _ e) g)
    by sent g false e = refl

-- the record behind one message more
abbrev pub reach-next : (l : List Message) (m : Message) → Reached l → Begins (l ++ (m ∷ [])) → Reached (l ++ (m ∷ []))
reach-next l m r g =
    let h = (goes_exact l r m).0 g in
    record {
      session = on r.follows m h.0;
      follows = accepted_follows r.follows m h.0 h.1;
      early = unsaid_next l r.session.phase r.session.version m r.early;
      said = said_next l r.session.phase r.session.version m h.1 r.early r.said;
    }

pub begun-front : (k l : List Message) → Begins (k ++ l) → Begins k
unfolding Begins
begun-front k l g = (l ++ g.0, subst Whole (append_assoc k l g.0) g.1)

-- what each move keeps, of the messages so far and the phase, holds of that record
module _ (P : List Message → ℕ → Type 0)
    (keeps : (l : List Message) (p v : ℕ) (m : Message) → eqb (next p v m.instruction) refused ≡ false → P l p → P (l ++ (m ∷ [])) (next p v m.instruction)) where
  abbrev pub Kept : List Message → Type 0
  Kept l = (r : Reached l) × P l r.session.phase

  keep : (acc l : List Message) → Kept acc → Begins (acc ++ l) → Kept (acc ++ l)
  keep acc [] k g = subst Kept (sym (append-nil acc)) k
  keep acc (m ∷ l) (r, h) g =
      let a = append_assoc acc (m ∷ []) l in
      let g' : Begins ((acc ++ (m ∷ [])) ++ l) = subst Begins (sym a) g in
      let f = begun-front (acc ++ (m ∷ [])) l g' in
      subst Kept a (keep (acc ++ (m ∷ [])) l (reach-next acc m r f, keeps acc r.session.phase r.session.version m ((goes_exact acc r m).0 f).1 h) g')

  pub kept : P [] N.start_up → (l : List Message) → Begins l → Kept l
  kept h l g = keep [] l (record { session = fresh_session; follows = fresh_follows; early = λ e. tt; said = refl }, h) g

pub reached : (l : List Message) → Begins l → Reached l
reached l g = (kept (λ l p. Unit {0}) (λ l p v m e h. tt) tt l g).0

-- behind messages that begin a conversation somebody has the turn, or it is over
pub has-turn : (l : List Message) → Begins l → (t : Option Side) × HasTurn l t
has-turn l g = let r = reached l g in (side_of (turn_of r.session), turn_exact r.follows)

module _ (l : List Message) (m : Message) (sent : Published Server m) (error : m.instruction ≡ M.ErrorResponse) where
  -- at the client's turn, but for the first, ErrorResponse ends the conversation
  pub broken_off : 0 < length l → HasTurn l (some Client) → Whole (l ++ (m ∷ []))
  unfolding server_move closed_of
  broken_off some-sent (HasTurn.client c e) =
      let k = kept (λ l p. 0 < length l → 0 < p) (λ l p v m e h _. next-onward p v m.instruction) (λ z. absurd (omega (arith, z))) l (begun-front l (c.next ∷ []) c.begins) in
      let r = k.0 in
      let s : Session = r.session in
      let p : s.phase < N.start_up_answer = client_phase s (one_turn l (some Client) (side_of (turn_of s)) (HasTurn.client c e) (turn_exact r.follows)) in
      let to : next s.phase s.version m.instruction ≡ N.closed =
      moves Server m sent s.phase s.version ∙ ap (along m.instruction) (broken_row s.phase s.version (k.1 some-sent) (omega arith)) ∙ rw error in
      (whole-closed (accepted_follows r.follows m (published-sent sent) (rw to))).0 (eq-eqb _ _ to)

  -- at the server's turn it is an answer
  pub error_answers : HasTurn l (some Server) → Begins (l ++ (m ∷ []))
  error_answers (HasTurn.server c none_of) =
      let r = reached l (begun-front l (c.next ∷ []) c.begins) in
      let s : Session = r.session in
      let p = server_phase s (one_turn l (some Server) (side_of (turn_of s)) (HasTurn.server c none_of) (turn_exact r.follows)) in
      begins (accepted_follows r.follows m (published-sent sent) (failing s p.0 p.1))
    where
      failing : (s : Session) → N.start_up_answer ≤ s.phase → s.phase < N.closed → eqb (next s.phase s.version m.instruction) refused ≡ false
      failing s l h = rw error (answered s.phase s.version l h)
