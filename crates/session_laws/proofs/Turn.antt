-- The record's turn is the grammar's: whoever may go on by the machine has the turn.
use Rattle.std.specs.Prelude.{Option, Some, None}
use mathlib.Core.Bool.{Bool, true, false, not}
use mathlib.Core.List.{List, [], ◌∷◌, ◌++◌}
use mathlib.Core.Option.{some}
use mathlib.Core.Path.{◌≡◌, refl, sym, ◌∙◌, ap, subst}
use Prim.Native.Nat.{ℕ, zero, suc, ◌≤◌, ◌<◌}
use native.Mathlib.Omega.{arith}
use lib.Dec.{eqb, ltb}
use lib.ListN.{get_or, get_or-eq_default}
use borrow.Author.Tests.{eqb-true, ltb-true, ltb-false}
use Rattle.wire.specs.Bytes.{if, int}
use Rattle.wire.specs.declared.Refusal.TheVariants.{OutOfOrder}
use Rattle.sedna.specs.declared.{Shape.Shape, Side.Side, Side.TheVariants.Client, Side.TheVariants.Server}
use Rattle.sedna.specs.Allowed.{allowed, version_allowed}
use Rattle.sedna.specs.Encode.{body_bytes, string}
use Rattle.sedna.specs.Message.{Body, Message, message, shape_of}
use Rattle.sedna.specs.Names as M
use Rattle.sedna.specs.Published.{Published}
use Rattle.sedna.specs.Table.{find_of, rows, search}
use Rattle.wire.proofs.Below.{up_to, below}
use Rattle.wire.proofs.Branches.{apart, both}
use Rattle.sedna_laws.proofs.Table.{find_listed}
use Rattle.sedna_read.specs.Reading.{Answer}
use Rattle.grammar.specs.Conversation.{Begins}
use Rattle.grammar.specs.Sent.{can_send, all_bytes}
use Rattle.grammar.specs.Turn.{GoesOn, HasTurn}
use Rattle.grammar.proofs.Sendable.{true_T, Sendable}
use Rattle.session.specs.declared.Session.{Session}
use Rattle.session.specs.Machine.{along, refused, client_rows, move_of, client_move, server_move, next}
use Rattle.session.specs.Phases as N
use Rattle.session.specs.Step.{Outcome, version_after, settled, turn_of, side_of}
use Rattle.session_laws.proofs.Follows.{Follows, begins, whole-closed, last-closed, Settled, settles, moved, nine}
use Rattle.session_laws.proofs.Phases.{Sender, sender, is}
use Rattle.session_laws.proofs.Published.{published-sent, published_exact}
use Rattle.session.proofs.Rows.{broken_row}

-- at each of the client's phases a message that it may send there
asks : List Message
asks =
    message M.StartUp Body.empty ∷
    message M.SessionParameters (Body.session 1 0 [] []) ∷
    message M.AuthenticationParameters (Body.text []) ∷
    message M.Begin Body.empty ∷
    message M.Commit Body.empty ∷
    message M.LongQueryEnd Body.empty ∷
    message M.GetNextItem Body.empty ∷
    message M.GetNextItem Body.empty ∷
    message M.BulkLoadEnd Body.empty ∷
    []

-- what the server may send at each phase but the first and the last
fails : Message
fails = message M.ErrorResponse (Body.coded 0 [])

ask : ℕ → Message
ask p = get_or asks p fails

abbrev of : Side → Sender
of Client = Sender.client
of Server = Sender.server

-- the side sends m, and the machine takes it
abbrev takes : Side → ℕ → ℕ → Message → Bool
takes side v p m =
    if (can_send m.instruction m.body) (if (is (of side) (sender (find_of m.instruction))) (not (eqb (next p v m.instruction) refused)) false) false

all_asked : (v : ℕ) → up_to (λ (p : ℕ). takes Client v p (ask p)) N.start_up_answer ≡ true
unfolding ask asks fails can_send find_of rows search body_bytes string int all_bytes allowed version_allowed next client_move server_move
all_asked v = refl

all-failed : (v : ℕ) → up_to (λ (p : ℕ). takes Server v (suc p) fails) 29 ≡ true
unfolding ask asks fails can_send find_of rows search body_bytes string int all_bytes allowed version_allowed next client_move server_move
all-failed v = refl

-- a message that is sent, by the side that the table has for it
sent_by_lem : (side : Side) (m : Message) → Sendable m → is (of side) (sender (find_of m.instruction)) ≡ true → Published side m
sent_by_lem side m sent e =
    let p = (published_exact m.instruction m.body).0 sent in
    let f : find_of m.instruction ≡ Some (p.0, (shape_of m.body)) = find_listed (m.instruction, p.0, shape_of m.body) p.1.listed in
    by side p.0 p.1 (sym (ap (λ (x : Option (Side × Shape)). is (of side) (sender x)) f) ∙ e)
  where
    by : (side from : Side) → Published from m → is (of side) (sender (Some (from, (shape_of m.body)))) ≡ true → Published side m
    by Client Client p e = p
    by Server Server p e = p
    by Client Server p e = absurd (true_T {t = false} e)
    by Server Client p e = absurd (true_T {t = false} e)

-- the machine's word on a message that is sent is the grammar's
module _ {acc : List Message} {s : Session} (i : Follows acc s) (m : Message) (sent : Sendable m) where
  abbrev came : Outcome
  came = settled s m 0 (next s.phase s.version m.instruction)

  -- the record behind it
  abbrev pub on : Session
  on = record { phase = next s.phase s.version m.instruction; version = version_after m.instruction s.version m.body }

  pub accepted_follows : eqb (next s.phase s.version m.instruction) refused ≡ false → Follows (acc ++ (m ∷ [])) on
  accepted_follows e = subst (Follows (acc ++ (m ∷ []))) (rw e) (by came (settles i m 0 sent) (rw e))
    where
      by : (x : Outcome) → Settled acc s m 0 x → x.answer ≡ Answer.accepted m 0 → Follows (acc ++ (m ∷ [])) x.session
      by x (moved f) h = f
      by x (nine b) h = apart (cc)

  pub refused_not : next s.phase s.version m.instruction ≡ refused → ¬ Begins (acc ++ (m ∷ []))
  refused_not e = by came (settles i m 0 sent) (rw e)
    where
      by : (x : Outcome) → Settled acc s m 0 x → x.answer ≡ Answer.refused OutOfOrder → ¬ Begins (acc ++ (m ∷ []))
      by x (moved f) h = apart (cc)
      by x (nine b) h = b

not_true : (t : Bool) → not t ≡ true → t ≡ false
not_true true h = absurd (true_T {t = false} h)
not_true false h = refl

-- what a side sends and the machine takes goes on
goes_on : {acc : List Message} {s : Session} → Follows acc s → (side : Side) (m : Message) → takes side s.version s.phase m ≡ true → GoesOn acc side
goes_on {acc} {s} i side m e =
    let a = (both (can_send m.instruction m.body) _).0 e in
    let b = (both (is (of side) (sender (find_of m.instruction))) _).0 a.1 in
    record {
      next = m;
      published = sent_by_lem side m (true_T a.0) b.0;
      begins = begins (accepted_follows i m (true_T a.0) (not_true (eqb (next s.phase s.version m.instruction) refused) b.1));
    }

-- the machine's move for what a side sends
pub moves : (side : Side) (m : Message) → Published side m → (p v : ℕ) → next p v m.instruction ≡ move_of (Some (side, (shape_of m.body))) p v m.instruction
unfolding next
moves side m sent p v = ap (λ (f : Option (Side × Shape)). move_of f p v m.instruction) (find_listed (m.instruction, side, shape_of m.body) sent.listed)

-- at the server's turn the machine takes nothing from the client
client_waits : (m : Message) → Published Client m → (p v : ℕ) → N.start_up_answer ≤ p → next p v m.instruction ≡ refused
unfolding client_move
client_waits m sent p v h = moves Client m sent p v ∙ ap (along m.instruction) (get_or-eq_default (client_rows v) [] h)

-- and at the client's turn nothing from the server but ErrorResponse
server_waits : (m : Message) → Published Server m → (p v : ℕ) → p ≤ N.file → eqb m.instruction M.ErrorResponse ≡ false → next p v m.instruction ≡ refused
unfolding server_move
server_waits m sent zero v h e = moves Server m sent zero v
server_waits m sent (suc p) v h e = moves Server m sent (suc p) v ∙ ap (along m.instruction) (broken_row (suc p) v (omega arith) h) ∙ rw e

-- the server may answer with ErrorResponse at each phase of its own
fails_answers : (p v : ℕ) → N.start_up_answer ≤ p → p < N.closed → takes Server v p fails ≡ true
fails_answers zero v l h = absurd (omega arith)
fails_answers (suc p) v l h = below (λ (n : ℕ). takes Server v (suc n) fails) 29 p (all-failed v) (omega arith)

-- so ErrorResponse is an answer there
pub answered : (p v : ℕ) → N.start_up_answer ≤ p → p < N.closed → eqb (next p v M.ErrorResponse) refused ≡ false
unfolding fails
answered p v l h =
    let a = (both (can_send M.ErrorResponse (Body.coded 0 [])) _).0 (fails_answers p v l h) in
    not_true (eqb (next p v M.ErrorResponse) refused) ((both (is Sender.server (sender (find_of M.ErrorResponse))) _).0 a.1).1

pub turn_exact : {acc : List Message} {s : Session} → Follows acc s → HasTurn acc (side_of (turn_of s))
unfolding turn_of
turn_exact {acc} {s} i = by (ltb s.phase N.start_up_answer) refl (ltb s.phase N.closed) refl
  where
    only_error : s.phase < N.start_up_answer → (m : Message) → Published Server m → Begins (acc ++ (m ∷ [])) → m.instruction ≡ M.ErrorResponse
    only_error h m sent g = on (eqb m.instruction M.ErrorResponse) refl
      where
        on : (t : Bool) → eqb m.instruction M.ErrorResponse ≡ t → m.instruction ≡ M.ErrorResponse
        on true e = eqb-true m.instruction M.ErrorResponse e
        on false e = absurd (refused_not i m (published-sent sent) (server_waits m sent s.phase s.version (omega arith) e) g)

    by : (t : Bool) → ltb s.phase N.start_up_answer ≡ t → (u : Bool) → ltb s.phase N.closed ≡ u → HasTurn acc (side_of (if t (Some Client) (if u (Some Server) None)))
    by true e u f =
        let h : s.phase < N.start_up_answer = ltb-true s.phase N.start_up_answer e in
        HasTurn.client (goes_on i Client (ask s.phase) (below (λ (p : ℕ). takes Client s.version p (ask p)) N.start_up_answer s.phase (all_asked s.version) h)) (only_error h)
    by false e true f =
        let l : N.start_up_answer ≤ s.phase = ltb-false s.phase N.start_up_answer e in
        HasTurn.server (goes_on i Server fails (fails_answers s.phase s.version l (ltb-true s.phase N.closed f)))
        (λ g. refused_not i g.next (published-sent g.published) (client_waits g.next g.published s.phase s.version l) g.begins)
    by false e false f =
        let l : N.closed ≤ s.phase = ltb-false s.phase N.closed f in
        HasTurn.over ((whole-closed i).0 (last-closed i l))

-- the phases of a side's turn
pub client_phase : (s : Session) → some Client ≡ side_of (turn_of s) → s.phase < N.start_up_answer
unfolding turn_of
client_phase s e = by (ltb s.phase N.start_up_answer) refl (ltb s.phase N.closed) e
  where
    by : (t : Bool) → ltb s.phase N.start_up_answer ≡ t → (u : Bool) → some Client ≡ side_of (if t (Some Client) (if u (Some Server) None)) → s.phase < N.start_up_answer
    by true h u e = ltb-true s.phase N.start_up_answer h
    by false h true e = apart (cc)
    by false h false e = apart (cc)

pub server_phase : (s : Session) → some Server ≡ side_of (turn_of s) → (N.start_up_answer ≤ s.phase) × (s.phase < N.closed)
unfolding turn_of
server_phase s e = by (ltb s.phase N.start_up_answer) refl (ltb s.phase N.closed) refl e
  where
    by : (t : Bool) → ltb s.phase N.start_up_answer ≡ t → (u : Bool) → ltb s.phase N.closed ≡ u → some Server ≡ side_of (if t (Some Client) (if u (Some Server) None))
        → (N.start_up_answer ≤ s.phase) × (s.phase < N.closed)
    by true h u k e = apart (cc)
    by false h true k e = (ltb-false s.phase N.start_up_answer h, ltb-true s.phase N.closed k)
    by false h false k e = apart (cc)
