-- The grammar's phases in the session record: each has a number, and there the machine's rows are the ways out of the phase, by who sends them.
use Rattle.std.specs.Prelude.{Option, Some, None}
use mathlib.Core.Bool.{Bool, true, false}
use mathlib.Core.List.{List, [], ◌∷◌}
use mathlib.Core.Path.{◌≡◌, refl, sym, ◌∙◌, ap}
use Prim.Native.Nat.{ℕ, ◌≤◌}
use native.Mathlib.Omega.{arith}
use lib.Dec.{eqb, ltb}
use lib.ListN.{get_or, get_or-eq_default}
use borrow.Author.Tests.{ne_eqb, ltb-true, ltb-false}
use Rattle.wire.specs.Bytes.{if}
use Rattle.sedna.specs.declared.{Shape.Shape, Side.Side, Side.TheVariants.Client, Side.TheVariants.Server}
use Rattle.sedna.specs.Message.{Message}
use Rattle.sedna.specs.Table.{rows, search, find_of}
use Rattle.grammar.proofs.Phase.{Phase}
use Rattle.grammar.proofs.Phase as P
use Rattle.grammar.specs.Sent.{Version, from, up_to}
use Rattle.grammar.proofs.Arrow.{Arrow, Row}
use Rattle.grammar.proofs.Rows.{row}
use Rattle.session.specs.Phases as N
use Rattle.session.specs.Machine.{refused, Way, client_rows, server_rows}

abbrev pub code : Phase → ℕ
code P.start_up = N.start_up
code P.parameters = N.parameters
code P.authentication = N.authentication
code P.outside = N.outside
code P.inside = N.inside
code P.rest_of_text = N.rest_of_text
code P.next_or_give_up = N.next_or_give_up
code P.again_or_inside = N.again_or_inside
code P.file = N.file
code P.start_up_answer = N.start_up_answer
code P.parameters_answer = N.parameters_answer
code P.time_answer_out = N.time_answer_out
code P.set_answer_out = N.set_answer_out
code P.reset_answer_out = N.reset_answer_out
code P.close_answer_out = N.close_answer_out
code P.time_answer_in = N.time_answer_in
code P.set_answer_in = N.set_answer_in
code P.reset_answer_in = N.reset_answer_in
code P.close_answer_in = N.close_answer_in
code P.load_error_answer = N.load_error_answer
code P.authentication_answer = N.authentication_answer
code P.begin_answer = N.begin_answer
code P.statement_answer = N.statement_answer
code P.update_answer = N.update_answer
code P.delivery = N.delivery
code P.rest_of_item = N.rest_of_item
code P.again_answer = N.again_answer
code P.commit_answer = N.commit_answer
code P.rollback_answer = N.rollback_answer
code P.file_answer = N.file_answer
code P.closed = N.closed

phases : List Phase
phases =
    P.start_up ∷ P.parameters ∷ P.authentication ∷ P.outside ∷ P.inside ∷ P.rest_of_text ∷ P.next_or_give_up ∷ P.again_or_inside ∷ P.file ∷
    P.start_up_answer ∷ P.parameters_answer ∷ P.time_answer_out ∷ P.set_answer_out ∷ P.reset_answer_out ∷ P.close_answer_out ∷
    P.time_answer_in ∷ P.set_answer_in ∷ P.reset_answer_in ∷ P.close_answer_in ∷ P.load_error_answer ∷ P.authentication_answer ∷ P.begin_answer ∷
    P.statement_answer ∷ P.update_answer ∷ P.delivery ∷ P.rest_of_item ∷ P.again_answer ∷ P.commit_answer ∷ P.rollback_answer ∷ P.file_answer ∷
    P.closed ∷ []

decode : ℕ → Phase
decode n = get_or phases n P.closed

-- an arrow as a way of the machine
abbrev pub way : {v : Version} {X : Type 0} {f : X → List Message} → Arrow v X f → Way
way a = record { kind = a.kind; when = a.when; to = code a.to }

abbrev pub ways : {v : Version} {X : Type 0} {f : X → List Message} → Row v X f → List Way
ways [] = []
ways (a ∷ r) = way a ∷ ways r

-- who sends an instruction, by the table
pub data Sender : Type 0 where
  client server nobody : Sender

abbrev pub sender : Option (Side × Shape) → Sender
sender None = Sender.nobody
sender (Some (Client, shape)) = Sender.client
sender (Some (Server, shape)) = Sender.server

abbrev pub is : Sender → Sender → Bool
is Sender.client Sender.client = true
is Sender.client Sender.server = false
is Sender.client Sender.nobody = false
is Sender.server Sender.client = false
is Sender.server Sender.server = true
is Sender.server Sender.nobody = false
is Sender.nobody Sender.client = false
is Sender.nobody Sender.server = false
is Sender.nobody Sender.nobody = true

-- the ways whose instructions pass a test
abbrev pub kept : (ℕ → Bool) → List Way → List Way
kept test [] = []
kept test (w ∷ ws) = if (test w.kind) (w ∷ kept test ws) (kept test ws)

abbrev pub sent_by : Sender → ℕ → Bool
sent_by s k = is s (sender (find_of k))

-- the machine's row of a sender at a phase
abbrev pub rows_of : Sender → ℕ → List (List Way)
rows_of Sender.client v = client_rows v
rows_of Sender.server v = server_rows v
rows_of Sender.nobody v = []

-- the machine's row of a sender is what that sender sends at the phase
abbrev Same : Sender → Phase → Type 0
Same s p = (v : Version) → kept (sent_by s) (ways (row p v)) ≡ get_or (rows_of s v) (code p) []

-- at each phase: the number tells it, and the machine's rows are its ways out
at : (p : Phase) → (decode (code p) ≡ p) × Same Sender.client p × Same Sender.server p × Same Sender.nobody p
unfolding decode phases row from up_to find_of rows search
at P.start_up = (refl, (λ v. refl), (λ v. refl), (λ v. refl))
at P.parameters = (refl, (λ v. refl), (λ v. refl), (λ v. refl))
at P.authentication = (refl, (λ v. refl), (λ v. refl), (λ v. refl))
at P.outside = (refl, (λ v. refl), (λ v. refl), (λ v. refl))
at P.inside = (refl, (λ v. refl), (λ v. refl), (λ v. refl))
at P.rest_of_text = (refl, (λ v. refl), (λ v. refl), (λ v. refl))
at P.next_or_give_up = (refl, (λ v. refl), (λ v. refl), (λ v. refl))
at P.again_or_inside = (refl, (λ v. refl), (λ v. refl), (λ v. refl))
at P.file = (refl, (λ v. refl), (λ v. refl), (λ v. refl))
at P.start_up_answer = (refl, (λ v. refl), (λ v. refl), (λ v. refl))
at P.parameters_answer = (refl, (λ v. refl), (λ v. refl), (λ v. refl))
at P.time_answer_out = (refl, (λ v. refl), (λ v. refl), (λ v. refl))
at P.set_answer_out = (refl, (λ v. refl), (λ v. refl), (λ v. refl))
at P.reset_answer_out = (refl, (λ v. refl), (λ v. refl), (λ v. refl))
at P.close_answer_out = (refl, (λ v. refl), (λ v. refl), (λ v. refl))
at P.time_answer_in = (refl, (λ v. refl), (λ v. refl), (λ v. refl))
at P.set_answer_in = (refl, (λ v. refl), (λ v. refl), (λ v. refl))
at P.reset_answer_in = (refl, (λ v. refl), (λ v. refl), (λ v. refl))
at P.close_answer_in = (refl, (λ v. refl), (λ v. refl), (λ v. refl))
at P.load_error_answer = (refl, (λ v. refl), (λ v. refl), (λ v. refl))
at P.authentication_answer = (refl, (λ v. refl), (λ v. refl), (λ v. refl))
at P.begin_answer = (refl, (λ v. refl), (λ v. refl), (λ v. refl))
at P.statement_answer = (refl, (λ v. refl), (λ v. refl), (λ v. refl))
at P.update_answer = (refl, (λ v. refl), (λ v. refl), (λ v. refl))
at P.delivery = (refl, (λ v. refl), (λ v. refl), (λ v. refl))
at P.rest_of_item = (refl, (λ v. refl), (λ v. refl), (λ v. refl))
at P.again_answer = (refl, (λ v. refl), (λ v. refl), (λ v. refl))
at P.commit_answer = (refl, (λ v. refl), (λ v. refl), (λ v. refl))
at P.rollback_answer = (refl, (λ v. refl), (λ v. refl), (λ v. refl))
at P.file_answer = (refl, (λ v. refl), (λ v. refl), (λ v. refl))
at P.closed = (refl, (λ v. refl), (λ v. refl), (λ v. refl))

pub same_row : (s : Sender) (p : Phase) → Same s p
same_row Sender.client p = (at p).1
same_row Sender.server p = (at p).2
same_row Sender.nobody p = (at p).3

pub code-closed : (p : Phase) → code p ≡ N.closed → p ≡ P.closed
unfolding decode phases
code-closed p e = sym (at p).0 ∙ ap decode e

-- behind the server's phases there is no other
pub code-last : (p : Phase) → N.closed ≤ code p → p ≡ P.closed
unfolding decode phases
code-last p h = by (ltb N.closed (code p)) refl
  where
    by : (t : Bool) → ltb N.closed (code p) ≡ t → p ≡ P.closed
    by true e = sym (at p).0 ∙ get_or-eq_default phases P.closed (ltb-true N.closed (code p) e)
    by false e = let l : code p ≤ N.closed = ltb-false N.closed (code p) e in code-closed p (omega arith)

-- no phase has the mark of a refused move
pub code_marks : (p : Phase) → eqb (code p) refused ≡ false
unfolding decode phases
code_marks p = ne_eqb (code p) refused (λ e.
    let q : p ≡ P.closed = sym (at p).0 ∙ ap decode e in
    let z : N.closed ≡ refused = sym (ap code q) ∙ e in
    omega arith)
