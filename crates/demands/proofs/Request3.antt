-- Document 02, request 3, is met.
use mathlib.Core.List.{List, [], ◌∷◌, map}
use mathlib.Core.Path.{◌≡◌, refl, sym, ◌∙◌, ap}
use Prim.Native.Nat.{ℕ, ◌*◌}
use native.Mathlib.Omega.{arith}
use lib.ListN.{length}
use Rattle.std.proofs.lemmas.Bool.Decides.{nat_tests}
use Rattle.wire.specs.Every.{Every}
use Rattle.sedna.specs.declared.Entry.{Entry}
use Rattle.sedna.specs.Message.{Body, Message, message}
use Rattle.sedna.specs.Table.{rows}
use Rattle.sedna_read.specs.Reading.{Answer}
use Rattle.session.specs.declared.Session.{Session}
use Rattle.session.specs.declared.table.Column.{Column}
use Rattle.session.specs.Machine.{next, refused, client_row, server_row}
use Rattle.session.specs.Phases as P
use Rattle.session.specs.Sheet.{Table, Rule, sheet, column_of, look_up}
use Rattle.session.specs.Step.{Outcome, outcome, settled}
use Rattle.session.proofs.Sheet.{same_rows, rule, moves, no_other, beyond, early, late}
use Rattle.session_laws.proofs.Ways.{next_phase}
use Rattle.demands.specs.Request3.{table_machine, Request3}

-- a column has four entries for each phase
sized : (es : List Entry) → Every (λ (c : Column). length c.0 ≡ 31 * 4) (map column_of es)
unfolding column_of
sized [] = tt
sized (e ∷ es) = (refl, sized es)

-- the move that an outcome tells
abbrev told_by : Session → Answer → ℕ
told_by s (Answer.refused r) = refused
told_by s (Answer.accepted m n) = s.phase

abbrev move_told : Outcome → ℕ
move_told o = told_by o.session o.answer

told : (s : Session) (m : Message) (n to : ℕ) → move_told (settled s m n to) ≡ to
told s m n to = grind (arith, nat_tests)

module _ (t : Table) where
  goes : Rule t → (s : Session) (a : Answer) → table_machine t s a ≡ outcome s a
  goes right s (Answer.refused r) = refl
  goes right s (Answer.accepted m n) = ap (settled s m n) (moves t right s.phase s.version m.instruction)

  back : ((s : Session) (a : Answer) → table_machine t s a ≡ outcome s a) → (p v k : ℕ) → look_up t p v k ≡ next p v k
  back same p v k =
      let s : Session = record { phase = p; version = v } in
      let m : Message = message k Body.empty in
      sym (told s m 0 (look_up t p v k)) ∙ ap move_told (same s (Answer.accepted m 0)) ∙ told s m 0 (next p v k)

-- at the start no row mentions the version
start : (v w k : ℕ) → Every (λ (p : ℕ). next p v k ≡ next p w k)
    (P.start_up ∷ P.start_up_answer ∷ P.parameters ∷ P.parameters_answer ∷ P.authentication ∷ P.authentication_answer ∷ [])
start v w k = (
  at P.start_up refl refl,
  (
    at P.start_up_answer refl refl,
    (
      at P.parameters refl refl,
      (at P.parameters_answer refl refl, (at P.authentication refl refl, (at P.authentication_answer refl refl, tt))),
    ),
  ),
)
  where
    at : (p : ℕ) → client_row p v ≡ client_row p w → server_row p v ≡ server_row p w → next p v k ≡ next p w k
    at p = same_rows p v w k

pub request_3 : Request3
unfolding sheet rows
request_3 = record {
  size = (refl, sized rows);
  rule = rule;
  mark = omega arith;
  leads = next_phase;
  answers = λ t. (goes t, λ same. no_other t (back t same));
  beyond = beyond;
  early = early;
  late = late;
  start = start;
}
