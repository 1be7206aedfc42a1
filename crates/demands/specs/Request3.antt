-- Document 02, request 3, "The rules as one table", which has not landed: what is promised of the table, which stands beside the machine. It is the constant
-- `NEXT` of crates/session/src/table.rt; the contract of `session::lookup::sheet`, which returns it, says that it is `sheet`. That `session::lookup::next`
-- finds its moves there no contract can say: its code is one line. The step does not go by it yet. "What the grammar's machine did before" is `next`, of
-- which the step is stated (`stepped`, by `outcome`), and every demand with it.
use mathlib.Core.{List.[], List.◌∷◌, Logic.◌⊎◌, Logic.◌↔◌, Path.◌≡◌}
use Rattle.std.specs.Prelude.{ℕ, ◌*◌, ◌≤◌, ◌<◌, length}
use Rattle.wire.specs.Every.{Every}
use Rattle.sedna_read.specs.Reading.{Answer}
use Rattle.session.specs.{declared.Session.Session, declared.table.Column.Column, Machine.next, Machine.refused}
use Rattle.session.specs.{Sheet.Table, Sheet.Rule, Sheet.sheet, Sheet.look_up, Step.Outcome, Step.outcome, Step.settled}
use Rattle.session.specs.Phases as P

-- the table machine: what it makes of a record and of what reading answered; the move is looked up
abbrev pub table_machine : Table → Session → Answer → Outcome
table_machine t s (Answer.refused r) = record { session = s; answer = Answer.refused r }
table_machine t s (Answer.accepted m n) = settled s m n (look_up t s.phase s.version m.instruction)

pub record Request3 : Type 0 where
  -- "every phase, instruction and version have its next phase in one constant table": 46 columns, each of 31 phases in four versions
  pub size : (length sheet ≡ 46) × Every (λ (c : Column). length c.0 ≡ 31 * 4) sheet
  -- "Its rule, that each entry is what the grammar's machine did before"
  pub rule : Rule sheet
  -- "a refused move having its own mark", which is no phase; every other move leads to one
  pub mark : P.closed < refused
  pub leads : (p v k : ℕ) → (next p v k ≡ refused) ⊎ (next p v k ≤ P.closed)
  -- "The table machine answers as the old one for every message and session record", whatever two numbers the record holds: exactly by the tables of
  -- which the rule holds, so that every entry counts
  pub answers : (t : Table) → Rule t ↔ ((s : Session) (a : Answer) → table_machine t s a ≡ outcome s a)
  -- what the machine, and by `answers` the table, makes of a phase above the last, of a version below 1.0, and of one above 4.0
  pub beyond : (p v k : ℕ) → P.closed < p → next p v k ≡ refused
  pub early : (p v k : ℕ) → v ≤ 1 → next p v k ≡ next p 1 k
  pub late : (p v k : ℕ) → 4 ≤ v → next p v k ≡ next p 4 k
  -- 01: "The version holds from here." At the start, where it does not yet, all versions have the same moves
  pub start : (v w k : ℕ) → Every (λ (p : ℕ). next p v k ≡ next p w k)
      (P.start_up ∷ P.start_up_answer ∷ P.parameters ∷ P.parameters_answer ∷ P.authentication ∷ P.authentication_answer ∷ [])
