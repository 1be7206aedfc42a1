-- Document 02, request 3, "The rules as one table": what the table of moves holds, by the machine, and how it is read.
use mathlib.Core.{List.List, List.[], List.◌∷◌, List.map, Path.◌≡◌}
use Rattle.std.specs.Prelude.{ℕ, zero, suc, ◌+◌, ◌-◌, ◌*◌, ◌≤◌}
use lib.{Dec.eqb, Dec.leb, Dec.ltb, ListN.get_or}
use Rattle.wire.specs.Bytes.{if}
use Rattle.sedna.specs.{declared.Entry.Entry, Table.rows, Table.InTable}
use Rattle.session.specs.{declared.table.Column.Column, Machine.next, Machine.refused, Phases.closed}

-- a table: a column for each instruction of document 01's table, in its order; a column: four entries for each phase, one to a version
abbrev pub Table : Type 0
Table = List Column

-- read where a table has no such column
abbrev pub none : Column
none = record { 0 = [] }

-- the entry for the j-th instruction, a phase, and a version from 1 to 4; where a table has none, 0, to which no move leads: a shorter table breaks the rule
abbrev pub entry_at : Table → ℕ → ℕ → ℕ → ℕ
entry_at t j p v = get_or (get_or t j none).0 (p * 4 + (v - 1)) 0

-- "each entry is what the grammar's machine did before": at every instruction, phase and version
abbrev pub Rule : Table → Type 0
Rule t = (e : Entry) (at : InTable e) (p : ℕ) → p ≤ closed → (v : ℕ) → 1 ≤ v → v ≤ 4 → entry_at t at.0 p v ≡ next p v e.0

-- the machine's moves by the instruction k, at n phases from p on, each in versions 1.0, 2.0, 3.0 and 4.0
abbrev pub moves_from : ℕ → ℕ → ℕ → List ℕ
moves_from k p zero = []
moves_from k p (suc n) = next p 1 k ∷ next p 2 k ∷ next p 3 k ∷ next p 4 k ∷ moves_from k (suc p) n

unfoldable pub column_of : Entry → Column
column_of e = record { 0 = moves_from e.0 0 (suc closed) }

-- the table that the rule asks for
unfoldable pub sheet : Table
sheet = map column_of rows

-- the version as which a record's is read: below 1.0 as 1.0, above 4.0 as 4.0
abbrev pub counted_of : ℕ → ℕ
counted_of v = if (leb v 1) 1 (if (leb 4 v) 4 v)

-- what a column has for a phase and a version; above the last phase, the mark
unfoldable pub entry_in : Column → ℕ → ℕ → ℕ
entry_in column p v = if (ltb closed p) refused (get_or column.0 (p * 4 + (counted_of v - 1)) 0)

-- the move by the columns from the j-th on, one for each of these rows of document 01's table: by the first row that has the instruction; the mark if none has
unfoldable pub look_from : List Entry → ℕ → Table → ℕ → ℕ → ℕ → ℕ
look_from [] j t p v k = refused
look_from (e ∷ es) j t p v k = if (eqb e.0 k) (entry_in (get_or t j none) p v) (look_from es (suc j) t p v k)

-- the move by a table: phase, version and instruction to the next phase
unfoldable pub look_up : Table → ℕ → ℕ → ℕ → ℕ
look_up t p v k = look_from rows 0 t p v k
