-- Document 01, "with status 01 the last string is the error", and "01 and an error string": where it stands in the output that a response was read into.
use Rattle.std.specs.Prelude.{ℕ, ltb}
use Rattle.wire.specs.{Bytes.if, declared.Place.Place}
use Rattle.basex.specs.{declared.Reply.Reply, Kinds.ahead, Kinds.error_behind, Kinds.listed}

-- by how long the first text is, the second, those of the items together, and the error behind the status, which stands behind the items or the one text;
-- where there is none, the last text ahead is the error
abbrev pub error_at : Reply → ℕ → ℕ → ℕ → ℕ → Place
error_at reply first second items error =
    if (error_behind reply) (record { start = if (listed reply) items first; len = error })
    (if (ltb 1 (ahead reply)) (record { start = first; len = second }) (record { start = 0; len = first }))
