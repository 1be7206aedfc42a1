use Rattle.std.proofs.lemmas.Result.{err_from_is_err_and}
use mathlib.Core.Path.{sym, ◌∙◌}
use native.Mathlib.Omega.{arith}
use lib.ListN.{length}
use Rattle.wire.proofs.Call.{counted-there}
use Rattle.records_printed.specs.Transcript.{printed}
use Rattle.records_printed.proofs.Rooms.{text-refused}
use Rattle.records_printed.proofs.whole.replay.Goals as goal

pub put_all-requires : goal.put_all-requires
put_all-requires c =
    let a = c.args in
    let h = counted-there (length a.out.now) 0 (length (printed a.bytes.now)) _ (sym c.size_within.ensures ∙ c.in_ok-size.was) in
    omega (arith, h.1)

pub returns : goal.returns
returns c =
    record { answers = sym c.in_ok-size.was ∙ c.size_within.ensures; leaves = c.put_all.ensures }

pub returns-in_err-size : goal.returns-in_err-size
returns-in_err-size c =
    let p = err_from_is_err_and c.from_residual.result c.from_residual.ensures.1 in
    let e = sym c.in_err-size.was ∙ c.size_within.ensures in
    rw (p.1, p.2)
    (record { answers = e; leaves = sym (text-refused _ 0 _ _ (sym e)).1 })
