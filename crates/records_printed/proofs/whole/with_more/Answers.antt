use Rattle.std.proofs.lemmas.Result.{err_from_is_err_and}
use Rattle.std.specs.Prelude.{Ok, Err}
use mathlib.Core.Path.{sym, ap, ◌∙◌}
use Prim.Native.Nat.{ℕ, ◌+◌}
use native.Mathlib.Omega.{arith}
use Rattle.wire.proofs.Call.{room-there, room-short, refused-short, counted-there}
use Rattle.records_printed.proofs.whole.with_more.Goals as goal

pub overflow_add-result : goal.overflow_add-result
overflow_add-result c =
    let a = c.args in
    let h = counted-there a.room a.to a.more _ (sym c.in_room.ensures ∙ c.in_ok-in_room.was) in
    omega (arith, h.0, h.1)

pub returns-in_err-in_room : goal.returns-in_err-in_room
returns-in_err-in_room c =
    let p = err_from_is_err_and c.from_residual.result c.from_residual.ensures.1 in
    let a = c.args in
    let h = refused-short a.room a.to a.more _ (sym c.in_room.ensures ∙ c.in_err-in_room.was) in
    rw (p.1, p.2) (ap Err h.0 ∙ sym (room-short a.room 0 (a.to + a.more) (omega (arith, h.1))))

pub returns : goal.returns
returns c =
    let a = c.args in
    let h = counted-there a.room a.to a.more _ (sym c.in_room.ensures ∙ c.in_ok-in_room.was) in
    ap (λ (n : ℕ). Ok (a.to + n)) h.0 ∙ sym (room-there a.room 0 (a.to + a.more) (omega (arith, h.1)))
