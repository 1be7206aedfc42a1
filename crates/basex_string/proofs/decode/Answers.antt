use mathlib.Core.Path.{sym, ◌∙◌}
use native.Mathlib.Omega.{arith}
use lib.ListN.{length, drop}
use Rattle.wire.proofs.Call.{counted-there}
use Rattle.basex_string.specs.Scan.{reading}
use Rattle.basex_string.proofs.Handed.{handed}
use Rattle.basex_string.proofs.Scans.{refused-decoded, cramped_decoded, stored-decoded}
use Rattle.basex_string.proofs.decode.Goals as goal

pub store_text-requires : goal.store_text-requires
store_text-requires c =
    let a = c.args in
    let h = (counted-there (length a.out.now) a.to c.in_ok-found.found.len _
    (sym c.in_room.ensures ∙ c.in_ok-in_room.was)).1 in
    (sym c.string_at.ensures ∙ c.in_ok-found.was, omega arith)

pub returns-in_err-found : goal.returns-in_err-found
returns-in_err-found c =
    let a = c.args in
    rw (handed _ c.from_residual.ensures.1) (refused-decoded _ a.to a.out.now (reading (drop a.at a.bytes.now)) (sym c.string_at.ensures ∙ c.in_err-found.was))

pub returns-in_err-in_room : goal.returns-in_err-in_room
returns-in_err-in_room c =
    let a = c.args in
    rw (handed _ c.from_residual-in_err-in_room.ensures.1)
    (cramped_decoded _ a.to a.out.now (reading (drop a.at a.bytes.now)) (sym c.string_at.ensures ∙ c.in_ok-found.was) (sym c.in_room.ensures ∙ c.in_err-in_room.was))

pub returns : goal.returns
returns c =
    let a = c.args in
    stored-decoded _ a.to a.out.now (reading (drop a.at a.bytes.now)) (sym c.string_at.ensures ∙ c.in_ok-found.was)
    (sym c.in_room.ensures ∙ c.in_ok-in_room.was) c.store_text.ensures
