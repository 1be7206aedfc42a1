use mathlib.Core.Path.{sym, ap, ◌∙◌}
use native.Mathlib.Omega.{arith}
use lib.ListN.{length}
use Rattle.wire.specs.Bytes.{splice}
use Rattle.wire.proofs.Call.{counted-there}
use Rattle.basex_string.specs.Strings.{string}
use Rattle.basex_string.proofs.Handed.{handed}
use Rattle.basex_string.proofs.Room.{writes_not, writes_all}
use Rattle.basex_string.proofs.Steps.{string_clean}
use Rattle.basex_string.proofs.write_string.Goals as goal

pub returns-in_err-n : goal.returns-in_err-n
returns-in_err-n c =
    let a = c.args in
    rw (handed _ c.from_residual.ensures.1)
    (writes_not a.out.now a.at (string a.text.now) c.string_len.ensures (sym c.in_room.ensures ∙ c.in_err-n.was))

pub store_plain-requires : goal.store_plain-requires
store_plain-requires c =
    let h = counted-there (length c.args.out.now) c.args.at c.string_len.result c.in_ok-n.n (sym c.in_room.ensures ∙ c.in_ok-n.was) in
    omega arith

pub returns-then-n-text : goal.returns-then-n-text
returns-then-n-text c =
    let a = c.args in
    let e = sym c.in_room.ensures ∙ c.in_ok-n.was in
    let h = counted-there (length a.out.now) a.at c.string_len.result c.in_ok-n.n e in
    writes_all a.out.now a.at (string a.text.now) c.string_len.ensures e
    (c.store_plain.ensures ∙ ap (splice a.out.now a.at) (sym (string_clean a.text.now (omega arith))))

pub store_string-requires : goal.store_string-requires
store_string-requires c =
    let h = counted-there (length c.args.out.now) c.args.at c.string_len.result c.in_ok-n.n (sym c.in_room.ensures ∙ c.in_ok-n.was) in
    omega arith

pub returns-else-n-text : goal.returns-else-n-text
returns-else-n-text c =
    let a = c.args in
    writes_all a.out.now a.at (string a.text.now) c.string_len.ensures (sym c.in_room.ensures ∙ c.in_ok-n.was) c.store_string.ensures
