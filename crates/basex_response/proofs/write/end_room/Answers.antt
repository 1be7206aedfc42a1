use mathlib.Core.Path.{◌≡◌, refl, sym, ap, ◌∙◌}
use mathlib.Core.List.{◌++◌}
use native.Mathlib.Omega.{arith}
use lib.ListN.{length, length-append}
use Rattle.wire.specs.Call.{in_room}
use Rattle.basex_response.specs.inner.Spelling.{ahead_parts, last_parts, end_parts}
use Rattle.basex_response.proofs.Ends.{ahead-size, last-size}
use Rattle.basex_response.proofs.write.end_room.Goals as goal

pub returns : goal.returns
returns c =
    let a = c.args in
    let n = c.strings_ahead-ahead.result in
    let l = c.is_listed.result in
    let m = c.strings_behind-behind.result in
    let e : ahead_parts n a.first.now a.second.now ++ last_parts l a.status m a.error.now ≡ end_parts a.reply a.first.now a.second.now a.status
    a.error.now = rw (c.strings_ahead-ahead.ensures, c.is_listed.ensures, c.strings_behind-behind.ensures) refl in
    let t = ahead-size n a.first.now a.second.now in
    let u = last-size l a.status m a.error.now in
    let k = sym (ap length e) ∙ length-append (ahead_parts n a.first.now a.second.now) (last_parts l a.status m a.error.now) in
    let x = c.size_if-a.ensures in
    let y = c.size_if-b.ensures in
    let z = c.status_len-c.ensures in
    let w = c.size_if-d.ensures in
    c.parts_in_room.ensures ∙ ap (in_room a.room a.at) (omega arith)
