use mathlib.Core.List.{[], ◌∷◌}
use mathlib.Core.Path.{refl}
use native.Mathlib.Omega.{arith}
use Rattle.std.proofs.lemmas.Result.{err_from_is_err_and}
use Rattle.wire.proofs.Splices.{step, last}
use Rattle.sedna.specs.Encode.{url_bytes, body_bytes}
use Rattle.sedna.specs.Message.{Url, Body, message}
use Rattle.sedna_write.proofs.Puts.{counted, refused, body-ahead, done, item_head}
use Rattle.sedna_write.proofs.write_item.Goals as goal

pub returns-in_err-k : goal.returns-in_err-k
returns-in_err-k c =
    let a = c.args in
    let p = err_from_is_err_and c.from_residual.result c.from_residual.ensures.1 in
    rw (p.1, p.2) (refused a.out.now (message a.instruction (Body.item a.class a.kind Url.absent a.part.now)) (item_head a.class a.kind a.part.now c.item_allowed-allowed.ensures c.capped.ensures c.in_err-k.ensures) refl)

pub put_string-requires : goal.put_string-requires
put_string-requires c =
    let f = counted c.in_ok-k.ensures refl in
    (omega (arith, f.short, f.fits), omega (arith, f.short))

pub returns : goal.returns
unfolding body_bytes url_bytes
returns c =
    let a = c.args in
    let m = message a.instruction (Body.item a.class a.kind Url.absent a.part.now) in
    let h = item_head a.class a.kind a.part.now c.item_allowed-allowed.ensures c.capped.ensures c.in_ok-k.ensures in
    let f = counted c.in_ok-k.ensures refl in
    let z = body-ahead a.out.now m h refl in
    let z0 = step (a.class ∷ []) 9 z c.put_byte.ensures (omega (arith, f.fits)) in
    let z1 = step (a.kind ∷ []) 10 z0 c.put_byte-2.ensures (omega (arith, f.fits)) in
    let z2 = step (0 ∷ []) 11 z1 c.put_byte-3.ensures (omega (arith, f.fits)) in
    done a.out.now m h refl (last z2 c.put_string.ensures)
