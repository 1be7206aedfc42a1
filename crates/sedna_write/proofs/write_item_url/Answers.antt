use mathlib.Core.List.{[], ◌∷◌}
use mathlib.Core.Path.{refl}
use Prim.Native.Nat.{◌+◌}
use native.Mathlib.Omega.{arith}
use lib.ListN.{length}
use Rattle.std.proofs.lemmas.Result.{err_from_is_err_and}
use Rattle.wire.specs.Bytes.{int}
use Rattle.wire.proofs.Splices.{step, last}
use Rattle.sedna.specs.Encode.{string, url_bytes, body_bytes}
use Rattle.sedna.specs.Message.{Url, Body, message}
use Rattle.sedna_write.proofs.Puts.{counted, refused, body-ahead, done, item-url_head}
use Rattle.sedna_write.proofs.write_item_url.Goals as goal

pub returns-in_err-k : goal.returns-in_err-k
returns-in_err-k c =
    let a = c.args in
    let p = err_from_is_err_and c.from_residual.result c.from_residual.ensures.1 in
    rw (p.1, p.2) (refused a.out.now (message a.instruction (Body.item a.class a.kind (Url.present a.url.now) a.part.now)) (item-url_head a.class a.kind a.url.now a.part.now c.item_allowed-allowed.ensures c.capped-n.ensures c.in_err-k.ensures) refl)

pub put_string-requires : goal.put_string-requires
put_string-requires c =
    let f = counted c.in_ok-k.ensures refl in
    (omega (arith, f.short, f.fits), omega (arith, f.short))

pub put_string-requires-2 : goal.put_string-requires-2
put_string-requires-2 c =
    let f = counted c.in_ok-k.ensures refl in
    (omega (arith, f.short, f.fits), omega (arith, f.short))

pub returns : goal.returns
unfolding body_bytes url_bytes string int
returns c =
    let a = c.args in
    let m = message a.instruction (Body.item a.class a.kind (Url.present a.url.now) a.part.now) in
    let h = item-url_head a.class a.kind a.url.now a.part.now c.item_allowed-allowed.ensures c.capped-n.ensures c.in_ok-k.ensures in
    let f = counted c.in_ok-k.ensures refl in
    let z = body-ahead a.out.now m h refl in
    let z0 = step (a.class ∷ []) 9 z c.put_byte.ensures (omega (arith, f.fits)) in
    let z1 = step (a.kind ∷ []) 10 z0 c.put_byte-2.ensures (omega (arith, f.fits)) in
    let z2 = step (1 ∷ []) 11 z1 c.put_byte-3.ensures (omega (arith, f.fits)) in
    let z3 = step (string a.url.now) (16 + length a.url.now) z2 c.put_string.ensures (omega (arith, f.fits)) in
    done a.out.now m h refl (last z3 c.put_string-2.ensures)
