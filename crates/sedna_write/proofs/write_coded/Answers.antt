use mathlib.Core.Path.{refl}
use native.Mathlib.Omega.{arith}
use Rattle.std.proofs.lemmas.Result.{err_from_is_err_and}
use Rattle.wire.specs.Bytes.{int}
use Rattle.wire.proofs.Splices.{step, last}
use Rattle.sedna.specs.Encode.{body_bytes}
use Rattle.sedna.specs.Message.{Body, message}
use Rattle.sedna_write.proofs.Puts.{counted, refused, body-ahead, done, coded_head}
use Rattle.sedna_write.proofs.write_coded.Goals as goal

pub returns-in_err-k : goal.returns-in_err-k
returns-in_err-k c =
    let a = c.args in
    let p = err_from_is_err_and c.from_residual.result c.from_residual.ensures.1 in
    rw (p.1, p.2) (refused a.out.now (message a.instruction (Body.coded a.code a.text.now)) (coded_head a.code a.text.now c.capped.ensures c.in_err-k.ensures) refl)

pub put_string-requires : goal.put_string-requires
put_string-requires c =
    let f = counted c.in_ok-k.ensures refl in
    (omega (arith, f.short, f.fits), omega (arith, f.short))

pub returns : goal.returns
unfolding body_bytes int
returns c =
    let a = c.args in
    let m = message a.instruction (Body.coded a.code a.text.now) in
    let h = coded_head a.code a.text.now c.capped.ensures c.in_ok-k.ensures in
    let f = counted c.in_ok-k.ensures refl in
    let z = body-ahead a.out.now m h refl in
    let z0 = step (int a.code) 12 z c.put_int.ensures (omega (arith, f.fits)) in
    done a.out.now m h refl (last z0 c.put_string.ensures)
