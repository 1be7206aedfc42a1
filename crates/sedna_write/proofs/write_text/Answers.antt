use mathlib.Core.Path.{refl}
use native.Mathlib.Omega.{arith}
use Rattle.std.proofs.lemmas.Result.{err_from_is_err_and}
use Rattle.wire.proofs.Splices.{last}
use Rattle.sedna.specs.Encode.{body_bytes}
use Rattle.sedna.specs.Message.{Body, message}
use Rattle.sedna_write.proofs.Puts.{counted, refused, body-ahead, done, text_head}
use Rattle.sedna_write.proofs.write_text.Goals as goal

pub returns-in_err-k : goal.returns-in_err-k
returns-in_err-k c =
    let a = c.args in
    let p = err_from_is_err_and c.from_residual.result c.from_residual.ensures.1 in
    rw (p.1, p.2) (refused a.out.now (message a.instruction (Body.text a.text.now)) (text_head a.text.now c.capped.ensures c.in_err-k.ensures) refl)

pub put_string-requires : goal.put_string-requires
put_string-requires c =
    let f = counted c.in_ok-k.ensures refl in
    (omega (arith, f.short, f.fits), omega (arith, f.short))

pub returns : goal.returns
unfolding body_bytes
returns c =
    let a = c.args in
    let m = message a.instruction (Body.text a.text.now) in
    let h = text_head a.text.now c.capped.ensures c.in_ok-k.ensures in
    let f = counted c.in_ok-k.ensures refl in
    let z = body-ahead a.out.now m h refl in
    done a.out.now m h refl (last z c.put_string.ensures)
