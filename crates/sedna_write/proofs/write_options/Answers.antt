use mathlib.Core.Path.{refl}
use native.Mathlib.Omega.{arith}
use Rattle.std.proofs.lemmas.Result.{err_from_is_err_and}
use Rattle.wire.proofs.Splices.{last}
use Rattle.sedna.specs.Encode.{body_bytes}
use Rattle.sedna_write.specs.Pairs.{options_message}
use Rattle.sedna_write.proofs.Given.{options_head, options_fit}
use Rattle.sedna_write.proofs.Puts.{refused, body-ahead, done}
use Rattle.sedna_write.proofs.write_options.Goals as goal

pub returns-in_err-k : goal.returns-in_err-k
unfolding body_bytes
returns-in_err-k c =
    let a = c.args in
    let h = options_head a.ids.now a.lengths.now a.values.now c.pairs_given-allowed.ensures c.capped.ensures c.capped-2.ensures c.in_err-k.ensures in
    let p = err_from_is_err_and c.from_residual.result c.from_residual.ensures.1 in
    rw (p.1, p.2) (refused a.out.now (options_message a.instruction a.ids.now a.lengths.now a.values.now) h refl)

pub put_pairs-requires : goal.put_pairs-requires
unfolding body_bytes
put_pairs-requires c =
    let a = c.args in
    let h = options_head a.ids.now a.lengths.now a.values.now c.pairs_given-allowed.ensures c.capped.ensures c.capped-2.ensures c.in_ok-k.ensures in
    options_fit a.ids.now a.lengths.now a.values.now h refl (omega arith)

pub returns : goal.returns
unfolding body_bytes
returns c =
    let a = c.args in
    let h = options_head a.ids.now a.lengths.now a.values.now c.pairs_given-allowed.ensures c.capped.ensures c.capped-2.ensures c.in_ok-k.ensures in
    let m = options_message a.instruction a.ids.now a.lengths.now a.values.now in
    done a.out.now m h refl (last (body-ahead a.out.now m h refl) c.put_pairs.ensures)
