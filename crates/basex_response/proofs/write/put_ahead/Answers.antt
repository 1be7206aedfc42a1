use native.Mathlib.Omega.{arith}
use lib.Dec.{ltb}
use Rattle.wire.proofs.Splices.{both}
use Rattle.basex.specs.Texts.{string_if}
use Rattle.basex.proofs.Puts.{put-fits}
use Rattle.basex_response.proofs.Ends.{ahead-size}
use Rattle.basex_response.proofs.write.put_ahead.Goals as goal

pub returns : goal.returns
returns c =
    let a = c.args in
    let s = ahead-size a.n a.first.now a.second.now in
    let p = put-fits _ _ _ c.put_string_if-next.ensures.answers c.put_string_if-next.ensures.leaves (omega arith) in
    let k = p.answers in
    let q = put-fits _ _ _ c.put_string_if.ensures.answers c.put_string_if.ensures.leaves (omega arith) in
    let l = q.answers in
    record {
      answers = omega arith;
      leaves = both a.out.now a.at (string_if (ltb 0 a.n) a.first.now) (string_if (ltb 1 a.n) a.second.now) _ c.requires p.leaves q.leaves p.answers;
    }
