use mathlib.Core.List.{◌++◌}
use mathlib.Core.Path.{sym, ◌∙◌}
use native.Mathlib.Omega.{arith}
use lib.ListN.{length}
use Rattle.wire.specs.Bytes.{int}
use Rattle.wire.proofs.Splices.{both, put_at-fits}
use Rattle.sedna_write.proofs.Judgement.{counts}
use Rattle.sedna_write.proofs.begin.Goals as goal

pub overflow_cast-n : goal.overflow_cast-n
overflow_cast-n c =
    let a = c.args in
    let f = counts a.instruction a.shape a.allowed a.n (length a.out.now) _ (sym c.in_ok-k.ensures) in
    record { fits = omega arith }

pub returns : goal.returns
unfolding int
returns c =
    let a = c.args in
    let q = c.in_ok-k.ensures in
    let f = counts a.instruction a.shape a.allowed a.n (length a.out.now) _ (sym q) in
    let i = int a.instruction in
    let l = int a.n in
    record {
      answers = q;
      leaves = both a.out.now 0 i l 4 (omega arith) c.put_int.ensures c.put_int-2.ensures (omega arith)
          ∙ put_at-fits a.out.now 0 (i ++ l) (omega arith);
    }
