use Rattle.sedna.specs.Allowed.{allowed}
use Rattle.sedna.specs.Encode.{body_bytes}
use Rattle.sedna_write.proofs.Puts.{empty-whole}
use Rattle.sedna_write.proofs.write_empty.Goals as goal

pub returns : goal.returns
unfolding allowed body_bytes
returns c =
    let a = c.args in empty-whole a.out.now _ a.instruction _ c.begin.ensures
