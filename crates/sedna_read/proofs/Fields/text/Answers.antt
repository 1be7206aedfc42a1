use Rattle.sedna.specs.Message.{Body}
use Rattle.sedna_read.specs.Reading.{text_fields}
use Rattle.sedna_read.proofs.Fields.text.Goals as goal

pub returns : goal.returns
unfolding text_fields
returns c =
    let t = c.in_ok-string.ensures in
    (Body.text t.0, rw t.1, rw t.2)
