use Rattle.sedna_c.proofs.Answers.{read_answer}
use Rattle.sedna_c.proofs.sessions.kdr_read.Goals as goal

pub returns : goal.returns
returns c =
    let a = c.args in
    rw (← read_answer a.side a.bytes.now) c.take.ensures.tells
