use Rattle.sedna_c.proofs.Answers.{taken-answer}
use Rattle.sedna_c.specs.Sessions.{record_in}
use Rattle.sedna_c.proofs.sessions.take.Goals as goal

pub returns : goal.returns
returns c =
    let r = c.read_found-answer in
    let p = c.phase_after-phase in
    let f = c.find-found in
    let i = c.get_int-i in
    let a = c.args in
    let answer =
    taken-answer a.stepping (record_in a.session.now) c.in-Some.s a.bytes.now i.result f.result p.result r.result
    i.ensures.0 f.ensures p.ensures r.ensures in
    rw (← c.sender_of.ensures, c.in-Some.is, ← answer.1, ← answer.0) c.answer_code.ensures
