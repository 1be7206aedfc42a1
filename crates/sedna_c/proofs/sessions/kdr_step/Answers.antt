use mathlib.Core.Path.{refl}
use borrow.Author.Tests.{le-ltb}
use Rattle.sedna_c.specs.Sessions.{record_in}
use Rattle.sedna_c.proofs.Answers.{step-answer}
use Rattle.sedna_c.proofs.sessions.kdr_step.Goals as goal

pub returns : goal.returns
returns c =
    let a = c.args in
    let t = c.take.ensures in
    let there = le-ltb _ _ c.if-session-lt2.false in
    let same = step-answer (record_in a.session.now) a.side a.bytes.now _ refl in
    record {
      answers = rw (there, ← same) t.tells.answers;
      leaves_session = rw (there, ← same) t.leaves_session;
      leaves_fields = rw (there, ← same) t.tells.leaves;
    }
