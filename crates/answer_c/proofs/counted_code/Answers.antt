use Rattle.answer_c.proofs.counted_code.Goals as goal

pub returns-in-Err : goal.returns-in-Err
returns-in-Err c =
    rw c.in-Err.is c.refusal_code.ensures
