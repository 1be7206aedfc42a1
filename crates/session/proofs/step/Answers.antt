use Rattle.session.proofs.Steps.{found-together}
use Rattle.session.proofs.step.Goals as goal

pub returns : goal.returns
returns c =
    rw
    (c.after.ensures, c.read_found-answer.ensures)
    (found-together _ _ _ _ _ c.get_int-i.ensures.0 c.find-found.ensures _ c.next_found-to.ensures)
