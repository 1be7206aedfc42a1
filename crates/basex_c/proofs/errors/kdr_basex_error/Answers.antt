use Rattle.basex_c.proofs.errors.kdr_basex_error.Goals as goal

pub returns : goal.returns
returns c =
    rw (← c.error_in.ensures) c.tell_error.ensures
