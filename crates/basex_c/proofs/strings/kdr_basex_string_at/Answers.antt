use Rattle.basex_c.proofs.strings.kdr_basex_string_at.Goals as goal

pub returns : goal.returns
returns c =
    rw (← c.string_at.ensures) c.tell.ensures
