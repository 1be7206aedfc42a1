use Rattle.basex_c.proofs.responses.kdr_basex_item.Goals as goal

pub returns : goal.returns
returns c =
    rw (← c.item_in.ensures) c.tell_item.ensures
