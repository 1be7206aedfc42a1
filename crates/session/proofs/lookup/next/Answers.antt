use mathlib.Core.Path.{refl}
use Rattle.sedna.specs.Table.{rows, find_of, search as scan}
use Rattle.session.specs.Machine.{next, client_move, server_move}
use Rattle.session.specs.Sheet.{sheet, column_of}
use Rattle.session.proofs.Sheet.{by_sheet}
use Rattle.session.proofs.lookup.next.Goals as goal

-- the rule of the table, computed over all of its entries
pub returns : goal.returns
unfolding sheet column_of rows find_of scan next client_move server_move
returns c =
    by_sheet _ _ _ _ refl c.look_up.ensures
