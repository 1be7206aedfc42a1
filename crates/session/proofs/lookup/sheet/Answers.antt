use mathlib.Core.Path.{refl}
use Rattle.sedna.specs.Table.{rows, find_of, search as scan}
use Rattle.session.specs.Machine.{next, client_move, server_move}
use Rattle.session.specs.Sheet.{sheet, column_of}
use Rattle.session.proofs.lookup.sheet.Goals as goal

pub returns : goal.returns
unfolding sheet column_of rows find_of scan next client_move server_move
returns c =
    refl
