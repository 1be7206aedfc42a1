use native.Mathlib.Omega.{arith}
use Rattle.parts_cut.proofs.Cuts.{following_piece, following_past}
use Rattle.parts_cut.proofs.Answers.{found, missing}
use Rattle.parts_cut.proofs.write_following.Goals as goal

pub returns-then-k-piece_count : goal.returns-then-k-piece_count
returns-then-k-piece_count c =
    let a = c.args in
    found a.out.now _ _ (following_piece a.text.now a.k (omega arith) c.piece.ensures) c.write_text.ensures

pub returns-else-k-piece_count : goal.returns-else-k-piece_count
returns-else-k-piece_count c =
    let a = c.args in
    found a.out.now _ _ (following_past a.text.now a.k (omega arith)) (missing a.out.now)
