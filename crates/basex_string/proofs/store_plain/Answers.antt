use mathlib.Core.List.{[], ◌∷◌, ◌++◌}
use mathlib.Core.Path.{refl, ◌∙◌}
use Prim.Native.Nat.{◌+◌}
use native.Mathlib.Omega.{arith}
use lib.ListN.{length, length-append}
use Rattle.wire.proofs.Splices.{put_at-fits, both}
use Rattle.basex_string.proofs.Steps.{put_one}
use Rattle.basex_string.proofs.store_plain.Goals as goal

pub returns : goal.returns
returns c =
    let d = c.args.out.now in
    let at = c.args.at in
    let s = c.args.text.now in
    let l = length-append s (0 ∷ []) in
    both d at s (0 ∷ []) (at + length s) (omega arith) c.put_bytes.ensures (put_one _ _ 0 (omega arith)) refl ∙ put_at-fits d at (s ++ 0 ∷ []) (omega arith)
