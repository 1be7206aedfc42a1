use mathlib.Core.List.{[], ◌∷◌}
use mathlib.Core.Path.{sym, ◌∙◌}
use Prim.Native.Nat.{◌+◌}
use native.Mathlib.Omega.{arith}
use lib.ListN.{length}
use Rattle.wire.specs.Bytes.{int}
use Rattle.wire.proofs.Splices.{start, step, last, put_at-fits}
use Rattle.sedna.specs.Encode.{string}
use Rattle.sedna_write.proofs.put_string.Goals as goal

pub returns : goal.returns
unfolding string int
returns c =
    let args = c.args in
    let t = args.text.now in
    let d = args.out.now in
    let a = step (0 ∷ []) (args.at + 1) (start d args.at (string t) (omega arith)) c.put_byte.ensures (omega arith) in
    let b = step (int (length t)) (args.at + 5) a c.put_int.ensures (omega arith) in
    last b c.put_bytes.ensures ∙ sym (put_at-fits d args.at (string t) (omega arith))
