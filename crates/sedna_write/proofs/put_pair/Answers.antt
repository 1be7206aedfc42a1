use Prim.Native.Nat.{◌+◌}
use native.Mathlib.Omega.{arith}
use lib.ListN.{length-append}
use Rattle.wire.specs.Bytes.{int}
use Rattle.wire.proofs.Splices.{both}
use Rattle.sedna.specs.Encode.{string, pair_bytes}
use Rattle.sedna_write.proofs.Puts.{int-length, string-length}
use Rattle.sedna_write.proofs.put_pair.Goals as goal

pub returns : goal.returns
unfolding pair_bytes
returns c =
    let a = c.args in
    let id = int a.id in
    let value = string a.value.now in
    let n = string-length a.value.now in
    let i = int-length a.id in
    let l = length-append id value in
    both a.out.now a.at id value (a.at + 4) (omega arith) c.put_int.ensures c.put_string.ensures (omega arith)
