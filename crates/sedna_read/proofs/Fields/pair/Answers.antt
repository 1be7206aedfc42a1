use Prim.Native.Nat.{◌+◌}
use mathlib.Core.Path.{◌≡◌}
use native.Mathlib.Omega.{arith}
use Rattle.sedna_read.specs.Reading.{pair_field}
use Rattle.sedna_read.proofs.Fields.pair.Goals as goal

pub returns : goal.returns
unfolding pair_field
returns c =
    let id = c.in_ok-id.ensures in
    let value = c.in_ok-value.ensures in
    let e : c.int.new.self.at + 5 ≡ c.args.self.now.at + 9 = omega (arith, id.1) in
    (record { id = c.in_ok-id.id; value = value.0 }, rw (id.0, value.1), rw (value.2, e), (omega (arith, id.1, value.3), omega (arith, id.1, value.3)))
