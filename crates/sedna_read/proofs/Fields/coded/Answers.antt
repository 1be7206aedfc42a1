use Prim.Native.Nat.{◌+◌}
use mathlib.Core.Path.{◌≡◌}
use native.Mathlib.Omega.{arith}
use Rattle.sedna.specs.Message.{Body}
use Rattle.sedna_read.specs.Reading.{coded_fields}
use Rattle.sedna_read.proofs.Fields.coded.Goals as goal

pub returns : goal.returns
unfolding coded_fields
returns c =
    let code = c.in_ok-code.ensures in
    let text = c.in_ok-text.ensures in
    let e : c.int.new.self.at + 5 ≡ c.args.self.now.at + 9 = omega arith in
    (Body.coded c.in_ok-code.code text.0, rw (code.0, text.1), rw (text.2, e))
