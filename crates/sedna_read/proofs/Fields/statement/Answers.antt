use Prim.Native.Nat.{◌+◌}
use mathlib.Core.Path.{◌≡◌}
use native.Mathlib.Omega.{arith}
use Rattle.sedna.specs.Message.{Body}
use Rattle.sedna_read.specs.Reading.{statement_fields}
use Rattle.sedna_read.proofs.Fields.statement.Goals as goal

pub returns : goal.returns
unfolding statement_fields
returns c =
    let format = c.in_ok-format.ensures in
    let text = c.in_ok-text.ensures in
    let e : c.byte.new.self.at + 5 ≡ c.args.self.now.at + 6 = omega (arith, format.1) in
    (Body.statement c.in_ok-format.format text.0, rw (format.0, ← c.format_allowed.ensures, c.in_ok-required.ensures, text.1), rw (text.2, e))
