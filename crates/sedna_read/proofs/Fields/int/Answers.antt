use mathlib.Core.Path.{refl}
use Prim.Native.Nat.{◌+◌}
use native.Mathlib.Omega.{arith}
use borrow.Author.Tests.{lt-ltb, le-ltb}
use Rattle.sedna_read.proofs.Windows.{length-window, int_field-window}
use Rattle.sedna_read.proofs.Fields.int.Goals as goal

pub returns-then-self-lt4 : goal.returns-then-self-lt4
returns-then-self-lt4 c =
    let i = c.self.inside in
    rw (← c.self.view_is) (rw (int_field-window i.bytes.now i.at i.end c.self.invariant.1, lt-ltb _ _ c.if-self-lt4.true))

pub returns : goal.returns
returns c =
    let i = c.self.inside in
    rw (← c.self.view_is, c.get_int-int.ensures.0) (rw (int_field-window i.bytes.now i.at i.end c.self.invariant.1, le-ltb _ _ c.if-self-lt4.false), (refl, rw (length-window i.bytes.now (i.at + 4) i.end c.self.invariant.1, length-window i.bytes.now i.at i.end c.self.invariant.1) (omega arith)))
