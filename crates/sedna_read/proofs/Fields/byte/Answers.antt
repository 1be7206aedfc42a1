use mathlib.Core.Path.{refl}
use Prim.Native.Nat.{◌+◌}
use native.Mathlib.Omega.{arith}
use borrow.Author.Tests.{lt-ltb}
use Rattle.sedna_read.proofs.Windows.{length-window, byte-window}
use Rattle.sedna_read.proofs.Fields.byte.Goals as goal

pub returns : goal.returns
returns c =
    let i = c.self.inside in
    rw (← c.self.view_is) (rw (byte-window i.bytes.now i.at i.end c.self.invariant.1, lt-ltb _ _ c.if-self.false), (refl, rw (length-window i.bytes.now (i.at + 1) i.end c.self.invariant.1, length-window i.bytes.now i.at i.end c.self.invariant.1) (omega arith)))
