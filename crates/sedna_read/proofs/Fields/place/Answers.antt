use Prim.Native.Nat.{◌+◌, ◌-◌}
use mathlib.Core.Path.{◌≡◌}
use native.Mathlib.Omega.{arith}
use lib.ListN.{length, take, drop, length-drop}
use lib.Seq.{length-take-le}
use borrow.Author.Tests.{lt-ltb, le-ltb}
use Rattle.sedna_read.proofs.Windows.{length-window, bytes-window}
use Rattle.sedna_read.proofs.Fields.place.Goals as goal

pub returns-then-self-n : goal.returns-then-self-n
returns-then-self-n c =
    let i = c.self.inside in
    rw (← c.self.view_is) (rw (bytes-window i.bytes.now i.at i.end c.self.invariant.1, lt-ltb _ _ c.if-self-n.true))

pub returns : goal.returns
returns c =
    let i = c.self.inside in
    let n = c.args.n in
    let d : length (drop i.at i.bytes.now) ≡ length i.bytes.now - i.at = length-drop i.at i.bytes.now in
    let l : length (take n (drop i.at i.bytes.now)) ≡ n = length-take-le n (drop i.at i.bytes.now) (omega arith) in
    let z : i.at + 0 ≡ i.at = omega arith in
    rw (← c.self.view_is) (
      take n (drop i.at i.bytes.now),
      rw (bytes-window i.bytes.now i.at i.end c.self.invariant.1, le-ltb _ _ c.if-self-n.false),
      rw (l, z),
      (omega arith, rw (l, length-window i.bytes.now (i.at + n) i.end c.self.invariant.1, length-window i.bytes.now i.at i.end c.self.invariant.1) (omega arith)),
    )
