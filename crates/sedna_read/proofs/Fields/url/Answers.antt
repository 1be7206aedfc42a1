use Prim.Native.Nat.{◌+◌}
use mathlib.Core.Path.{◌≡◌}
use native.Mathlib.Omega.{arith}
use Rattle.sedna.specs.Message.{Url}
use Rattle.sedna_read.specs.Reading.{url_field}
use Rattle.sedna_read.proofs.Fields.url.Goals as goal

pub returns-in_ok-string-in-1 : goal.returns-in_ok-string-in-1
unfolding url_field
returns-in_ok-string-in-1 c =
    let flag = c.in_ok-byte.ensures in
    let url = c.in_ok-string-in-1.ensures in
    let e : c.byte.new.self.at + 5 ≡ c.args.self.now.at + 6 = omega (arith, flag.1) in
    (Url.present url.0, rw (flag.0, c.in-1.is, url.1), rw (url.2, e), omega (arith, flag.1, url.3))
