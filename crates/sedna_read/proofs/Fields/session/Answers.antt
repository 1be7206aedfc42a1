use Prim.Native.Nat.{◌+◌}
use mathlib.Core.Path.{◌≡◌}
use native.Mathlib.Omega.{arith}
use lib.ListN.{length}
use Rattle.sedna.specs.Message.{Body}
use Rattle.sedna_read.specs.Reading.{session_fields}
use Rattle.sedna_read.proofs.Fields.session.Goals as goal

pub returns : goal.returns
unfolding session_fields
returns c =
    let major = c.in_ok-major.ensures in
    let minor = c.in_ok-minor.ensures in
    let user = c.in_ok-user.ensures in
    let database = c.in_ok-database.ensures in
    let e : c.byte-2.new.self.at + 5 ≡ c.args.self.now.at + 7 = omega (arith, major.1, minor.1) in
    let f : c.string.new.self.at + 5 ≡ c.args.self.now.at + 12 + length user.0 = omega arith in
    (Body.session c.in_ok-major.major c.in_ok-minor.minor user.0 database.0, rw (major.0, minor.0, ← c.version_allowed.ensures, c.in_ok-required.ensures, user.1, database.1), rw (user.2, database.2, e, f))
