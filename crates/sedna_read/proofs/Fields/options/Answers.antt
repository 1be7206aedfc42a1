use Prim.Native.Nat.{◌<◌, ◌-◌}
use mathlib.Core.Path.{◌≡◌, ap}
use native.Mathlib.Omega.{arith}
use lib.ListN.{length}
use Rattle.std.proofs.lemmas.Result.{err_from_is_err_and}
use Rattle.sedna.specs.Message.{Body}
use Rattle.sedna_read.specs.inner.Cursor.{Left}
use Rattle.sedna_read.proofs.Pairs.{gathered-none, gathered-next, gathered-refused, gathered-all}
use Rattle.sedna_read.proofs.Windows.{left-length, none-left}
use Rattle.sedna_read.proofs.Fields.options.Goals as goal

pub loop-self-init : goal.loop-self-init
loop-self-init c = gathered-none c.args.self.now.bytes

pub returns-in_err-pair : goal.returns-in_err-pair
returns-in_err-pair c =
    let f = c.self-in-loop-self in
    let e = left-length f.inside.bytes.now f.inside.at f.inside.end f.invariant.1 c.loop-self.self f.view_is in
    let l : 0 < length c.loop-self.self.bytes = omega (arith, e) in
    let p = err_from_is_err_and c.from_residual.result c.from_residual.ensures.1 in
    rw (p.1, p.2) (gathered-refused c.loop-self.invariant l _ c.in_err-pair.ensures)

pub loop-self-preserved : goal.loop-self-preserved
loop-self-preserved c =
    let f = c.self-in-loop-self in
    let e = left-length f.inside.bytes.now f.inside.at f.inside.end f.invariant.1 c.loop-self.self f.view_is in
    let l : 0 < length c.loop-self.self.bytes = omega (arith, e) in
    let pair = c.in_ok-pair.ensures in
    gathered-next c.loop-self.invariant l pair.0 _ pair.1 (omega (arith, pair.3))

pub returns : goal.returns
returns c =
    let f = c.self-in-loop-self in
    let e = left-length f.inside.bytes.now f.inside.at f.inside.end f.invariant.1 c.loop-self.self f.view_is in
    let l : length c.loop-self.self.bytes ≡ 0 = omega (arith, e) in
    let g = c.loop-self.invariant in
    let i = c.self.inside in
    let n : length c.args.self.now.bytes ≡ i.end - i.at = left-length i.bytes.now i.at i.end c.self.invariant.1 c.args.self.now c.self.view_is in
    let a : i.at ≡ c.args.self.now.at = ap (λ (x : Left). x.at) c.self.view_is in
    (Body.options g.pairs, gathered-all g (none-left c.loop-self.self.bytes l), rw (n, a, ← g.count))
