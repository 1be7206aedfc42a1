use Rattle.std.proofs.Common.{◌≡◌, ◌∙◌, sym, ap, ◌+◌, ◌-◌, length, ℕ}
use native.Mathlib.Omega.{arith}
use borrow.Rule.Slice.PartMut.{put_mid}
use Rattle.wire.proofs.Splices.{put_at-fits, put_at-none, put_at_not, put_mid-splice}
use Rattle.wire.proofs.put_bytes.Goals as goal

pub returns-then-src-eq0 : goal.returns-then-src-eq0
returns-then-src-eq0 c = sym (put_at-none c.args.out.now c.args.at c.args.src.now c.if-src-eq0.true)

pub returns-then-room-src : goal.returns-then-room-src
returns-then-room-src c = sym (put_at_not c.args.out.now c.args.at c.args.src.now (omega arith))

pub returns-then-room-src-2 : goal.returns-then-room-src-2
returns-then-room-src-2 c = sym (put_at_not c.args.out.now c.args.at c.args.src.now (omega arith))

pub returns : goal.returns
returns c =
    let out = c.args.out.now in
    let at = c.args.at in
    let src = c.args.src.now in
    let n : at + length src - at ≡ length src = omega arith in
    ap (λ (k : ℕ). put_mid at k out c.copy_from_slice.new.self) n
    ∙ ap (put_mid at (length src) out) c.copy_from_slice.ensures.after
    ∙ put_mid-splice out at src
    ∙ sym (put_at-fits out at src (omega arith))
