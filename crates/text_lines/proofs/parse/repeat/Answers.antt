use mathlib.Core.Path.{◌≡◌, sym, ap, ◌∙◌}
use mathlib.Core.List.{List, ◌++◌}
use Prim.Native.Nat.{ℕ, ◌+◌, ◌-◌}
use native.Mathlib.Omega.{arith}
use lib.ListN.{length, take, drop, get_or, replicate, length-drop}
use lib.Seq.{length-take-le}
use Rattle.wire.specs.Bytes.{splice}
use Rattle.wire.proofs.Call.{is-room, no_room}
use Rattle.text_lines.proofs.Fronts.{refuses}
use Rattle.text_lines.proofs.Again.{last_of_none, last_never, last-long, last_end, filled}
use Rattle.text_lines.proofs.parse.repeat.Goals as goal
use Rattle.text_lines.proofs.parse.repeat.Goals.{then-n-eq0-via-then-n-eq0, then-n-eq0-via-else-n-eq0+then-times-eq0, then-n-eq0-via-else-n-eq0+else-times-eq0+then-not-has_room}

pub returns-then-n-eq0 : goal.returns-then-n-eq0
returns-then-n-eq0 c =
    let d = c.args.out.now in
    let n = c.args.n in
    let times = c.args.times in
    refuses (elim c.then-n-eq0.branch [
      | then-n-eq0-via-then-n-eq0 w ↦ last_of_none d n times w.if-n-eq0.true
      | then-n-eq0-via-else-n-eq0+then-times-eq0 w ↦ last_never d n times w.if-times-eq0.true
      | then-n-eq0-via-else-n-eq0+else-times-eq0+then-not-has_room w ↦
          last-long d n times w.if-n-eq0.false w.if-times-eq0.false (no_room _ _ _ w.has_room.ensures w.if-not-has_room.true)
    ])

pub returns : goal.returns
returns c =
    let d = c.args.out.now in
    let n = c.args.n in
    let times = c.args.times in
    let k = times - 1 in
    let ys = c.fill.new.self in
    let b = get_or d (n - 1) 0 in
    let h = is-room _ _ _ c.has_room.ensures c.if-not-has_room.false in
    let m : n + k - n ≡ k = omega arith in
    let g : length (take (n + k - n) (drop n d)) ≡ k = rw m (length-take-le k (drop n d) (omega (arith, length-drop n d))) in
    let l : length ys ≡ n + k - n = c.fill.ensures.len ∙ g ∙ sym m in
    let v : ys ≡ replicate k b = c.fill.ensures.after (λ y e. e) ∙ ap (λ (i : ℕ). replicate i b) g in
    last_end d n times c.if-n-eq0.false c.if-times-eq0.false h
    (filled d ys n (n + k - n) (sym l) (omega arith) ∙ ap (λ (y : List ℕ). splice d 0 (take n d ++ y)) v)
