use mathlib.Core.Path.{sym, ap, ◌∙◌}
use Prim.Native.Nat.{◌+◌}
use native.Mathlib.Omega.{arith}
use lib.ListN.{length, drop}
use borrow.Author.Rules.{rules}
use Rattle.basex_string.specs.Scan.{reading}
use Rattle.basex_string.proofs.Scans.{seen, seen_none, seen_at, reading-end, reading-zero, reading-cut, reading-bad}
use Rattle.basex_string.proofs.Runs.{run_goes, run_fits, run_seen}
use Rattle.basex_string.proofs.Pairs.{pairs-more, pairs_seen}
use Rattle.basex_string.proofs.string_at.Goals as goal

pub loop-i-init : goal.loop-i-init
loop-i-init c =
    (search rules, seen_none (length c.args.bytes.now) (reading (drop c.args.at c.args.bytes.now)))

pub returns-in-0 : goal.returns-in-0
returns-in-0 c =
    let s = c.args.bytes.now in
    let i = c.loop-i.i in
    sym (c.loop-i.invariant.1 ∙ ap (seen (length s) c.loop-i.len) (reading-zero s i c.loop-i-test.true c.in-0.is) ∙ seen_at s
    c.loop-i.len i c.loop-i-test.true)

pub returns-then-bytes-i-lt2 : goal.returns-then-bytes-i-lt2
returns-then-bytes-i-lt2 c =
    let s = c.args.bytes.now in
    sym (c.loop-i.invariant.1 ∙ ap (seen (length s) c.loop-i.len)
    (reading-cut s c.loop-i.i c.loop-i-test.true c.in-255.is (omega arith)))

pub loop-i-preserved-in-255 : goal.loop-i-preserved-in-255
loop-i-preserved-in-255 c =
    let s = c.args.bytes.now in
    let i = c.loop-i.i in
    let e = pairs-more s i (omega arith) c.in-255.is (sym c.is_special.ensures ∙ c.if-not-is_special.false) in (
      omega arith,
      c.loop-i.invariant.1 ∙ pairs_seen (length s)
          c.loop-i.len s i (1 + c.pairs_at-pairs.result) (omega arith),
    )

pub returns-then-not-is_special : goal.returns-then-not-is_special
returns-then-not-is_special c =
    let s = c.args.bytes.now in
    sym (c.loop-i.invariant.1 ∙ ap (seen (length s) c.loop-i.len)
    (reading-bad s c.loop-i.i c.loop-i-test.true
    c.in-255.is (omega arith) (sym c.is_special.ensures ∙ c.if-not-is_special.true)))

pub overflow_add-len-in_default : goal.overflow_add-len-in_default
overflow_add-len-in_default c =
    let s = c.args.bytes.now in
    let i = c.loop-i.i in
    let g = run_goes s i c.loop-i-test.true (omega arith) (omega arith) in
    let f = run_fits s i c.run_end-end.result (omega arith) (omega arith) (omega arith) in
    omega arith

pub loop-i-smaller : goal.loop-i-smaller
loop-i-smaller c =
    let s = c.args.bytes.now in
    let i = c.loop-i.i in
    let g = run_goes s i c.loop-i-test.true (omega arith) (omega arith) in
    let f = run_fits s i c.run_end-end.result (omega arith) (omega arith) (omega arith) in
    omega arith

pub loop-i-preserved : goal.loop-i-preserved
loop-i-preserved c =
    let s = c.args.bytes.now in
    let i = c.loop-i.i in
    let g = run_goes s i c.loop-i-test.true (omega arith) (omega arith) in
    let f = run_fits s i c.run_end-end.result (omega arith) (omega arith) (omega arith) in (
      omega arith,
      c.loop-i.invariant.1 ∙ run_seen s i c.run_end-end.result (omega arith) (omega arith) (length s)
          c.loop-i.len (omega arith),
    )

pub returns : goal.returns
returns c =
    let s = c.args.bytes.now in
    sym (c.loop-i.invariant.1 ∙ ap (seen (length s) c.loop-i.len) (reading-end s c.loop-i.i c.loop-i-test.false))
