use borrow.Author.Rules.{rules}
use mathlib.Core.Path.{◌≡◌, sym, ap, ◌∙◌}
use Prim.Native.Nat.{ℕ, ◌+◌, ◌*◌, ◌<◌}
use native.Mathlib.Omega.{arith}
use lib.ListN.{drop, get_or}
use Rattle.text_lines.specs.Numbers.{digit_of}
use Rattle.text_lines.proofs.Digits.{judged, no-digits, judged_start, judged_on, judged_not, judged_over, judged_end}
use Rattle.text_lines.proofs.parse.decimal.Goals as goal

pub returns-then-is_empty : goal.returns-then-is_empty
returns-then-is_empty c = sym (no-digits c.args.text.now (sym c.is_empty.ensures ∙ c.if-is_empty.true))

pub loop-b-init : goal.loop-b-init
loop-b-init c = (search rules, judged_start c.args.text.now (sym c.is_empty.ensures ∙ c.if-is_empty.false))

pub returns-then-d-gt9 : goal.returns-then-d-gt9
returns-then-d-gt9 c =
    let s = c.args.text.now in
    let l = c.loop-b in
    let k : 9 < digit_of (get_or s l.b-index 0) = omega arith in
    sym (l.invariant.1 ∙ judged_not l.n s l.b-index (omega arith) k)

pub returns-in_err-checked_mul : goal.returns-in_err-checked_mul
returns-in_err-checked_mul c =
    let l = c.loop-b in
    rw c.from_residual.ensures (sym (l.invariant.1 ∙ judged_over l.n c.args.text.now l.b-index (omega arith) (omega arith) (omega (arith, c.in_err-checked_mul.ensures))))

pub returns-in_err-n : goal.returns-in_err-n
returns-in_err-n c =
    let l = c.loop-b in
    rw c.from_residual-in_err-n.ensures (sym (l.invariant.1 ∙ judged_over l.n c.args.text.now l.b-index (omega arith) (omega arith) (omega (arith, c.in_err-n.ensures))))

pub loop-b-preserved : goal.loop-b-preserved
loop-b-preserved c =
    let s = c.args.text.now in
    let l = c.loop-b in
    let e : l.n * 10 + digit_of (get_or s l.b-index 0) ≡ c.in_ok-n.n = omega (arith, c.in_ok-checked_mul.ensures, c.in_ok-n.ensures) in
    (search rules, l.invariant.1 ∙ judged_on l.n s l.b-index (omega arith) (omega arith) ∙ ap (λ (d : ℕ). judged d (drop (l.b-index + 1) s)) e)

pub returns : goal.returns
returns c =
    let l = c.loop-b in
    sym (l.invariant.1 ∙ judged_end l.n c.args.text.now l.b-index (omega arith) (omega arith))
