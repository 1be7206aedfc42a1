use mathlib.Core.List.{List}
use mathlib.Core.Path.{◌≡◌, ap, ◌∙◌}
use Prim.Native.Nat.{ℕ, ◌≤◌}
use native.Mathlib.Omega.{arith}
use lib.ListN.{length, drop}
use Rattle.std.proofs.lemmas.Grind.{common_steps}
use Rattle.sedna_digits.specs.Digits.{some_below}
use Rattle.sedna_instant.specs.DateTimes.{offset_at}
use Rattle.sedna_instant.proofs.Clocks.{offset_behind}
use Rattle.sedna_instant.proofs.fields.offset.Goals as goal

pub returns : goal.returns
returns c =
    let rest : c.in_ok-get.field-0.now ≡ drop c.args.at c.args.s.now = grind (arith, common_steps) in
    let there : c.args.at ≤ length c.args.s.now = grind (arith, common_steps) in
    c.offset_alone.ensures ∙ ap (λ (t : List ℕ). some_below 841 (offset_at t 0)) rest ∙ ap (some_below 841) (offset_behind c.args.s.now c.args.at there)
