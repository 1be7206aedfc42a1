use mathlib.Core.List.{List}
use mathlib.Core.Path.{◌≡◌, ap, ◌∙◌}
use Prim.Native.Nat.{ℕ, ◌≤◌}
use native.Mathlib.Omega.{arith}
use lib.ListN.{length, drop}
use Rattle.std.proofs.lemmas.Grind.{common_steps}
use Rattle.sedna_instant.specs.DateTimes.{clock_there}
use Rattle.sedna_instant.proofs.Clocks.{clock_behind}
use Rattle.sedna_instant.proofs.fields.clock_at.Goals as goal

pub returns : goal.returns
returns c =
    let rest : c.in_ok-get.field-0.now ≡ drop c.args.at c.args.s.now = grind (arith, common_steps) in
    let there : c.args.at ≤ length c.args.s.now = grind (arith, common_steps) in
    c.clock_in_front.ensures ∙ ap (λ (t : List ℕ). clock_there t 0) rest ∙ clock_behind c.args.s.now c.args.at there
