use Rattle.text_lines.specs.Cuts.{space}
use Rattle.text_lines.proofs.Texts.{Worded}
use mathlib.Core.Path.{◌≡◌}
use Rattle.text_lines.proofs.parse.bytes.Given as goal

abbrev pub invariant-loop-w : goal.invariant-loop-w
invariant-loop-w l = record {
  ends : l.w-iterator.end ≡ space;
  worded : Worded l.initial.out l.from l.text l.out l.n l.w-iterator.rest.now;
}
