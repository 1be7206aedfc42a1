use Rattle.text_lines.proofs.Parts.{to_end, behind-cut, behind-end}
use Prim.Native.Nat.{◌+◌}
use mathlib.Core.Path.{sym, ◌∙◌}
use Rattle.text_lines.proofs.cut.behind.Goals as goal

pub returns-in-Some : goal.returns-in-Some
returns-in-Some c =
    to_end c.args.s.now (c.in-Some.n + 1) ∙ behind-cut c.args.b c.args.s.now c.in-Some.n (sym c.find.ensures ∙ c.in-Some.is)

pub returns-in-None : goal.returns-in-None
returns-in-None c =
    behind-end c.args.b c.args.s.now (sym c.find.ensures ∙ c.in-None.is)
