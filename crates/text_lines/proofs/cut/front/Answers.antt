use Rattle.text_lines.proofs.Parts.{front_cut, front-whole}
use borrow.Author.Rules.{rules}
use mathlib.Core.Path.{sym, ◌∙◌}
use Rattle.text_lines.proofs.cut.front.Goals as goal

pub returns-in-Some : goal.returns-in-Some
returns-in-Some c =
    (front_cut c.args.b c.args.s.now c.in-Some.n (sym c.find.ensures ∙ c.in-Some.is), search rules)

pub returns-in-None : goal.returns-in-None
returns-in-None c =
    (front-whole c.args.b c.args.s.now (sym c.find.ensures ∙ c.in-None.is), search rules)
