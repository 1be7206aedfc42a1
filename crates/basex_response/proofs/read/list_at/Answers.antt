use mathlib.Core.Path.{sym, ap, ◌∙◌}
use Prim.Native.Nat.{◌-◌}
use mathlib.Core.Bool.{Bool}
use lib.ListN.{length, drop}
use Rattle.basex_response.specs.Items.{list}
use Rattle.basex_response.specs.inner.Judging.{items_at}
use Rattle.basex_response.proofs.Fields.{no-list}
use Rattle.basex_response.proofs.read.list_at.Goals as goal

pub returns-then-is_listed : goal.returns-then-is_listed
returns-then-is_listed c =
    let a = c.args in
    rw (sym c.is_listed.ensures ∙ c.if-is_listed.true)
    (c.items_at.ensures ∙ ap (λ (f : Bool). items_at a.at (length a.bytes.now - a.at) (list f (drop a.at a.bytes.now))) c.is_full.ensures)

pub returns-else-is_listed : goal.returns-else-is_listed
returns-else-is_listed c =
    let a = c.args in no-list a.reply a.bytes.now a.at (sym c.is_listed.ensures ∙ c.if-is_listed.false)
