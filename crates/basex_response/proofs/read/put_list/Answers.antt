use mathlib.Core.Path.{sym, ap, subst, ◌∙◌}
use mathlib.Core.List.{List}
use Prim.Native.Nat.{◌-◌}
use lib.ListN.{length, drop}
use Rattle.wire.specs.Fields.{Got}
use Rattle.basex.specs.Response.{Item}
use Rattle.basex.specs.Texts.{ends}
use Rattle.basex_response.specs.inner.Judging.{ListFits, list_stored}
use Rattle.basex_response.proofs.Storing.{field_list_lem, none-stored}
use Rattle.basex_response.proofs.read.put_list.Goals as goal

pub put_items-requires : goal.put_items-requires
put_items-requires c =
    let a = c.args in
    let e = field_list_lem a.reply (drop a.at a.bytes.now) _ (sym c.is_listed.ensures ∙ c.if-is_listed.true) c.is_full.ensures in
    subst (ListFits a.count a.to (length a.out.now)) (sym e) c.requires

pub returns-then-is_listed : goal.returns-then-is_listed
returns-then-is_listed c =
    let a = c.args in
    let e = field_list_lem a.reply (drop a.at a.bytes.now) _
    (sym c.is_listed.ensures ∙ c.if-is_listed.true) c.is_full.ensures in
    record {
      answers = c.put_items.ensures.answers ∙ ap (λ (x : Got (List Item)). ends a.at (length a.bytes.now - a.at) (list_stored a.out.now a.to x)) e;
      leaves = c.put_items.ensures.leaves ∙ ap (λ (x : Got (List Item)). (list_stored a.out.now a.to x).out) e;
    }

pub returns-else-is_listed : goal.returns-else-is_listed
returns-else-is_listed c =
    let a = c.args in none-stored a.reply a.bytes.now a.at a.out.now a.to (sym c.is_listed.ensures ∙ c.if-is_listed.false)
