use mathlib.Core.Path.{◌∙◌, sym, ap}
use native.Mathlib.Omega.{arith}
use Rattle.session.proofs.Sheet.{at_place, placed, place_inside}
use Rattle.session.proofs.lookup.look_up.Goals as goal

pub bounds-columns-j : goal.bounds-columns-j
bounds-columns-j c =
    place_inside c.args.i c.in-Some.j (sym c.place.ensures ∙ c.in-Some.is)

pub offset_bounds-columns-j : goal.offset_bounds-columns-j
offset_bounds-columns-j c =
    omega (arith, place_inside c.args.i c.in-Some.j (sym c.place.ensures ∙ c.in-Some.is))

pub returns-in-Some : goal.returns-in-Some
returns-in-Some c =
    let a = c.args in
    c.entry.ensures ∙ sym (placed a.columns.now a.at a.version a.i ∙ ap (at_place a.columns.now a.at a.version) (sym c.place.ensures ∙ c.in-Some.is))

pub returns-in-None : goal.returns-in-None
returns-in-None c =
    let a = c.args in
    sym (placed a.columns.now a.at a.version a.i ∙ ap (at_place a.columns.now a.at a.version) (sym c.place.ensures ∙ c.in-None.is))
