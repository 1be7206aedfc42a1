use mathlib.Core.List.{List}
use mathlib.Core.Path.{refl, sym, ap, ◌∙◌}
use Prim.Native.Nat.{ℕ}
use native.Mathlib.Omega.{arith}
use lib.ListN.{take}
use lib.Seq.{length-take-le, take_all}
use borrow.Author.Rules.{rules}
use Rattle.parts_join.proofs.handed.Goals as goal

pub slice_bounds-result-end : goal.slice_bounds-result-end
slice_bounds-result-end c =
    sym (length-take-le c.bytes_handed-len.result c.args.buffer.now (search rules))

pub returns-then-len-buffer : goal.returns-then-len-buffer
returns-then-len-buffer c =
    record { bytes = ap (λ (n : ℕ). take n c.args.buffer.now) c.bytes_handed-len.ensures; place = refl }

pub returns-else-len-buffer : goal.returns-else-len-buffer
returns-else-len-buffer c =
    let buffer : List ℕ = c.args.buffer.now in
    record { bytes = sym (take_all c.bytes_handed-len.result buffer (omega arith)) ∙ ap (λ (n : ℕ). take n buffer) c.bytes_handed-len.ensures; place = refl }
