-- A call that writes, and answers by the number of what it was answered.
use Rattle.std.specs.Prelude.{Result}
use Rattle.wire.specs.declared.Refusal.{Refusal}
use mathlib.Core.List.{List}
use mathlib.Core.Path.{◌≡◌, ap, ◌∙◌}
use Prim.Native.Nat.{ℕ}
use Rattle.wire.specs.Call.{Gives}
use Rattle.answer_c.specs.Codes.{counted_code}

pub by_code : {a w : Result ℕ Refusal} {output after : List ℕ} {r : ℕ} → Gives a output w after → r ≡ counted_code w → Gives (counted_code a) output r after
by_code g e = record { answers = e ∙ ap counted_code g.answers; leaves = g.leaves }
