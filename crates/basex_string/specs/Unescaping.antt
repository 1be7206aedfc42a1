-- Unescaping a string that was judged, off the front: nothing is judged again, and nothing is refused.
use mathlib.Core.{Bool.Bool, Bool.true, Bool.false, List.List, List.[], List.◌∷◌}
use Rattle.std.specs.Prelude.{ℕ, ◌+◌, ◌-◌}
use lib.{Dec.eqb, ListN.length}
use Rattle.wire.specs.Bytes.{if}
use Rattle.basex_string.specs.declared.Ends.{Ends}

-- the text, and what is left
pub record Unescaped : Type 0 where
  pub text : List ℕ
  pub rest : List ℕ

abbrev pub stop : List ℕ → Unescaped
stop rest = record { text = []; rest = rest }

abbrev pub keep : ℕ → Unescaped → Unescaped
keep b t = record { text = b ∷ t.text; rest = t.rest }

-- the bytes up to a 00, which is passed, and as many as there is room for; an FF stands for the byte behind it, whatever it is.
-- The first says whether an FF was read
unfoldable pub unescaping : Bool → ℕ → List ℕ → Unescaped
unescaping e room [] = stop []
unescaping true room (b ∷ s) = keep b (unescaping false (room - 1) s)
unescaping false room (b ∷ s) =
    if (eqb b 0) (stop s) (if (eqb room 0) (stop (b ∷ s)) (if (eqb b 255) (unescaping true room s) (keep b (unescaping false (room - 1) s))))

abbrev pub unescaped : ℕ → List ℕ → Unescaped
unescaped = unescaping false

-- of n bytes from `at` on a string was unescaped and its text put from `to` on: where what is left starts, and where the output is free again
abbrev pub ended : ℕ → ℕ → ℕ → Unescaped → Ends
ended at n to t = record { next = at + (n - length t.rest); to = to + length t.text }
