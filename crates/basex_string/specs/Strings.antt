-- Document 01, "BaseX": "A string is written with FF before each 00 and FF, then 00." No reader is known here.
use mathlib.Core.{Bool.Bool, Bool.true, List.List, List.[], List.◌∷◌}
use Rattle.std.specs.Prelude.{ℕ, eqb}
use Rattle.wire.specs.Bytes.{if}

-- 00 and FF
abbrev pub special : ℕ → Bool
special b = if (eqb b 0) true (eqb b 255)

abbrev pub escaped : ℕ → List ℕ → List ℕ
escaped b rest = if (special b) (255 ∷ b ∷ rest) (b ∷ rest)

unfoldable pub string : List ℕ → List ℕ
string [] = 0 ∷ []
string (b ∷ s) = escaped b (string s)
