-- Special bytes, plain ones and pairs, counted.
use Rattle.std.specs.Prelude.{List, [], ◌∷◌, ℕ, suc, eqb}
use Rattle.wire.specs.Bytes.{if}
use Rattle.basex_string.specs.Strings.{special}

-- how many of the bytes are 00 or FF
unfoldable pub specials : List ℕ → ℕ
specials [] = 0
specials (b ∷ s) = if (special b) (suc (specials s)) (specials s)

-- how many bytes in front are neither
unfoldable pub run : List ℕ → ℕ
run [] = 0
run (b ∷ s) = if (special b) 0 (suc (run s))

-- how many pairs stand in front, an FF and what it escapes
unfoldable pub pairs : List ℕ → ℕ
pairs [] = 0
pairs (a ∷ []) = 0
pairs (a ∷ b ∷ s) = if (eqb a 255) (if (special b) (suc (pairs s)) 0) 0
