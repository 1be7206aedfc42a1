-- Numbers that text spells.
use Rattle.std.specs.Prelude.{ℕ, ◌+◌, ◌*◌, ◌-◌, Option, Some, None}
use mathlib.Core.{Bool.Bool, Bool.true, Bool.false, List.List, List.[], List.◌∷◌}
use lib.{Dec.eqb, Dec.ltb, ListN.length}
use Rattle.wire.specs.Bytes.{if, between}

-- a digit's value, 0 to 9, A to F or a to f; 16 for any other byte
unfoldable pub digit_of : ℕ → ℕ
digit_of b = if (between 48 57 b) (b - 48) (if (between 65 70 b) (b - 65 + 10) (if (between 97 102 b) (b - 97 + 10) 16))

-- whether every byte is a decimal digit
unfoldable pub all_decimal : List ℕ → Bool
all_decimal [] = true
all_decimal (b ∷ s) = if (ltb 9 (digit_of b)) false (all_decimal s)

-- the number whose decimal digits are those of n and then s
unfoldable pub with_digits : ℕ → List ℕ → ℕ
with_digits n [] = n
with_digits n (b ∷ s) = with_digits (n * 10 + digit_of b) s

-- a number that an int can hold
abbrev pub in_int : ℕ → Option ℕ
in_int n = if (ltb 4294967295 n) None (Some n)

-- the number that a text of decimal digits spells, where it has one at least and an int can hold it
unfoldable pub decimal_of : List ℕ → Option ℕ
decimal_of s = if (eqb (length s) 0) None (if (all_decimal s) (in_int (with_digits 0 s)) None)

-- a number that a byte can hold
unfoldable pub in_byte : Option ℕ → Option ℕ
in_byte None = None
in_byte (Some n) = if (ltb 255 n) None (Some n)

-- the number that a text spells so, where a byte can hold it
unfoldable pub decimal_byte_of : List ℕ → Option ℕ
decimal_byte_of s = in_byte (decimal_of s)
