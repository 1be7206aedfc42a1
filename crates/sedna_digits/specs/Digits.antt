-- Runs of digits as they are read.
use mathlib.Core.{Bool.Bool, List.List, List.[], List.◌∷◌}
use Rattle.std.specs.Prelude.{ℕ, ◌+◌, ◌-◌, ◌*◌, ◌%◌, Option, Some, None}
use lib.{Dec.eqb, Dec.leb, Dec.ltb, ListN.length, ListN.drop, ListN.get_or}
use Rattle.wire.specs.Bytes.{if, between}
use Rattle.sedna_digits.specs.{declared.Run.Run, Numbers.number}

abbrev pub is_digit : ℕ → Bool
is_digit = between 48 57

-- the digits in front, up to the first byte that is none
unfoldable pub run : List ℕ → List ℕ
run [] = []
run (b ∷ s) = if (is_digit b) ((b - 48) ∷ run s) []

-- what is kept of a number: up to 2^63 itself; of a greater one that it is greater, and its remainder by 400, on top of a multiple of 400 above 2^63
unfoldable pub kept : ℕ → ℕ
kept n = if (leb n 9223372036854775808) n (9223372036854776000 + n % 400)

-- where the digits from `at` on end, and what is kept of their number
abbrev pub digits_at : List ℕ → ℕ → Run
digits_at s at = record { end = at + length (run (drop at s)); number = kept (number (run (drop at s))) }

-- the number of the two digits at `at`, 100 where one is none
unfoldable pub two_digits_at : List ℕ → ℕ → ℕ
two_digits_at s at = if (is_digit (get_or s at 0)) (if (is_digit (get_or s (at + 1) 0)) ((get_or s at 0 - 48) * 10 + (get_or s (at + 1) 0 - 48)) 100) 100

-- a number, where it is one: a limit and what is above it stands for none
abbrev pub some_below : ℕ → ℕ → Option ℕ
some_below limit n = if (ltb n limit) (Some n) None

-- behind the sign at `at`, + or -, if one stands there
unfoldable pub behind_sign : List ℕ → ℕ → ℕ
behind_sign s at = if (eqb (get_or s at 0) 43) (at + 1) (if (eqb (get_or s at 0) 45) (at + 1) at)
