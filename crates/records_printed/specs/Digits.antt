-- "instruction in decimal": what it is for `decimal` to be right.
use mathlib.Core.{List.List, List.[], List.◌∷◌, Path.◌≡◌}
use Rattle.std.specs.Prelude.{ℕ, ◌+◌, ◌-◌, ◌*◌, ◌≤◌}
use Rattle.wire.specs.Every.{Every}
use Rattle.records_printed.specs.Line.{decimal}

-- the number that digits spell behind those that spell n
abbrev pub spelt : ℕ → List ℕ → ℕ
spelt n [] = n
spelt n (c ∷ s) = spelt (n * 10 + (c - 48)) s

-- a character '0' to '9'
abbrev pub Digit : ℕ → Type 0
Digit c = (48 ≤ c) × (c ≤ 57)

-- at least one, and a '0' in front stands alone
abbrev pub Leading : List ℕ → Type 0
Leading [] = ⊥
Leading (c ∷ []) = Unit {0}
Leading (c ∷ d ∷ s) = ¬ (c ≡ 48)

pub record InDecimal : Type 0 where
  -- the digits of a number spell it
  pub digits_back : (n : ℕ) → spelt 0 (decimal n) ≡ n
  -- they are digits, with no zero ahead of others
  pub digits : (n : ℕ) → Every Digit (decimal n) × Leading (decimal n)
  -- no other such digits spell it
  pub digits_only : (s : List ℕ) → Every Digit s → Leading s → s ≡ decimal (spelt 0 s)
