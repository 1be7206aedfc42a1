-- Digits and what they mean. No reader is known here.
use mathlib.Core.{Bool.Bool, Bool.true, Bool.false, List.List, List.[], List.◌∷◌, List.map}
use Rattle.std.specs.Prelude.{ℕ, ◌+◌, ◌*◌, ◌^◌, ◌≤◌}
use lib.{IntN.ℤ, IntN.pos, IntN.neg_ℤ, ListN.length}
use Rattle.wire.specs.Every.{Every}

-- the number that digits are: each counts by its place
unfoldable pub number : List ℕ → ℕ
number [] = 0
number (d ∷ ds) = d * 10 ^ length ds + number ds

-- every one is 0 to 9
abbrev pub AreDigits : List ℕ → Type 0
AreDigits = Every (λ (d : ℕ). d ≤ 9)

-- their text: 0 is 30 hex, 9 is 39
abbrev pub text : List ℕ → List ℕ
text = map (λ (d : ℕ). 48 + d)

-- a number, negative behind a minus sign
abbrev pub signed : Bool → ℕ → ℤ
signed true n = neg_ℤ (pos n)
signed false n = pos n
