-- The texts of a request as the calls take and tell them.
use Rattle.std.specs.Prelude.{List, [], ◌∷◌, ℕ, ◌+◌, take, drop, get_or}

abbrev pub four : List ℕ → List ℕ → List ℕ → List ℕ → List (List ℕ)
four a b c d = a ∷ b ∷ c ∷ d ∷ []

-- how texts are given to be written: up to four, the others empty
abbrev pub padded : List (List ℕ) → List (List ℕ)
padded ts = four (get_or ts 0 []) (get_or ts 1 []) (get_or ts 2 []) (get_or ts 3 [])

-- an output cut into four texts by their lengths
abbrev pub cut : List ℕ → ℕ → ℕ → ℕ → ℕ → List (List ℕ)
cut out a b c d = four (take a out) (take b (drop a out)) (take c (drop (a + b) out)) (take d (drop (a + b + c) out))
