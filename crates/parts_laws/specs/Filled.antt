-- A cut fills each message before it starts the next: "parts of 10,234 with the rest … last".
use mathlib.Core.{List.List, List.[], List.◌∷◌, Path.◌≡◌}
use Rattle.std.specs.Prelude.{length}
use Rattle.sedna.specs.{Encode.body_bytes, Message.Message}

-- every message but the last has a body of 10,240 bytes
abbrev pub Filled : List Message → Type 0
Filled [] = Unit {0}
Filled (m ∷ []) = Unit {0}
Filled (m ∷ n ∷ ms) = (length (body_bytes m.body) ≡ 10240) × Filled (n ∷ ms)
