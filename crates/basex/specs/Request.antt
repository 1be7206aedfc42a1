-- Document 01, "BaseX": a request as it is published. No reader is known here.
use Rattle.std.specs.Prelude.{Some, ℕ, length}
use mathlib.Core.{Bool.Bool, Bool.true, Bool.false, List.List, List.[], List.◌∷◌, Path.◌≡◌}
use Rattle.basex_string.specs.Strings.{string}
use Rattle.basex.specs.{declared.Reply.Reply, Kinds.starts_command, Kinds.find_of, Kinds.is_command, Texts.strings}

pub data Request : Type 0 where
  -- "20 to FE starts a COMMAND, one string": the first byte is text
  command : List ℕ → Request
  -- first byte and strings
  coded : ℕ → List (List ℕ) → Request

unfoldable pub encode : Request → List ℕ
encode (Request.command text) = string text
encode (Request.coded b ts) = b ∷ strings ts

-- the text starts with a byte that starts a COMMAND: one "that is empty or starts otherwise" has no encoding
abbrev pub opens : List ℕ → Bool
opens [] = false
opens (b ∷ text) = starts_command b

-- it has an encoding: a COMMAND that opens one, or a first byte with as many strings as the table gives it
abbrev pub Published : Request → Type 0
Published (Request.command text) = opens text ≡ true
Published (Request.coded b ts) = (reply : Reply) × (find_of b ≡ Some ((length ts), reply)) × (is_command reply ≡ false)
