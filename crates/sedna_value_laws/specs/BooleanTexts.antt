-- Document 02, request 1: "a yes or no (25)", by the four texts of XML Schema's boolean. No reader is known here.
use mathlib.Core.{Bool.Bool, Bool.true, Bool.false, List.List, Path.◌≡◌}
use Rattle.std.specs.Prelude.{ℕ}
use Rattle.sedna_value.specs.declared.Value.{Value}
use Rattle.sedna_value_laws.specs.Ascii.{ascii}

pub data BooleanText : Type 0 where
  true-word false-word one zero : BooleanText

abbrev pub written : BooleanText → List ℕ
written BooleanText.true-word = ascii "true"
written BooleanText.false-word = ascii "false"
written BooleanText.one = ascii "1"
written BooleanText.zero = ascii "0"

abbrev pub meant : BooleanText → Bool
meant BooleanText.true-word = true
meant BooleanText.false-word = false
meant BooleanText.one = true
meant BooleanText.zero = false

abbrev pub Means : BooleanText → Value → Type 0
Means t v = v ≡ Value.Boolean (meant t)
