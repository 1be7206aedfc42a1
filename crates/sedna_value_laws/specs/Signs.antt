-- An optional sign.
use mathlib.Core.{Bool.Bool, Bool.true, Bool.false, List.List, List.[]}
use Rattle.std.specs.Prelude.{ℕ}
use Rattle.sedna_value_laws.specs.Ascii.{ascii}

pub data Sign : Type 0 where
  none plus minus : Sign

abbrev pub sign_text : Sign → List ℕ
sign_text Sign.none = []
sign_text Sign.plus = ascii "+"
sign_text Sign.minus = ascii "-"

abbrev pub is_minus : Sign → Bool
is_minus Sign.none = false
is_minus Sign.plus = false
is_minus Sign.minus = true
