-- Document 02, request 1: "a whole number is always an optional sign and digits". No reader is known here.
use mathlib.Core.{List.List, List.◌++◌, Option.Option, Option.none, Option.some, Path.◌≡◌}
use Rattle.std.specs.Prelude.{ℕ, ◌-◌, ◌^◌, ◌<◌}
use lib.{IntN.ℤ, IntN.pos, IntN.neg_ℤ, ListN.length, Signed.◌≤ℤ◌}
use Rattle.sedna_digits.specs.Numbers.{number, AreDigits, text, signed}
use Rattle.sedna_value.specs.declared.Value.{Value}
use Rattle.sedna_value_laws.specs.{Types.WholeType, Signs.Sign, Signs.sign_text, Signs.is_minus}

pub record WholeText : Type 0 where
  pub sign : Sign
  pub digits : List ℕ

abbrev pub written : WholeText → List ℕ
written t = sign_text t.sign ++ text t.digits

-- any number of digits, but one at least
abbrev pub Formed : WholeText → Type 0
Formed t = (0 < length t.digits) × AreDigits t.digits

abbrev pub meant : WholeText → ℤ
meant t = signed (is_minus t.sign) (number t.digits)

abbrev pub AtLeast : Option ℤ → ℤ → Type 0
AtLeast none z = Unit {0}
AtLeast (some least) z = least ≤ℤ z

abbrev pub AtMost : Option ℤ → ℤ → Type 0
AtMost none z = Unit {0}
AtMost (some greatest) z = z ≤ℤ greatest

-- "each type's own range, limited to signed 64 bits"
pub record InRange (w : WholeType) (z : ℤ) : Type 0 where
  pub least : AtLeast w.least z
  pub greatest : AtMost w.greatest z
  pub from : neg_ℤ (pos (2 ^ 63)) ≤ℤ z
  pub to : z ≤ℤ pos (2 ^ 63 - 1)

abbrev pub Means : WholeType → WholeText → Value → Type 0
Means w t v = InRange w (meant t) × (v ≡ Value.Whole (meant t))

-- 16: "a value out of range"
abbrev pub Excluded : WholeType → WholeText → Type 0
Excluded w t = ¬ InRange w (meant t)
