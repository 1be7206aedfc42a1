-- The texts of each type that document 02, request 1, names.
use mathlib.Core.{List.List, List.[], List.◌∷◌, Option.Option, Option.none, Option.some}
use Rattle.std.specs.Prelude.{ℕ, eqb}
use Rattle.wire.specs.Bytes.{if}
use Rattle.sedna_value.specs.declared.Value.{Value}
use Rattle.sedna_value_laws.specs.Types as types
use Rattle.sedna_value_laws.specs.Types.{WholeType, whole_types}
use Rattle.sedna_value_laws.specs.BooleanTexts as booleans
use Rattle.sedna_value_laws.specs.DateTimeTexts as date-times
use Rattle.sedna_value_laws.specs.DoubleTexts as doubles
use Rattle.sedna_value_laws.specs.WholeTexts as wholes

pub data Kind : Type 0 where
  whole : WholeType → Kind
  instant boolean double : Kind

abbrev pub among : ℕ → List WholeType → Option Kind
among n [] = none
among n (w ∷ ws) = if (eqb w.type n) (some (Kind.whole w)) (among n ws)

-- the kind of values that a type has, if it is named
unfoldable pub kind_of : ℕ → Option Kind
unfolding whole_types
kind_of n =
    if (eqb n types.date_time) (some Kind.instant)
    (if (eqb n types.double) (some Kind.double) (if (eqb n types.boolean) (some Kind.boolean) (among n whole_types)))

abbrev pub Text : Kind → Type 0
Text (Kind.whole w) = wholes.WholeText
Text Kind.instant = date-times.DateTime
Text Kind.boolean = booleans.BooleanText
Text Kind.double = doubles.DoubleText

abbrev pub written : (k : Kind) → Text k → List ℕ
written (Kind.whole w) t = wholes.written t
written Kind.instant t = date-times.written t
written Kind.boolean t = booleans.written t
written Kind.double t = doubles.written t

-- of its form
abbrev pub Formed : (k : Kind) → Text k → Type 0
Formed (Kind.whole w) t = wholes.Formed t
Formed Kind.instant t = date-times.Formed t
Formed Kind.boolean t = Unit {0}
Formed Kind.double t = doubles.Formed t

-- what it means, and that in range
abbrev pub Means : (k : Kind) → Text k → Value → Type 0
Means (Kind.whole w) t v = wholes.Means w t v
Means Kind.instant t v = date-times.Means t v
Means Kind.boolean t v = booleans.Means t v
Means Kind.double t v = doubles.Means t v

-- it means nothing that is in range: what the request lists under 16
abbrev pub Excluded : (k : Kind) → Text k → Type 0
Excluded (Kind.whole w) t = wholes.Excluded w t
Excluded Kind.instant t = date-times.Excluded t
Excluded Kind.boolean t = ⊥
Excluded Kind.double t = doubles.Excluded t
