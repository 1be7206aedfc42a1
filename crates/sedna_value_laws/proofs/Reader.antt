-- What a kind's reader has to do, so that its answers are exact.
use Rattle.std.specs.Prelude.{Result, Ok, Err}
use Rattle.wire.specs.declared.Refusal.{Refusal}
use mathlib.Core.List.{List}
use mathlib.Core.Logic.{◌⊎◌}
use mathlib.Core.Path.{◌≡◌}
use Prim.Native.Nat.{ℕ}
use Rattle.wire.specs.declared.Refusal.TheVariants.{NotOfForm, OutOfRange}
use Rattle.sedna_value.specs.declared.Value.{Value}
use Rattle.sedna_value_laws.specs.Texts.{Kind, Text, written, Formed, Means, Excluded}

-- a text's right answer
pub data Answer (k : Kind) (t : Text k) : Result Value Refusal → Type 0 where
  is : (v : Value) → Means k t v → Answer k t (Ok v)
  excluded : Excluded k t → Answer k t (Err OutOfRange)

pub record Reader (k : Kind) (read : List ℕ → Result Value Refusal) : Type 0 where
  pub sound : (s : List ℕ) → ((t : Text k) × Formed k t × (s ≡ written k t)) ⊎ (read s ≡ Err NotOfForm)
  pub complete : (t : Text k) → Formed k t → Answer k t (read (written k t))
  pub one_value : (t : Text k) (v w : Value) → Means k t v → Means k t w → v ≡ w
  pub apart : (t : Text k) (v : Value) → Means k t v → Excluded k t → ⊥
