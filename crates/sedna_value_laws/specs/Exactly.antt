-- Document 02, request 1: the value of a text, and each of its two refusals, exactly when.
use Rattle.std.specs.Prelude.{ℕ, Ok, Err}
use mathlib.Core.{List.List, Logic.◌↔◌, Logic.◌⊎◌, Option.some, Path.◌≡◌}
use Rattle.wire.specs.{declared.Refusal.Refusal, Refusals.number_of}
use Rattle.sedna_value.specs.{declared.Value.Value, Values.value_of}
use Rattle.sedna_value_laws.specs.Texts.{Kind, Text, kind_of, written, Formed, Means, Excluded}

-- class and type are named, and s is a text of its form
pub record Literal (class type : ℕ) (s : List ℕ) : Type 0 where
  pub kind : Kind
  pub text : Text kind
  -- "15 for another class, a type not named here"
  pub class_1 : class ≡ 1
  pub named : kind_of type ≡ some kind
  -- "or text not of its form"
  pub formed : Formed kind text
  pub spells : s ≡ written kind text

-- the text is refused with the number n
pub record Refuses (class type : ℕ) (s : List ℕ) (n : ℕ) : Type 0 where
  pub refusal : Refusal
  pub refused : value_of class type s ≡ Err refusal
  pub number : number_of refusal ≡ n

pub record Valuing (class type : ℕ) (s : List ℕ) : Type 0 where
  -- accepted with v exactly when v is what the text means, in range
  pub accepted : (v : Value) → (value_of class type s ≡ Ok v) ↔ ((t : Literal class type s) × Means t.kind t.text v)
  -- 15 exactly when class or type is not named or the text is of no such form
  pub fifteen : Refuses class type s 15 ↔ (¬ Literal class type s)
  -- 16 exactly when it is of its form, and what is listed under 16 holds
  pub sixteen : Refuses class type s 16 ↔ ((t : Literal class type s) × Excluded t.kind t.text)
  -- and no other refusal
  pub either : (n : ℕ) → Refuses class type s n → (n ≡ 15) ⊎ (n ≡ 16)
