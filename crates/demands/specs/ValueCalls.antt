-- Document 02, request 1, of the exported calls: what `kdr_value` and `kdr_compare` answer and leave, turned back into what it means by the names of
-- bindings/c/keddorimp.h.
use mathlib.Core.{Bool.true, Bool.false, List.List, List.◌∷◌, Logic.◌⊎◌, Path.◌≡◌}
use Rattle.std.specs.Prelude.{ℕ, ◌≤◌, ◌<◌}
use lib.{Ieee.Float, Ieee.fin, IntN.ℤ, IntN.pos, IntN.negsuc, ListN.length, ListN.drop, Signed.◌<ℤ◌}
use Rattle.sedna_instant.specs.declared.Instant.{Instant}
use Rattle.sedna_value.specs.declared.Value.{Value}
use Rattle.sedna_value_laws.specs.{Exactly.Literal, Order.point, Order.Before, Order.Proper, Texts.Means, Texts.Excluded}
use Rattle.value_c.specs.{Orders.compared, Values.Outcome, Values.outcome}
use Rattle.demands.specs.Answered.{Answered, answered}

-- enum kdr_value_kind
abbrev pub WHOLE : ℕ
WHOLE = 1

abbrev pub INSTANT : ℕ
INSTANT = 2

abbrev pub BOOLEAN : ℕ
BOOLEAN = 3

abbrev pub DOUBLE : ℕ
DOUBLE = 4

-- enum kdr_value_number: how many are told
abbrev pub VALUE_NUMBERS : ℕ
VALUE_NUMBERS = 2

-- 0.0
abbrev pub positive_zero : Float
positive_zero = fin false 0 (pos 0)

-- an answer, the first and the second number and the double mean the value v: "what is not named is 0", and the double "is 0.0 where the value is none"
pub data TellsValue : ℕ → ℤ → ℤ → Float → Value → Type 0 where
  whole : (i : ℤ) → TellsValue WHOLE i (pos 0) positive_zero (Value.Whole i)
  instant : (i : Instant) → TellsValue INSTANT i.seconds (pos i.nanos) positive_zero (Value.At i)
  yes : TellsValue BOOLEAN (pos 1) (pos 0) positive_zero (Value.Boolean true)
  no : TellsValue BOOLEAN (pos 0) (pos 0) positive_zero (Value.Boolean false)
  double : (x : Float) → TellsValue DOUBLE (pos 0) (pos 0) x (Value.Double x)

-- a call of `kdr_value` came out right: what it answers, and what the lent numbers and doubles are then
pub data ValueRight (class type : ℕ) (s : List ℕ) (numbers : List ℤ) (doubles : List Float) : Answered → List ℤ → List Float → Type 0 where
  -- 15: "another class, a type not named here or text not of its form"
  not_of_form : ¬ Literal class type s → ValueRight class type s numbers doubles (Answered.refusal 15) numbers doubles
  -- 16: of its form, and what the request lists under 16
  out_of_range : (t : Literal class type s) → Excluded t.kind t.text → ValueRight class type s numbers doubles (Answered.refusal 16) numbers doubles
  -- "last 10 where fewer than two numbers or no double are lent"
  few : (t : Literal class type s) (v : Value) → Means t.kind t.text v → (length numbers < VALUE_NUMBERS) ⊎ (length doubles < 1)
      → ValueRight class type s numbers doubles (Answered.refusal 10) numbers doubles
  -- what the text means, in the first two numbers and the first double; those behind them stay
  value : (t : Literal class type s) (v : Value) (what : ℕ) (first second : ℤ) (x : Float) → Means t.kind t.text v
      → VALUE_NUMBERS ≤ length numbers → 1 ≤ length doubles → TellsValue what first second x v
      → ValueRight class type s numbers doubles (Answered.count what) (first ∷ second ∷ drop VALUE_NUMBERS numbers) (x ∷ drop 1 doubles)

-- "-1 earlier, 0 the same, 1 later": the points in time
pub data CompareRight (a b : Instant) : ℤ → Type 0 where
  earlier : point a <ℤ point b → CompareRight a b (negsuc 0)
  same : point a ≡ point b → CompareRight a b (pos 0)
  later : point b <ℤ point a → CompareRight a b (pos 1)

-- "It goes by the seconds, then by the nanoseconds, and by nothing else", whatever numbers they are
pub data CompareByNumbers (a b : Instant) : ℤ → Type 0 where
  earlier : Before a b → CompareByNumbers a b (negsuc 0)
  same : a ≡ b → CompareByNumbers a b (pos 0)
  later : Before b a → CompareByNumbers a b (pos 1)

-- an outcome of `kdr_value` is right
abbrev pub OutcomeRight : ℕ → ℕ → List ℕ → List ℤ → List Float → Outcome → Type 0
OutcomeRight class type s numbers doubles o = ValueRight class type s numbers doubles (answered o.code) o.numbers o.doubles

pub record ValueCalls : Type 0 where
  pub value : (class type : ℕ) (s : List ℕ) (numbers : List ℤ) (doubles : List Float)
      → OutcomeRight class type s numbers doubles (outcome class type s numbers doubles)
  -- numbers mean one value only
  pub one_value : (what : ℕ) (first second : ℤ) (x : Float) (v w : Value) → TellsValue what first second x v → TellsValue what first second x w → v ≡ w
  pub compare : (a b : Instant) → Proper a → Proper b → CompareRight a b (compared a.seconds a.nanos b.seconds b.nanos)
  pub compare_any : (a b : Instant) → CompareByNumbers a b (compared a.seconds a.nanos b.seconds b.nanos)
