-- What the calls for typed values tell is what the texts mean.
use mathlib.Core.Bool.{Bool, true, false}
use mathlib.Core.List.{List}
use mathlib.Core.Logic.{◌⊎◌, inl, inr}
use mathlib.Core.Path.{◌≡◌, refl, sym, ◌∙◌, ap, subst}
use Prim.Native.Nat.{ℕ}
use native.Mathlib.Omega.{arith}
use borrow.Author.Tests.{ltb-true, ltb-false}
use lib.Dec.{ltb, eqb}
use lib.Ieee.{Float}
use lib.IntN.{ℤ, pos}
use lib.ListN.{length}
use lib.Signed.{mag, le_z}
use Rattle.std.specs.Prelude.{Result, Ok, Err}
use Rattle.wire.specs.Bytes.{if}
use Rattle.wire.specs.Refusals.{number_of}
use Rattle.answer_c.specs.Codes.{refusal_code}
use Rattle.wire.specs.declared.Refusal.{Refusal}
use Rattle.wire.specs.declared.Refusal.TheVariants.{NoRoom}
use Rattle.sedna_instant.specs.declared.Instant.{Instant}
use Rattle.std.specs.declared.cmp.Ordering.{Ordering}
use Rattle.std.specs.declared.cmp.Ordering.TheVariants.{Less, Equal, Greater}
use Rattle.sedna_instant.specs.Orders.{ordered}
use Rattle.sedna_value.specs.declared.Value.{Value}
use Rattle.sedna_value.specs.declared.Value.TheVariants.{Whole, At, Boolean, Double}
use Rattle.sedna_value.specs.Values.{value_of}
use Rattle.sedna_value_laws.specs.Exactly.{Literal, Valuing}
use Rattle.sedna_value_laws.specs.Order.{Before, Proper}
use Rattle.sedna_value_laws.specs.Texts.{Means}
use Rattle.sedna_value_laws.proofs.Order.{Lies, order_is, in_order}
use Rattle.sedna_value_laws.proofs.Valuing.{valuing}
use Rattle.value_c.specs.Orders.{order_number}
use Rattle.value_c.specs.Values.{numbers_of, Outcome, unchanged, value_told, lent_outcome, valued_outcome, outcome}
use Rattle.demands.specs.Answered.{Answered, answered}
use Rattle.demands.proofs.Answered.{refused}
use Rattle.demands.specs.ValueCalls.{TellsValue, ValueRight, OutcomeRight, CompareRight, CompareByNumbers, ValueCalls}

-- the numbers of a value mean it
tells : (v : Value) → TellsValue (numbers_of v).what (numbers_of v).first (numbers_of v).second (numbers_of v).double v
tells (Whole i) = TellsValue.whole i
tells (At t) = TellsValue.instant t
tells (Boolean true) = TellsValue.yes
tells (Boolean false) = TellsValue.no
tells (Double x) = TellsValue.double x

-- and its answer is a count
counts : (v : Value) → answered (numbers_of v).what ≡ Answered.count (numbers_of v).what
counts v = grind arith

refusal-told : (x : Refusal) (n : ℕ) → number_of x ≡ n → answered (refusal_code x) ≡ Answered.refusal n
refusal-told x n e = refused x ∙ ap Answered.refusal e

-- the value that numbers mean, if they mean one
abbrev meaning : ℕ → ℤ → ℤ → Float → Value
meaning what first second x =
    if (eqb what 1) (Whole first)
    (if (eqb what 2) (At (record { seconds = first; nanos = mag second })) (if (eqb what 3) (Boolean (le_z (pos 1) first)) (Double x)))

means : {what : ℕ} {first second : ℤ} {x : Float} {v : Value} → TellsValue what first second x v → meaning what first second x ≡ v
means (TellsValue.whole i) = refl
means (TellsValue.instant i) = refl
means TellsValue.yes = refl
means TellsValue.no = refl
means (TellsValue.double x) = refl

one_value : (what : ℕ) (first second : ℤ) (x : Float) (v w : Value) → TellsValue what first second x v → TellsValue what first second x w → v ≡ w
one_value what first second x v w p q = sym (means p) ∙ means q

module _ (class type : ℕ) (text : List ℕ) (numbers : List ℤ) (doubles : List Float) where
  abbrev Right : Outcome → Type 0
  Right = OutcomeRight class type text numbers doubles

  -- of a text that means v
  meant : (t : Literal class type text) (v : Value) → Means t.kind t.text v → Right (lent_outcome (numbers_of v) numbers doubles)
  unfolding lent_outcome
  meant t v m = by (ltb (length numbers) 2) refl (ltb (length doubles) 1) refl
    where
      by : (p : Bool) → ltb (length numbers) 2 ≡ p → (q : Bool) → ltb (length doubles) 1 ≡ q
          → Right (if p (unchanged NoRoom numbers doubles) (if q (unchanged NoRoom numbers doubles) (value_told (numbers_of v) numbers doubles)))
      by true p q r = ValueRight.few t v m (inl (ltb-true _ _ p))
      by false p true r = ValueRight.few t v m (inr (ltb-true _ _ r))
      by false p false r =
          let o : Outcome = value_told (numbers_of v) numbers doubles in
          subst (λ (x : Answered). ValueRight class type text numbers doubles x o.numbers o.doubles) (sym (counts v))
          (ValueRight.value t v _ _ _ _ m (ltb-false _ _ p) (ltb-false _ _ r) (tells v))

  turned_down : Valuing class type text → (x : Refusal) → value_of class type text ≡ Err x → (number_of x ≡ 15) ⊎ (number_of x ≡ 16) → Right (unchanged x numbers doubles)
  turned_down exact x e (inl p) =
      subst (λ (y : Answered). ValueRight class type text numbers doubles y numbers doubles) (sym (refusal-told x 15 p))
      (ValueRight.not_of_form (exact.fifteen.0 (record { refusal = x; refused = e; number = p })))
  turned_down exact x e (inr p) =
      let t = exact.sixteen.0 (record { refusal = x; refused = e; number = p }) in
      subst (λ (y : Answered). ValueRight class type text numbers doubles y numbers doubles) (sym (refusal-told x 16 p)) (ValueRight.out_of_range t.0 t.1)

  by_answer : Valuing class type text → (a : Result Value Refusal) → value_of class type text ≡ a → Right (valued_outcome a numbers doubles)
  by_answer exact (Ok v) e = let t = (exact.accepted v).0 e in meant t.0 v t.1
  by_answer exact (Err x) e = turned_down exact x e (exact.either (number_of x) (record { refusal = x; refused = e; number = refl }))

  value : Valuing class type text → Right (outcome class type text numbers doubles)
  unfolding outcome
  value exact = by_answer exact (value_of class type text) refl

compare : (a b : Instant) → Proper a → Proper b → CompareRight a b (order_number (ordered a b))
compare a b g h = by (ordered a b) refl
  where
    by : (o : Ordering) → ordered a b ≡ o → CompareRight a b (order_number o)
    by Less e = CompareRight.earlier (((in_order a b).earlier g h).0 e)
    by Equal e = CompareRight.same (((in_order a b).same g h).0 e)
    by Greater e = CompareRight.later (((in_order a b).later g h).0 e)

compare_any : (a b : Instant) → CompareByNumbers a b (order_number (ordered a b))
compare_any a b = by (ordered a b) (order_is a b)
  where
    by : (o : Ordering) → Lies Before a b o → CompareByNumbers a b (order_number o)
    by Less p = CompareByNumbers.earlier p
    by Equal p = CompareByNumbers.same p
    by Greater p = CompareByNumbers.later p

pub value-calls : ValueCalls
value-calls = record {
  value = λ class type text numbers doubles. value class type text numbers doubles (valuing class type text);
  one_value = one_value;
  compare = compare;
  compare_any = compare_any;
}
