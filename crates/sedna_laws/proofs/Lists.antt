-- Options given to the writer as three lists: they are a message's options, and every message's options can be given so; or the lists do not belong together.
use Rattle.sedna.specs.declared.Shape.{Shape}
use Rattle.sedna.specs.declared.Side.{Side}
use Rattle.std.specs.Prelude.{Option, Some, None, Ok, Err}
use mathlib.Core.Path.{◌≡◌, refl, sym, ◌∙◌, ap, subst}
use mathlib.Core.List.{List, [], ◌∷◌, ◌++◌, map, flatten}
use mathlib.Core.Bool.{Bool, true, false}
use mathlib.Core.Logic.{◌↔◌}
use Prim.Native.Nat.{ℕ}
use native.Mathlib.Omega.{arith}
use lib.Dec.{eqb}
use lib.ListN.{length, take, drop, length-append, length-map, length-drop, take-append-drop}
use lib.Seq.{take-append_seam, drop-append_seam, length-take-le}
use borrow.Author.Tests.{eq-eqb, eqb-true}
use Rattle.wire.specs.Bytes.{if}
use Rattle.wire.specs.declared.Refusal.{Refusal}
use Rattle.wire.specs.declared.Refusal.TheVariants.{UnknownInstruction, ValueNotAllowed}
use Rattle.sedna.specs.declared.Shape.TheVariants as shape
use Rattle.sedna.specs.Allowed.{allowed}
use Rattle.sedna.specs.Encode.{body_bytes, pairs_bytes}
use Rattle.sedna.specs.Message.{Pair, Body, message}
use Rattle.sedna.specs.Kinds.{same_shape}
use Rattle.sedna.specs.Table.{find_of, fit_of}
use Rattle.sedna_write.specs.Pairs.{sum, given, pairs_of, options_written}
use Rattle.sedna_write.specs.Writing.{judgement_by, judgement, written}
use Rattle.sedna_laws.specs.Unwritten.{UnwrittenLists}
use Rattle.wire.proofs.Branches.{both}
use Rattle.sedna_laws.proofs.Due.{lacking, lacks}
use Rattle.sedna_laws.proofs.Table.{find_listed, listed_find}

-- lists that belong together are written as the message with those options
pub options-written : (room i : ℕ) (ids lengths values : List ℕ) → given ids lengths values ≡ true
    → judgement i shape.Options (given ids lengths values) (length (pairs_bytes (pairs_of ids lengths values))) room ≡ written room (message i (Body.options (pairs_of ids lengths values)))
unfolding allowed body_bytes
options-written room i ids lengths values e = rw e

abbrev ids_of : List Pair → List ℕ
ids_of = map (λ (p : Pair). p.id)

abbrev lengths_of : List Pair → List ℕ
lengths_of = map (λ (p : Pair). length p.value)

abbrev values_of : List Pair → List ℕ
values_of [] = []
values_of (p ∷ ps) = p.value ++ values_of ps

sum-values : (ps : List Pair) → sum (lengths_of ps) ≡ length (values_of ps)
unfolding sum
sum-values [] = refl
sum-values (p ∷ ps) = omega (arith, sum-values ps, length-append p.value (values_of ps))

given-all : (ps : List Pair) → given (ids_of ps) (lengths_of ps) (values_of ps) ≡ true
unfolding given
given-all ps =
    rw
    (eq-eqb (length (ids_of ps)) (length (lengths_of ps)) (omega (arith, length-map ps (λ (p : Pair). p.id), length-map ps (λ (p : Pair). length p.value))))
    (eq-eqb (sum (lengths_of ps)) (length (values_of ps)) (sum-values ps))

pairs-all : (ps : List Pair) → pairs_of (ids_of ps) (lengths_of ps) (values_of ps) ≡ ps
unfolding pairs_of
pairs-all [] = refl
pairs-all (p ∷ ps) = rw (take-append_seam p.value (values_of ps), drop-append_seam p.value (values_of ps), pairs-all ps)

-- every list of options can be given
pub options_given : (ps : List Pair) → (ids : List ℕ) × (lengths : List ℕ) × (values : List ℕ) × (given ids lengths values ≡ true) × (pairs_of ids lengths values ≡ ps)
options_given ps = (ids_of ps, lengths_of ps, values_of ps, given-all ps, pairs-all ps)

-- as many lengths as ids, which add up to the number of values
pub lists_together : (ids lengths values : List ℕ) → (given ids lengths values ≡ true) ↔ ((length ids ≡ length lengths) × (sum lengths ≡ length values))
unfolding given
lists_together ids lengths values =
    let split = both (eqb (length ids) (length lengths)) (eqb (sum lengths) (length values)) in (
      λ e. (eqb-true (length ids) (length lengths) (split.0 e).0, eqb-true (sum lengths) (length values) (split.0 e).1),
      λ p. split.1 (eq-eqb (length ids) (length lengths) p.0, eq-eqb (sum lengths) (length values) p.1),
    )

-- the options of lists that fit each other: the ids in order, values of those lengths, and these one behind the other
parted : (ids lengths values : List ℕ) → length ids ≡ length lengths → sum lengths ≡ length values
    → (map (λ (p : Pair). p.id) (pairs_of ids lengths values) ≡ ids)
    × (map (λ (p : Pair). length p.value) (pairs_of ids lengths values) ≡ lengths)
    × (flatten (map (λ (p : Pair). p.value) (pairs_of ids lengths values)) ≡ values)
unfolding pairs_of sum flatten
parted [] [] [] e s = (refl, refl, refl)
parted [] [] (x ∷ values) e s = absurd (omega arith)
parted [] (n ∷ lengths) values e s = absurd (omega arith)
parted (id ∷ ids) [] values e s = absurd (omega arith)
parted (id ∷ ids) (n ∷ lengths) values e s =
    let behind : sum lengths ≡ length (drop n values) = omega (arith, length-drop n values) in
    let again = parted ids lengths (drop n values) (omega arith) behind in
    let long : length (take n values) ≡ n = length-take-le n values (omega arith) in (
      ap (λ (l : List ℕ). id ∷ l) again.0,
      (λ i. long i ∷ again.1 i),
      ap (λ (l : List ℕ). take n values ++ l) again.2 ∙ take-append-drop n values,
    )

-- option k has the k-th id, and the next bytes of the values, as many as the k-th length
pub options_are : (ids lengths values : List ℕ) → given ids lengths values ≡ true
    → (map (λ (p : Pair). p.id) (pairs_of ids lengths values) ≡ ids)
    × (map (λ (p : Pair). length p.value) (pairs_of ids lengths values) ≡ lengths)
    × (flatten (map (λ (p : Pair). p.value) (pairs_of ids lengths values)) ≡ values)
options_are ids lengths values e = let h = (lists_together ids lengths values).0 e in parted ids lengths values h.0 h.1

-- a value that is not allowed: 8 whatever the body in the table, however long and whatever the room
bad-value : (t : Bool) (n room : ℕ) → judgement_by (if t (Ok tt) (Err ValueNotAllowed)) false n room ≡ Err ValueNotAllowed
bad-value true n room = refl
bad-value false n room = refl

module _ (room n i : ℕ) where
  -- what is answered where the table has nothing, or something
  refused-lists : (r : Refusal) × (judgement i shape.Options false n room ≡ Err r) × UnwrittenLists i r
  unfolding judgement
  refused-lists = by (find_of i) refl
    where
      by : (f : Option (Side × Shape)) → find_of i ≡ f → (r : Refusal) × (judgement_by (fit_of f shape.Options) false n room ≡ Err r) × UnwrittenLists i r
      by None found = (UnknownInstruction, refl, UnwrittenLists.unknown (lacking i found))
      by (Some (sender, own)) found = (ValueNotAllowed, bad-value (same_shape own shape.Options) n room, UnwrittenLists.value (i, sender, own) (listed_find i sender own found) refl)

  due-lists : {r : Refusal} → UnwrittenLists i r → judgement i shape.Options false n room ≡ Err r
  unfolding judgement
  due-lists (UnwrittenLists.unknown none) = rw (lacks i none)
  due-lists (UnwrittenLists.value e listed same) = rw (ap find_of (sym same) ∙ find_listed e listed) (bad-value (same_shape e.2 shape.Options) n room)

-- lists that do not belong together: 2 or 8, exactly when it is due
pub lists_refused : (room i : ℕ) (ids lengths values : List ℕ) → given ids lengths values ≡ false → (r : Refusal)
    → (judgement i shape.Options (given ids lengths values) (length (pairs_bytes (pairs_of ids lengths values))) room ≡ Err r) ↔ UnwrittenLists i r
lists_refused room i ids lengths values e r = rw e (back, due-lists room n i)
  where
    n : ℕ
    n = length (pairs_bytes (pairs_of ids lengths values))

    back : judgement i shape.Options false n room ≡ Err r → UnwrittenLists i r
    back q = let x = refused-lists room n i in let z : x.0 ≡ r = cc in subst (UnwrittenLists i) z x.2

-- always one of the two
pub lists_unwritten : (room i : ℕ) (ids lengths values : List ℕ) → given ids lengths values ≡ false → (r : Refusal) × (options_written room i ids lengths values ≡ Err r)
lists_unwritten room i ids lengths values e =
    let n : ℕ = length (pairs_bytes (pairs_of ids lengths values)) in
    let x = refused-lists room n i in
    (x.0, ap (λ (b : Bool). judgement i shape.Options b n room) e ∙ x.1)
