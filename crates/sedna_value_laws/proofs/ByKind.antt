-- The kind of values that a type has, and the reader that is asked for it.
use Rattle.std.specs.Prelude.{Result, Err}
use Rattle.wire.specs.declared.Refusal.{Refusal}
use mathlib.Core.Bool.{Bool, true, false, not}
use mathlib.Core.List.{List, [], ◌∷◌}
use mathlib.Core.Option.{Option, none, some}
use mathlib.Core.Path.{◌≡◌, refl, sym, subst}
use Prim.Native.Nat.{ℕ, ◌<◌}
use native.Mathlib.Omega.{arith}
use borrow.Author.Tests.{eqb-true, leb-true}
use lib.Dec.{eqb, leb}
use Rattle.wire.specs.Bytes.{if, between}
use Rattle.wire.specs.Every.{Every}
use Rattle.wire.specs.declared.Refusal.TheVariants.{NotOfForm}
use Rattle.sedna_instant.specs.DateTimes.{instant_of}
use Rattle.sedna_value.specs.declared.Value.{Value}
use Rattle.sedna_value.specs.Doubles.{double_of}
use Rattle.sedna_value_laws.specs.Types.{WholeType, whole_types}
use Rattle.sedna_value.specs.Booleans.{boolean_of}
use Rattle.sedna_value.specs.Values.{by_type, is_whole, from_dated}
use Rattle.sedna_value.specs.Wholes.{whole_of}
use Rattle.sedna_value_laws.specs.Texts.{Kind, among, kind_of}
use Rattle.wire.proofs.Below.{below}
use Rattle.wire.proofs.Branches.{apart, either, both}

abbrev pub read_by : Kind → List ℕ → Result Value Refusal
read_by (Kind.whole w) s = whole_of w.type s
read_by Kind.instant s = from_dated (instant_of s)
read_by Kind.boolean s = boolean_of s
read_by Kind.double s = double_of s

-- what is found in a list has the type that was looked for, and what holds of every entry
found : (P : WholeType → Type 0) (n : ℕ) (ws : List WholeType) (k : Kind) → Every P ws → among n ws ≡ some k → (w : WholeType) × (k ≡ Kind.whole w) × (n ≡ w.type) × P w
found P n [] k h e = apart (cc)
found P n (w ∷ ws) k h e =
    either (eqb w.type n) (some (Kind.whole w)) (among n ws) e
    (λ p q. (w, cc, sym (eqb-true w.type n p), h.0))
    (λ p q. found P n ws k h.1 q)

-- a type that is read as a whole number, and as nothing else
abbrev of_whole : ℕ → Bool
of_whole n = if (eqb n 10) false (if (eqb n 22) false (if (eqb n 25) false (is_whole n)))

of_whole_lem : (n : ℕ) (s : List ℕ) → of_whole n ≡ true → by_type n s ≡ whole_of n s
of_whole_lem n s e = by (eqb n 10) (eqb n 22) (eqb n 25) (is_whole n) e
  where
    by : (a b c d : Bool) → if a false (if b false (if c false d)) ≡ true
        → if a (from_dated (instant_of s)) (if b (double_of s) (if c (boolean_of s) (if d (whole_of n s) (Err NotOfForm)))) ≡ whole_of n s
    by true b c d e = apart (cc)
    by false true c d e = apart (cc)
    by false false true d e = apart (cc)
    by false false false true e = refl
    by false false false false e = apart (cc)

-- so is every type of the table
listed : Every (λ (w : WholeType). of_whole w.type ≡ true) whole_types
unfolding whole_types
listed = (refl, (refl, (refl, (refl, (refl, (refl, (refl, (refl, (refl, (refl, (refl, (refl, (refl, tt)))))))))))))

-- and every other type is refused: none of whole numbers is above 61, and up to there each is in the table
abbrev in_table : ℕ → Option Kind → Bool
in_table n none = not (is_whole n)
in_table n (some k) = true

whole_62 : (n : ℕ) → is_whole n ≡ true → n < 62
whole_62 n e =
    either (eqb n 24) true (between 50 61 n) e
    (λ p q. omega (arith, eqb-true n 24 p))
    (λ p q. omega (arith, leb-true n 61 ((both (leb 50 n) (leb n 61)).0 q).1))

none_else : (n : ℕ) → among n whole_types ≡ none → is_whole n ≡ false
unfolding whole_types
none_else n e = by (is_whole n) refl
  where
    by : (t : Bool) → is_whole n ≡ t → t ≡ false
    by true f =
        let h = below (λ (k : ℕ). in_table k (among k whole_types)) 62 n refl (whole_62 n f) in
        let z : false ≡ true = rw (e, f) at h in
        apart (cc)
    by false f = refl

-- a type of whole numbers is that of its entry, which has what every entry has
pub in_table_lem : (P : WholeType → Type 0) → Every P whole_types → (n : ℕ) (w : WholeType) → kind_of n ≡ some (Kind.whole w) → (n ≡ w.type) × P w
unfolding kind_of
in_table_lem P h n w e =
    either (eqb n 10) (some Kind.instant) _ e (λ p q. apart (cc))
    (λ p e2. either (eqb n 22) (some Kind.double) _ e2 (λ p2 q. apart (cc))
    (λ p2 e3. either (eqb n 25) (some Kind.boolean) _ e3 (λ p3 q. apart (cc)) (λ p3 e4. same (found P n whole_types (Kind.whole w) h e4))))
  where
    same : (v : WholeType) × (Kind.whole w ≡ Kind.whole v) × (n ≡ v.type) × P v → (n ≡ w.type) × P w
    same f =
        let one : f.0 ≡ w = cc in
        subst (λ (v : WholeType). (n ≡ v.type) × P v) one (f.2, f.3)

pub whole-type : (n : ℕ) (w : WholeType) → kind_of n ≡ some (Kind.whole w) → n ≡ w.type
whole-type n w e = (in_table_lem _ listed n w e).0

pub the_kind : (a b : Kind) → some a ≡ some b → a ≡ b
the_kind a b e = cc

-- a named type is read by its kind
pub kind-read : (n : ℕ) (k : Kind) → kind_of n ≡ some k → (s : List ℕ) → by_type n s ≡ read_by k s
unfolding kind_of
kind-read n k e s =
    either (eqb n 10) (some Kind.instant) _ e (λ p q. subst (λ (x : Kind). by_type n s ≡ read_by x s) (the_kind Kind.instant k q) (rw p refl))
    (λ p e2. either (eqb n 22) (some Kind.double) _ e2 (λ p2 q. subst (λ (x : Kind). by_type n s ≡ read_by x s) (the_kind Kind.double k q) (rw (p, p2) refl))
    (λ p2 e3. either (eqb n 25) (some Kind.boolean) _ e3 (λ p3 q. subst (λ (x : Kind). by_type n s ≡ read_by x s) (the_kind Kind.boolean k q) (rw (p, p2, p3) refl))
    (λ p3 e4. whole (found _ n whole_types k listed e4))))
  where
    whole : (w : WholeType) × (k ≡ Kind.whole w) × (n ≡ w.type) × (of_whole w.type ≡ true) → by_type n s ≡ read_by k s
    whole f =
        subst (λ (x : Kind). by_type n s ≡ read_by x s) (sym f.1)
        (subst (λ (m : ℕ). by_type m s ≡ whole_of f.0.type s) (sym f.2) (of_whole_lem f.0.type s f.3))

-- one that is not named is refused
pub unnamed : (n : ℕ) → kind_of n ≡ none → (s : List ℕ) → by_type n s ≡ Err NotOfForm
unfolding kind_of
unnamed n e s =
    either (eqb n 10) (some Kind.instant) _ e (λ p q. apart (cc))
    (λ p e2. either (eqb n 22) (some Kind.double) _ e2 (λ p2 q. apart (cc))
    (λ p2 e3. either (eqb n 25) (some Kind.boolean) _ e3 (λ p3 q. apart (cc)) (λ p3 e4. rw (p, p2, p3, none_else n e4) refl)))
