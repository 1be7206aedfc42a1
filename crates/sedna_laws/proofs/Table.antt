-- Finding an instruction in the table is exact: no instruction stands there twice.
use Rattle.std.specs.Prelude.{Option, Some}
use mathlib.Core.Path.{◌≡◌, refl, sym, ap, ◌∙◌}
use mathlib.Core.List.{List, [], ◌∷◌, map}
use mathlib.Core.Bool.{Bool, true, false}
use Prim.Native.Nat.{ℕ, zero, suc, ◌<◌}
use native.Mathlib.Omega.{arith}
use lib.Dec.{eqb, ltb}
use lib.ListN.{length, get_or, length-map, get_or-map}
use borrow.Author.Tests.{eqb-true, ltb-true}
use Rattle.wire.specs.Bytes.{if}
use Rattle.sedna.specs.declared.Side.{Side}
use Rattle.sedna.specs.declared.Shape.{Shape}
use Rattle.sedna.specs.declared.Entry.{Entry}
use Rattle.sedna.specs.Table.{rows, InTable, search, find_of}
use Rattle.wire.proofs.Branches.{apart, either, both}

-- what the table says of an entry's instruction, and what the entry says
abbrev finding : Entry → Option (Side × Shape)
finding e = find_of e.0

abbrev telling : Entry → Option (Side × Shape)
telling e = Some (e.1, e.2)

-- the test of the whole table: each entry is what is found of its instruction
all_found : map finding rows ≡ map telling rows
unfolding rows find_of search
all_found = refl

get_d_any : (l : List (Option (Side × Shape))) (i : ℕ) (d e : Option (Side × Shape)) → i < length l → get_or l i d ≡ get_or l i e
get_d_any [] i d e h = absurd (omega arith)
get_d_any (x ∷ l) zero d e h = refl
get_d_any (x ∷ l) (suc i) d e h = get_d_any l i d e (omega arith)

-- what is listed is found, and what is found is listed
pub find_listed : (e : Entry) → InTable e → find_of e.0 ≡ Some (e.1, e.2)
find_listed e (i, h, there) =
    ap finding (sym there)
    ∙ sym (get_or-map finding rows i e)
    ∙ found_at
    ∙ get_or-map telling rows i e
    ∙ ap telling there
  where
    found_at : get_or (map finding rows) i (finding e) ≡ get_or (map telling rows) i (telling e)
    found_at = ap (λ (l : List (Option (Side × Shape))). get_or l i (finding e)) all_found ∙ get_d_any (map telling rows) i (finding e) (telling e) (omega (arith, length-map rows telling))

-- no instruction number stands twice in the table
pub once : (e e' : Entry) → InTable e → InTable e' → e.0 ≡ e'.0 → e ≡ e'
once e e' t t' p =
    let same : telling e ≡ telling e' = sym (find_listed e t) ∙ ap find_of p ∙ find_listed e' t' in
    let told : ◌≡◌ {A = Side × Shape} (e.1, e.2) (e'.1, e'.2) = cc in
    let sides : e.1 ≡ e'.1 = ap (λ (x : Side × Shape). x.0) told in
    let shapes : e.2 ≡ e'.2 = ap (λ (x : Side × Shape). x.1) told in
    λ i. (p i, sides i, shapes i)

-- the test of the whole table: its instructions are small
smalls : List Entry → Bool
smalls [] = true
smalls (e ∷ es) = if (ltb e.0 1000) (smalls es) false

all_small : smalls rows ≡ true
unfolding rows smalls
all_small = refl

small_at : (es : List Entry) (i : ℕ) (e : Entry) → smalls es ≡ true → i < length es → (get_or es i e).0 < 1000
unfolding smalls
small_at [] i e s h = absurd (omega arith)
small_at (x ∷ es) zero e s h = ltb-true x.0 1000 ((both (ltb x.0 1000) (smalls es)).0 s).0
small_at (x ∷ es) (suc i) e s h = small_at es i e ((both (ltb x.0 1000) (smalls es)).0 s).1 (omega arith)

pub listed_small : (e : Entry) → InTable e → e.0 < 1000
listed_small e (i, h, there) = rw there at (small_at rows i e all_small h)

search_finds : (k : ℕ) (es : List Entry) (a : Side) (b : Shape) → search k es ≡ Some (a, b) → (j : ℕ) × (j < length es) × (get_or es j (k, a, b) ≡ (k, a, b))
unfolding search
search_finds k [] a b p = apart (cc)
search_finds k (x ∷ es) a b p =
    either (eqb x.0 k) _ _ p
    (λ hit q.
    let number : x.0 ≡ k = eqb-true x.0 k hit in
    let told : ◌≡◌ {A = Side × Shape} (x.1, x.2) (a, b) = cc in
    let side : x.1 ≡ a = ap (λ (y : Side × Shape). y.0) told in
    let shape : x.2 ≡ b = ap (λ (y : Side × Shape). y.1) told in
    (0, omega arith, λ i. (number i, side i, shape i)))
    (λ miss q. let later = search_finds k es a b q in (suc later.0, omega arith, later.2))

pub listed_find : (k : ℕ) (a : Side) (b : Shape) → find_of k ≡ Some (a, b) → InTable (k, a, b)
unfolding find_of
listed_find k a b p = search_finds k rows a b p
