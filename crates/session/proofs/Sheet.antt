-- A table that has the machine's move at every instruction, phase and version is read as the machine moves, from whatever phase and in whatever version.
use Rattle.std.specs.List.{position_from}
use Rattle.std.specs.Prelude.{Option, Some, None, cond, position}
use Rattle.std.proofs.lemmas.Iterator.Adapters.{position_from-zero}
use Rattle.std.proofs.lemmas.List.Quantifiers.{position-Some}
use mathlib.Core.Bool.{Bool, true, false}
use mathlib.Core.List.{List, [], ◌∷◌, map}
use mathlib.Core.Logic.{◌⊎◌, inl, inr}
use mathlib.Core.Path.{◌≡◌, refl, sym, ap, ◌∙◌, subst}
use Prim.Native.Nat.{ℕ, zero, suc, ◌+◌, ◌-◌, ◌*◌, ◌≤◌, ◌<◌}
use native.Mathlib.Nat.{add-zero, zero-add, add-suc, suc-add, le_of_suc-le-suc, not-suc-le-zero}
use native.Mathlib.Omega.{arith}
use lib.Dec.{eqb, leb, ltb}
use lib.ListN.{get_or, length, get_or-eq_default}
use borrow.Author.Tests.{leb-true, leb-false, ltb-true, ltb-false, eqb-true, le-leb, lt-leb, le-ltb, eq-eqb}
use Rattle.wire.specs.Bytes.{if}
use Rattle.wire.proofs.Branches.{both, neither}
use Rattle.sedna.specs.declared.Entry.{Entry}
use Rattle.sedna.specs.declared.{Shape.Shape, Side.Side, Side.TheVariants.Client, Side.TheVariants.Server}
use Rattle.sedna.specs.Table.{rows, find_of, search as scan}
use Rattle.session.specs.declared.table.Column.{Column}
use Rattle.session.specs.Machine.{Row, next, move_of, refused, along, client_rows, server_rows, client_row, server_row, client_move, server_move}
use Rattle.session.specs.Phases.{closed}
use Rattle.session.specs.Sheet.{Table, none, entry_at, Rule, moves_from, column_of, sheet, counted_of, entry_in, look_from, look_up}

-- where both sides have the same rows, every move is the same
pub same_rows : (p v w k : ℕ) → client_row p v ≡ client_row p w → server_row p v ≡ server_row p w → next p v k ≡ next p w k
unfolding next client_move server_move
same_rows p v w k c s = by (find_of k)
  where
    by : (f : Option (Side × Shape)) → move_of f p v k ≡ move_of f p w k
    by None = refl
    by (Some (Client, shape)) = ap (along k) c
    by (Some (Server, shape)) = ap (along k) s

-- versions with the same rows move alike
alike : (a b : ℕ) → client_rows a ≡ client_rows b → server_rows a ≡ server_rows b → (p k : ℕ) → next p a k ≡ next p b k
alike a b c s p k = same_rows p a b k (ap (λ (r : List Row). get_or r p []) c) (ap (λ (r : List Row). get_or r p []) s)

pub early : (p v k : ℕ) → v ≤ 1 → next p v k ≡ next p 1 k
early p v k h = alike v 1 (rw (lt-leb 3 v (omega arith)) refl) (rw (lt-leb 2 v (omega arith), lt-leb 4 v (omega arith), le-leb v 3 (omega arith)) refl) p k

pub late : (p v k : ℕ) → 4 ≤ v → next p v k ≡ next p 4 k
late p v k h = alike v 4 (rw (le-leb 3 v (omega arith)) refl) (rw (le-leb 2 v (omega arith), le-leb 4 v (omega arith), lt-leb v 3 (omega arith)) refl) p k

-- a version moves as the one that it counts as, which is one of the four
module _ (v : ℕ) where
  pub counted : (1 ≤ counted_of v) × ((counted_of v ≤ 4) × ((p k : ℕ) → next p (counted_of v) k ≡ next p v k))
  counted = first (leb v 1) refl
    where
      second : (b : Bool) → leb 4 v ≡ b → 2 ≤ v → (1 ≤ if b 4 v) × ((if b 4 v ≤ 4) × ((p k : ℕ) → next p (if b 4 v) k ≡ next p v k))
      second true q h = (omega arith, (omega arith, λ p k. sym (late p v k (leb-true 4 v q))))
      second false q h = let below : v < 4 = leb-false 4 v q in (omega arith, (omega arith, λ p k. refl))

      first : (b : Bool) → leb v 1 ≡ b
          → (1 ≤ if b 1 (if (leb 4 v) 4 v)) × ((if b 1 (if (leb 4 v) 4 v) ≤ 4) × ((p k : ℕ) → next p (if b 1 (if (leb 4 v) 4 v)) k ≡ next p v k))
      first true q = (omega arith, (omega arith, λ p k. sym (early p v k (leb-true v 1 q))))
      first false q = second (leb 4 v) refl (leb-false v 1 q)

-- above the last phase nothing moves
pub beyond : (p v k : ℕ) → closed < p → next p v k ≡ refused
unfolding next client_move server_move
beyond p v k h = by (find_of k)
  where
    by : (f : Option (Side × Shape)) → move_of f p v k ≡ refused
    by None = refl
    by (Some (Client, shape)) = rw (get_or-eq_default (client_rows v) [] {n = p} (omega arith)) refl
    by (Some (Server, shape)) = rw (get_or-eq_default (server_rows v) [] {n = p} (omega arith)) refl

-- the table that is computed from the machine holds the rule
entry_at_lem : (k a n p v : ℕ) → p < n → 1 ≤ v → v ≤ 4 → get_or (moves_from k a n) (p * 4 + (v - 1)) 0 ≡ next (a + p) v k
entry_at_lem k a zero p v h l m = absurd (not-suc-le-zero h)
entry_at_lem k a (suc n) zero zero h l m = absurd (omega arith)
entry_at_lem k a (suc n) zero (suc zero) h l m = ap (λ (q : ℕ). next q 1 k) (sym (add-zero a))
entry_at_lem k a (suc n) zero (suc (suc zero)) h l m = ap (λ (q : ℕ). next q 2 k) (sym (add-zero a))
entry_at_lem k a (suc n) zero (suc (suc (suc zero))) h l m = ap (λ (q : ℕ). next q 3 k) (sym (add-zero a))
entry_at_lem k a (suc n) zero (suc (suc (suc (suc zero)))) h l m = ap (λ (q : ℕ). next q 4 k) (sym (add-zero a))
entry_at_lem k a (suc n) zero (suc (suc (suc (suc (suc w))))) h l m = absurd (omega arith)
entry_at_lem k a (suc n) (suc p) v h l m =
    let e : suc p * 4 + (v - 1) ≡ suc (suc (suc (suc (p * 4 + (v - 1))))) = omega arith in
    ap (λ (i : ℕ). get_or (moves_from k a (suc n)) i 0) e ∙ entry_at_lem k (suc a) n p v (le_of_suc-le-suc h) l m ∙ ap (λ (q : ℕ). next q v k) (suc-add a p ∙ sym (add-suc a p))

column_at : (es : List Entry) (j : ℕ) (e : Entry) → j < length es → get_or es j e ≡ e → get_or (map column_of es) j none ≡ column_of e
column_at [] j e h q = absurd (not-suc-le-zero h)
column_at (x ∷ es) zero e h q = ap column_of q
column_at (x ∷ es) (suc j) e h q = column_at es j e (le_of_suc-le-suc h) q

pub rule : Rule sheet
unfolding sheet column_of
rule e (j, h, q) p l v m n =
    ap (λ (c : Column). get_or c.0 (p * 4 + (v - 1)) 0) (column_at rows j e h q) ∙ entry_at_lem e.0 0 (suc closed) p v (omega arith) m n
    ∙ ap (λ (a : ℕ). next a v e.0) (zero-add p)

module _ (t : Table) where
  -- the rule at the entries es, whose columns stand from the j-th on
  abbrev Holds : List Entry → ℕ → Type 0
  Holds [] j = Unit {0}
  Holds (e ∷ es) j = ((p : ℕ) → p ≤ closed → (v : ℕ) → 1 ≤ v → v ≤ 4 → entry_at t j p v ≡ next p v e.0) × Holds es (suc j)

  holds : (es : List Entry) (j : ℕ)
      → ((i : ℕ) (e : Entry) → i < length es → get_or es i e ≡ e → (p : ℕ) → p ≤ closed → (v : ℕ) → 1 ≤ v → v ≤ 4 → entry_at t (i + j) p v ≡ next p v e.0) → Holds es j
  holds [] j all = tt
  holds (e ∷ es) j all = (
    λ p l v m n. subst (λ (x : ℕ). entry_at t x p v ≡ next p v e.0) (zero-add j) (all 0 e (omega arith) refl p l v m n),
    holds es (suc j) (λ i x h q p l v m n. subst (λ (y : ℕ). entry_at t y p v ≡ next p v x.0) (suc-add i j ∙ sym (add-suc i j)) (all (suc i) x (omega arith) q p l v m n)),
  )

  module _ (p v k : ℕ) where
    -- the entry that is read of a column for which the rule holds
    read : (j i : ℕ) → ((q : ℕ) → q ≤ closed → (w : ℕ) → 1 ≤ w → w ≤ 4 → entry_at t j q w ≡ next q w i) → entry_in (get_or t j none) p v ≡ next p v i
    unfolding entry_in
    read j i right = by (ltb closed p) refl
      where
        by : (b : Bool) → ltb closed p ≡ b → if b refused (get_or (get_or t j none).0 (p * 4 + (counted_of v - 1)) 0) ≡ next p v i
        by true q = sym (beyond p v i (ltb-true closed p q))
        by false q = let c = counted v in right p (ltb-false closed p q) (counted_of v) c.0 c.1.0 ∙ c.1.1 p i

    looked : (es : List Entry) (j : ℕ) → Holds es j
        → (look_from es j t p v k ≡ next p v k) ⊎ ((look_from es j t p v k ≡ refused) × (scan k es ≡ None))
    unfolding look_from scan
    looked [] j right = inr (refl, refl)
    looked (e ∷ es) j right = by (eqb e.0 k) refl (looked es (suc j) right.1)
      where
        by : (b : Bool) → eqb e.0 k ≡ b → (look_from es (suc j) t p v k ≡ next p v k) ⊎ ((look_from es (suc j) t p v k ≡ refused) × (scan k es ≡ None))
            → (if b (entry_in (get_or t j none) p v) (look_from es (suc j) t p v k) ≡ next p v k)
            ⊎ ((if b (entry_in (get_or t j none) p v) (look_from es (suc j) t p v k) ≡ refused) × (if b (Some (e.1, e.2)) (scan k es) ≡ None))
        by true q again = inl (read j e.0 right.0 ∙ ap (next p v) (eqb-true e.0 k q))
        by false q again = again

    settle : (look_from rows 0 t p v k ≡ next p v k) ⊎ ((look_from rows 0 t p v k ≡ refused) × (scan k rows ≡ None)) → look_from rows 0 t p v k ≡ next p v k
    unfolding next find_of
    settle (inl e) = e
    settle (inr u) = u.0 ∙ sym (ap (λ (f : Option (Side × Shape)). move_of f p v k) u.1)

-- the law: by a table that holds the rule every move is the machine's
pub moves : (t : Table) → Rule t → (p v k : ℕ) → look_up t p v k ≡ next p v k
unfolding look_up
moves t right p v k =
    settle t p v k (looked t p v k rows 0 (holds t rows 0
    (λ i e h q p l v m n. subst (λ (j : ℕ). entry_at t j p v ≡ next p v e.0) (sym (add-zero i)) (right e (i, h, q) p l v m n))))

-- .. and by no other: an instruction stands in the table of 46 once, so every entry is read
lacks : ℕ → List Entry → Bool
lacks k [] = true
lacks k (e ∷ es) = if (eqb k e.0) false (lacks k es)

once : List Entry → Bool
once [] = true
once (e ∷ es) = if (lacks e.0 es) (once es) false

lacks_at : (k : ℕ) (es : List Entry) (j : ℕ) (e : Entry) → lacks k es ≡ true → j < length es → get_or es j e ≡ e → eqb k e.0 ≡ false
unfolding lacks
lacks_at k [] j e l h q = absurd (not-suc-le-zero h)
lacks_at k (x ∷ es) zero e l h q = ap (λ (y : Entry). eqb k y.0) (sym q) ∙ (neither (eqb k x.0) (lacks k es) l).0
lacks_at k (x ∷ es) (suc j) e l h q = lacks_at k es j e (neither (eqb k x.0) (lacks k es) l).1 (le_of_suc-le-suc h) q

counted_same : (v : ℕ) → 1 ≤ v → v ≤ 4 → counted_of v ≡ v
counted_same v l h = first (leb v 1) refl
  where
    second : (b : Bool) → leb 4 v ≡ b → if b 4 v ≡ v
    second true q = let m : 4 ≤ v = leb-true 4 v q in omega arith
    second false q = refl

    first : (b : Bool) → leb v 1 ≡ b → if b 1 (if (leb 4 v) 4 v) ≡ v
    first true q = let m : v ≤ 1 = leb-true v 1 q in omega arith
    first false q = second (leb 4 v) refl

module _ (t : Table) (p v : ℕ) where
  found_at : (es : List Entry) (i j : ℕ) (e : Entry) → once es ≡ true → j < length es → get_or es j e ≡ e → look_from es i t p v e.0 ≡ entry_in (get_or t (j + i) none) p v
  unfolding once look_from
  found_at [] i j e o h q = absurd (not-suc-le-zero h)
  found_at (x ∷ es) i zero e o h q = rw (eq-eqb x.0 e.0 (ap (λ (y : Entry). y.0) q)) (ap (λ (n : ℕ). entry_in (get_or t n none) p v) (sym (zero-add i)))
  found_at (x ∷ es) i (suc j) e o h q =
      let w = (both (lacks x.0 es) (once es)).0 o in
      rw (lacks_at x.0 es j e w.0 (le_of_suc-le-suc h) q)
      (found_at es (suc i) j e w.1 (le_of_suc-le-suc h) q ∙ ap (λ (n : ℕ). entry_in (get_or t n none) p v) (add-suc j i ∙ sym (suc-add j i)))

  read_at : (j : ℕ) → p ≤ closed → 1 ≤ v → v ≤ 4 → entry_in (get_or t j none) p v ≡ entry_at t j p v
  unfolding entry_in
  read_at j l m n = rw (le-ltb closed p l, counted_same v m n)

pub no_other : (t : Table) → ((p v k : ℕ) → look_up t p v k ≡ next p v k) → Rule t
unfolding look_up rows once lacks
no_other t same e (j, h, q) p l v m n =
    sym (read_at t p v j l m n) ∙ ap (λ (i : ℕ). entry_in (get_or t i none) p v) (sym (add-zero j)) ∙ sym (found_at t p v rows 0 j e refl h q) ∙ same p v e.0

-- .. so by the one that is computed from it
pub by_sheet : {r : ℕ} (p v k : ℕ) (t : Table) → t ≡ sheet → r ≡ look_up t p v k → r ≡ next p v k
by_sheet p v k t e h = h ∙ ap (λ (x : Table). look_up x p v k) e ∙ moves sheet rule p v k

-- the move by the place of the first entry that has the instruction
abbrev pub at_place : Table → ℕ → ℕ → Option ℕ → ℕ
at_place t p v None = refused
at_place t p v (Some j) = entry_in (get_or t j none) p v

pub by_place : (es : List Entry) (j : ℕ) (t : Table) (p v k : ℕ) → look_from es j t p v k ≡ at_place t p v (position_from (λ e. eqb e.0 k) j es)
unfolding look_from
by_place [] j t p v k = refl
by_place (e ∷ es) j t p v k = by (eqb e.0 k) (ap (λ (i : ℕ). look_from es i t p v k) (suc_one j) ∙ by_place es (j + 1) t p v k)
  where
    suc_one : (n : ℕ) → suc n ≡ n + 1
    suc_one n = omega arith

    by : (b : Bool) → look_from es (suc j) t p v k ≡ at_place t p v (position_from (λ e. eqb e.0 k) (j + 1) es)
        → if b (entry_in (get_or t j none) p v) (look_from es (suc j) t p v k) ≡ at_place t p v (cond b (Some j) (position_from (λ e. eqb e.0 k) (j + 1) es))
    by true h = refl
    by false h = h

pub placed : (t : Table) (p v k : ℕ) → look_up t p v k ≡ at_place t p v (position (λ e. eqb e.0 k) rows)
unfolding look_up
placed t p v k = by_place rows 0 t p v k ∙ ap (at_place t p v) (sym (position_from-zero (λ e. eqb e.0 k) rows))

pub place_inside : (k j : ℕ) → position (λ (e : Entry). eqb e.0 k) rows ≡ Some j → j < 46
unfolding rows
place_inside k j e = (position-Some (λ (e : Entry). eqb e.0 k) rows j (record { 0 = 0; 1 = Client; 2 = Shape.Empty }) e).0
