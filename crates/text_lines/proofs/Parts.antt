-- What stands before and behind a byte, found index by index.
use Rattle.std.specs.Prelude.{cond, Some, None}
use mathlib.Core.Path.{◌≡◌, refl, sym, ap, subst, ◌∙◌}
use mathlib.Core.List.{List, [], ◌∷◌}
use mathlib.Core.Bool.{Bool, true, false, not}
use Prim.Native.Nat.{ℕ, suc, ◌+◌, ◌-◌, ◌≤◌, ◌<◌}
use native.Mathlib.Numerals.{add-one}
use native.Mathlib.Omega.{arith}
use lib.Dec.{eqb, ltb}
use lib.ListN.{length, take, drop, get_or, length-drop, drop_of_length-le}
use lib.Seq.{drop-cons, take_all}
use borrow.Author.Tests.{ltb-false}
use Rattle.std.specs.List.{position, position_or_len}
use Rattle.wire.specs.Bytes.{if}
use Rattle.text_lines.specs.Cuts.{before_first, behind_first}

-- the byte at i, and what is behind it
pub drop_here : (s : List ℕ) (i : ℕ) → i < length s → drop i s ≡ get_or s i 0 ∷ drop (i + 1) s
drop_here s i h = rw (add-one, drop-cons s i 0)

-- a part that reaches to the end
pub to_end : (s : List ℕ) (i : ℕ) → take (length s - i) (drop i s) ≡ drop i s
to_end s i =
    let l = length-drop i s in
    take_all (length s - i) (drop i s) (omega arith)

index_before : (b : ℕ) (s : List ℕ) → position_or_len (λ x. eqb x b) s ≡ length (before_first b s)
unfolding before_first
index_before b [] = refl
index_before b (x ∷ s) = by (eqb x b) (index_before b s)
  where
    by : (t : Bool) → position_or_len (λ x. eqb x b) s ≡ length (before_first b s)
        → cond (not t) (1 + position_or_len (λ x. eqb x b) s) 0 ≡ length (if t [] (x ∷ before_first b s))
    by true e = refl
    by false e = omega arith

pub take-before : (b : ℕ) (s : List ℕ) → take (length (before_first b s)) s ≡ before_first b s
unfolding before_first
take-before b [] = refl
take-before b (x ∷ s) = by (eqb x b) (take-before b s)
  where
    by : (t : Bool) → take (length (before_first b s)) s ≡ before_first b s → take (length (if t [] (x ∷ before_first b s))) (x ∷ s) ≡ if t [] (x ∷ before_first b s)
    by true e = refl
    by false e = ap (λ (l : List ℕ). x ∷ l) e

pub drop-before : (b : ℕ) (s : List ℕ) → drop (suc (length (before_first b s))) s ≡ behind_first b s
unfolding before_first behind_first
drop-before b [] = refl
drop-before b (x ∷ s) = by (eqb x b) (drop-before b s)
  where
    by : (t : Bool) → drop (suc (length (before_first b s))) s ≡ behind_first b s → drop (suc (length (if t [] (x ∷ before_first b s)))) (x ∷ s) ≡ if t s (behind_first b s)
    by true e = refl
    by false e = e

-- where the first b is, if it is anywhere
by_index : (k m n : ℕ) → cond (ltb k m) (Some k) None ≡ Some n → n ≡ k
by_index k m n e = by (ltb k m) e
  where
    by : (t : Bool) → cond t (Some k) None ≡ Some n → n ≡ k
    by true e = cc
    by false e = cc

by_none : (k m : ℕ) → cond (ltb k m) (Some k) None ≡ None → m ≤ k
by_none k m e = by (ltb k m) refl e
  where
    by : (t : Bool) → ltb k m ≡ t → cond t (Some k) None ≡ None → m ≤ k
    by true p e = cc
    by false p e = ltb-false k m p

module _ (b : ℕ) (s : List ℕ) where
  module _ (n : ℕ) (e : position (λ x. eqb x b) s ≡ Some n) where
    index : n ≡ length (before_first b s)
    index = by_index _ (length s) n e ∙ index_before b s

    pub front_cut : take n s ≡ before_first b s
    front_cut = rw index (take-before b s)

    pub behind-cut : drop (n + 1) s ≡ behind_first b s
    behind-cut =
        let f : n + 1 ≡ suc (length (before_first b s)) = omega (arith, index) in
        rw f (drop-before b s)

  module _ (e : position (λ x. eqb x b) s ≡ None) where
    past : length s ≤ length (before_first b s)
    past = subst (λ (k : ℕ). length s ≤ k) (index_before b s) (by_none _ (length s) e)

    pub front-whole : s ≡ before_first b s
    front-whole = sym (take_all _ s past) ∙ take-before b s

    pub behind-end : [] ≡ behind_first b s
    behind-end =
        let k : length s ≤ suc (length (before_first b s)) = omega (arith, past) in
        sym (drop_of_length-le s k) ∙ drop-before b s

behind_within : (b : ℕ) (s : List ℕ) → length (behind_first b s) ≤ length s
unfolding behind_first
behind_within b [] = omega arith
behind_within b (x ∷ s) = by (eqb x b) (behind_within b s)
  where
    by : (t : Bool) → length (behind_first b s) ≤ length s → length (if t s (behind_first b s)) ≤ suc (length s)
    by true h = omega arith
    by false h = omega arith

-- each part takes a byte at least off a text
pub behind_shorter : (b : ℕ) (s : List ℕ) → 0 < length s → length (behind_first b s) < length s
unfolding behind_first
behind_shorter b [] h = absurd (omega arith)
behind_shorter b (x ∷ s) h = by (eqb x b) (behind_within b s)
  where
    by : (t : Bool) → length (behind_first b s) ≤ length s → length (if t s (behind_first b s)) < suc (length s)
    by true h = omega arith
    by false h = omega arith
