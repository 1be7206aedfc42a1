-- The scan of the table, one kind at a time.
use Rattle.std.specs.Prelude.{Some, None}
use mathlib.Core.Path.{◌≡◌, refl}
use mathlib.Core.List.{List}
use Prim.Native.Nat.{ℕ, ◌+◌, ◌<◌, ◌≤◌}
use native.Mathlib.Numerals.{add-one}
use lib.ListN.{length, get_or, drop, drop_of_length-le}
use lib.Seq.{drop-cons}
use borrow.Author.Tests.{eq-eqb, ne_eqb}
use Rattle.basex.specs.declared.Kind.{Kind}
use Rattle.basex.specs.Kinds.{kinds, search}

module _ (b : ℕ) (none : Kind) (ks : List Kind) (i : ℕ) (h : i < length ks) where
  pub hit : (get_or ks i none).0 ≡ b → search b (drop i ks) ≡ Some ((get_or ks i none).1, (get_or ks i none).2)
  unfolding search
  hit e = rw (drop-cons ks i none h) (rw (eq-eqb _ _ e))

  pub miss : ((get_or ks i none).0 ≡ b → ⊥) → search b (drop i ks) ≡ search b (drop (i + 1) ks)
  unfolding search
  miss ne = rw (add-one i, drop-cons ks i none h) (rw (ne_eqb _ _ ne))

pub past : (b : ℕ) (ks : List Kind) (i : ℕ) → length ks ≤ i → search b (drop i ks) ≡ None
unfolding search
past b ks i h = rw (drop_of_length-le ks h)

pub kinds_15 : length kinds ≡ 15
unfolding kinds
kinds_15 = refl
