-- The eight head bytes: when they are taken, and as what.
use Rattle.std.specs.Prelude.{Option, Some, None}
use mathlib.Core.Path.{◌≡◌, refl, subst₂}
use mathlib.Core.List.{List, ◌++◌}
use mathlib.Core.Bool.{true}
use Prim.Native.Nat.{ℕ, ◌≤◌}
use native.Mathlib.Omega.{arith}
use lib.Dec.{ltb}
use lib.ListN.{length, drop}
use borrow.Author.Tests.{le-ltb, ltb-false}
use Rattle.wire.specs.Bytes.{IsBytes, int, int_at}
use Rattle.sedna.specs.declared.Side.{Side}
use Rattle.sedna.specs.declared.Side.TheVariants.{Client, Server}
use Rattle.sedna.specs.declared.Shape.{Shape}
use Rattle.sedna.specs.Kinds.{same_side}
use Rattle.sedna.specs.Table.{InTable, find_of}
use Rattle.sedna_read.specs.Reading.{Heading, head_of, heading}
use Rattle.sedna_laws.specs.Due.{Head}
use Rattle.wire.proofs.Branches.{apart, either}
use Rattle.sedna_laws.proofs.Bytes.{int-read}
use Rattle.sedna_laws.proofs.Table.{find_listed, listed_find}

pub same_back : (a b : Side) → same_side a b ≡ true → a ≡ b
same_back Client Client e = refl
same_back Client Server e = apart (cc)
same_back Server Client e = apart (cc)
same_back Server Server e = refl

pub same_forth : (a : Side) → same_side a a ≡ true
same_forth Client = refl
same_forth Server = refl

pub head_forth : (side : Side) (s : List ℕ) (shape : Shape) (n : ℕ) → Head side s shape n → heading side s ≡ Heading.headed shape n
unfolding heading
head_forth side s shape n h = rw (le-ltb (length s) 8 h.long, find_listed (int_at s 0, side, shape) h.listed, same_forth side, ← h.size, le-ltb 10240 n h.short)

pub head_back : (side : Side) (s : List ℕ) (shape : Shape) (n : ℕ) → heading side s ≡ Heading.headed shape n → Head side s shape n
unfolding heading
head_back side s shape n p = either (ltb (length s) 8) _ _ p (λ _ q. apart (cc)) (λ long q. by (find_of (int_at s 0)) refl (ltb-false (length s) 8 long) q)
  where
    by : (f : Option (Side × Shape)) → find_of (int_at s 0) ≡ f → 8 ≤ length s → head_of side (int_at s 4) f ≡ Heading.headed shape n → Head side s shape n
    by None found long p = apart (cc)
    by (Some (sender, x)) found long p =
        either (same_side sender side) _ _ p
        (λ same p₁. either (ltb 10240 (int_at s 4)) _ _ p₁ (λ _ q. apart (cc)) λ short p₂.
        let shape' : x ≡ shape = cc in
        let n' : int_at s 4 ≡ n = cc in
        let there : InTable (int_at s 0, side, x) = rw (← same_back sender side same) (listed_find (int_at s 0) sender x found) in
        subst₂ (Head side s) shape' n' (record { long = long; listed = there; size = refl; short = ltb-false 10240 (int_at s 4) short }))
        (λ _ q. apart (cc))

-- the head's bytes are its two ints
pub head_bytes : {side : Side} {s : List ℕ} {shape : Shape} {n : ℕ} → IsBytes s → Head side s shape n → s ≡ int (int_at s 0) ++ (int n ++ drop 8 s)
head_bytes {s} h head =
    let l : 8 ≤ length s = head.long in
    rw (head.size, ← int-read s 4 h (omega arith)) (int-read s 0 h (omega arith))
