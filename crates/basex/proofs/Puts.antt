-- A text put where it is present, and what is put in front of what is still ahead.
use mathlib.Core.Path.{◌≡◌, refl, sym, ap, ◌∙◌}
use mathlib.Core.Bool.{Bool, true, false}
use mathlib.Core.List.{List, [], ◌++◌}
use Prim.Native.Nat.{ℕ, ◌+◌, ◌≤◌}
use native.Mathlib.Omega.{arith}
use lib.ListN.{length, length-append}
use Rattle.wire.specs.Call.{in_room, output_after, put_at, Gives}
use Rattle.wire.proofs.Call.{put-after}
use Rattle.wire.proofs.Splices.{Ahead, splice-none, put_at-fits, put_at_not}
use lib.Dec.{leb}
use borrow.Author.Tests.{leb-true, leb-false}
use Rattle.basex_string.specs.Strings.{string}

nothing_put : (out : List ℕ) (at : ℕ) → at + 0 ≤ length out → out ≡ put_at out at []
nothing_put out at h = sym (put_at-fits out at [] h ∙ splice-none out at)

-- nothing is put, wherever that is
pub put-absent : (out : List ℕ) (at : ℕ) → out ≡ put_at out at []
put-absent out at = by (leb at (length out)) refl
  where
    by : (t : Bool) → leb at (length out) ≡ t → out ≡ put_at out at []
    by true e = let h = leb-true at (length out) e in nothing_put out at (omega arith)
    by false e = let h = leb-false at (length out) e in sym (put_at_not out at [] (omega arith))

-- what a string's writing leaves is what is put
pub put-present : (out : List ℕ) (at : ℕ) (text : List ℕ) {after : List ℕ} → after ≡ output_after (in_room (length out) at (length (string text))) out at (string text)
    → after ≡ put_at out at (string text)
put-present out at text p = p ∙ sym (put-after out at (string text))

-- nothing is put of what is not present
pub none-put : (x : Bool → List ℕ) → x false ≡ [] → (out : List ℕ) (at : ℕ) (present : Bool) → present ≡ false → at + length (x present) ≤ length out
    → Gives (at + length (x present)) (put_at out at (x present)) at out
none-put x e out at present f h =
    let k : x present ≡ [] = ap x f ∙ e in
    let l = ap length k in
    record { answers = omega arith; leaves = nothing_put out at (omega arith) ∙ ap (put_at out at) (sym k) }

-- a text whose string fits is put, and what follows starts behind it
pub put-fits : (out : List ℕ) (at : ℕ) (bytes : List ℕ) {k : ℕ} {after : List ℕ} → (at + length bytes ≤ length out → k ≡ at + length bytes) → after ≡ put_at out at bytes → at + length bytes ≤ length out
    → Gives (at + length bytes) (put_at out at bytes) k after
put-fits out at bytes a l h = record { answers = a h; leaves = l }

-- what is put first fits
pub first_fits : {t d : List ℕ} {at : ℕ} (x rest : List ℕ) → Ahead t d at (x ++ rest) → at + length x ≤ length d
first_fits x rest a = let f = a.fits in omega (arith, length-append x rest)
