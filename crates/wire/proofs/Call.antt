-- Room and refusals of calls that write.
use Rattle.std.specs.Prelude.{Result, Ok, Err}
use mathlib.Core.Bool.{Bool, true, false}
use mathlib.Core.List.{List}
use mathlib.Core.Path.{◌≡◌, refl, sym, ◌∙◌}
use Prim.Native.Nat.{ℕ, ◌+◌, ◌-◌, ◌≤◌, ◌<◌}
use native.Mathlib.Omega.{arith}
use lib.Dec.{ltb, leb}
use lib.ListN.{length}
use borrow.Author.Tests.{lt-ltb, le-ltb, ltb-true, ltb-false, lt-leb, le-leb, leb-true, leb-false}
use Rattle.wire.specs.declared.Refusal.{Refusal}
use Rattle.wire.specs.declared.Refusal.TheVariants.{NoRoom}
use Rattle.wire.specs.Call.{in_room, output_after, put_at}
use Rattle.wire.proofs.Branches.{either}

-- what is put is what a call leaves that was asked for room alone
pub put-after : (d : List ℕ) (at : ℕ) (s : List ℕ) → put_at d at s ≡ output_after (in_room (length d) at (length s)) d at s
unfolding put_at
put-after d at s = refl

pub room-there : (room at n : ℕ) → at + n ≤ room → in_room room at n ≡ Ok n
room-there room at n h = simp (le-ltb _ _ h)

pub room-short : (room at n : ℕ) → room < at + n → in_room room at n ≡ Err NoRoom
room-short room at n h = simp (lt-ltb _ _ h)

-- room is refused with 10 alone, where it is short ..
pub refused-short : (room at n : ℕ) (r : Refusal) → in_room room at n ≡ Err r → (r ≡ NoRoom) × (room < at + n)
refused-short room at n r e =
    either (ltb room (at + n)) (Err NoRoom) (Ok n) e (λ t f. (cc, ltb-true _ _ t)) (λ t f. (cc, let z : ◌≡◌ {A = ℕ} 0 1 = cc in omega arith))

-- .. and else counted
pub counted-there : (room at n m : ℕ) → in_room room at n ≡ Ok m → (m ≡ n) × (at + n ≤ room)
counted-there room at n m e =
    either (ltb room (at + n)) (Err NoRoom) (Ok n) e (λ t f. (cc, let z : ◌≡◌ {A = ℕ} 0 1 = cc in omega arith)) (λ t f. (cc, ltb-false _ _ t))

-- a refusal leaves the output
pub refused-leaves : (a : Result ℕ Refusal) (r : Refusal) (d : List ℕ) (at : ℕ) (s : List ℕ) → a ≡ Err r → output_after a d at s ≡ d
refused-leaves a r d at s e = rw e

-- the test by which room is told, read back
module _ (room at n : ℕ) where
  pub room-behind : at ≤ room → leb n (room - at) ≡ leb (at + n) room
  room-behind h = by (leb n (room - at)) refl
    where
      by : (t : Bool) → leb n (room - at) ≡ t → t ≡ leb (at + n) room
      by true e = let l = leb-true n (room - at) e in sym (le-leb (at + n) room (omega arith))
      by false e = let l = leb-false n (room - at) e in sym (lt-leb (at + n) room (omega arith))

  module _ {t : Bool} (e : t ≡ leb (at + n) room) where
    pub no_room : t ≡ false → room < at + n
    no_room f = leb-false (at + n) room (sym e ∙ f)

    pub is-room : t ≡ true → at + n ≤ room
    is-room f = leb-true (at + n) room (sym e ∙ f)
