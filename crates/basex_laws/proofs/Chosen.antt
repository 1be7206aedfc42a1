-- Tests: what holds of either branch, and an answer that is exactly what is due.
use Rattle.std.specs.Prelude.{Result, Ok, Err}
use Rattle.wire.specs.declared.Refusal.{Refusal}
use mathlib.Core.Path.{◌≡◌, refl, sym, ap, subst, ◌∙◌}
use mathlib.Core.List.{List}
use mathlib.Core.Bool.{Bool, true, false}
use mathlib.Core.Logic.{◌↔◌}
use Prim.Native.Nat.{ℕ, ◌+◌, ◌≤◌, ◌<◌}
use native.Mathlib.Omega.{arith}
use lib.Dec.{ltb}
use lib.ListN.{length}
use borrow.Author.Tests.{ltb-true, ltb-false, lt-ltb, le-ltb}
use Rattle.wire.specs.Bytes.{if}
use Rattle.wire.specs.Call.{in_room}
use Rattle.wire.specs.declared.Refusal.TheVariants.{NoRoom}
use Rattle.basex_laws.specs.Exactly.{Fits}

-- what holds of either branch holds of a test
pub chosen : {A : Type 0} (D : A → Type 0) (t : Bool) {a b : A} → (t ≡ true → D a) → (t ≡ false → D b) → D (if t a b)
chosen D true f g = f refl
chosen D false f g = g refl

-- an answer of which D holds is y exactly where D holds of y, if nothing else is answered where it does
pub exactly : {A : Type 0} (D : A → Type 0) (x : A) → D x → (y : A) → (D y → x ≡ y) → (x ≡ y) ↔ D y
exactly D x d y back = (λ e. subst D e d, back)

-- .. of bytes for which there is room or not
pub roomed : (D : Result ℕ Refusal → Type 0) (room at : ℕ) (bytes : List ℕ) → ((n : ℕ) → Fits room at bytes n → D (Ok n)) → (room < at + length bytes → D (Err NoRoom))
    → D (in_room room at (length bytes))
roomed D room at bytes f g =
    chosen D (ltb room (at + length bytes)) (λ t. g (ltb-true room (at + length bytes) t)) (λ t. f (length bytes) (record { count = refl; within = ltb-false room (at + length bytes) t }))

pub room_back : (x : Result ℕ Refusal) (room at : ℕ) (bytes : List ℕ) → x ≡ in_room room at (length bytes) → (n : ℕ) → Fits room at bytes n → x ≡ Ok n
room_back x room at bytes e n f =
    let h : at + length bytes ≤ room = omega (arith, f.count, f.within) in
    e ∙ rw (le-ltb room (at + length bytes) h) (ap Ok (sym f.count))

pub no-room_back : (x : Result ℕ Refusal) (room at : ℕ) (bytes : List ℕ) → x ≡ in_room room at (length bytes) → room < at + length bytes → x ≡ Err NoRoom
no-room_back x room at bytes e h = e ∙ rw (lt-ltb room (at + length bytes) h) refl
