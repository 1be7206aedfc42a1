-- A call that writes: refused where the room test refuses, and else its bytes are there.
use Rattle.std.specs.Prelude.{Result, Ok, Err}
use mathlib.Core.List.{List}
use mathlib.Core.Path.{◌≡◌, sym, ap, ◌∙◌}
use Prim.Native.Nat.{ℕ}
use lib.ListN.{length}
use Rattle.wire.specs.Bytes.{splice}
use Rattle.wire.specs.Call.{in_room, output_after, Writes}
use Rattle.wire.specs.declared.Refusal.{Refusal}
use Rattle.wire.proofs.Call.{refused-leaves}

module _ (out : List ℕ) (at : ℕ) (bytes : List ℕ) {n : ℕ} (size : n ≡ length bytes) where
  abbrev answer : Result ℕ Refusal
  answer = in_room (length out) at (length bytes)

  same : in_room (length out) at n ≡ answer
  same = ap (in_room (length out) at) size

  pub writes_not : {r : Refusal} → in_room (length out) at n ≡ Err r → Writes answer out at bytes (Err r) out
  writes_not {r} e = let a = sym same ∙ e in record { answers = sym a; leaves = sym (refused-leaves answer r out at bytes a) }

  pub writes_all : {m : ℕ} {after : List ℕ} → in_room (length out) at n ≡ Ok m → after ≡ splice out at bytes → Writes answer out at bytes (Ok m) after
  writes_all {m} e p = let a = sym same ∙ e in record { answers = sym a; leaves = p ∙ ap (λ (c : Result ℕ Refusal). output_after c out at bytes) (sym a) }
