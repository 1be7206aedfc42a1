-- The pairs of SetOptions are exact.
use mathlib.Core.Path.{◌≡◌, refl}
use mathlib.Core.List.{List, [], ◌∷◌, ◌++◌, append_assoc, flat_map}
use Prim.Native.Nat.{ℕ, zero, suc, ◌≤◌}
use native.Mathlib.Omega.{arith}
use lib.ListN.{length, length-append}
use Rattle.wire.specs.Bytes.{IsBytes, int}
use Rattle.sedna.specs.Message.{Pair}
use Rattle.sedna.specs.Encode.{string, pair_bytes, pairs_bytes}
use Rattle.wire.specs.Fields.{Got}
use Rattle.sedna_read.specs.Fields.{int_field, string_field}
use Rattle.sedna_read.specs.Reading.{pair_field, pairs_field}
use Rattle.sedna_laws.proofs.Bytes.{bytes-behind}
use Rattle.sedna_laws.proofs.Steps.{Forth, Back, past, given}
use Rattle.sedna_laws.proofs.Fields.{int_forth, int_back, string_forth, string_back}

pub pair_forth : Forth pair_field pair_bytes
unfolding pair_field pair_bytes
pair_forth p rest h =
    let h' : IsBytes (int p.id ++ (string p.value ++ rest)) = rw append_assoc at h in
    rw (append_assoc, int_forth p.id (string p.value ++ rest) h', string_forth p.value rest (bytes-behind (int p.id) (string p.value ++ rest) h'))

pub pair_back : Back pair_field pair_bytes
unfolding pair_field pair_bytes
pair_back s p rest h e =
    past int_field int int_back s _ h e λ id s₁ p₁ h₁ e₁.
    past string_field string string_back s₁ _ h₁ e₁ λ value s₂ p₂ h₂ e₂.
    given (λ (p : Pair) (l : List ℕ). s ≡ pair_bytes p ++ l) e₂ (rw (append_assoc, p₁, p₂))

-- there are no more pairs than bytes
pub pairs-count : (ps : List Pair) → length ps ≤ length (pairs_bytes ps)
unfolding flat_map pair_bytes int
pairs-count [] = omega arith
pairs-count (p ∷ ps) = omega (arith, pairs-count ps, length-append (string p.value) (pairs_bytes ps))

pub pairs_forth : (ps : List Pair) (n : ℕ) → length ps ≤ n → IsBytes (pairs_bytes ps) → pairs_field n (pairs_bytes ps) ≡ Got.got ps []
unfolding pairs_field flat_map pair_bytes int
pairs_forth [] zero l h = refl
pairs_forth [] (suc n) l h = refl
pairs_forth (p ∷ ps) zero l h = absurd (omega arith)
pairs_forth (p ∷ ps) (suc n) l h = rw (pair_forth p (pairs_bytes ps) h, pairs_forth ps n (omega arith) (bytes-behind (pair_bytes p) (pairs_bytes ps) h))

pub pairs_back : (n : ℕ) → Back (pairs_field n) pairs_bytes
unfolding pairs_field flat_map
pairs_back zero s ps rest h e = given (λ (ps : List Pair) (l : List ℕ). s ≡ pairs_bytes ps ++ l) e refl
pairs_back (suc n) [] ps rest h e = given (λ (ps : List Pair) (l : List ℕ). [] ≡ pairs_bytes ps ++ l) e refl
pairs_back (suc n) (x ∷ s) ps rest h e =
    past pair_field pair_bytes pair_back (x ∷ s) _ h e λ first s₁ p₁ h₁ e₁.
    past (pairs_field n) pairs_bytes (pairs_back n) s₁ _ h₁ e₁ λ more s₂ p₂ h₂ e₂.
    given (λ (ps : List Pair) (l : List ℕ). x ∷ s ≡ pairs_bytes ps ++ l) e₂ (rw (append_assoc, p₁, p₂))
