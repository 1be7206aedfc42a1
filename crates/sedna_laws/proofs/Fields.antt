-- Bytes, ints and strings are exact.
use mathlib.Core.Path.{◌≡◌, sym}
use mathlib.Core.List.{List, [], ◌∷◌, ◌++◌, append_assoc}
use Prim.Native.Nat.{ℕ, ◌≤◌}
use native.Mathlib.Omega.{arith}
use lib.Dec.{ltb, eqb}
use lib.ListN.{length, length-append, take-append-drop}
use lib.Seq.{take-append_seam, drop-append_seam, length-take-le}
use borrow.Author.Tests.{le-ltb, ltb-false, eqb-true}
use Rattle.wire.specs.Bytes.{IsBytes, int}
use Rattle.sedna.specs.Encode.{string}
use Rattle.wire.specs.Fields.{Got}
use Rattle.sedna_read.specs.Fields.{byte_field, int_field, bytes_field, string_field}
use Rattle.wire.proofs.Branches.{apart, either}
use Rattle.sedna_laws.proofs.Bytes.{bytes-behind, int_small, int-written, int-read}
use Rattle.sedna_laws.proofs.Steps.{Forth, Back, past, passed, given}

pub byte_back : Back byte_field (λ x. x ∷ [])
byte_back [] x rest h e = apart (cc)
byte_back (y ∷ s) x rest h e = cc

pub int_forth : Forth int_field int
unfolding int_field int
int_forth n rest h = rw (le-ltb (length (int n ++ rest)) 4 (omega arith), int-written [] n rest (int_small n rest h))

pub int_back : Back int_field int
unfolding int_field
int_back s n rest h e =
    either (ltb (length s) 4) _ _ e (λ cut e₁. apart (cc)) λ fits e₁.
    given (λ (n : ℕ) (l : List ℕ). s ≡ int n ++ l) e₁ (int-read s 0 h (ltb-false (length s) 4 fits))

bytes_back : (n : ℕ) (s t rest : List ℕ) → bytes_field n s ≡ Got.got t rest → (s ≡ t ++ rest) × (length t ≡ n)
unfolding bytes_field
bytes_back n s t rest e =
    either (ltb (length s) n) _ _ e (λ cut e₁. apart (cc)) λ fits e₁.
    given (λ (t l : List ℕ). (s ≡ t ++ l) × (length t ≡ n)) e₁ (sym (take-append-drop n s), length-take-le n s (ltb-false (length s) n fits))

pub string_forth : Forth string_field string
unfolding string string_field bytes_field
string_forth t rest h =
    let h' : IsBytes (int (length t) ++ (t ++ rest)) = rw append_assoc at (bytes-behind (0 ∷ []) (int (length t) ++ t ++ rest) h) in
    let l : length t ≤ length (t ++ rest) = omega (arith, length-append t rest) in
    rw (append_assoc, int_forth (length t) (t ++ rest) h', le-ltb (length (t ++ rest)) (length t) l, take-append_seam t rest, drop-append_seam t rest)

pub string_back : Back string_field string
unfolding string string_field
string_back s t rest h e =
    past byte_field (λ x. x ∷ []) byte_back s _ h e λ format s₁ p₁ h₁ e₁.
    passed (eqb format 0) _ s₁ _ e₁ λ zero e₂.
    past int_field int int_back s₁ _ h₁ e₂ λ n s₂ p₂ h₂ e₃.
    let q = bytes_back n s₂ t rest e₃ in
    rw (p₁, eqb-true format 0 zero, p₂, ← q.1, q.0, append_assoc)
