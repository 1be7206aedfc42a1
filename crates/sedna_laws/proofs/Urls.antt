-- An item's URL, with the flag in front of it, is exact.
use mathlib.Core.Path.{◌≡◌, refl, ◌∙◌}
use mathlib.Core.List.{List, [], ◌∷◌, ◌++◌}
use mathlib.Core.Bool.{Bool, true, false}
use Prim.Native.Nat.{ℕ, zero, suc, ◌≤◌}
use native.Mathlib.Omega.{arith}
use lib.Dec.{leb}
use borrow.Author.Tests.{leb-true}
use Rattle.wire.specs.declared.Refusal.TheVariants.{ValueNotAllowed}
use Rattle.wire.specs.Bytes.{IsBytes}
use Rattle.sedna.specs.Message.{Url}
use Rattle.sedna.specs.Encode.{string, url_bytes}
use Rattle.wire.specs.Fields.{Got, Field, go_on, ◌>>=◌, ◌>>◌, required}
use Rattle.sedna_read.specs.Fields.{byte_field, string_field}
use Rattle.sedna_read.specs.Reading.{url_field}
use Rattle.sedna_laws.proofs.Bytes.{bytes-behind}
use Rattle.sedna_laws.proofs.Steps.{Forth, Back, past, passed, given}
use Rattle.sedna_laws.proofs.Fields.{byte_back, string_forth, string_back}

abbrev pub flagged_url : Field Url
flagged_url = do
  flag ← byte_field
  required (leb flag 1) ValueNotAllowed
  url_field flag

-- an item's flag and URL may be read as one field
pub flagged : {B : Type 0} (s : List ℕ) (next : Url → Field B)
    → go_on (byte_field s) (λ flag. ◌>>◌ (required (leb flag 1) ValueNotAllowed) (◌>>=◌ (url_field flag) next)) ≡ go_on (flagged_url s) next
flagged [] next = refl
flagged (flag ∷ s) next = by (leb flag 1)
  where
    by : (t : Bool) → go_on (required t ValueNotAllowed s) (λ _. ◌>>=◌ (url_field flag) next) ≡ go_on (go_on (required t ValueNotAllowed s) (λ _. url_field flag)) next
    by true = refl
    by false = refl

pub url_forth : Forth flagged_url url_bytes
unfolding url_bytes url_field
url_forth Url.absent rest h = refl
url_forth (Url.present url) rest h = rw (string_forth url rest (bytes-behind (1 ∷ []) (string url ++ rest) h))

flag_back : (flag : ℕ) (s : List ℕ) (u : Url) (rest : List ℕ) → flag ≤ 1 → IsBytes s → url_field flag s ≡ Got.got u rest → flag ∷ s ≡ url_bytes u ++ rest
unfolding url_bytes url_field
flag_back zero s u rest l h e = given (λ (u : Url) (l : List ℕ). 0 ∷ s ≡ url_bytes u ++ l) e refl
flag_back (suc n) s u rest l h e =
    let one : suc n ≡ 1 = omega arith in
    past string_field string string_back s _ h e λ url s₁ p₁ h₁ e₁.
    given (λ (u : Url) (l : List ℕ). suc n ∷ s ≡ url_bytes u ++ l) e₁ (rw (one, p₁))

pub url_back : Back flagged_url url_bytes
url_back s u rest h e =
    past byte_field (λ x. x ∷ []) byte_back s _ h e λ flag s₁ p₁ h₁ e₁.
    passed (leb flag 1) _ s₁ _ e₁ λ small e₂.
    p₁ ∙ flag_back flag s₁ u rest (leb-true flag 1 small) h₁ e₂
