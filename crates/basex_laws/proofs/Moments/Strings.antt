-- Strings: 1 exactly for a beginning of one, 13 exactly for an FF ahead of a byte that it does not escape.
use mathlib.Core.Path.{◌≡◌, refl, sym, ap, ◌∙◌}
use mathlib.Core.List.{List, [], ◌∷◌, ◌++◌, append_assoc, append-nil}
use mathlib.Core.Logic.{◌↔◌, ◌⊎◌, inl, inr}
use Prim.Native.Nat.{ℕ}
use native.Mathlib.Omega.{arith}
use Rattle.wire.specs.Fields.{Got}
use Rattle.wire.specs.declared.Refusal.{Refusal}
use Rattle.wire.specs.declared.Refusal.TheVariants.{MoreBytes, BadEscape}
use Rattle.basex_string.specs.Strings.{escaped, string}
use Rattle.basex_string.specs.Scan.{scan, reading}
use Rattle.basex_string.proofs.Laws.{escaped-append, begun, string-begun, Why, why, exact, read_written, refuses, bad_escape, escape_bad, bad-behind}
use Rattle.basex_laws.specs.Moments.{Encoded, Begun, body, Any, BadPair, StringMoments}
use Rattle.basex_laws.proofs.Moments.Order.{begun-short}
use Rattle.basex_laws.proofs.Moments.Breaking.{breaking}

body-begun : (t rest : List ℕ) → body t ++ rest ≡ begun t rest
unfolding body
body-begun [] rest = refl
body-begun (b ∷ t) rest = escaped-append b (body t) rest ∙ ap (escaped b) (body-begun t rest)

string-body : (t : List ℕ) → string t ≡ body t ++ (0 ∷ [])
string-body t = sym (append-nil (string t)) ∙ string-begun t [] ∙ sym (body-begun t (0 ∷ []))

begun_more : (t u rest : List ℕ) → begun (t ++ u) rest ≡ begun t (begun u rest)
begun_more [] u rest = refl
begun_more (b ∷ t) u rest = ap (escaped b) (begun_more t u rest)

-- what has no end is ended by 00, and behind an FF last by the byte that it escapes and 00
endless : (s : List ℕ) → reading s ≡ Got.refused MoreBytes → Begun (Encoded Any string) s
endless s e = by (why s MoreBytes e) refl
  where
    ends : (t rest more : List ℕ) → s ≡ begun t rest → begun t (rest ++ more) ≡ s ++ more
    ends t rest more p = sym (body-begun t (rest ++ more)) ∙ sym (append_assoc (body t) rest more) ∙ ap (λ (l : List ℕ). l ++ more) (body-begun t rest ∙ sym p)

    by : {q : Refusal} → Why s q → q ≡ MoreBytes → Begun (Encoded Any string) s
    by (Why.endless t p) h = record { missing = 0 ∷ []; some = omega arith; whole = (t, tt, string-body t ∙ body-begun t (0 ∷ []) ∙ ends t [] (0 ∷ []) p) }
    by (Why.half t p) h = record {
      missing = 0 ∷ 0 ∷ [];
      some = omega arith;
      whole = (t ++ (0 ∷ []), tt, string-body (t ++ (0 ∷ [])) ∙ body-begun (t ++ (0 ∷ [])) (0 ∷ []) ∙ begun_more t (0 ∷ []) (0 ∷ []) ∙ ends t (255 ∷ []) (0 ∷ 0 ∷ []) p);
    }
    by (Why.bad t c rest o p) h = let z : ◌≡◌ {A = ℕ} 0 1 = cc in absurd (omega arith)

pub string_exact : (s t rest : List ℕ) → (reading s ≡ Got.got t rest) ↔ (Any t × (s ≡ string t ++ rest))
string_exact s t rest = (λ e. (tt, exact s t rest e), λ h. ap reading h.1 ∙ read_written t rest)

stays : (s : List ℕ) (r : Refusal) → reading s ≡ Got.refused r → (r ≡ MoreBytes) ⊎ ((more : List ℕ) → reading (s ++ more) ≡ Got.refused r)
stays s r e = by (refuses s r e)
  where
    by : (r ≡ MoreBytes) ⊎ (r ≡ BadEscape) → (r ≡ MoreBytes) ⊎ ((more : List ℕ) → reading (s ++ more) ≡ Got.refused r)
    by (inl p) = inl p
    by (inr p) = inr (λ more. bad-behind s more (e ∙ ap Got.refused p) ∙ ap Got.refused (sym p))

pair_is : (s : List ℕ) → (reading s ≡ Got.refused BadEscape) ↔ BadPair s
pair_is s = (forth, back)
  where
    forth : reading s ≡ Got.refused BadEscape → BadPair s
    forth e =
        let x = bad_escape s e in
        record { text = x.text; byte = x.byte; rest = x.rest; other = x.other; stands = x.stands ∙ sym (body-begun x.text (255 ∷ x.byte ∷ x.rest)) }

    back : BadPair s → reading s ≡ Got.refused BadEscape
    back x = escape_bad s (record { text = x.text; byte = x.byte; rest = x.rest; other = x.other; stands = x.stands ∙ body-begun x.text (255 ∷ x.byte ∷ x.rest) })

more-is : (s : List ℕ) → (reading s ≡ Got.refused MoreBytes) ↔ Begun (Encoded Any string) s
more-is s = (endless s, begun-short reading Any string string_exact stays s)

none : reading [] ≡ Got.refused MoreBytes
unfolding scan
none = refl

pub string_moments : StringMoments
string_moments = record { ends = string-body; more = more-is; broken = breaking reading Any string string_exact more-is none; pair = pair_is }
