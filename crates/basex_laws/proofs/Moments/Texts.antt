-- Strings one behind the other: 1 and 13 exactly, from what is known of one.
use mathlib.Core.Path.{◌≡◌, refl, sym, ap, ◌∙◌}
use mathlib.Core.List.{List, [], ◌∷◌, ◌++◌, append_assoc, flat_map}
use mathlib.Core.Logic.Iff
use mathlib.Core.Logic.{◌↔◌, ◌⊎◌, inl, inr}
use Prim.Native.Nat.{ℕ, zero, suc, ◌<◌}
use native.Mathlib.Omega.{arith}
use lib.ListN.{length, length-append}
use Rattle.wire.specs.Fields.{Got, go_on, give}
use Rattle.wire.specs.declared.Refusal.{Refusal}
use Rattle.wire.specs.declared.Refusal.TheVariants.{MoreBytes, ValueNotAllowed, BadEscape}
use Rattle.basex_string.specs.Strings.{string}
use Rattle.basex_string.specs.Scan.{reading}
use Rattle.basex.specs.Texts.{strings, texts}
use Rattle.basex.proofs.Texts.{texts-none, texts_exact, texts-written, texts_refuses}
use Rattle.basex_laws.specs.Moments.{Encoded, Begun, Any, BadPair, BadTexts}
use Rattle.basex_laws.proofs.Moments.Order.{Joined, begun-map, begun-joined, stops, made}
use Rattle.basex_laws.proofs.Moments.Strings.{string_exact, string_moments}

-- n of them
abbrev pub Many : ℕ → List (List ℕ) → Type 0
Many n ts = length ts ≡ n

pub many_exact : (n : ℕ) (s : List ℕ) (ts : List (List ℕ)) (rest : List ℕ) → (texts n s ≡ Got.got ts rest) ↔ (Many n ts × (s ≡ strings ts ++ rest))
many_exact n s ts rest = (texts_exact n s ts rest, λ h. ap (texts n) h.1 ∙ ap (λ (m : ℕ). texts m (strings ts ++ rest)) (sym h.0) ∙ texts-written ts rest)

-- there are n strings, all empty
pub some-texts : (n : ℕ) → (y : List ℕ) × Encoded (Many n) strings y
some-texts n = (strings (none n), (none n, count n, refl))
  where
    none : ℕ → List (List ℕ)
    none zero = []
    none (suc n) = [] ∷ none n

    count : (n : ℕ) → length (none n) ≡ n
    count zero = refl
    count (suc n) = ap suc (count n)

module _ (n : ℕ) (s : List ℕ) (r : Refusal) where
  -- refused at the first, or at the n behind it
  further : (First : Type 0) (Then : List ℕ → Type 0) → (reading s ≡ Got.refused r) ↔ First → ((rest : List ℕ) → (texts n rest ≡ Got.refused r) ↔ Then rest)
      → (texts (suc n) s ≡ Got.refused r) ↔ (First ⊎ Joined Any string (λ t. Then) s)
  unfolding texts
  further First Then first later = stops Any string s (reading s) (λ t rest. go_on (texts n rest) (λ ts. give (t ∷ ts))) (string_exact s) r First (λ t. Then) first
      (λ t rest e. Iff.trans (made (texts n rest) (λ ts. t ∷ ts) r) (later rest))

-- none at all are never refused
never : (s : List ℕ) (r : Refusal) → texts 0 s ≡ Got.refused r → ⊥
never s r e = let g : Got.got [] s ≡ Got.refused r = sym (texts-none s) ∙ e in let z : ◌≡◌ {A = ℕ} 0 1 = cc in omega arith

module _ (n : ℕ) where
  strings_forth : (e : List ℕ) → Joined Any string (λ t. Encoded (Many n) strings) e → Encoded (Many (suc n)) strings e
  unfolding flat_map
  strings_forth e j = (j.value ∷ j.then.0, ap suc j.then.1, ap (λ (l : List ℕ). string j.value ++ l) j.then.2 ∙ sym j.stands)

  strings_back : (e : List ℕ) → Encoded (Many (suc n)) strings e → Joined Any string (λ t. Encoded (Many n) strings) e
  unfolding flat_map
  strings_back e h = by h.0 h.1 h.2
    where
      by : (ts : List (List ℕ)) → length ts ≡ suc n → strings ts ≡ e → Joined Any string (λ t. Encoded (Many n) strings) e
      by [] l p = absurd (omega arith)
      by (t ∷ ts) l p = record { value = t; left = strings ts; good = tt; stands = sym p; then = (ts, omega arith, refl) }

  bad_forth : (s : List ℕ) → BadPair s ⊎ Joined Any string (λ t. BadTexts n) s → BadTexts (suc n) s
  unfolding flat_map
  bad_forth s (inl h) = record { texts = []; left = s; few = omega arith; stands = refl; bad = h }
  bad_forth s (inr j) =
      let h = j.then in
      let k = h.few in
      record {
        texts = j.value ∷ h.texts;
        left = h.left;
        few = omega arith;
        stands = j.stands ∙ ap (λ (l : List ℕ). string j.value ++ l) h.stands
            ∙ sym (append_assoc (string j.value) (strings h.texts) h.left);
        bad = h.bad;
      }

  bad_back : (s : List ℕ) → BadTexts (suc n) s → BadPair s ⊎ Joined Any string (λ t. BadTexts n) s
  unfolding flat_map
  bad_back s h = by h.texts h.left h.few h.stands h.bad
    where
      by : (ts : List (List ℕ)) (left : List ℕ) → length ts < suc n → s ≡ strings ts ++ left → BadPair left → BadPair s ⊎ Joined Any string (λ t. BadTexts n) s
      by [] left k p b = inl (rw p b)
      by (t ∷ ts) left k p b = inr (record {
        value = t;
        left = strings ts ++ left;
        good = tt;
        stands = p ∙ append_assoc (string t) (strings ts) left;
        then = record { texts = ts; left = left; few = omega arith; stands = refl; bad = b };
      })

pub texts-more : (n : ℕ) (s : List ℕ) → (texts n s ≡ Got.refused MoreBytes) ↔ Begun (Encoded (Many n) strings) s
unfolding flat_map
texts-more zero s = (λ e. absurd (never s MoreBytes e), λ h. absurd (none h.whole.0 h.missing h.whole.1 h.some h.whole.2))
  where
    none : (ts : List (List ℕ)) (more : List ℕ) → length ts ≡ 0 → 0 < length more → strings ts ≡ s ++ more → ⊥
    none [] more l k p = omega (arith, ap length p, length-append s more)
    none (t ∷ ts) more l k p = omega arith
texts-more (suc n) s =
    Iff.trans (further n s MoreBytes (Begun (Encoded Any string) s) (Begun (Encoded (Many n) strings)) (string_moments.more s) (texts-more n))
    (Iff.trans (begun-joined Any string (λ t. Encoded (Many n) strings) s (λ t h. some-texts n)) (begun-map (strings_forth n), begun-map (strings_back n)))

pub texts-pair : (n : ℕ) (s : List ℕ) → (texts n s ≡ Got.refused BadEscape) ↔ BadTexts n s
texts-pair zero s = (λ e. absurd (never s BadEscape e), λ h. let k = h.few in absurd (omega arith))
texts-pair (suc n) s = Iff.trans (further n s BadEscape (BadPair s) (BadTexts n) (string_moments.pair s) (texts-pair n)) (bad_forth n s, bad_back n s)

-- .. and never 8
pub texts-no-value : (n : ℕ) (s : List ℕ) → texts n s ≡ Got.refused ValueNotAllowed → ⊥
texts-no-value n s e = by (texts_refuses n s ValueNotAllowed e)
  where
    by : (ValueNotAllowed ≡ MoreBytes) ⊎ (ValueNotAllowed ≡ BadEscape) → ⊥
    by (inl p) = let z : ◌≡◌ {A = ℕ} 0 1 = cc in omega arith
    by (inr p) = let z : ◌≡◌ {A = ℕ} 0 1 = cc in omega arith
