-- A byte that is judged, and as many strings as it has behind it, as an item and the end of a response are: 1, 8 and 13 exactly.
use mathlib.Core.Path.{◌≡◌, refl, sym, ap, ◌∙◌}
use mathlib.Core.List.{List, ◌∷◌, ◌++◌}
use mathlib.Core.Bool.{Bool, true, false}
use mathlib.Core.Logic.{◌↔◌}
use Prim.Native.Nat.{ℕ, ◌<◌}
use native.Mathlib.Omega.{arith}
use lib.ListN.{length}
use Rattle.wire.specs.Bytes.{if}
use Rattle.wire.specs.Fields.{Got, go_on, give}
use Rattle.wire.specs.declared.Refusal.{Refusal}
use Rattle.wire.specs.declared.Refusal.TheVariants.{MoreBytes, ValueNotAllowed, BadEscape}
use Rattle.basex.specs.Texts.{texts, strings}
use Rattle.basex_laws.specs.Moments.{Encoded, Begun, BadTexts}
use Rattle.basex_laws.proofs.Moments.Order.{made}
use Rattle.basex_laws.proofs.Moments.Texts.{Many, texts-more, texts-pair, texts-no-value}

module _ (allowed : ℕ → Bool) (count : ℕ → ℕ) where
  -- a byte that is allowed, with its strings
  abbrev pub TagAllowed : ℕ × List (List ℕ) → Type 0
  TagAllowed p = (allowed p.0 ≡ true) × Many (count p.0) p.1

  abbrev pub tag_bytes : ℕ × List (List ℕ) → List ℕ
  tag_bytes p = p.0 ∷ strings p.1

  -- a beginning of them with its first byte is one of the strings
  pub begun_tagged : (b : ℕ) (s : List ℕ) → ((allowed b ≡ true) × Begun (Encoded (Many (count b)) strings) s) ↔ Begun (Encoded TagAllowed tag_bytes) (b ∷ s)
  begun_tagged b s = (forth, λ h. back h.whole.0 h.whole.1 h.missing h.some h.whole.2)
    where
      forth : (allowed b ≡ true) × Begun (Encoded (Many (count b)) strings) s → Begun (Encoded TagAllowed tag_bytes) (b ∷ s)
      forth h =
          let g = h.1 in
          record { missing = g.missing; some = g.some; whole = ((b, g.whole.0), (h.0, g.whole.1), ap (λ (l : List ℕ). b ∷ l) g.whole.2) }

      back : (p : ℕ × List (List ℕ)) → TagAllowed p → (more : List ℕ) → 0 < length more → tag_bytes p ≡ b ∷ (s ++ more) → (allowed b ≡ true) × Begun (Encoded (Many (count b)) strings) s
      back p a more k e =
          let q : p.0 ≡ b = cc in
          let t : strings p.1 ≡ s ++ more = cc in
          (ap allowed (sym q) ∙ a.0, record { missing = more; some = k; whole = (p.1, a.1 ∙ ap count q, t) })

module _ {B : Type 0} (n : ℕ) (s : List ℕ) (make : List (List ℕ) → B) where
  -- the byte allowed or not, n strings of s behind it
  abbrev pub tagged : Bool → Got B
  tagged t = if t (go_on (texts n s) (λ ts. give (make ts))) (Got.refused ValueNotAllowed)

  -- another refusal than 8 is one of the strings
  text : (r : Refusal) → (r ≡ ValueNotAllowed → ⊥) → (Bad : Type 0) → (texts n s ≡ Got.refused r) ↔ Bad → (t : Bool) → (tagged t ≡ Got.refused r) ↔ (t ≡ true) × Bad
  text r other Bad bad true = (λ e. (refl, bad.0 ((made (texts n s) make r).0 e)), λ h. (made (texts n s) make r).1 (bad.1 h.1))
  text r other Bad bad false = (λ e. let z : r ≡ ValueNotAllowed = cc in absurd (other z), λ h. let p = h.0 in let z : ◌≡◌ {A = ℕ} 0 1 = cc in absurd (omega arith))

  pub tagged_more : (t : Bool) → (tagged t ≡ Got.refused MoreBytes) ↔ (t ≡ true) × Begun (Encoded (Many n) strings) s
  tagged_more = text MoreBytes (λ (p : MoreBytes ≡ ValueNotAllowed). let z : ◌≡◌ {A = ℕ} 0 1 = cc in omega arith) _ (texts-more n s)

  pub tagged_pair : (t : Bool) → (tagged t ≡ Got.refused BadEscape) ↔ (t ≡ true) × BadTexts n s
  tagged_pair = text BadEscape (λ (p : BadEscape ≡ ValueNotAllowed). let z : ◌≡◌ {A = ℕ} 0 1 = cc in omega arith) _ (texts-pair n s)

  pub tagged_value : (t : Bool) → (tagged t ≡ Got.refused ValueNotAllowed) ↔ (t ≡ false)
  tagged_value true = (λ e. absurd (texts-no-value n s ((made (texts n s) make ValueNotAllowed).0 e)), λ p. let z : ◌≡◌ {A = ℕ} 0 1 = cc in absurd (omega arith))
  tagged_value false = (λ e. refl, λ p. refl)
