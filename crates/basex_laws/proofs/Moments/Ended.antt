-- The list field, and the status with the strings behind it: 1, 8 and 13 exactly.
use mathlib.Core.Path.{◌≡◌, refl, sym, ap, ◌∙◌}
use mathlib.Core.List.{List, [], ◌∷◌, ◌++◌}
use mathlib.Core.Bool.{Bool, true, false}
use mathlib.Core.Logic.Iff
use mathlib.Core.Logic.{◌↔◌}
use Prim.Native.Nat.{ℕ}
use native.Mathlib.Omega.{arith}
use lib.ListN.{length, length-append}
use Rattle.wire.specs.Bytes.{if}
use Rattle.wire.specs.Fields.{Got, go_on, give, required}
use Rattle.wire.specs.declared.Refusal.{Refusal}
use Rattle.wire.specs.declared.Refusal.TheVariants.{MoreBytes, ValueNotAllowed, BadEscape}
use Rattle.basex.specs.declared.Reply.{Reply}
use Rattle.basex.specs.Kinds.{behind, listed, is_full, status_allowed}
use Rattle.basex.specs.Response.{Item, Response, items_bytes, list_bytes, ItemsAllowed, ListAllowed}
use Rattle.basex.specs.Texts.{texts}
use Rattle.basex_response.specs.Items.{next, list}
use Rattle.basex_response.specs.Reading.{list_field}
use Rattle.basex_laws.specs.Moments.{Encoded, Begun, BadTexts}
use Rattle.basex_laws.proofs.Moments.Lists.{list-more, list-bad}
use Rattle.basex_laws.proofs.Moments.Order.{Joined}
use Rattle.basex_laws.proofs.Responses.{ended}
use Rattle.basex_laws.proofs.Moments.Tagged.{TagAllowed, tag_bytes, begun_tagged, tagged, tagged_more, tagged_value, tagged_pair}
use Rattle.basex_laws.proofs.Moments.Texts.{some-texts}

module _ (reply : Reply) where
  pub field_more : (s : List ℕ) → (list_field reply s ≡ Got.refused MoreBytes) ↔ Begun (Encoded (ListAllowed (listed reply) (is_full reply)) (list_bytes reply)) s
  field_more s = by (listed reply)
    where
      by : (b : Bool) → (if b (list (is_full reply) s) (Got.got [] s) ≡ Got.refused MoreBytes) ↔ Begun (Encoded (ListAllowed b (is_full reply)) (λ is. if b (items_bytes is ++ (0 ∷ [])) [])) s
      by true = list-more (is_full reply) (length s) s (omega arith)
      by false = (λ e. let z : ◌≡◌ {A = ℕ} 0 1 = cc in absurd (omega arith), λ h. let k = h.some in absurd (omega (arith, ap length h.whole.2, length-append s h.missing)))

  pub field_bad : (r : Refusal) → (r ≡ MoreBytes → ⊥) → (Bad : List ℕ → Type 0) → ((s : List ℕ) → (next (is_full reply) s ≡ Got.refused r) ↔ Bad s) → (s : List ℕ)
      → (list_field reply s ≡ Got.refused r) ↔ (listed reply ≡ true) × Joined (ItemsAllowed (is_full reply)) items_bytes (λ is. Bad) s
  field_bad r other Bad bad s = by (listed reply)
    where
      by : (b : Bool) → (if b (list (is_full reply) s) (Got.got [] s) ≡ Got.refused r) ↔ (b ≡ true) × Joined (ItemsAllowed (is_full reply)) items_bytes (λ is. Bad) s
      by true = let i = list-bad (is_full reply) r other Bad bad (length s) s (omega arith) in (λ e. (refl, i.0 e), λ h. i.1 h.1)
      by false = (λ e. let z : ◌≡◌ {A = ℕ} 0 1 = cc in absurd (omega arith), λ h. let p = h.0 in let z : ◌≡◌ {A = ℕ} 0 1 = cc in absurd (omega arith))

  -- a status with the strings behind it
  abbrev pub EndAllowed : ℕ × List (List ℕ) → Type 0
  EndAllowed = TagAllowed status_allowed (behind reply)

  abbrev pub end_bytes : ℕ × List (List ℕ) → List ℕ
  end_bytes = tag_bytes status_allowed (behind reply)

  pub end-some : (y : List ℕ) × Encoded EndAllowed end_bytes y
  end-some = let t = some-texts (behind reply 0) in (0 ∷ t.0, ((0, t.1.0), (refl, t.1.1), ap (λ (l : List ℕ). 0 ∷ l) t.1.2))

  -- 8 and 13 there
  abbrev pub BadStatus : List ℕ → Type 0
  BadStatus s = (b : ℕ) × (rest : List ℕ) × (s ≡ b ∷ rest) × (status_allowed b ≡ false)

  abbrev pub BadError : List ℕ → Type 0
  BadError s = (b : ℕ) × (left : List ℕ) × (s ≡ b ∷ left) × (status_allowed b ≡ true) × BadTexts (behind reply b) left

  module _ (ts : List (List ℕ)) (is : List Item) where
    abbrev response : ℕ → List (List ℕ) → Response
    response b es = record { texts = ts; items = is; status = b; error = es }

    ended_is : (b : ℕ) (s : List ℕ) → ended reply ts is (b ∷ s) ≡ tagged (behind reply b) s (response b) (status_allowed b)
    ended_is b s = by (status_allowed b)
      where
        by : (t : Bool) → go_on (required t ValueNotAllowed s) (λ _ s1. go_on (texts (behind reply b) s1) (λ es. give (response b es))) ≡ tagged (behind reply b) s (response b) t
        by true = refl
        by false = refl

    pub end_more : (s : List ℕ) → (ended reply ts is s ≡ Got.refused MoreBytes) ↔ Begun (Encoded EndAllowed end_bytes) s
    unfolding end-some
    end_more [] = (λ e. record { missing = end-some.0; some = omega arith; whole = end-some.1 }, λ h. refl)
    end_more (b ∷ s) = rw (ended_is b s) (Iff.trans (tagged_more (behind reply b) s (response b) (status_allowed b)) (begun_tagged status_allowed (behind reply) b s))

    pub end-value : (s : List ℕ) → (ended reply ts is s ≡ Got.refused ValueNotAllowed) ↔ BadStatus s
    end-value s = (forth s, λ h. ap (ended reply ts is) h.2 ∙ ended_is h.0 h.1 ∙ (tagged_value _ h.1 (response h.0) (status_allowed h.0)).1 h.3)
      where
        forth : (s : List ℕ) → ended reply ts is s ≡ Got.refused ValueNotAllowed → BadStatus s
        forth [] e = let z : ◌≡◌ {A = ℕ} 0 1 = cc in absurd (omega arith)
        forth (b ∷ s) e = (b, s, refl, (tagged_value (behind reply b) s (response b) (status_allowed b)).0 (sym (ended_is b s) ∙ e))

    pub end-pair : (s : List ℕ) → (ended reply ts is s ≡ Got.refused BadEscape) ↔ BadError s
    end-pair s = (forth s, λ h. ap (ended reply ts is) h.2 ∙ ended_is h.0 h.1 ∙ (tagged_pair _ h.1 (response h.0) (status_allowed h.0)).1 (h.3, h.4))
      where
        forth : (s : List ℕ) → ended reply ts is s ≡ Got.refused BadEscape → BadError s
        forth [] e = let z : ◌≡◌ {A = ℕ} 0 1 = cc in absurd (omega arith)
        forth (b ∷ s) e =
            let d = (tagged_pair (behind reply b) s (response b) (status_allowed b)).0 (sym (ended_is b s) ∙ e) in
            (b, s, refl, d.0, d.1)
