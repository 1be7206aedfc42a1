-- An item is told and decoded at the place where it stands, whatever stands behind it.
use mathlib.Core.Bool.{Bool}
use mathlib.Core.List.{List, [], ◌∷◌, ◌++◌, append_assoc, flat_map}
use mathlib.Core.Path.{◌≡◌, refl, sym, ap, subst, ◌∙◌}
use Prim.Native.Nat.{ℕ, suc, ◌+◌, ◌-◌, ◌≤◌}
use native.Mathlib.Omega.{arith}
use lib.ListN.{length, drop, length-append, length-drop}
use lib.Seq.{drop-drop, drop-append_seam}
use borrow.Author.Tests.{le-ltb}
use Rattle.wire.proofs.Lists.{flat_map-append}
use Rattle.wire.specs.Bytes.{splice}
use Rattle.basex_string.specs.Strings.{string}
use Rattle.basex.specs.Texts.{strings}
use Rattle.basex.specs.Response.{Item, item_bytes, ItemAllowed}
use Rattle.basex_response.specs.Items.{next, item_at, uri_length, text_length}
use Rattle.basex_laws.proofs.Handed.{made}
use Rattle.basex_laws.proofs.Listed.{next-item, next-end}
use Rattle.demands.specs.Answered.{Answered, answered}
use Rattle.demands.specs.BaseXCalls.{Lendable, Called, Lists, Decoded, ItemRead, ItemsEnd, decode_called, item_called}
use Rattle.demands.proofs.Answered.{counts_as}
use Rattle.demands.proofs.BaseXCalls.Answers.{in_front}
use Rattle.demands.proofs.BaseXCalls.Items.{asks, comes}
use Rattle.demands.proofs.BaseXCalls.Suffices.{decode-read}

module _ (kind : ℕ) (s : List ℕ) (at : ℕ) (full : Bool) (lists : Lists kind full) where
  pub item_taken : Lendable s → (i : Item) (rest told : List ℕ) → ItemAllowed full i → drop at s ≡ item_bytes i ++ rest → 3 ≤ length told
      → (a : ItemRead kind s at told (item_called kind s at told)) × (a.item ≡ i) × (a.rest ≡ rest)
  item_taken short i rest told allowed e three = subst (λ (c : Called). (a : ItemRead kind s at told c) × (a.item ≡ i) × (a.rest ≡ rest)) (sym c) (read, refl, refl)
    where
      numbers : List ℕ
      numbers = i.id ∷ uri_length full i ∷ text_length full i ∷ []

      n : ℕ
      n = at + (length s - at - length rest) - at

      c : item_called kind s at told ≡ record { answer = answered n; out = splice [] 0 []; told = numbers ++ drop 3 told }
      c =
          ap (comes kind s at told) (asks kind s at full lists ∙ ap (item_at full at (length s - at)) (ap (next full) e ∙ next-item full i rest allowed))
          ∙ rw (le-ltb (length told) 3 three)

      read : ItemRead kind s at told (record { answer = answered n; out = splice [] 0 []; told = numbers ++ drop 3 told })
      read =
          let m = made full i allowed.1 in
          let l = ap length e ∙ length-append (item_bytes i) rest in
          let d = length-drop at s in
          record {
            full = full;
            lists = lists;
            item = i;
            rest = rest;
            allowed = allowed;
            stands = e;
            counted = counts_as n (length (item_bytes i)) (omega (arith, l, d)) (omega (arith, l, d, short));
            named = refl;
            uri = sym m.uri;
            text = sym m.text;
            fields = in_front numbers told three;
          }

  pub item_none : (rest told : List ℕ) → drop at s ≡ 0 ∷ rest → ItemsEnd kind s at told (item_called kind s at told)
  item_none rest told e =
      let c : item_called kind s at told ≡ record { answer = Answered.count 0; out = splice [] 0 []; told = told }
      = ap (comes kind s at told) (asks kind s at full lists ∙ ap (item_at full at (length s - at)) (ap (next full) e ∙ next-end full rest)) ∙ rw (le-ltb (length told) 0 (omega arith)) in
      subst (ItemsEnd kind s at told) (sym c) (record { full = full; lists = lists; rest = rest; stands = e; counted = refl; untold = refl })

pub item_decoded : (s : List ℕ) → Lendable s → (at : ℕ) (i : Item) (rest : List ℕ) → drop at s ≡ item_bytes i ++ rest
    → (front : List (List ℕ)) (t : List ℕ) (back : List (List ℕ)) → i.texts ≡ front ++ (t ∷ back)
    → (out : List ℕ) (to : ℕ) (told : List ℕ) → to + length t ≤ length out → 1 ≤ length told
    → (a : Decoded s (at + suc (length (strings front))) out to told (decode_called s (at + suc (length (strings front))) out to told)) × (a.read.text ≡ t)
unfolding item_bytes flat_map
item_decoded s short at i rest e front t back h out to told fits one = decode-read s short (at + suc (length (strings front))) t (strings back ++ rest) there out to told fits one
  where
    behind : strings i.texts ++ rest ≡ strings front ++ (string t ++ (strings back ++ rest))
    behind =
        ap (λ (m : List (List ℕ)). strings m ++ rest) h
        ∙ ap (λ (m : List ℕ). m ++ rest) (flat_map-append string front (t ∷ back))
        ∙ append_assoc (strings front) (string t ++ strings back) rest
        ∙ ap (λ (m : List ℕ). strings front ++ m) (append_assoc (string t) (strings back) rest)

    there : drop (at + suc (length (strings front))) s ≡ string t ++ (strings back ++ rest)
    there =
        sym (drop-drop (suc (length (strings front))) at s)
        ∙ ap (drop (suc (length (strings front)))) e
        ∙ ap (drop (length (strings front))) behind
        ∙ drop-append_seam (strings front) (string t ++ (strings back ++ rest))
