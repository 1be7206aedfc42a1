-- Responses: 1, 2, 8 and 13 exactly.
use Rattle.std.specs.Prelude.{Option, Some, None}
use mathlib.Core.Path.{◌≡◌, refl, sym, ap, ◌∙◌}
use mathlib.Core.List.{List, [], ◌∷◌, ◌++◌, append_assoc}
use mathlib.Core.Bool.{Bool, true, false}
use mathlib.Core.Logic.Iff
use mathlib.Core.Logic.{◌↔◌, ◌⊎◌, inl, inr}
use Prim.Native.Nat.{ℕ, ◌<◌}
use native.Mathlib.Omega.{arith}
use lib.ListN.{length}
use Rattle.wire.specs.Fields.{Got, go_on}
use Rattle.wire.specs.declared.Refusal.{Refusal}
use Rattle.wire.specs.declared.Refusal.TheVariants.{MoreBytes, UnknownInstruction, ValueNotAllowed, BadEscape}
use Rattle.basex.specs.declared.Reply.{Reply}
use Rattle.basex.specs.Kinds.{find_of, ahead, listed, is_full}
use Rattle.basex.specs.Response.{Item, Response, items_bytes, list_bytes, encode, ItemsAllowed, ListAllowed, Published}
use Rattle.basex.specs.Texts.{texts, strings}
use Rattle.basex_response.specs.Items.{next}
use Rattle.basex_response.specs.Reading.{list_field, fields_of, reading}
use Rattle.basex_laws.specs.Moments.{Encoded, Begun, BadTexts, BadId, BadItem, AtItem, AtStatus, BadValue, BadText, ResponseMoments}
use Rattle.basex_laws.proofs.Listed.{OfFields}
use Rattle.basex_laws.proofs.Refusals.{fields-refuse}
use Rattle.basex_laws.proofs.Responses.{list_exact, list_written, ended, fields_are, fields_exact, fields-written, none-refused, reading-known}
use Rattle.basex_laws.proofs.Moments.Ended.{field_more, field_bad, EndAllowed, end_bytes, end-some, BadStatus, BadError, end_more, end-value, end-pair}
use Rattle.basex_laws.proofs.Moments.Items.{item_moments}
use Rattle.basex_laws.proofs.Moments.Order.{Joined, begun-map, begun-joined, stops}
use Rattle.basex_laws.proofs.Moments.Breaking.{breaking}
use Rattle.basex_laws.proofs.Moments.Texts.{Many, many_exact, texts-more, texts-pair, texts-no-value}

module _ (reply : Reply) where
  -- what may stand in the list's place
  abbrev Items : List Item → Type 0
  Items = ListAllowed (listed reply) (is_full reply)

  list-is : (s : List ℕ) (is : List Item) (rest : List ℕ) → (list_field reply s ≡ Got.got is rest) ↔ (Items is × (s ≡ list_bytes reply is ++ rest))
  list-is s is rest = (list_exact reply s is rest, λ h. ap (list_field reply) h.1 ∙ list_written reply is rest h.0)

  -- refused in the list's place, or behind it
  middle : (r : Refusal) (Second Third : List ℕ → Type 0) → ((s : List ℕ) → (list_field reply s ≡ Got.refused r) ↔ Second s)
      → ((ts : List (List ℕ)) (is : List Item) (s : List ℕ) → (ended reply ts is s ≡ Got.refused r) ↔ Third s)
      → (ts : List (List ℕ)) (s : List ℕ) → (go_on (list_field reply s) (ended reply ts) ≡ Got.refused r) ↔ (Second s ⊎ Joined Items (list_bytes reply) (λ is. Third) s)
  middle r Second Third second third ts s = stops Items (list_bytes reply) s (list_field reply s) (ended reply ts) (list-is s) r (Second s) (λ is. Third) (second s) (λ is rest e. third ts is rest)

  -- refused in the strings ahead, or behind them
  whole : (r : Refusal) (First : Type 0) (Then : List ℕ → Type 0) (s : List ℕ) → (texts (ahead reply) s ≡ Got.refused r) ↔ First
      → ((ts : List (List ℕ)) (rest : List ℕ) → (go_on (list_field reply rest) (ended reply ts) ≡ Got.refused r) ↔ Then rest)
      → (fields_of reply s ≡ Got.refused r) ↔ (First ⊎ Joined (Many (ahead reply)) strings (λ ts. Then) s)
  whole r First Then s first then = rw (fields_are reply s) (stops (Many (ahead reply)) strings s (texts (ahead reply) s)
      (λ ts rest. go_on (list_field reply rest) (ended reply ts)) (many_exact (ahead reply) s) r First (λ ts. Then) first (λ ts rest e. then ts rest))

  -- the encodings behind the strings ahead: the list, and the end
  abbrev Behind : List ℕ → Type 0
  Behind = Joined Items (list_bytes reply) (λ is. Encoded (EndAllowed reply) (end_bytes reply))

  behind-some : (y : List ℕ) × Behind y
  behind-some =
      let e = end-some reply in
      (list_bytes reply [] ++ e.0, record { value = []; left = e.0; good = by (listed reply); stands = refl; then = e.1 })
    where
      by : (b : Bool) → ListAllowed b (is_full reply) []
      by true = tt
      by false = refl

  encoded_forth : (e : List ℕ) → Joined (Many (ahead reply)) strings (λ ts. Behind) e → Encoded (Published reply) (encode reply) e
  unfolding encode
  encoded_forth e j =
      let k = j.then in
      let d = k.then in (
        record { texts = j.value; items = k.value; status = d.0.0; error = d.0.1 },
        record { first = j.good; list = k.good; ended = d.1.0; last = d.1.1 },
        ap
            (λ (l : List ℕ). strings j.value ++ l) (ap (λ (l : List ℕ). list_bytes reply k.value ++ l) d.2 ∙ sym k.stands) ∙ sym j.stands,
      )

  encoded_back : (e : List ℕ) → Encoded (Published reply) (encode reply) e → Joined (Many (ahead reply)) strings (λ ts. Behind) e
  unfolding encode
  encoded_back e h =
      let r = h.0 in
      let p = h.1 in
      let end = r.status ∷ strings r.error in
      record {
        value = r.texts;
        left = list_bytes reply r.items ++ end;
        good = p.first;
        stands = sym h.2;
        then = record { value = r.items; left = end; good = p.list; stands = refl; then = ((r.status, r.error), (p.ended, p.last), refl) };
      }

  fields-more : (s : List ℕ) → (fields_of reply s ≡ Got.refused MoreBytes) ↔ Begun (Encoded (Published reply) (encode reply)) s
  fields-more s =
      Iff.trans (whole MoreBytes (Begun (Encoded (Many (ahead reply)) strings) s) (Begun Behind) s (texts-more (ahead reply) s) behind)
      (Iff.trans (begun-joined (Many (ahead reply)) strings (λ ts. Behind) s (λ ts h. behind-some)) (begun-map encoded_forth, begun-map encoded_back))
    where
      behind : (ts : List (List ℕ)) (rest : List ℕ) → (go_on (list_field reply rest) (ended reply ts) ≡ Got.refused MoreBytes) ↔ Begun Behind rest
      behind ts rest =
          Iff.trans (middle MoreBytes (Begun (Encoded Items (list_bytes reply))) (Begun (Encoded (EndAllowed reply) (end_bytes reply))) (field_more reply) (end_more reply) ts rest)
          (begun-joined Items (list_bytes reply) (λ is. Encoded (EndAllowed reply) (end_bytes reply)) rest (λ is h. end-some reply))

  fields-is : (s : List ℕ) (r : Response) (rest : List ℕ) → (fields_of reply s ≡ Got.got r rest) ↔ (Published reply r × (s ≡ encode reply r ++ rest))
  fields-is s r rest = (fields_exact reply s r rest, λ h. ap (fields_of reply) h.1 ∙ fields-written reply r rest h.0)

  -- where another refusal than 1 is met: in the strings ahead, at an item, or behind the list
  data Met (First : Type 0) (AtItems AtEnd : List ℕ → Type 0) (s : List ℕ) : Type 0 where
    first : First → Met First AtItems AtEnd s
    item : (front left : List ℕ) → s ≡ front ++ left → AtItem reply front → AtItems left → Met First AtItems AtEnd s
    end : (front left : List ℕ) → s ≡ front ++ left → AtStatus reply front → AtEnd left → Met First AtItems AtEnd s

  module _ (AtItems AtEnd : List ℕ → Type 0) where
    abbrev Listed : List ℕ → Type 0
    Listed rest = (listed reply ≡ true) × Joined (ItemsAllowed (is_full reply)) items_bytes (λ is. AtItems) rest

    abbrev Later : List ℕ → Type 0
    Later rest = Listed rest ⊎ Joined Items (list_bytes reply) (λ is. AtEnd) rest

    met : (First : Type 0) (s : List ℕ) → (First ⊎ Joined (Many (ahead reply)) strings (λ ts. Later) s) ↔ Met First AtItems AtEnd s
    met First s = (forth, back)
      where
        forth : First ⊎ Joined (Many (ahead reply)) strings (λ ts. Later) s → Met First AtItems AtEnd s
        forth (inl f) = Met.first f
        forth (inr j) = by j.then
          where
            front : (x left : List ℕ) → j.left ≡ x ++ left → s ≡ strings j.value ++ x ++ left
            front x left p = j.stands ∙ ap (λ (l : List ℕ). strings j.value ++ l) p ∙ sym (append_assoc (strings j.value) x left)

            by : Later j.left → Met First AtItems AtEnd s
            by (inl h) =
                let k = h.1 in
                Met.item (strings j.value ++ items_bytes k.value) k.left (front (items_bytes k.value) k.left k.stands)
                (record { texts = j.value; items = k.value; first = j.good; has = h.0; allowed = k.good; is = refl }) k.then
            by (inr k) = Met.end (strings j.value ++ list_bytes reply k.value) k.left (front (list_bytes reply k.value) k.left k.stands)
                (record { texts = j.value; items = k.value; first = j.good; allowed = k.good; is = refl }) k.then

        stand : (front left : List ℕ) (ts : List (List ℕ)) (x : List ℕ) → s ≡ front ++ left → front ≡ strings ts ++ x → s ≡ strings ts ++ (x ++ left)
        stand front left ts x p q = p ∙ ap (λ (l : List ℕ). l ++ left) q ∙ append_assoc (strings ts) x left

        back : Met First AtItems AtEnd s → First ⊎ Joined (Many (ahead reply)) strings (λ ts. Later) s
        back (Met.first f) = inl f
        back (Met.item front left p a b) = inr (record {
          value = a.texts;
          left = items_bytes a.items ++ left;
          good = a.first;
          stands = stand front left a.texts (items_bytes a.items) p a.is;
          then = inl (a.has, record { value = a.items; left = left; good = a.allowed; stands = refl; then = b });
        })
        back (Met.end front left p a b) = inr (record {
          value = a.texts;
          left = list_bytes reply a.items ++ left;
          good = a.first;
          stands = stand front left a.texts (list_bytes reply a.items) p a.is;
          then = inr (record { value = a.items; left = left; good = a.allowed; stands = refl; then = b });
        })

    fields_met : (r : Refusal) → (r ≡ MoreBytes → ⊥) → (First : Type 0) (s : List ℕ) → (texts (ahead reply) s ≡ Got.refused r) ↔ First
        → ((s : List ℕ) → (next (is_full reply) s ≡ Got.refused r) ↔ AtItems s) → ((ts : List (List ℕ)) (is : List Item) (s : List ℕ) → (ended reply ts is s ≡ Got.refused r) ↔ AtEnd s)
        → (fields_of reply s ≡ Got.refused r) ↔ Met First AtItems AtEnd s
    fields_met r other First s texts-are items-are end_is = Iff.trans (whole r First Later s texts-are (middle r Listed AtEnd (field_bad reply r other AtItems items-are) end_is)) (met First s)

  fields_value : (s : List ℕ) → (fields_of reply s ≡ Got.refused ValueNotAllowed) ↔ BadValue reply s
  fields_value s = Iff.trans (fields_met BadId (BadStatus reply) ValueNotAllowed other ⊥ s (texts-no-value (ahead reply) s, λ f. absurd f) (item_moments (is_full reply)).value
      (end-value reply)) (forth, back)
    where
      other : ValueNotAllowed ≡ MoreBytes → ⊥
      other p = let z : ◌≡◌ {A = ℕ} 0 1 = cc in omega arith

      forth : Met ⊥ BadId (BadStatus reply) s → BadValue reply s
      forth (Met.first f) = absurd f
      forth (Met.item front left p a b) = BadValue.id front left p a b
      forth (Met.end front left p a b) = BadValue.status front b.0 b.1 (p ∙ ap (λ (l : List ℕ). front ++ l) b.2) a b.3

      back : BadValue reply s → Met ⊥ BadId (BadStatus reply) s
      back (BadValue.id front left p a b) = Met.item front left p a b
      back (BadValue.status front b rest p a h) = Met.end front (b ∷ rest) p a (b, rest, refl, h)

  fields-pair : (s : List ℕ) → (fields_of reply s ≡ Got.refused BadEscape) ↔ BadText reply s
  fields-pair s = Iff.trans (fields_met (BadItem (is_full reply)) (BadError reply) BadEscape other (BadTexts (ahead reply) s) s (texts-pair (ahead reply) s)
      (item_moments (is_full reply)).pair (end-pair reply)) (forth, back)
    where
      other : BadEscape ≡ MoreBytes → ⊥
      other p = let z : ◌≡◌ {A = ℕ} 0 1 = cc in omega arith

      forth : Met (BadTexts (ahead reply) s) (BadItem (is_full reply)) (BadError reply) s → BadText reply s
      forth (Met.first f) = BadText.first f
      forth (Met.item front left p a b) = BadText.item front left p a b
      forth (Met.end front left p a b) = BadText.error front b.0 b.1 (p ∙ ap (λ (l : List ℕ). front ++ l) b.2) a b.3 b.4

      back : BadText reply s → Met (BadTexts (ahead reply) s) (BadItem (is_full reply)) (BadError reply) s
      back (BadText.first f) = Met.first f
      back (BadText.item front left p a b) = Met.item front left p a b
      back (BadText.error front b left p a h t) = Met.end front (b ∷ left) p a (b, left, refl, h, t)

module _ (kind : ℕ) where
  none-short : reading kind [] ≡ Got.refused MoreBytes
  unfolding reading
  none-short = refl

  unknown-is : (s : List ℕ) → (reading kind s ≡ Got.refused UnknownInstruction) ↔ (0 < length s) × (find_of kind ≡ None)
  unfolding reading
  unknown-is [] = (λ e. let z : ◌≡◌ {A = ℕ} 0 1 = cc in absurd (omega arith), λ h. let k = h.0 in absurd (omega arith))
  unknown-is (b ∷ s) = (forth (find_of kind) refl, λ h. rw h.1 refl)
    where
      never : OfFields UnknownInstruction → ⊥
      never (inl p) = let z : ◌≡◌ {A = ℕ} 0 1 = cc in omega arith
      never (inr (inl p)) = let z : ◌≡◌ {A = ℕ} 0 1 = cc in omega arith
      never (inr (inr p)) = let z : ◌≡◌ {A = ℕ} 0 1 = cc in omega arith

      forth : (f : Option (ℕ × Reply)) → find_of kind ≡ f → reading kind (b ∷ s) ≡ Got.refused UnknownInstruction → (0 < length (b ∷ s)) × (find_of kind ≡ None)
      forth None k e = (omega arith, k)
      forth (Some (n, reply)) k e = absurd (never (fields-refuse reply UnknownInstruction (b ∷ s) (sym (reading-known kind n reply k (b ∷ s)) ∙ e)))

  -- of a known kind, what is known of its fields
  as_fields : (n : ℕ) (reply : Reply) → find_of kind ≡ Some (n, reply) → (r : Refusal) (Bad : List ℕ → Type 0) → ((s : List ℕ) → (fields_of reply s ≡ Got.refused r) ↔ Bad s)
      → (s : List ℕ) → (reading kind s ≡ Got.refused r) ↔ Bad s
  as_fields n reply k r Bad bad s = rw (reading-known kind n reply k s) (bad s)

  pub response_moments : ResponseMoments kind
  response_moments = record {
    none = none-short;
    unknown = unknown-is;
    more = λ n reply k. as_fields n reply k MoreBytes _ (fields-more reply);
    broken = λ n reply k s. rw (reading-known kind n reply k s) (breaking (fields_of reply) (Published reply) (encode reply) (fields-is reply) (fields-more reply) (none-refused reply) s);
    value = λ n reply k. as_fields n reply k ValueNotAllowed (BadValue reply) (fields_value reply);
    pair = λ n reply k. as_fields n reply k BadEscape (BadText reply) (fields-pair reply);
  }
