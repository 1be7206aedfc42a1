-- Responses: reading takes exactly what is published.
use Rattle.std.specs.Prelude.{Option, Some, None}
use mathlib.Core.Path.{◌≡◌, refl, sym, ap, subst, ◌∙◌}
use mathlib.Core.List.{List, [], ◌∷◌, ◌++◌, append_assoc}
use mathlib.Core.Bool.{Bool, true, false}
use mathlib.Core.Logic.{◌↔◌}
use Prim.Native.Nat.{ℕ}
use native.Mathlib.Omega.{arith}
use lib.ListN.{length}
use Rattle.wire.specs.Bytes.{if}
use Rattle.wire.specs.Fields.{Got, Field, go_on, give, required}
use Rattle.wire.specs.declared.Refusal.TheVariants.{ValueNotAllowed, MoreBytes, UnknownInstruction}
use Rattle.wire.proofs.Fields.{split, held}
use Rattle.basex_string.specs.Scan.{scan}
use Rattle.basex.specs.declared.Reply.{Reply}
use Rattle.basex.specs.declared.Reply.TheVariants.{Command, Create, Query, Results, Full}
use Rattle.basex.specs.Kinds.{find_of, ahead, behind, listed, is_full, status_allowed}
use Rattle.basex.specs.Response.{Item, Response, items_bytes, list_bytes, encode, ListAllowed, Published, Stands}
use Rattle.basex.specs.Texts.{strings, texts}
use Rattle.basex.proofs.Texts.{texts_exact, texts-written}
use Rattle.basex_response.specs.Items.{items, list}
use Rattle.basex_response.specs.Reading.{byte_field, list_field, fields_of, reading}
use Rattle.basex_laws.proofs.Listed.{same, items_exact, items-written, items-few}

module _ (reply : Reply) where
  pub list_exact : (s : List ℕ) (is : List Item) (rest : List ℕ) → list_field reply s ≡ Got.got is rest → ListAllowed (listed reply) (is_full reply) is × (s ≡ list_bytes reply is ++ rest)
  list_exact s is rest e = by (listed reply) refl e
    where
      by : (b : Bool) → listed reply ≡ b → if b (list (is_full reply) s) (Got.got [] s) ≡ Got.got is rest → ListAllowed (listed reply) (is_full reply) is × (s ≡ list_bytes reply is ++ rest)
      by true p e = let x = items_exact (is_full reply) (length s) s is rest e in rw p (x.0, x.1 ∙ sym (append_assoc (items_bytes is) (0 ∷ []) rest))
      by false p e = let g = same e in rw p (sym g.0, g.1)

  pub list_written : (is : List Item) (rest : List ℕ) → ListAllowed (listed reply) (is_full reply) is → list_field reply (list_bytes reply is ++ rest) ≡ Got.got is rest
  list_written is rest a = by (listed reply) a
    where
      by : (b : Bool) → ListAllowed b (is_full reply) is → if b (list (is_full reply) (if b (items_bytes is ++ (0 ∷ [])) [] ++ rest))
          (Got.got [] (if b (items_bytes is ++ (0 ∷ [])) [] ++ rest)) ≡ Got.got is rest
      by true a =
          let s = append_assoc (items_bytes is) (0 ∷ []) rest in
          ap (list (is_full reply)) s ∙ items-written (is_full reply) (length (items_bytes is ++ (0 ∷ rest))) is rest a (items-few (is_full reply) is rest)
      by false a = ap (λ (js : List Item). Got.got js rest) (sym a)

  -- what is behind the list
  abbrev pub ended : List (List ℕ) → List Item → Field Response
  ended ts is s = go_on (byte_field s) (λ status s1. go_on (required (status_allowed status) ValueNotAllowed s1)
      (λ _ s2. go_on (texts (behind reply status) s2) (λ es. give (record { texts = ts; items = is; status = status; error = es }))))

  pub fields_are : (s : List ℕ) → fields_of reply s ≡ go_on (texts (ahead reply) s) (λ ts s1. go_on (list_field reply s1) (ended ts))
  unfolding fields_of
  fields_are s = refl

  status_exact : (s : List ℕ) (status : ℕ) (rest : List ℕ) → byte_field s ≡ Got.got status rest → s ≡ status ∷ rest
  status_exact [] status rest e = let z : ◌≡◌ {A = ℕ} 0 1 = cc in absurd (omega arith)
  status_exact (b ∷ s) status rest e = let g = same e in rw (g.0, g.1) refl

  -- what was read is what is published, and its bytes
  pub fields_exact : (s : List ℕ) (r : Response) (rest : List ℕ) → fields_of reply s ≡ Got.got r rest → Published reply r × (s ≡ encode reply r ++ rest)
  unfolding encode
  fields_exact s r rest e =
      let a = split (texts (ahead reply) s) (λ ts s1. go_on (list_field reply s1) (ended ts)) r rest (sym (fields_are s) ∙ e) in
      let ts = a.value in
      let b = split (list_field reply a.behind) (ended ts) r rest a.goes in
      let is = b.value in
      let c = split (byte_field b.behind) (λ status s1. go_on (required (status_allowed status) ValueNotAllowed s1)
      (λ _ s2. go_on (texts (behind reply status) s2) (λ es. give (record { texts = ts; items = is; status = status; error = es })))) r rest b.goes in
      let status = c.value in
      let d = held (status_allowed status) ValueNotAllowed c.behind
      (λ s2. go_on (texts (behind reply status) s2) (λ es. give (record { texts = ts; items = is; status = status; error = es }))) r rest c.goes in
      let f = split (texts (behind reply status) c.behind) (λ es. give (record { texts = ts; items = is; status = status; error = es })) r rest d.1 in
      let g = same f.goes in
      let first = texts_exact (ahead reply) s ts a.behind a.got in
      let middle = list_exact a.behind is b.behind b.got in
      let byte = status_exact b.behind status c.behind c.got in
      let last = texts_exact (behind reply status) c.behind f.value f.behind f.got in
      let whole = joined s ts is status f.value a.behind b.behind c.behind first.1 middle.1 byte (last.1 ∙ ap (λ (m : List ℕ). strings f.value ++ m) g.1) in
      subst (λ (q : Response). Published reply q × (s ≡ encode reply q ++ rest)) g.0 (record { first = first.0; list = middle.0; ended = d.0; last = last.0 }, whole)
    where
      joined : (s : List ℕ) (ts : List (List ℕ)) (is : List Item) (status : ℕ) (es : List (List ℕ)) (s1 s2 s3 : List ℕ) → s ≡ strings ts ++ s1 → s1 ≡ list_bytes reply is ++ s2
          → s2 ≡ status ∷ s3 → s3 ≡ strings es ++ rest
          → s ≡ strings ts ++ (list_bytes reply is ++ (status ∷ strings es)) ++ rest
      joined s ts is status es s1 s2 s3 p q u v = p ∙ ap (λ (m : List ℕ). strings ts ++ m)
          (q ∙ ap (λ (m : List ℕ). list_bytes reply is ++ m) (u ∙ ap (λ (m : List ℕ). status ∷ m) v) ∙ sym (append_assoc (list_bytes reply is) (status ∷ strings es) rest))
          ∙ sym (append_assoc (strings ts) (list_bytes reply is ++ (status ∷ strings es)) rest)

  pub fields-written : (r : Response) (rest : List ℕ) → Published reply r → fields_of reply (encode reply r ++ rest) ≡ Got.got r rest
  unfolding encode
  fields-written r rest p =
      let tail = r.status ∷ (strings r.error ++ rest) in
      let s1 = list_bytes reply r.items ++ tail in
      let w : encode reply r ++ rest ≡ strings r.texts ++ s1 = append_assoc (strings r.texts) (list_bytes reply r.items ++ (r.status ∷ strings r.error)) rest
      ∙ ap (λ (m : List ℕ). strings r.texts ++ m) (append_assoc (list_bytes reply r.items) (r.status ∷ strings r.error) rest) in
      let a : texts (ahead reply) (strings r.texts ++ s1) ≡ Got.got r.texts s1 = ap (λ (n : ℕ). texts n (strings r.texts ++ s1)) (sym p.first) ∙ texts-written r.texts s1 in
      let b = list_written r.items tail p.list in
      let c : texts (behind reply r.status) (strings r.error ++ rest) ≡ Got.got r.error rest = ap (λ (n : ℕ). texts n (strings r.error ++ rest)) (sym p.last)
      ∙ texts-written r.error rest in
      ap (fields_of reply) w ∙ fields_are (strings r.texts ++ s1) ∙ rw a (rw b (rw p.ended (rw c refl)))

-- no bytes: 1, whatever the request
pub none-refused : (reply : Reply) → fields_of reply [] ≡ Got.refused MoreBytes
unfolding fields_of texts scan items
none-refused Command = refl
none-refused Create = refl
none-refused Query = refl
none-refused Results = refl
none-refused Full = refl

pub reading-known : (kind n : ℕ) (reply : Reply) → find_of kind ≡ Some (n, reply) → (s : List ℕ) → reading kind s ≡ fields_of reply s
unfolding reading
reading-known kind n reply k [] = sym (none-refused reply)
reading-known kind n reply k (b ∷ s) = rw k refl

-- "Reading accepts exactly": r is read, and rest left, exactly where r is a response to the request and its encoding stands in front
pub response_exact : (kind : ℕ) (s : List ℕ) (r : Response) (rest : List ℕ) → (reading kind s ≡ Got.got r rest) ↔ Stands kind r s rest
unfolding reading
response_exact kind s r rest = (forth, back)
  where
    found : (f : Option (ℕ × Reply)) → find_of kind ≡ f → reading kind s ≡ Got.got r rest → Stands kind r s rest
    found None k e = none s e
      where
        none : (s : List ℕ) → reading kind s ≡ Got.got r rest → Stands kind r s rest
        none [] e = let z : ◌≡◌ {A = ℕ} 0 1 = cc in absurd (omega arith)
        none (b ∷ s) e = let d : Got.refused UnknownInstruction ≡ Got.got r rest = rw k at e in let z : ◌≡◌ {A = ℕ} 0 1 = cc in absurd (omega arith)
    found (Some (n, reply)) k e =
        let x = fields_exact reply s r rest (sym (reading-known kind n reply k s) ∙ e) in
        record { strings = n; reply = reply; known = k; published = x.0; encoded = x.1 }

    forth : reading kind s ≡ Got.got r rest → Stands kind r s rest
    forth = found (find_of kind) refl

    back : Stands kind r s rest → reading kind s ≡ Got.got r rest
    back h = reading-known kind h.strings h.reply h.known s ∙ ap (fields_of h.reply) h.encoded ∙ fields-written h.reply r rest h.published

-- one response in front of any bytes, and one end of it
pub one_response : (kind : ℕ) (s : List ℕ) (r q : Response) (rest more : List ℕ) → Stands kind r s rest → Stands kind q s more → (r ≡ q) × (rest ≡ more)
one_response kind s r q rest more a b = same (sym ((response_exact kind s r rest).1 a) ∙ (response_exact kind s q more).1 b)
