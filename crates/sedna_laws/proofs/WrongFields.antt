-- A body that is refused with 6 or 8 has a field that is wrong.
use mathlib.Core.Bool.{Bool, true, false}
use mathlib.Core.List.{List, [], ◌∷◌, ◌++◌, append_assoc, append-nil, flat_map}
use mathlib.Core.Path.{◌≡◌, refl, sym, ap, subst, ◌∙◌}
use Prim.Native.Nat.{ℕ, zero, suc, ◌≤◌}
use native.Mathlib.Omega.{arith}
use lib.Dec.{ltb, leb, eqb}
use lib.ListN.{length}
use borrow.Author.Tests.{eqb-false, leb-true}
use Rattle.wire.specs.Bytes.{IsBytes, int}
use Rattle.wire.specs.Fields.{Got, Field, go_on, ◌>>=◌, give, required}
use Rattle.wire.specs.declared.Refusal.{Refusal}
use Rattle.wire.specs.declared.Refusal.TheVariants.{FieldCut, StringFormat, ValueNotAllowed}
use Rattle.sedna.specs.declared.Shape.{Shape}
use Rattle.sedna.specs.declared.Shape.TheVariants as shape
use Rattle.sedna.specs.Allowed.{allowed, version_allowed, format_allowed, class_allowed, type_allowed}
use Rattle.sedna.specs.Encode.{string, pair_bytes, pairs_bytes}
use Rattle.sedna.specs.Message.{Url, Pair, Body}
use Rattle.sedna_read.specs.Fields.{byte_field, int_field, bytes_field, string_field}
use Rattle.sedna_read.specs.Reading.{session_fields, text_fields, statement_fields, coded_fields, pair_field, pairs_field, options_fields, url_field, item_fields, fields_of}
use Rattle.sedna_laws.specs.Pieces.{Piece, pieces_bytes, pair_pieces, Comes, Wrong, WrongField}
use Rattle.wire.proofs.Branches.{apart, either, both}
use Rattle.sedna_laws.proofs.Bytes.{bytes-behind}
use Rattle.sedna_laws.proofs.Fields.{byte_back, int_back, string_back}
use Rattle.sedna_laws.proofs.Pairs.{pair_back, pairs_back}
use Rattle.sedna_laws.proofs.Pieces.{value-comes, value-stands, version-comes, format-comes, class-comes, type-comes, flag_comes}
use Rattle.sedna_laws.proofs.Steps.{Back}

differ : {P : Type 0} {t : Bool} → t ≡ true → t ≡ false → P
differ p q = apart (let z : true ≡ false = sym p ∙ q in cc)

go_assoc : {A B C : Type 0} (g : Got A) (f : A → Field B) (k : B → Field C) → go_on (go_on g f) k ≡ go_on g (λ a l. go_on (f a l) k)
go_assoc (Got.refused r) f k = refl
go_assoc (Got.got a l) f k = refl

-- where a reading is refused, a field was, or what goes on behind it
module _ {A : Type 0} (field : Field A) (bytes : A → List ℕ) (back : Back field bytes) where
  stop : {B P : Type 0} (s : List ℕ) (next : A → Field B) {r : Refusal} → IsBytes s → go_on (field s) next ≡ Got.refused r → (field s ≡ Got.refused r → P)
      → ((a : A) (left : List ℕ) → s ≡ bytes a ++ left → IsBytes left → next a left ≡ Got.refused r → P) → P
  stop {B} {P} s next {r} h e here further = by (field s) refl e
    where
      by : (g : Got A) → field s ≡ g → go_on g next ≡ Got.refused r → P
      by (Got.refused u) q e = let z : u ≡ r = cc in here (q ∙ ap Got.refused z)
      by (Got.got a left) q e = let split : s ≡ bytes a ++ left = back s a left h q in further a left split (bytes-behind (bytes a) left (rw split at h)) e

judge : {B P : Type 0} (t : Bool) (q : Refusal) (s : List ℕ) (next : Field B) {r : Refusal} → go_on (required t q s) (λ _. next) ≡ Got.refused r → (t ≡ false → q ≡ r → P)
    → (t ≡ true → next s ≡ Got.refused r → P) → P
judge true q s next e bad good = good refl e
judge false q s next {r} e bad good = let z : q ≡ r = cc in bad refl z

-- an int, and bytes that are counted, are refused with 5 alone
int_five : (s : List ℕ) {r : Refusal} → int_field s ≡ Got.refused r → r ≡ FieldCut
unfolding int_field
int_five s e = either (ltb (length s) 4) _ _ e (λ _ p. cc) (λ _ p. apart (cc))

bytes_five : (n : ℕ) (s : List ℕ) {r : Refusal} → bytes_field n s ≡ Got.refused r → r ≡ FieldCut
unfolding bytes_field
bytes_five n s e = either (ltb (length s) n) _ _ e (λ _ p. cc) (λ _ p. apart (cc))

module _ (r : Refusal) (not_cut : ¬ (r ≡ FieldCut)) where
  no_byte : {P : Type 0} (s : List ℕ) → byte_field s ≡ Got.refused r → P
  no_byte [] e = let z : FieldCut ≡ r = cc in absurd (not_cut (sym z))
  no_byte (x ∷ s) e = apart (cc)

  no-int : {P : Type 0} (s : List ℕ) → int_field s ≡ Got.refused r → P
  no-int s e = absurd (not_cut (int_five s e))

  string_six : (s : List ℕ) → IsBytes s → string_field s ≡ Got.refused r → (x : ℕ) × (rest : List ℕ) × (s ≡ x ∷ rest) × (¬ (x ≡ 0)) × (StringFormat ≡ r)
  unfolding string_field
  string_six [] h e = let z : FieldCut ≡ r = cc in absurd (not_cut (sym z))
  string_six (x ∷ s) h e =
      judge (eqb x 0) StringFormat s _ e (λ bad z. (x, s, refl, eqb-false x 0 bad, z)) λ _ e₁.
      stop int_field int int_back s _ (λ i. h (suc i)) e₁ (no-int s) λ n left _ _ e₂. absurd (not_cut (bytes_five n left e₂))

  -- a string that is refused, where one comes
  wrong-string : {shape : Shape} {s : List ℕ} (front : List Piece) (left : List ℕ) → IsBytes left → s ≡ pieces_bytes front ++ left → Comes shape front (Piece.text [])
      → string_field left ≡ Got.refused r → WrongField shape s r
  wrong-string {shape} front left h split comes e =
      let w = string_six left h e in
      let six : Wrong shape front (Piece.text []) (w.0 ∷ w.1) StringFormat = Wrong.bad_format [] w.0 w.1 w.3 in
      record { front = front; next = Piece.text []; rest = left; comes = comes; split = split; wrong = rw w.2 (subst (Wrong shape front (Piece.text []) (w.0 ∷ w.1)) w.4 six) }

  -- a byte, or a version, that no body has where one comes
  wrong_byte : {shape : Shape} {s : List ℕ} (front : List Piece) (y x : ℕ) (left : List ℕ) → s ≡ pieces_bytes front ++ (x ∷ left) → Comes shape front (Piece.byte y)
      → ¬ Comes shape front (Piece.byte x) → ValueNotAllowed ≡ r
      → WrongField shape s r
  wrong_byte {shape} front y x left split comes none z =
      record { front = front; next = Piece.byte y; rest = x ∷ left; comes = comes; split = split; wrong = subst (Wrong shape front (Piece.byte y) (x ∷ left)) z (Wrong.bad_byte y x left none) }

  -- pairs, then an id, then a string that is refused
  pairs-wrong : (n : ℕ) (s : List ℕ) → IsBytes s → pairs_field n s ≡ Got.refused r
      → (ps : List Pair) × (id : ℕ) × (left : List ℕ) × (s ≡ pairs_bytes ps ++ (int id ++ left)) × IsBytes left × (string_field left ≡ Got.refused r)
  unfolding pairs_field pair_field flat_map
  pairs-wrong zero s h e = apart (cc)
  pairs-wrong (suc n) [] h e = apart (cc)
  pairs-wrong (suc n) (x ∷ s) h e =
      stop pair_field pair_bytes pair_back (x ∷ s) _ h e
      (λ here.
      stop int_field int int_back (x ∷ s) _ h here (no-int (x ∷ s)) λ id left split hl e₁.
      stop string_field string string_back left _ hl e₁ (λ bad. ([], id, left, split, hl, bad)) λ t _ _ _ e₂. apart (cc))
      λ p left split hl e₁.
      stop (pairs_field n) pairs_bytes (pairs_back n) left _ hl e₁
      (λ later. let w = pairs-wrong n left hl later in
      (p ∷ w.0, w.1, w.2, split ∙ ap (λ (l : List ℕ). pair_bytes p ++ l) w.3 ∙ sym (append_assoc (pair_bytes p) (pairs_bytes w.0) _), w.4, w.5))
      λ qs _ _ _ e₂. apart (cc)

  -- a URL or a part that is refused, behind the flag
  part-wrong : (class kind : ℕ) → allowed (Body.item class kind Url.absent []) ≡ true → (flag : ℕ) → flag ≤ 1 → (s left : List ℕ) → s ≡ class ∷ kind ∷ flag ∷ left → IsBytes left
      → go_on (url_field flag left) (λ url. ◌>>=◌ string_field (λ part. give (Body.item class kind url part))) ≡ Got.refused r → WrongField shape.Item s r
  unfolding url_field flat_map allowed
  part-wrong class kind ok zero l s left split h e =
      stop string_field string string_back left _ h e
      (wrong-string (Piece.byte class ∷ Piece.byte kind ∷ Piece.byte 0 ∷ []) left h split
      (record { body = Body.item class kind Url.absent []; shaped = refl; values = ok; behind = []; split = refl })) λ part _ _ _ e₁.
      apart (cc)
  part-wrong class kind ok (suc n) l s left split h e =
      let one : suc n ≡ 1 = omega arith in
      let split' : s ≡ class ∷ kind ∷ 1 ∷ left = rw one at split in
      stop string_field string string_back left _ h (sym (go_assoc (string_field left) _ _) ∙ e)
      (wrong-string (Piece.byte class ∷ Piece.byte kind ∷ Piece.byte 1 ∷ []) left h split'
      (record { body = Body.item class kind (Url.present []) []; shaped = refl; values = ok; behind = Piece.text [] ∷ []; split = refl }))
      λ url left' p h' e₁.
      stop string_field string string_back left' _ h' e₁
      (wrong-string (Piece.byte class ∷ Piece.byte kind ∷ Piece.byte 1 ∷ Piece.text url ∷ []) left' h' (rw (split', p, append-nil (string url)))
      (record { body = Body.item class kind (Url.present url) []; shaped = refl; values = ok; behind = []; split = refl })) λ part _ _ _ e₂.
      apart (cc)

  pub fields-wrong : (shape : Shape) (s : List ℕ) → IsBytes s → fields_of shape s ≡ Got.refused r → WrongField shape s r
  unfolding session_fields text_fields statement_fields coded_fields options_fields item_fields allowed flat_map version_allowed format_allowed class_allowed type_allowed
  fields-wrong shape.Empty s h e = apart (cc)
  fields-wrong shape.Session s h e =
      stop byte_field (λ x. x ∷ []) byte_back s _ h e (no_byte s) λ major s₁ p₁ h₁ e₁.
      stop byte_field (λ x. x ∷ []) byte_back s₁ _ h₁ e₁ (no_byte s₁) λ minor s₂ p₂ h₂ e₂.
      let split : s ≡ major ∷ minor ∷ s₂ = p₁ ∙ ap (λ (l : List ℕ). major ∷ l) p₂ in
      judge (version_allowed major minor) ValueNotAllowed s₂ _ e₂
      (λ bad z.
      record {
        front = [];
        next = Piece.version 1 0;
        rest = major ∷ minor ∷ s₂;
        comes = record { body = Body.session 1 0 [] []; shaped = refl; values = refl; behind = Piece.text [] ∷ Piece.text [] ∷ []; split = refl };
        split = split;
        wrong = subst (Wrong shape.Session [] (Piece.version 1 0) (major ∷ minor ∷ s₂)) z (Wrong.bad_version 1 0 major minor s₂ (λ c. differ (version-comes major minor c) bad));
      }) λ ok e₃.
      stop string_field string string_back s₂ _ h₂ e₃
      (wrong-string (Piece.version major minor ∷ []) s₂ h₂ split
      (record { body = Body.session major minor [] []; shaped = refl; values = ok; behind = Piece.text [] ∷ []; split = refl })) λ user s₃ p₃ h₃ e₄.
      stop string_field string string_back s₃ _ h₃ e₄
      (wrong-string (Piece.version major minor ∷ Piece.text user ∷ []) s₃ h₃ (rw (split, p₃, append-nil (string user)))
      (record { body = Body.session major minor user []; shaped = refl; values = ok; behind = []; split = refl })) λ database s₄ p₄ h₄ e₅.
      apart (cc)
  fields-wrong shape.Text s h e =
      stop string_field string string_back s _ h e (wrong-string [] s h refl (record { body = Body.text []; shaped = refl; values = refl; behind = []; split = refl })) λ t left _ _ e₁.
      apart (cc)
  fields-wrong shape.Statement s h e =
      stop byte_field (λ x. x ∷ []) byte_back s _ h e (no_byte s) λ format s₁ p₁ h₁ e₁.
      judge (format_allowed format) ValueNotAllowed s₁ _ e₁
      (λ bad z. wrong_byte [] 0 format s₁ p₁ (record { body = Body.statement 0 []; shaped = refl; values = refl; behind = Piece.text [] ∷ []; split = refl })
      (λ c. differ (format-comes format c) bad) z) λ ok e₂.
      stop string_field string string_back s₁ _ h₁ e₂
      (wrong-string (Piece.byte format ∷ []) s₁ h₁ p₁ (record { body = Body.statement format []; shaped = refl; values = ok; behind = []; split = refl })) λ t left _ _ e₃.
      apart (cc)
  fields-wrong shape.Coded s h e =
      stop int_field int int_back s _ h e (no-int s) λ code s₁ p₁ h₁ e₁.
      stop string_field string string_back s₁ _ h₁ e₁
      (wrong-string (Piece.number code ∷ []) s₁ h₁ (rw (append-nil (int code)) p₁)
      (record { body = Body.coded code []; shaped = refl; values = refl; behind = []; split = refl })) λ t left _ _ e₃.
      apart (cc)
  fields-wrong shape.Options s h e =
      stop (pairs_field (length s)) pairs_bytes (pairs_back (length s)) s _ h e
      (λ bad. let w = pairs-wrong (length s) s h bad in wrong-string (pair_pieces w.0 ++ Piece.number w.1 ∷ []) w.2 w.4 (w.3 ∙ value-stands w.0 w.1 w.2)
      (value-comes w.0 w.1) w.5) λ ps left _ _ e₁.
      apart (cc)
  fields-wrong shape.Item s h e =
      stop byte_field (λ x. x ∷ []) byte_back s _ h e (no_byte s) λ class s₁ p₁ h₁ e₁.
      judge (class_allowed class) ValueNotAllowed s₁ _ e₁
      (λ bad z. wrong_byte [] 1 class s₁ p₁
      (record { body = Body.item 1 0 Url.absent []; shaped = refl; values = refl; behind = Piece.byte 0 ∷ Piece.byte 0 ∷ Piece.text [] ∷ []; split = refl })
      (λ c. differ (class-comes class c) bad) z) λ ok e₂.
      stop byte_field (λ x. x ∷ []) byte_back s₁ _ h₁ e₂ (no_byte s₁) λ kind s₂ p₂ h₂ e₃.
      judge (type_allowed kind) ValueNotAllowed s₂ _ e₃
      (λ bad z.
      wrong_byte (Piece.byte class ∷ []) 0 kind s₂ (rw (p₁, p₂))
      (record {
        body = Body.item class 0 Url.absent [];
        shaped = refl;
        values = (both (class_allowed class) true).1 (ok, refl);
        behind = Piece.byte 0 ∷ Piece.text [] ∷ [];
        split = refl;
      })
      (λ c. differ (type-comes class kind c) bad) z) λ ok' e₄.
      stop byte_field (λ x. x ∷ []) byte_back s₂ _ h₂ e₄ (no_byte s₂) λ flag s₃ p₃ h₃ e₅.
      judge (leb flag 1) ValueNotAllowed s₃ _ e₅
      (λ bad z.
      wrong_byte (Piece.byte class ∷ Piece.byte kind ∷ []) 0 flag s₃ (rw (p₁, p₂, p₃))
      (record { body = Body.item class kind Url.absent []; shaped = refl; values = (both (class_allowed class) (type_allowed kind)).1 (ok, ok'); behind = Piece.text [] ∷ []; split = refl })
      (λ c. differ (flag_comes class kind flag c) bad) z) λ small e₆.
      part-wrong class kind ((both (class_allowed class) (type_allowed kind)).1 (ok, ok')) flag (leb-true flag 1 small) s s₃ (rw (p₁, p₂, p₃)) h₃ e₆
