-- A field that is wrong is refused, with 6 or 8.
use mathlib.Core.Bool.{Bool, true, false}
use mathlib.Core.List.{List, [], ◌∷◌, ◌++◌, append_assoc, append-nil, flat_map}
use mathlib.Core.Path.{◌≡◌, refl, sym, ap, subst, ◌∙◌}
use Prim.Native.Nat.{ℕ, zero, suc, ◌≤◌}
use native.Mathlib.Omega.{arith}
use lib.Dec.{leb}
use lib.ListN.{length, length-append}
use borrow.Author.Tests.{ne_eqb, lt-leb}
use Rattle.wire.specs.Bytes.{IsBytes, int}
use Rattle.wire.specs.Fields.{Got}
use Rattle.wire.specs.declared.Refusal.{Refusal}
use Rattle.wire.specs.declared.Refusal.TheVariants.{ValueNotAllowed}
use Rattle.sedna.specs.declared.Shape.{Shape}
use Rattle.sedna.specs.declared.Shape.TheVariants as shape
use Rattle.sedna.specs.Allowed.{allowed, version_allowed, format_allowed, class_allowed, type_allowed}
use Rattle.sedna.specs.Encode.{string, pair_bytes}
use Rattle.sedna.specs.Message.{Url, Pair, Body}
use Rattle.sedna_read.specs.Fields.{string_field}
use Rattle.sedna_read.specs.Reading.{session_fields, text_fields, statement_fields, coded_fields, pair_field, pairs_field, options_fields, url_field, item_fields, fields_of}
use Rattle.sedna_laws.specs.Pieces.{Piece, pieces_bytes, pair_pieces, url_pieces, pieces_of, Comes, Wrong, WrongField}
use Rattle.wire.proofs.Branches.{apart, both}
use Rattle.sedna_laws.proofs.Bytes.{bytes-behind}
use Rattle.sedna_laws.proofs.Fields.{int_forth, string_forth}
use Rattle.sedna_laws.proofs.Pairs.{pair_forth}
use Rattle.sedna_laws.proofs.Pieces.{View, viewed}

fails : (t : Bool) → ¬ (t ≡ true) → t ≡ false
fails true n = absurd (n refl)
fails false n = refl

-- no field comes behind the last
no_more : {P : Type 0} (fs : List Piece) (p : Piece) (behind : List Piece) → [] ≡ fs ++ p ∷ behind → P
no_more [] p behind e = apart (cc)
no_more (q ∷ fs) p behind e = apart (cc)

module _ {shape : Shape} {front : List Piece} where
  at-string : {p : Piece} {rest : List ℕ} {r : Refusal} → Wrong shape front p rest r → (t : List ℕ) → p ≡ Piece.text t → string_field rest ≡ Got.refused r
  unfolding string_field
  at-string (Wrong.bad_format t x rest n) u z = rw (ne_eqb x 0 n)
  at-string (Wrong.bad_byte y x rest none) u z = apart (cc)
  at-string (Wrong.bad_version u v major minor rest none) t z = apart (cc)

  at-number : {P : Type 0} {p : Piece} {rest : List ℕ} {r : Refusal} → Wrong shape front p rest r → (n : ℕ) → p ≡ Piece.number n → P
  at-number (Wrong.bad_format t x rest n) m z = apart (cc)
  at-number (Wrong.bad_byte y x rest none) m z = apart (cc)
  at-number (Wrong.bad_version u v major minor rest none) m z = apart (cc)

  at_byte : {p : Piece} {rest : List ℕ} {r : Refusal} → Wrong shape front p rest r → (y : ℕ) → p ≡ Piece.byte y
      → (x : ℕ) × (left : List ℕ) × (rest ≡ x ∷ left) × (¬ Comes shape front (Piece.byte x)) × (ValueNotAllowed ≡ r)
  at_byte (Wrong.bad_format t x rest n) m z = apart (cc)
  at_byte (Wrong.bad_byte y x rest none) m z = (x, rest, refl, none, refl)
  at_byte (Wrong.bad_version u v major minor rest none) m z = apart (cc)

  at-version : {p : Piece} {rest : List ℕ} {r : Refusal} → Wrong shape front p rest r → (a b : ℕ) → p ≡ Piece.version a b
      → (major : ℕ) × (minor : ℕ) × (left : List ℕ) × (rest ≡ major ∷ minor ∷ left) × (¬ Comes shape front (Piece.version major minor)) × (ValueNotAllowed ≡ r)
  at-version (Wrong.bad_format t x rest n) a b z = apart (cc)
  at-version (Wrong.bad_byte y x rest none) a b z = apart (cc)
  at-version (Wrong.bad_version u v major minor rest none) a b z = (major, minor, rest, refl, none, refl)

module _ (r : Refusal) where
  text-stops : (t : List ℕ) (front : List Piece) (next : Piece) (behind : List Piece) (rest : List ℕ) → pieces_of (Body.text t) ≡ front ++ next ∷ behind → Wrong shape.Text front next rest r
      → text_fields (pieces_bytes front ++ rest) ≡ Got.refused r
  unfolding text_fields flat_map
  text-stops t [] next behind rest e w = rw (at-string w t (let z : next ≡ Piece.text t = cc in z))
  text-stops t (q ∷ fs) next behind rest e w = no_more fs next behind (let z : [] ≡ fs ++ next ∷ behind = cc in z)

  statement-stops : (format : ℕ) (t : List ℕ) → format_allowed format ≡ true → (front : List Piece) (next : Piece) (behind : List Piece) (rest : List ℕ)
      → pieces_of (Body.statement format t) ≡ front ++ next ∷ behind
      → Wrong shape.Statement front next rest r → statement_fields (pieces_bytes front ++ rest) ≡ Got.refused r
  unfolding statement_fields flat_map allowed
  statement-stops format t ok [] next behind rest e w =
      let b = at_byte w format (let z : next ≡ Piece.byte format = cc in z) in
      let bad : format_allowed b.0 ≡ false = fails (format_allowed b.0)
      (λ good. b.3 (record { body = Body.statement b.0 t; shaped = refl; values = good; behind = Piece.text t ∷ []; split = refl })) in
      rw (b.2, bad, b.4)
  statement-stops format t ok (q ∷ []) next behind rest e w =
      let q' : q ≡ Piece.byte format = cc in
      rw (q', ok, at-string w t (let z : next ≡ Piece.text t = cc in z))
  statement-stops format t ok (q ∷ q' ∷ fs) next behind rest e w = no_more fs next behind (let z : [] ≡ fs ++ next ∷ behind = cc in z)

  coded-stops : (code : ℕ) (t : List ℕ) (front : List Piece) (next : Piece) (behind : List Piece) (rest : List ℕ) → IsBytes (pieces_bytes front ++ rest)
      → pieces_of (Body.coded code t) ≡ front ++ next ∷ behind
      → Wrong shape.Coded front next rest r → coded_fields (pieces_bytes front ++ rest) ≡ Got.refused r
  unfolding coded_fields flat_map
  coded-stops code t [] next behind rest h e w = at-number w code (let z : next ≡ Piece.number code = cc in z)
  coded-stops code t (q ∷ []) next behind rest h e w =
      let q' : q ≡ Piece.number code = cc in
      rw (q', append-nil (int code), int_forth code rest (rw (q', append-nil (int code)) at h), at-string w t (let z : next ≡ Piece.text t = cc in z))
  coded-stops code t (q ∷ q' ∷ fs) next behind rest h e w = no_more fs next behind (let z : [] ≡ fs ++ next ∷ behind = cc in z)

  session-stops : (major minor : ℕ) (user database : List ℕ) → version_allowed major minor ≡ true → (front : List Piece) (next : Piece) (behind : List Piece) (rest : List ℕ)
      → IsBytes (pieces_bytes front ++ rest)
      → pieces_of (Body.session major minor user database) ≡ front ++ next ∷ behind → Wrong shape.Session front next rest r → session_fields (pieces_bytes front ++ rest) ≡ Got.refused r
  unfolding session_fields flat_map allowed
  session-stops major minor user database ok [] next behind rest h e w =
      let b = at-version w major minor (let z : next ≡ Piece.version major minor = cc in z) in
      let bad : version_allowed b.0 b.1 ≡ false = fails (version_allowed b.0 b.1)
      (λ good. b.4 (record {
        body = Body.session b.0 b.1 user database;
        shaped = refl;
        values = good;
        behind = Piece.text user ∷ Piece.text database ∷ [];
        split = refl;
      })) in
      rw (b.3, bad, b.5)
  session-stops major minor user database ok (q ∷ []) next behind rest h e w =
      let q' : q ≡ Piece.version major minor = cc in
      rw (q', ok, at-string w user (let z : next ≡ Piece.text user = cc in z))
  session-stops major minor user database ok (q ∷ p ∷ []) next behind rest h e w =
      let q' : q ≡ Piece.version major minor = cc in
      let p' : p ≡ Piece.text user = cc in
      let all : pieces_bytes (q ∷ p ∷ []) ++ rest ≡ major ∷ minor ∷ (string user ++ rest) = rw (q', p', append-nil (string user)) in
      ap session_fields all ∙ rw (
        ok,
        string_forth user rest (bytes-behind (major ∷ minor ∷ []) (string user ++ rest) (subst IsBytes all h)),
        at-string w database
            (let z : next ≡ Piece.text database = cc in z),
      )
  session-stops major minor user database ok (q ∷ q' ∷ q'' ∷ fs) next behind rest h e w = no_more fs next behind (let z : [] ≡ fs ++ next ∷ behind = cc in z)

  -- no item has that flag
  flag_fails : (class kind : ℕ) (part : List ℕ) → allowed (Body.item class kind Url.absent part) ≡ true → (x : ℕ)
      → ¬ Comes shape.Item (Piece.byte class ∷ Piece.byte kind ∷ []) (Piece.byte x) → leb x 1 ≡ false
  unfolding allowed
  flag_fails class kind part ok zero none = absurd (none (record { body = Body.item class kind Url.absent part; shaped = refl; values = ok; behind = Piece.text part ∷ []; split = refl }))
  flag_fails class kind part ok (suc zero) none = absurd
      (none (record { body = Body.item class kind (Url.present []) part; shaped = refl; values = ok; behind = Piece.text [] ∷ Piece.text part ∷ []; split = refl }))
  flag_fails class kind part ok (suc (suc x)) none = lt-leb (suc (suc x)) 1 (omega arith)

  flag_piece : (url : Url) (part : List ℕ) (next : Piece) (behind : List Piece) → url_pieces url part ≡ next ∷ behind → (f : ℕ) × (next ≡ Piece.byte f)
  flag_piece Url.absent part next behind e = (0, let z : next ≡ Piece.byte 0 = cc in z)
  flag_piece (Url.present url) part next behind e = (1, let z : next ≡ Piece.byte 1 = cc in z)

  flag_stops : (class kind : ℕ) (url : Url) (part : List ℕ) → allowed (Body.item class kind Url.absent part) ≡ true
      → (fs : List Piece) (next : Piece) (behind : List Piece) (rest : List ℕ) → IsBytes (pieces_bytes fs ++ rest)
      → url_pieces url part ≡ fs ++ next ∷ behind → Wrong shape.Item (Piece.byte class ∷ Piece.byte kind ∷ fs) next rest r → item_fields (class ∷ kind ∷ (pieces_bytes fs ++ rest)) ≡ Got.refused r
  unfolding item_fields flat_map url_field allowed
  flag_stops class kind url part ok [] next behind rest h e w =
      let good = (both (class_allowed class) (type_allowed kind)).0 ok in
      let f = flag_piece url part next behind e in
      let b = at_byte w f.0 f.1 in
      rw (good.0, good.1, b.2, flag_fails class kind part ok b.0 b.3, b.4)
  flag_stops class kind Url.absent part ok (q ∷ []) next behind rest h e w =
      let good = (both (class_allowed class) (type_allowed kind)).0 ok in
      let q' : q ≡ Piece.byte 0 = cc in
      rw (good.0, good.1, q', at-string w part (let z : next ≡ Piece.text part = cc in z))
  flag_stops class kind Url.absent part ok (q ∷ p ∷ fs) next behind rest h e w = no_more fs next behind (let z : [] ≡ fs ++ next ∷ behind = cc in z)
  flag_stops class kind (Url.present url) part ok (q ∷ []) next behind rest h e w =
      let good = (both (class_allowed class) (type_allowed kind)).0 ok in
      let q' : q ≡ Piece.byte 1 = cc in
      rw (good.0, good.1, q', at-string w url (let z : next ≡ Piece.text url = cc in z))
  flag_stops class kind (Url.present url) part ok (q ∷ p ∷ []) next behind rest h e w =
      let good = (both (class_allowed class) (type_allowed kind)).0 ok in
      let q' : q ≡ Piece.byte 1 = cc in
      let p' : p ≡ Piece.text url = cc in
      let all : pieces_bytes (q ∷ p ∷ []) ++ rest ≡ 1 ∷ (string url ++ rest) = rw (q', p', append-nil (string url)) in
      ap (λ (l : List ℕ). item_fields (class ∷ kind ∷ l)) all
      ∙ rw (good.0, good.1, string_forth url rest (bytes-behind (1 ∷ []) (string url ++ rest) (subst IsBytes all h)), at-string w part (let z : next ≡ Piece.text part = cc in z))
  flag_stops class kind (Url.present url) part ok (q ∷ p ∷ o ∷ fs) next behind rest h e w = no_more fs next behind (let z : [] ≡ fs ++ next ∷ behind = cc in z)

  item-stops : (class kind : ℕ) (url : Url) (part : List ℕ) → allowed (Body.item class kind url part) ≡ true
      → (front : List Piece) (next : Piece) (behind : List Piece) (rest : List ℕ) → IsBytes (pieces_bytes front ++ rest)
      → pieces_of (Body.item class kind url part) ≡ front ++ next ∷ behind → Wrong shape.Item front next rest r → item_fields (pieces_bytes front ++ rest) ≡ Got.refused r
  unfolding item_fields flat_map allowed
  item-stops class kind url part ok [] next behind rest h e w =
      let b = at_byte w class (let z : next ≡ Piece.byte class = cc in z) in
      let good = (both (class_allowed class) (type_allowed kind)).0 ok in
      let bad : class_allowed b.0 ≡ false =
      fails (class_allowed b.0)
      (λ fine. b.3 (record {
        body = Body.item b.0 kind url part;
        shaped = refl;
        values = (both (class_allowed b.0) (type_allowed kind)).1 (fine, good.1);
        behind = Piece.byte kind ∷ url_pieces url part;
        split = refl;
      })) in
      rw (b.2, bad, b.4)
  item-stops class kind url part ok (q ∷ []) next behind rest h e w =
      let q' : q ≡ Piece.byte class = cc in
      let b = at_byte w kind (let z : next ≡ Piece.byte kind = cc in z) in
      let good = (both (class_allowed class) (type_allowed kind)).0 ok in
      let bad : type_allowed b.0 ≡ false =
      fails (type_allowed b.0)
      (λ fine. b.3 (record {
        body = Body.item class b.0 url part;
        shaped = refl;
        values = (both (class_allowed class) (type_allowed b.0)).1 (good.0, fine);
        behind = url_pieces url part;
        split = ap (λ (p : Piece). p ∷ Piece.byte b.0 ∷ url_pieces url part) (sym q');
      })) in
      rw (q', good.0, b.2, bad, b.4)
  item-stops class kind url part ok (q ∷ p ∷ fs) next behind rest h e w =
      let q' : q ≡ Piece.byte class = cc in
      let p' : p ≡ Piece.byte kind = cc in
      let tail : url_pieces url part ≡ fs ++ next ∷ behind = cc in
      let all : pieces_bytes (q ∷ p ∷ fs) ++ rest ≡ class ∷ kind ∷ (pieces_bytes fs ++ rest) = rw (q', p') in
      ap item_fields all
      ∙ flag_stops class kind url part ok fs next behind rest (bytes-behind (class ∷ kind ∷ []) (pieces_bytes fs ++ rest) (subst IsBytes all h)) tail
      (subst (λ (l : List Piece). Wrong shape.Item l next rest r) (rw (q', p')) w)

  id-stops : (n id : ℕ) (rest : List ℕ) → length (int id ++ rest) ≤ n → IsBytes (int id ++ rest) → string_field rest ≡ Got.refused r → pairs_field n (int id ++ rest) ≡ Got.refused r
  unfolding pairs_field pair_field int
  id-stops zero id rest l h at = absurd (omega arith)
  id-stops (suc n) id rest l h at = rw (int_forth id rest h, at)

  pair_goes : (n : ℕ) (p : Pair) (left : List ℕ) → length (pair_bytes p ++ left) ≤ n → IsBytes (pair_bytes p ++ left)
      → ((m : ℕ) → length left ≤ m → pairs_field m left ≡ Got.refused r) → pairs_field n (pair_bytes p ++ left) ≡ Got.refused r
  unfolding pairs_field pair_bytes int
  pair_goes zero p left l h later = absurd (omega arith)
  pair_goes (suc n) p left l h later = rw (pair_forth p left h, later n (omega (arith, length-append (string p.value) left)))

  pairs-stop : (ps : List Pair) (front : List Piece) (next : Piece) (behind : List Piece) (rest : List ℕ) → IsBytes (pieces_bytes front ++ rest) → pair_pieces ps ≡ front ++ next ∷ behind
      → ((t : List ℕ) → next ≡ Piece.text t → string_field rest ≡ Got.refused r) → ((k : ℕ) → next ≡ Piece.number k → ⊥) → (n : ℕ) → length (pieces_bytes front ++ rest) ≤ n
      → pairs_field n (pieces_bytes front ++ rest) ≡ Got.refused r
  unfolding flat_map pair_bytes
  pairs-stop [] front next behind rest h e at never n l = no_more front next behind e
  pairs-stop (p ∷ ps) [] next behind rest h e at never n l = absurd (never p.id (let z : next ≡ Piece.number p.id = cc in z))
  pairs-stop (p ∷ ps) (q ∷ []) next behind rest h e at never n l =
      let q' : q ≡ Piece.number p.id = cc in
      let all : pieces_bytes (q ∷ []) ++ rest ≡ int p.id ++ rest = rw (q', append-nil (int p.id)) in
      ap (pairs_field n) all ∙ id-stops n p.id rest (subst (λ (s : List ℕ). length s ≤ n) all l) (subst IsBytes all h) (at p.value (let z : next ≡ Piece.text p.value = cc in z))
  pairs-stop (p ∷ ps) (q ∷ o ∷ fs) next behind rest h e at never n l =
      let q' : q ≡ Piece.number p.id = cc in
      let o' : o ≡ Piece.text p.value = cc in
      let tail : pair_pieces ps ≡ fs ++ next ∷ behind = cc in
      let all : pieces_bytes (q ∷ o ∷ fs) ++ rest ≡ pair_bytes p ++ (pieces_bytes fs ++ rest) = rw (q', o', append_assoc, append_assoc, append_assoc) in
      let h' : IsBytes (pair_bytes p ++ (pieces_bytes fs ++ rest)) = subst IsBytes all h in
      ap (pairs_field n) all
      ∙ pair_goes n p (pieces_bytes fs ++ rest) (subst (λ (s : List ℕ). length s ≤ n) all l) h'
      (pairs-stop ps fs next behind rest (bytes-behind (pair_bytes p) (pieces_bytes fs ++ rest) h') tail at never)

  -- a body by its shape: the reading stops at the field that is wrong
  stops : (shape : Shape) (c : Body) → View shape c → allowed c ≡ true → (front : List Piece) (next : Piece) (behind : List Piece) (rest : List ℕ)
      → IsBytes (pieces_bytes front ++ rest) → pieces_of c ≡ front ++ next ∷ behind
      → Wrong shape front next rest r → fields_of shape (pieces_bytes front ++ rest) ≡ Got.refused r
  unfolding allowed options_fields
  stops shape.Empty c v ok front next behind rest h e w = no_more front next behind (ap pieces_of (sym v) ∙ e)
  stops shape.Session c v ok front next behind rest h e w = session-stops v.0 v.1 v.2 v.3 (ap allowed (sym v.4) ∙ ok) front next behind rest h (ap pieces_of (sym v.4) ∙ e) w
  stops shape.Text c v ok front next behind rest h e w = text-stops v.0 front next behind rest (ap pieces_of (sym v.1) ∙ e) w
  stops shape.Statement c v ok front next behind rest h e w = statement-stops v.0 v.1 (ap allowed (sym v.2) ∙ ok) front next behind rest (ap pieces_of (sym v.2) ∙ e) w
  stops shape.Coded c v ok front next behind rest h e w = coded-stops v.0 v.1 front next behind rest h (ap pieces_of (sym v.2) ∙ e) w
  stops shape.Options c v ok front next behind rest h e w =
      let s : List ℕ = pieces_bytes front ++ rest in
      rw (pairs-stop v.0 front next behind rest h (ap pieces_of (sym v.1) ∙ e) (at-string w) (at-number w) (length s) (omega arith))
  stops shape.Item c v ok front next behind rest h e w = item-stops v.0 v.1 v.2 v.3 (ap allowed (sym v.4) ∙ ok) front next behind rest h (ap pieces_of (sym v.4) ∙ e) w

pub wrong-refused : (shape : Shape) (s : List ℕ) (r : Refusal) → IsBytes s → WrongField shape s r → fields_of shape s ≡ Got.refused r
wrong-refused shape s r h v =
    ap (fields_of shape) v.split
    ∙ stops r shape v.comes.body (viewed v.comes.body v.comes.shaped) v.comes.values v.front v.next v.comes.behind v.rest (subst IsBytes v.split h)
    v.comes.split v.wrong
