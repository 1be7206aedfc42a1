-- Laws of the fields of a body: their bytes are the encoding's, and the value of one that comes is allowed.
use mathlib.Core.Bool.{true}
use mathlib.Core.List.{List, [], ◌∷◌, ◌++◌, append_assoc, append-nil, flat_map}
use mathlib.Core.Path.{◌≡◌, refl, sym, ap, subst, ◌∙◌}
use Prim.Native.Nat.{ℕ}
use lib.Dec.{leb}
use Rattle.wire.specs.Bytes.{int}
use Rattle.sedna.specs.declared.Shape.{Shape}
use Rattle.sedna.specs.declared.Shape.TheVariants as shape
use Rattle.sedna.specs.Allowed.{allowed, version_allowed, format_allowed, class_allowed, type_allowed}
use Rattle.sedna.specs.Encode.{string, url_bytes, pair_bytes, pairs_bytes, body_bytes}
use Rattle.sedna.specs.Message.{Url, Pair, Body, shape_of}
use Rattle.sedna_laws.specs.Pieces.{Piece, piece_bytes, pieces_bytes, pair_pieces, pieces_of, Comes}
use Rattle.wire.proofs.Branches.{both}
use Rattle.wire.proofs.Lists.{flat_map-append}

-- the fields are those of the encoding
pairs-bytes : (ps : List Pair) → pieces_bytes (pair_pieces ps) ≡ pairs_bytes ps
unfolding flat_map pair_bytes
pairs-bytes [] = refl
pairs-bytes (p ∷ ps) = rw (append_assoc, pairs-bytes ps)

pub pieces-bytes : (b : Body) → pieces_bytes (pieces_of b) ≡ body_bytes b
unfolding flat_map body_bytes url_bytes
pieces-bytes Body.empty = refl
pieces-bytes (Body.session major minor user database) = rw (append-nil (string database))
pieces-bytes (Body.text t) = append-nil (string t)
pieces-bytes (Body.statement format t) = rw (append-nil (string t))
pieces-bytes (Body.coded code t) = rw (append-nil (string t))
pieces-bytes (Body.options pairs) = pairs-bytes pairs
pieces-bytes (Body.item class kind Url.absent part) = rw (append-nil (string part))
pieces-bytes (Body.item class kind (Url.present url) part) = rw (append-nil (string part))

-- a body by its shape
abbrev pub View : Shape → Body → Type 0
View shape.Empty b = b ≡ Body.empty
View shape.Session b = (major : ℕ) × (minor : ℕ) × (user : List ℕ) × (database : List ℕ) × (b ≡ Body.session major minor user database)
View shape.Text b = (t : List ℕ) × (b ≡ Body.text t)
View shape.Statement b = (format : ℕ) × (t : List ℕ) × (b ≡ Body.statement format t)
View shape.Coded b = (code : ℕ) × (t : List ℕ) × (b ≡ Body.coded code t)
View shape.Options b = (pairs : List Pair) × (b ≡ Body.options pairs)
View shape.Item b = (class : ℕ) × (kind : ℕ) × (url : Url) × (part : List ℕ) × (b ≡ Body.item class kind url part)

view : (b : Body) → View (shape_of b) b
view Body.empty = refl
view (Body.session major minor user database) = (major, minor, user, database, refl)
view (Body.text t) = (t, refl)
view (Body.statement format t) = (format, t, refl)
view (Body.coded code t) = (code, t, refl)
view (Body.options pairs) = (pairs, refl)
view (Body.item class kind url part) = (class, kind, url, part, refl)

pub viewed : {shape : Shape} (b : Body) → shape_of b ≡ shape → View shape b
viewed b e = subst (λ (o : Shape). View o b) e (view b)

-- behind pairs and an id a string comes
pub value-comes : (ps : List Pair) (id : ℕ) → Comes shape.Options (pair_pieces ps ++ Piece.number id ∷ []) (Piece.text [])
unfolding allowed flat_map
value-comes ps id =
    let last : List Pair = record { id = id; value = [] } ∷ [] in
    record {
      body = Body.options (ps ++ last);
      shaped = refl;
      values = refl;
      behind = [];
      split = flat_map-append (λ (p : Pair). Piece.number p.id ∷ Piece.text p.value ∷ []) ps last
          ∙ sym (append_assoc (pair_pieces ps) (Piece.number id ∷ []) (Piece.text [] ∷ []));
    }

pub value-stands : (ps : List Pair) (id : ℕ) (left : List ℕ) → pairs_bytes ps ++ (int id ++ left) ≡ pieces_bytes (pair_pieces ps ++ Piece.number id ∷ []) ++ left
unfolding flat_map
value-stands ps id left = rw (flat_map-append piece_bytes (pair_pieces ps) (Piece.number id ∷ []), pairs-bytes ps, append-nil (int id), append_assoc)

-- the value of a field that comes is allowed
pub version-comes : (major minor : ℕ) → Comes shape.Session [] (Piece.version major minor) → version_allowed major minor ≡ true
unfolding allowed
version-comes major minor c =
    let v = viewed c.body c.shaped in
    let z : pieces_of (Body.session v.0 v.1 v.2 v.3) ≡ Piece.version major minor ∷ c.behind = ap pieces_of (sym v.4) ∙ c.split in
    let first : v.0 ≡ major = cc in
    let second : v.1 ≡ minor = cc in
    rw (first, second) at (ap allowed (sym v.4) ∙ c.values)

pub format-comes : (x : ℕ) → Comes shape.Statement [] (Piece.byte x) → format_allowed x ≡ true
unfolding allowed
format-comes x c =
    let v = viewed c.body c.shaped in
    let z : pieces_of (Body.statement v.0 v.1) ≡ Piece.byte x ∷ c.behind = ap pieces_of (sym v.2) ∙ c.split in
    let same : v.0 ≡ x = cc in
    rw same at (ap allowed (sym v.2) ∙ c.values)

pub class-comes : (x : ℕ) → Comes shape.Item [] (Piece.byte x) → class_allowed x ≡ true
unfolding allowed
class-comes x c =
    let v = viewed c.body c.shaped in
    let z : pieces_of (Body.item v.0 v.1 v.2 v.3) ≡ Piece.byte x ∷ c.behind = ap pieces_of (sym v.4) ∙ c.split in
    let same : v.0 ≡ x = cc in
    rw same at ((both (class_allowed v.0) (type_allowed v.1)).0 (ap allowed (sym v.4) ∙ c.values)).0

pub type-comes : (class x : ℕ) → Comes shape.Item (Piece.byte class ∷ []) (Piece.byte x) → type_allowed x ≡ true
unfolding allowed
type-comes class x c =
    let v = viewed c.body c.shaped in
    let z : pieces_of (Body.item v.0 v.1 v.2 v.3) ≡ Piece.byte class ∷ Piece.byte x ∷ c.behind = ap pieces_of (sym v.4) ∙ c.split in
    let same : v.1 ≡ x = cc in
    rw same at ((both (class_allowed v.0) (type_allowed v.1)).0 (ap allowed (sym v.4) ∙ c.values)).1

pub flag_comes : (class kind x : ℕ) → Comes shape.Item (Piece.byte class ∷ Piece.byte kind ∷ []) (Piece.byte x) → leb x 1 ≡ true
flag_comes class kind x c =
    let v = viewed c.body c.shaped in
    by v.0 v.1 v.2 v.3 (ap pieces_of (sym v.4) ∙ c.split)
  where
    by : (a b : ℕ) (url : Url) (t : List ℕ) → pieces_of (Body.item a b url t) ≡ Piece.byte class ∷ Piece.byte kind ∷ Piece.byte x ∷ c.behind → leb x 1 ≡ true
    by a b Url.absent t e = let z : x ≡ 0 = cc in rw z
    by a b (Url.present url) t e = let z : x ≡ 1 = cc in rw z
