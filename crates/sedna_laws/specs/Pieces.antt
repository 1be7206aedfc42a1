-- The fields of a body, left to right, by the rows of document 01's table; and what stands in the place of one that is wrong.
use mathlib.Core.{Bool.true, List.List, List.[], List.◌∷◌, List.◌++◌, List.flat_map, Path.◌≡◌}
use Rattle.std.specs.Prelude.{ℕ, ◌<◌, ◌≤◌}
use Rattle.wire.specs.{Bytes.IsBytes, Bytes.int, Every.Every, declared.Refusal.Refusal}
use Rattle.sedna.specs.{declared.Shape.Shape, Allowed.allowed, Encode.string, Message.Url, Message.Pair, Message.Body, Message.shape_of}

pub data Piece : Type 0 where
  -- a format, class, type or URL flag
  byte : ℕ → Piece
  -- major and minor: "the version is judged when both bytes are read"
  version : ℕ → ℕ → Piece
  -- an int
  number : ℕ → Piece
  -- a string
  text : List ℕ → Piece

abbrev pub piece_bytes : Piece → List ℕ
piece_bytes (Piece.byte x) = x ∷ []
piece_bytes (Piece.version major minor) = major ∷ minor ∷ []
piece_bytes (Piece.number n) = int n
piece_bytes (Piece.text t) = string t

abbrev pub pieces_bytes : List Piece → List ℕ
pieces_bytes = flat_map piece_bytes

-- "any number of: int id, string"
abbrev pub pair_pieces : List Pair → List Piece
pair_pieces = flat_map (λ (p : Pair). Piece.number p.id ∷ Piece.text p.value ∷ [])

-- "URL flag, [URL], part"
abbrev pub url_pieces : Url → List ℕ → List Piece
url_pieces Url.absent part = Piece.byte 0 ∷ Piece.text part ∷ []
url_pieces (Url.present url) part = Piece.byte 1 ∷ Piece.text url ∷ Piece.text part ∷ []

abbrev pub pieces_of : Body → List Piece
pieces_of Body.empty = []
pieces_of (Body.session major minor user database) = Piece.version major minor ∷ Piece.text user ∷ Piece.text database ∷ []
pieces_of (Body.text t) = Piece.text t ∷ []
pieces_of (Body.statement format t) = Piece.byte format ∷ Piece.text t ∷ []
pieces_of (Body.coded code t) = Piece.number code ∷ Piece.text t ∷ []
pieces_of (Body.options pairs) = pair_pieces pairs
pieces_of (Body.item class kind url part) = Piece.byte class ∷ Piece.byte kind ∷ url_pieces url part

-- an int is "read as 0 to 4,294,967,295"; any other number, and each element of a text, is a byte
abbrev pub InBounds : Piece → Type 0
InBounds (Piece.byte x) = x < 256
InBounds (Piece.version major minor) = (major < 256) × (minor < 256)
InBounds (Piece.number n) = n ≤ 4294967295
InBounds (Piece.text t) = IsBytes t

-- a body as a function can be handed it: its numbers are u8 and u32, its texts slices of bytes
abbrev pub Bounded : Body → Type 0
Bounded b = Every InBounds (pieces_of b)

-- a body of that shape, with allowed values, has that field right behind those
pub record Comes (shape : Shape) (front : List Piece) (p : Piece) : Type 0 where
  pub body : Body
  pub shaped : shape_of body ≡ shape
  pub values : allowed body ≡ true
  pub behind : List Piece
  pub split : pieces_of body ≡ front ++ p ∷ behind

-- where the field p comes behind those, bytes that are refused there, and with what
pub data Wrong (shape : Shape) (front : List Piece) : Piece → List ℕ → Refusal → Type 0 where
  -- 6: "string format byte not 0"
  bad_format : (t : List ℕ) (x : ℕ) (rest : List ℕ) → ¬ (x ≡ 0) → Wrong shape front (Piece.text t) (x ∷ rest) Refusal.StringFormat
  -- 8: "value not allowed": no body has it there
  bad_byte : (y x : ℕ) (rest : List ℕ) → ¬ Comes shape front (Piece.byte x) → Wrong shape front (Piece.byte y) (x ∷ rest) Refusal.ValueNotAllowed
  bad_version : (u v major minor : ℕ) (rest : List ℕ) → ¬ Comes shape front (Piece.version major minor)
      → Wrong shape front (Piece.version u v) (major ∷ minor ∷ rest) Refusal.ValueNotAllowed

-- "6 or 8 as soon as the byte is there": fields of a body, then one that is wrong, whatever stands behind it
pub record WrongField (shape : Shape) (b : List ℕ) (r : Refusal) : Type 0 where
  pub front : List Piece
  pub next : Piece
  pub rest : List ℕ
  pub comes : Comes shape front next
  pub split : b ≡ pieces_bytes front ++ rest
  pub wrong : Wrong shape front next rest r
