-- Document 01, "Order when reading": the moment of each refusal, told by the table, the published bodies and the bytes. No reader is known here.
use mathlib.Core.{Bool.true, List.List, List.◌++◌, Path.◌≡◌}
use Rattle.std.specs.Prelude.{ℕ, ◌+◌, ◌<◌, ◌≤◌, length, take, drop}
use Rattle.wire.specs.{Bytes.IsBytes, Bytes.int_at, declared.Refusal.Refusal}
use Rattle.sedna.specs.{declared.Entry.Entry, declared.Shape.Shape, declared.Side.Side, Allowed.allowed, Encode.body_bytes, Message.Body, Message.shape_of}
use Rattle.sedna.specs.Table.{InTable}
use Rattle.sedna_laws.specs.Pieces.{WrongField}

-- the bytes of a body of that shape, with allowed values
pub record IsBody (shape : Shape) (b : List ℕ) : Type 0 where
  pub body : Body
  pub shaped : shape_of body ≡ shape
  pub values : allowed body ≡ true
  pub bytes : b ≡ body_bytes body

-- "5: the body ends inside a field"
pub data CutShort (shape : Shape) (b : List ℕ) : Type 0 where
  -- it is no body yet, and with more bytes it is one
  inside : ¬ IsBody shape b → (more : List ℕ) → IsBytes more → IsBody shape (b ++ more) → CutShort shape b
  -- "the version is judged when both bytes are read"
  lone_major : shape ≡ Shape.Session → length b ≡ 1 → CutShort shape b

-- "7: bytes left over": a whole body stands in front of them. Options go up to the body's end, and leave none
pub record LeftOver (shape : Shape) (b : List ℕ) : Type 0 where
  pub front : List ℕ
  pub more : List ℕ
  pub split : b ≡ front ++ more
  pub whole : IsBody shape front
  pub some : 0 < length more
  pub ends : ¬ (shape ≡ Shape.Options)

-- the moment of each refusal in a body
pub data InBody (shape : Shape) (b : List ℕ) : Refusal → Type 0 where
  cut : CutShort shape b → InBody shape b Refusal.FieldCut
  -- "6 or 8 as soon as the byte is there"
  wrong : (r : Refusal) → WrongField shape b r → InBody shape b r
  left_over : LeftOver shape b → InBody shape b Refusal.BytesLeftOver

-- s begins with a head that the side sends: an instruction with a body of that shape, of n bytes
pub record Head (side : Side) (s : List ℕ) (shape : Shape) (n : ℕ) : Type 0 where
  pub long : 8 ≤ length s
  pub listed : InTable (int_at s 0, side, shape)
  pub size : n ≡ int_at s 4
  pub short : n ≤ 10240

pub data Due (side : Side) (s : List ℕ) : Refusal → Type 0 where
  -- "fewer than 8 bytes, 1"
  no_head : length s < 8 → Due side s Refusal.MoreBytes
  -- "then 2, 3, 4"
  unknown : 8 ≤ length s → ((e : Entry) → InTable e → ¬ (e.0 ≡ int_at s 0)) → Due side s Refusal.UnknownInstruction
  other_side : 8 ≤ length s → (sender : Side) (shape : Shape) → InTable (int_at s 0, sender, shape) → ¬ (sender ≡ side) → Due side s Refusal.OtherSide
  too_long : 8 ≤ length s → (shape : Shape) → InTable (int_at s 0, side, shape) → 10240 < int_at s 4 → Due side s Refusal.BodyTooLong
  -- "then fewer than 8 plus length, 1"
  no_body : (shape : Shape) (n : ℕ) → Head side s shape n → length s < 8 + n → Due side s Refusal.MoreBytes
  -- "then the fields left to right ...; then 7"
  in_body : (r : Refusal) (shape : Shape) (n : ℕ) → Head side s shape n → 8 + n ≤ length s → InBody shape (take n (drop 8 s)) r → Due side s r
