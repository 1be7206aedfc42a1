-- What the numbers mean that the exported Sedna calls take and tell: the names and the table of bindings/c/keddorimp.h. A name is the header's without its
-- KDR_, with - for _.
use mathlib.Core.{List.List, List.[], List.◌∷◌, Option.Option, Option.none, Option.some, Path.◌≡◌}
use Rattle.std.specs.Prelude.{ℕ, zero, suc, ◌+◌, ◌≤◌}
use lib.{Dec.eqb, ListN.length, ListN.get_or, ListN.take, ListN.drop}
use Rattle.wire.specs.{Bytes.if, Every.Every}
use Rattle.sedna.specs.{declared.Side.Side, Message.Url, Message.Pair, Message.Body, Message.Message}
use Rattle.sedna_read.specs.{Places.option_at, Reading.Answer, Reading.reading}
use Rattle.sedna_c.specs.Codes.{option_fields_after}

infixl 90 ◌at◌
-- the number of that name among those told
abbrev pub ◌at◌ : List ℕ → ℕ → ℕ
f at name = get_or f name 0

-- those of these names are 0
abbrev pub Zero : List ℕ → List ℕ → Type 0
Zero f = Every (λ (name : ℕ). f at name ≡ 0)

-- the bytes from a start on, so many as a length says
abbrev pub slice : List ℕ → ℕ → ℕ → List ℕ
slice bytes start len = take len (drop start bytes)

-- a start and a length lie in the bytes, also where the length is 0
abbrev pub Inside : List ℕ → ℕ → ℕ → Type 0
Inside bytes start len = start + len ≤ length bytes

-- f 0, f 1, … f (n - 1)
abbrev pub up_to : {A : Type 0} → ℕ → (ℕ → A) → List A
up_to zero f = []
up_to (suc n) f = f 0 ∷ up_to n (λ k. f (suc k))

-- enum kdr_side
pub data SideOf : ℕ → Side → Type 0 where
  client : SideOf 1 Side.Client
  server : SideOf 2 Side.Server

-- no side has that number
abbrev pub Nobody : ℕ → Type 0
Nobody number = (side : Side) → ¬ SideOf number side

-- bytes from the side of that number read as that
pub record ReadsAs (number : ℕ) (bytes : List ℕ) (a : Answer) : Type 0 where
  pub side : Side
  pub is : SideOf number side
  pub read : reading side bytes ≡ a

-- the message that was read, if one was
abbrev pub message_read : Answer → List Message
message_read (Answer.refused r) = []
message_read (Answer.accepted m n) = m ∷ []

-- what a side's number and bytes offer
abbrev pub offered_by : ℕ → List ℕ → List Message
offered_by side bytes = if (eqb side 1) (message_read (reading Side.Client bytes)) (if (eqb side 2) (message_read (reading Side.Server bytes)) [])

-- the same with KDR_NOBODY
pub data TurnOf : ℕ → Option Side → Type 0 where
  nobody : TurnOf 0 none
  somebody : {k : ℕ} {side : Side} → SideOf k side → TurnOf k (some side)

-- enum kdr_field
abbrev pub INSTRUCTION : ℕ
INSTRUCTION = 0

abbrev pub SHAPE : ℕ
SHAPE = 1

abbrev pub NUMBER_1 : ℕ
NUMBER_1 = 2

abbrev pub NUMBER_2 : ℕ
NUMBER_2 = 3

abbrev pub START_1 : ℕ
START_1 = 4

abbrev pub LENGTH_1 : ℕ
LENGTH_1 = 5

abbrev pub START_2 : ℕ
START_2 = 6

abbrev pub LENGTH_2 : ℕ
LENGTH_2 = 7

abbrev pub COUNT : ℕ
COUNT = 8

abbrev pub HAS_URL : ℕ
HAS_URL = 9

-- "how many there are"
abbrev pub FIELDS : ℕ
FIELDS = 10

-- "the same by what they are"
abbrev pub MAJOR : ℕ
MAJOR = NUMBER_1

abbrev pub MINOR : ℕ
MINOR = NUMBER_2

abbrev pub FORMAT : ℕ
FORMAT = NUMBER_1

abbrev pub CODE : ℕ
CODE = NUMBER_1

abbrev pub CLASS : ℕ
CLASS = NUMBER_1

abbrev pub TYPE : ℕ
TYPE = NUMBER_2

abbrev pub URL_START : ℕ
URL_START = START_2

abbrev pub URL_LENGTH : ℕ
URL_LENGTH = LENGTH_2

-- enum kdr_shape
abbrev pub SHAPE_EMPTY : ℕ
SHAPE_EMPTY = 0

abbrev pub SHAPE_SESSION : ℕ
SHAPE_SESSION = 1

abbrev pub SHAPE_TEXT : ℕ
SHAPE_TEXT = 2

abbrev pub SHAPE_STATEMENT : ℕ
SHAPE_STATEMENT = 3

abbrev pub SHAPE_CODED : ℕ
SHAPE_CODED = 4

abbrev pub SHAPE_OPTIONS : ℕ
SHAPE_OPTIONS = 5

abbrev pub SHAPE_ITEM : ℕ
SHAPE_ITEM = 6

-- enum kdr_option_field
abbrev pub OPTION_ID : ℕ
OPTION_ID = 0

abbrev pub OPTION_START : ℕ
OPTION_START = 1

abbrev pub OPTION_LENGTH : ℕ
OPTION_LENGTH = 2

abbrev pub OPTION_FIELDS : ℕ
OPTION_FIELDS = 3

-- "The bytes of a session"
abbrev pub SESSION_BYTES : ℕ
SESSION_BYTES = 2

-- the option that three numbers mean
abbrev pub pair_told : List ℕ → List ℕ → Pair
pair_told bytes f = record { id = f at OPTION_ID; value = slice bytes (f at OPTION_START) (f at OPTION_LENGTH) }

-- the three numbers that `kdr_option` leaves for option k, by its contract
abbrev pub option_numbers : List ℕ → ℕ → ℕ → ℕ → List ℕ
option_numbers bytes start length k = option_fields_after (option_at k start (slice bytes start length)) (0 ∷ 0 ∷ 0 ∷ [])

-- the header's table of the ten numbers, row by row: the body that they mean, "numbers that a shape does not use are 0"
pub data Row (bytes f : List ℕ) : Body → Type 0 where
  empty : f at SHAPE ≡ SHAPE_EMPTY → Zero f (NUMBER_1 ∷ NUMBER_2 ∷ START_1 ∷ LENGTH_1 ∷ START_2 ∷ LENGTH_2 ∷ COUNT ∷ HAS_URL ∷ [])
      → Row bytes f Body.empty
  session : f at SHAPE ≡ SHAPE_SESSION → Zero f (COUNT ∷ HAS_URL ∷ [])
      → Row bytes f (Body.session (f at MAJOR) (f at MINOR) (slice bytes (f at START_1) (f at LENGTH_1)) (slice bytes (f at START_2) (f at LENGTH_2)))
  text : f at SHAPE ≡ SHAPE_TEXT → Zero f (NUMBER_1 ∷ NUMBER_2 ∷ START_2 ∷ LENGTH_2 ∷ COUNT ∷ HAS_URL ∷ [])
      → Row bytes f (Body.text (slice bytes (f at START_1) (f at LENGTH_1)))
  statement : f at SHAPE ≡ SHAPE_STATEMENT → Zero f (NUMBER_2 ∷ START_2 ∷ LENGTH_2 ∷ COUNT ∷ HAS_URL ∷ [])
      → Row bytes f (Body.statement (f at FORMAT) (slice bytes (f at START_1) (f at LENGTH_1)))
  coded : f at SHAPE ≡ SHAPE_CODED → Zero f (NUMBER_2 ∷ START_2 ∷ LENGTH_2 ∷ COUNT ∷ HAS_URL ∷ [])
      → Row bytes f (Body.coded (f at CODE) (slice bytes (f at START_1) (f at LENGTH_1)))
  -- "the body (kdr_option)": the options are those that calls of `kdr_option` hand out, number 0 to COUNT - 1
  options : f at SHAPE ≡ SHAPE_OPTIONS → Zero f (NUMBER_1 ∷ NUMBER_2 ∷ START_2 ∷ LENGTH_2 ∷ HAS_URL ∷ [])
      → Row bytes f (Body.options (up_to (f at COUNT) (λ k. pair_told bytes (option_numbers bytes (f at START_1) (f at LENGTH_1) k))))
  item : f at SHAPE ≡ SHAPE_ITEM → Zero f (START_2 ∷ LENGTH_2 ∷ COUNT ∷ HAS_URL ∷ [])
      → Row bytes f (Body.item (f at CLASS) (f at TYPE) Url.absent (slice bytes (f at START_1) (f at LENGTH_1)))
  item_url : f at SHAPE ≡ SHAPE_ITEM → Zero f (COUNT ∷ []) → f at HAS_URL ≡ 1
      → Row bytes f
      (Body.item (f at CLASS) (f at TYPE) (Url.present (slice bytes (f at URL_START) (f at URL_LENGTH))) (slice bytes (f at START_1) (f at LENGTH_1)))

-- ten numbers mean the message m, read from those bytes
pub record Tells (bytes f : List ℕ) (m : Message) : Type 0 where
  pub instruction : f at INSTRUCTION ≡ m.instruction
  pub body : Row bytes f m.body
  pub first : Inside bytes (f at START_1) (f at LENGTH_1)
  pub second : Inside bytes (f at START_2) (f at LENGTH_2)
