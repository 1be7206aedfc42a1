-- What the numbers mean that `kdr_open` and `kdr_join` keep and tell: the names of bindings/c/keddorimp.h, as in Header.antt.
use mathlib.Core.{Bool.Bool, Bool.true, Bool.false, List.List, List.[], List.◌∷◌, Path.◌≡◌}
use Rattle.std.specs.Prelude.{ℕ, ◌<◌}
use Rattle.parts_join.specs.{declared.Assembly.Assembly, declared.Open.Open, Answers.Reply}
use Rattle.demands.specs.Header.{◌at◌, Zero}

-- enum kdr_gathering
pub data Gathering : ℕ → Open → Type 0 where
  nothing : Gathering 0 Open.Nothing
  statement : Gathering 1 Open.Statement
  -- "up to 3.0"
  item : Gathering 2 Open.Item
  -- "of 4.0"
  typed_item : Gathering 3 Open.TypedItem

-- "1 once" it is so, else 0
pub data Flag : ℕ → Bool → Type 0 where
  off : Flag 0 false
  on : Flag 1 true

-- enum kdr_assembly_field
abbrev pub ASSEMBLY_WHAT : ℕ
ASSEMBLY_WHAT = 0

abbrev pub ASSEMBLY_BEGUN : ℕ
ASSEMBLY_BEGUN = 1

abbrev pub ASSEMBLY_HELD : ℕ
ASSEMBLY_HELD = 2

abbrev pub ASSEMBLY_SPOILT : ℕ
ASSEMBLY_SPOILT = 3

abbrev pub ASSEMBLY_FORMAT : ℕ
ASSEMBLY_FORMAT = 4

abbrev pub ASSEMBLY_CLASS : ℕ
ASSEMBLY_CLASS = 5

abbrev pub ASSEMBLY_TYPE : ℕ
ASSEMBLY_TYPE = 6

abbrev pub ASSEMBLY_FIELDS : ℕ
ASSEMBLY_FIELDS = 7

-- seven numbers mean the assembly a; its format, class and type are bytes
pub record Means (d : List ℕ) (a : Assembly) : Type 0 where
  pub what : Gathering (d at ASSEMBLY_WHAT) a.what
  pub begun : Flag (d at ASSEMBLY_BEGUN) a.begun
  pub held : d at ASSEMBLY_HELD ≡ a.held
  pub spoilt : Flag (d at ASSEMBLY_SPOILT) a.overflowed
  pub format : d at ASSEMBLY_FORMAT ≡ a.label.format
  pub class : d at ASSEMBLY_CLASS ≡ a.label.class
  pub kind : d at ASSEMBLY_TYPE ≡ a.label.kind
  pub bytes : (d at ASSEMBLY_FORMAT < 256) × (d at ASSEMBLY_CLASS < 256) × (d at ASSEMBLY_TYPE < 256)

-- enum kdr_told
abbrev pub TOLD_WHAT : ℕ
TOLD_WHAT = 0

abbrev pub TOLD_LENGTH : ℕ
TOLD_LENGTH = 1

abbrev pub TOLD_FORMAT : ℕ
TOLD_FORMAT = 2

abbrev pub TOLD_CLASS : ℕ
TOLD_CLASS = 2

abbrev pub TOLD_TYPE : ℕ
TOLD_TYPE = 3

abbrev pub TOLD_FIELDS : ℕ
TOLD_FIELDS = 4

-- four numbers mean 01's reply to a message that was taken; they mean no refusal
pub data TellsReply (t : List ℕ) : Reply → Type 0 where
  -- "KDR_NOTHING for a part, and the others are 0"
  part : Gathering (t at TOLD_WHAT) Open.Nothing → Zero t (TOLD_LENGTH ∷ TOLD_CLASS ∷ TOLD_TYPE ∷ []) → TellsReply t Reply.taken
  -- "else what is finished"; what is not named is 0
  statement : Gathering (t at TOLD_WHAT) Open.Statement → Zero t (TOLD_TYPE ∷ []) → TellsReply t (Reply.whole (t at TOLD_FORMAT ∷ []) (t at TOLD_LENGTH))
  item : Gathering (t at TOLD_WHAT) Open.Item → Zero t (TOLD_CLASS ∷ TOLD_TYPE ∷ []) → TellsReply t (Reply.whole [] (t at TOLD_LENGTH))
  typed_item : Gathering (t at TOLD_WHAT) Open.TypedItem → TellsReply t (Reply.whole (t at TOLD_CLASS ∷ t at TOLD_TYPE ∷ []) (t at TOLD_LENGTH))
