-- Document 01, "BaseX", "Order: 1 for no byte, 2, then fields left to right: 1, 8, and 13 as soon as the pair is there": which refusal is given, said by
-- the encodings alone.
use Rattle.std.specs.Prelude.{Some, None, ℕ, ◌<◌, length}
use mathlib.Core.{Bool.Bool, Bool.true, Bool.false, List.List, List.[], List.◌∷◌, List.◌++◌, Logic.◌↔◌, Logic.◌≢◌, Path.◌≡◌}
use Rattle.wire.specs.{Fields.Got, declared.Refusal.Refusal}
use Rattle.wire.specs.declared.Refusal.TheVariants.{MoreBytes, UnknownInstruction, ValueNotAllowed, BadEscape}
use Rattle.basex_string.specs.Strings.{special, escaped, string}
use Rattle.basex_string.specs.Scan as scan
use Rattle.basex.specs.{declared.Reply.Reply}
use Rattle.basex.specs.Kinds.{starts_command, find_of, is_command, ahead, behind, listed, is_full, id_allowed, item_strings, status_allowed}
use Rattle.basex.specs.Response.{Item, item_bytes, items_bytes, list_bytes, ItemAllowed, ItemsAllowed, ListAllowed}
use Rattle.basex.specs.Texts.{strings}
use Rattle.basex.specs.Request as request
use Rattle.basex.specs.Response as response
use Rattle.basex_request.specs.Reading as requests
use Rattle.basex_response.specs.Items.{Next, next}
use Rattle.basex_response.specs.Reading as responses

-- the encoding of a value that has one
abbrev pub Encoded : {A : Type 0} → (A → Type 0) → (A → List ℕ) → List ℕ → Type 0
Encoded {A} Good bytes e = (a : A) × Good a × (bytes a ≡ e)

-- 1, "more bytes are needed": a proper beginning, whole with at least one byte more
pub record Begun (Whole : List ℕ → Type 0) (s : List ℕ) : Type 0 where
  pub missing : List ℕ
  pub some : 0 < length missing
  pub whole : Whole (s ++ missing)

-- "as soon as the byte is there": a beginning, then a byte with which it is neither begun nor whole, then anything
pub record Broken (Whole : List ℕ → Type 0) (s : List ℕ) : Type 0 where
  pub front : List ℕ
  pub byte : ℕ
  pub rest : List ℕ
  pub stands : s ≡ front ++ (byte ∷ rest)
  pub begun : Begun Whole front
  pub not_begun : ¬ Begun Whole (front ++ (byte ∷ []))
  pub not_whole : ¬ Whole (front ++ (byte ∷ []))

-- a refusal other than 1
abbrev pub Otherwise : {A : Type 0} → Got A → Type 0
Otherwise x = (r : Refusal) × (r ≢ MoreBytes) × (x ≡ Got.refused r)

-- "A string is written with FF before each 00 and FF, then 00": all but that 00
unfoldable pub body : List ℕ → List ℕ
body [] = []
body (b ∷ s) = escaped b (body s)

-- 13, "FF followed by a byte other than 00 or FF", "as soon as the pair is there": in a text, ahead of anything
pub record BadPair (s : List ℕ) : Type 0 where
  pub text : List ℕ
  pub byte : ℕ
  pub rest : List ℕ
  pub other : special byte ≡ false
  pub stands : s ≡ body text ++ (255 ∷ byte ∷ rest)

-- .. in one of n strings, those ahead of it whole
pub record BadTexts (n : ℕ) (s : List ℕ) : Type 0 where
  pub texts : List (List ℕ)
  pub left : List ℕ
  pub few : length texts < n
  pub stands : s ≡ strings texts ++ left
  pub bad : BadPair left

-- every text has an encoding
abbrev pub Any : List ℕ → Type 0
Any t = Unit {0}

pub record StringMoments : Type 0 where
  pub ends : (t : List ℕ) → string t ≡ body t ++ (0 ∷ [])
  pub more : (s : List ℕ) → (scan.reading s ≡ Got.refused MoreBytes) ↔ Begun (Encoded Any string) s
  pub broken : (s : List ℕ) → Otherwise (scan.reading s) ↔ Broken (Encoded Any string) s
  pub pair : (s : List ℕ) → (scan.reading s ≡ Got.refused BadEscape) ↔ BadPair s

-- 13 in a request: "20 to FE starts a COMMAND, one string", other first bytes stand ahead of their strings
pub data BadRequest (s : List ℕ) : Type 0 where
  command : (b : ℕ) (left : List ℕ) → s ≡ b ∷ left → starts_command b ≡ true → BadPair s → BadRequest s
  coded : (b n : ℕ) (reply : Reply) (left : List ℕ) → s ≡ b ∷ left → find_of b ≡ Some (n, reply) → is_command reply ≡ false → BadTexts n left → BadRequest s

pub record RequestMoments : Type 0 where
  -- "1 for no byte"
  pub none : requests.reading [] ≡ Got.refused MoreBytes
  pub more : (s : List ℕ) → (requests.reading s ≡ Got.refused MoreBytes) ↔ Begun (Encoded request.Published request.encode) s
  pub broken : (s : List ℕ) → Otherwise (requests.reading s) ↔ Broken (Encoded request.Published request.encode) s
  -- "Other first bytes: 2", whatever follows
  pub unknown : (s : List ℕ) → (requests.reading s ≡ Got.refused UnknownInstruction) ↔ ((b : ℕ) × (rest : List ℕ) × (s ≡ b ∷ rest) × (find_of b ≡ None))
  pub pair : (s : List ℕ) → (requests.reading s ≡ Got.refused BadEscape) ↔ BadRequest s

-- "items, then 00": one item, or that 00
abbrev pub next_bytes : Next → List ℕ
next_bytes (Next.item i) = item_bytes i
next_bytes Next.end = 0 ∷ []

abbrev pub NextAllowed : Bool → Next → Type 0
NextAllowed full (Next.item i) = ItemAllowed full i
NextAllowed full Next.end = Unit {0}

-- 8: "a type id (7-15 or 32-83, else 8)", whatever follows
pub record BadId (s : List ℕ) : Type 0 where
  pub id : ℕ
  pub rest : List ℕ
  pub stands : s ≡ id ∷ rest
  pub not_end : id ≢ 0
  pub other : id_allowed id ≡ false

-- 13 in one of an item's strings
pub record BadItem (full : Bool) (s : List ℕ) : Type 0 where
  pub id : ℕ
  pub left : List ℕ
  pub stands : s ≡ id ∷ left
  pub allowed : id_allowed id ≡ true
  pub bad : BadTexts (item_strings full id) left

pub record ItemMoments (full : Bool) : Type 0 where
  -- "then 00": the end exactly there
  pub end : (s rest : List ℕ) → (next full s ≡ Got.got Next.end rest) ↔ (s ≡ 0 ∷ rest)
  pub more : (s : List ℕ) → (next full s ≡ Got.refused MoreBytes) ↔ Begun (Encoded (NextAllowed full) next_bytes) s
  pub broken : (s : List ℕ) → Otherwise (next full s) ↔ Broken (Encoded (NextAllowed full) next_bytes) s
  pub value : (s : List ℕ) → (next full s ≡ Got.refused ValueNotAllowed) ↔ BadId s
  pub pair : (s : List ℕ) → (next full s ≡ Got.refused BadEscape) ↔ BadItem full s

-- what stands ahead of an id, or of the 00 behind the last item
pub record AtItem (reply : Reply) (front : List ℕ) : Type 0 where
  pub texts : List (List ℕ)
  pub items : List Item
  pub first : length texts ≡ ahead reply
  pub has : listed reply ≡ true
  pub allowed : ItemsAllowed (is_full reply) items
  pub is : front ≡ strings texts ++ items_bytes items

-- what stands ahead of the status
pub record AtStatus (reply : Reply) (front : List ℕ) : Type 0 where
  pub texts : List (List ℕ)
  pub items : List Item
  pub first : length texts ≡ ahead reply
  pub allowed : ListAllowed (listed reply) (is_full reply) items
  pub is : front ≡ strings texts ++ list_bytes reply items

-- 8 in a response: an id, or "Status above 01", whatever follows
pub data BadValue (reply : Reply) (s : List ℕ) : Type 0 where
  id : (front left : List ℕ) → s ≡ front ++ left → AtItem reply front → BadId left → BadValue reply s
  status : (front : List ℕ) (b : ℕ) (rest : List ℕ) → s ≡ front ++ (b ∷ rest) → AtStatus reply front → status_allowed b ≡ false → BadValue reply s

-- 13 in a response: in a string ahead of the status, of an item, or behind the status
pub data BadText (reply : Reply) (s : List ℕ) : Type 0 where
  first : BadTexts (ahead reply) s → BadText reply s
  item : (front left : List ℕ) → s ≡ front ++ left → AtItem reply front → BadItem (is_full reply) left → BadText reply s
  error : (front : List ℕ) (b : ℕ) (left : List ℕ) → s ≡ front ++ (b ∷ left) → AtStatus reply front → status_allowed b ≡ true → BadTexts (behind reply b) left
      → BadText reply s

pub record ResponseMoments (kind : ℕ) : Type 0 where
  -- "1 for no byte", whatever the request
  pub none : responses.reading kind [] ≡ Got.refused MoreBytes
  -- 2, for a kind that is none, at the first byte
  pub unknown : (s : List ℕ) → (responses.reading kind s ≡ Got.refused UnknownInstruction) ↔ ((0 < length s) × (find_of kind ≡ None))
  pub more : (n : ℕ) (reply : Reply) → find_of kind ≡ Some (n, reply) → (s : List ℕ) → (responses.reading kind s ≡ Got.refused MoreBytes)
      ↔ Begun (Encoded (response.Published reply) (response.encode reply)) s
  pub broken : (n : ℕ) (reply : Reply) → find_of kind ≡ Some (n, reply) → (s : List ℕ) → Otherwise (responses.reading kind s)
      ↔ Broken (Encoded (response.Published reply) (response.encode reply)) s
  pub value : (n : ℕ) (reply : Reply) → find_of kind ≡ Some (n, reply) → (s : List ℕ)
      → (responses.reading kind s ≡ Got.refused ValueNotAllowed) ↔ BadValue reply s
  pub pair : (n : ℕ) (reply : Reply) → find_of kind ≡ Some (n, reply) → (s : List ℕ) → (responses.reading kind s ≡ Got.refused BadEscape) ↔ BadText reply s
