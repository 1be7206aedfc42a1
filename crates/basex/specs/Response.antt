-- Document 01, "BaseX": the response to a request, as it is published. No reader is known here.
use Rattle.std.specs.Prelude.{Some, ℕ, ◌-◌}
use mathlib.Core.{Bool.Bool, Bool.true, Bool.false, List.List, List.[], List.◌∷◌, List.◌++◌, List.flat_map, Path.◌≡◌}
use lib.{Dec.eqb, ListN.length, ListN.drop}
use Rattle.wire.specs.{Bytes.if, Every.Every}
use Rattle.basex.specs.{declared.Reply.Reply}
use Rattle.basex.specs.Kinds.{find_of, ahead, behind, listed, is_full, id_allowed, item_strings, status_allowed}
use Rattle.basex.specs.Texts.{strings}

-- "An item is a type id …, in FULL a URI string after 12, 14 and 82, and a string."
pub record Item : Type 0 where
  pub id : ℕ
  pub texts : List (List ℕ)

pub record Response : Type 0 where
  -- the strings ahead of the status
  pub texts : List (List ℕ)
  -- none but for RESULTS and FULL
  pub items : List Item
  pub status : ℕ
  -- behind status 01: the error string, but for COMMAND, CREATE, ADD, PUT, PUTBINARY
  pub error : List (List ℕ)

unfoldable pub item_bytes : Item → List ℕ
item_bytes i = i.id ∷ strings i.texts

abbrev pub items_bytes : List Item → List ℕ
items_bytes = flat_map item_bytes

-- "items, then 00"
abbrev pub list_bytes : Reply → List Item → List ℕ
list_bytes reply is = if (listed reply) (items_bytes is ++ (0 ∷ [])) []

unfoldable pub encode : Reply → Response → List ℕ
encode reply r = strings r.texts ++ (list_bytes reply r.items ++ (r.status ∷ strings r.error))

-- an allowed id with as many strings as it takes
abbrev pub ItemAllowed : Bool → Item → Type 0
ItemAllowed full i = (id_allowed i.id ≡ true) × (length i.texts ≡ item_strings full i.id)

abbrev pub ItemsAllowed : Bool → List Item → Type 0
ItemsAllowed full = Every (ItemAllowed full)

-- items only where there is a list of them
abbrev pub ListAllowed : Bool → Bool → List Item → Type 0
ListAllowed true full is = ItemsAllowed full is
ListAllowed false full is = is ≡ []

-- a response to a request of that kind
pub record Published (reply : Reply) (r : Response) : Type 0 where
  pub first : length r.texts ≡ ahead reply
  pub list : ListAllowed (listed reply) (is_full reply) r.items
  pub ended : status_allowed r.status ≡ true
  pub last : length r.error ≡ behind reply r.status

-- where the error string is, said apart from the columns: "with status 01 the last string is the error" (COMMAND: the second; CREATE, ADD, PUT, PUTBINARY: the
-- only one), or the one behind the status ("01 and an error string")
abbrev pub error_as : Reply → Response → List (List ℕ)
error_as Reply.Command r = drop (length r.texts - 1) r.texts
error_as Reply.Create r = drop (length r.texts - 1) r.texts
error_as Reply.Query r = r.error
error_as Reply.Results r = r.error
error_as Reply.Full r = r.error

-- the error string of a response, none but with status 01
unfoldable pub error_of : Reply → Response → List (List ℕ)
error_of reply r = if (eqb r.status 1) (error_as reply r) []

-- in front of s stands the encoding of r, a response to a request that starts with the byte, and rest behind it
pub record Stands (kind : ℕ) (r : Response) (s rest : List ℕ) : Type 0 where
  pub strings : ℕ
  pub reply : Reply
  pub known : find_of kind ≡ Some (strings, reply)
  pub published : Published reply r
  pub encoded : s ≡ encode reply r ++ rest
