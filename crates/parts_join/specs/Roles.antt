-- What a message is to a gathering, by document 01's "Cutting and joining" and the parts of its grammar.
use mathlib.Core.{Bool.Bool, Bool.true, Bool.false, Bool.not, List.List, List.[]}
use Rattle.std.specs.Prelude.{ℕ, eqb}
use Rattle.wire.specs.Bytes.{if}
use Rattle.sedna.specs.Message.{Body, Message}
use Rattle.sedna.specs.Names.{Execute, ExecuteLong, LongQueryEnd, ItemPart, ItemStart, ItemEnd, ResultEnd}
use Rattle.sedna.specs.Table.{find_of, shaped}
use Rattle.parts_join.specs.{declared.Label.Label, declared.Open.Open, declared.Role.Role}

-- "Execute, or ExecuteLong+ LongQueryEnd"; "Execute is sole part and end at once"
abbrev pub statement_role : ℕ → Role
statement_role k = if (eqb k Execute) Role.Sole (if (eqb k ExecuteLong) Role.Part (if (eqb k LongQueryEnd) Role.End Role.Other))

-- "an item and ItemEnd or ResultEnd"
abbrev pub item_end : ℕ → Role
item_end k = if (eqb k ItemEnd) Role.End (if (eqb k ResultEnd) Role.End Role.Other)

-- "An item is ItemPart+ up to 3.0"
abbrev pub item_role : ℕ → Role
item_role k = if (eqb k ItemPart) Role.Part (item_end k)

-- "and ItemStart ItemPart* in 4.0"
abbrev pub typed_item_role : ℕ → Role
typed_item_role k = if (eqb k ItemStart) Role.Start (if (eqb k ItemPart) Role.Further (item_end k))

-- "a part or an end that no open gathering takes"
abbrev pub open_role : Open → ℕ → Role
open_role Open.Nothing k = Role.Other
open_role Open.Statement k = statement_role k
open_role Open.Item k = item_role k
open_role Open.TypedItem k = typed_item_role k

-- the body is of the shape that the table gives the instruction
unfoldable pub together : ℕ → Body → Bool
together k b = shaped (find_of k) b

-- "a message of another kind" is also one whose body is not its instruction's
unfoldable pub role_of : Open → Message → Role
role_of o m = if (together m.instruction m.body) (open_role o m.instruction) Role.Other

-- "a message of another kind get[s] 9"
abbrev pub takes : Role → Bool
takes Role.Other = false
takes Role.Sole = true
takes Role.Part = true
takes Role.Start = true
takes Role.Further = true
takes Role.End = true

-- "A second ItemStart, a 4.0 ItemPart before one, an end before any part ... get 9"; so does Execute, the sole part, after another
abbrev pub in_order : Role → Bool → Bool
in_order Role.Other begun = false
in_order Role.Sole begun = not begun
in_order Role.Part begun = true
in_order Role.Start begun = not begun
in_order Role.Further begun = begun
in_order Role.End begun = begun

-- "Execute is sole part and end at once."
abbrev pub ends : Role → Bool
ends Role.Other = false
ends Role.Sole = true
ends Role.Part = false
ends Role.Start = false
ends Role.Further = false
ends Role.End = true

-- the text that a message adds; an end adds none, and an item's URL is not gathered
abbrev pub text_of : Body → List ℕ
text_of Body.empty = []
text_of (Body.session major minor user database) = []
text_of (Body.text t) = t
text_of (Body.statement format t) = t
text_of (Body.coded code t) = []
text_of (Body.options pairs) = []
text_of (Body.item class kind url part) = part

abbrev pub label : ℕ → ℕ → ℕ → Label
label format class kind = record { format = format; class = class; kind = kind }

-- "class and type in 4.0 or the format"; 0 where a body does not say
abbrev pub label_of : Body → Label
label_of Body.empty = label 0 0 0
label_of (Body.session major minor user database) = label 0 0 0
label_of (Body.text t) = label 0 0 0
label_of (Body.statement format t) = label format 0 0
label_of (Body.coded code t) = label 0 0 0
label_of (Body.options pairs) = label 0 0 0
label_of (Body.item class kind url part) = label 0 class kind
