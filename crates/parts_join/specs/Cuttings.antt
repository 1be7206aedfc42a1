-- "Joining accepts every cutting, empty parts included": the messages of a cutting, whoever made it, and what joining them must answer and leave.
use mathlib.Core.{Bool.true, List.List, List.[], List.◌∷◌, List.◌++◌, List.map, List.flatten, Path.◌≡◌}
use Rattle.std.specs.Prelude.{ℕ, ◌≤◌, ◌<◌, length, take, drop}
use Rattle.wire.specs.Every.{Every}
use Rattle.sedna.specs.{Allowed.allowed, Message.Url, Message.Body, Message.Message, Message.message}
use Rattle.sedna.specs.Names.{Execute, ExecuteLong, LongQueryEnd, ItemPart, ItemStart, ItemEnd, ResultEnd}
use Rattle.parts_join.specs.{declared.Open.Open, Answers.Reply, Calls.Run, Calls.opened_with, Calls.run, Calls.short_replies, Calls.short_text}
use Rattle.parts_join.specs.Joining.{closed}

-- a statement's part
pub record Piece : Type 0 where
  pub format : ℕ
  pub text : List ℕ

-- "an item and ItemEnd or ResultEnd"
pub data Ending : Type 0 where
  item-end result_end : Ending

pub data Cutting : Type 0 where
  -- "Execute is sole part and end at once."
  short : Piece → Cutting
  -- "ExecuteLong+ LongQueryEnd"
  long : Piece → List Piece → Cutting
  -- "ItemPart+ up to 3.0"
  item : List ℕ → List (List ℕ) → Ending → Cutting
  -- "ItemStart ItemPart* in 4.0": class, type, URL, text; the further texts
  typed_item : ℕ → ℕ → Url → List ℕ → List (List ℕ) → Ending → Cutting

abbrev pub execute_long : Piece → Message
execute_long p = message ExecuteLong (Body.statement p.format p.text)

abbrev pub item_part : List ℕ → Message
item_part t = message ItemPart (Body.text t)

abbrev pub ending : Ending → Message
ending Ending.item-end = message ItemEnd Body.empty
ending Ending.result_end = message ResultEnd Body.empty

-- the messages but for the last
abbrev pub before : Cutting → List Message
before (Cutting.short p) = []
before (Cutting.long p ps) = execute_long p ∷ map execute_long ps
before (Cutting.item t ts e) = item_part t ∷ map item_part ts
before (Cutting.typed_item class kind url t ts e) = message ItemStart (Body.item class kind url t) ∷ map item_part ts

-- the one that hands over
abbrev pub last : Cutting → Message
last (Cutting.short p) = message Execute (Body.statement p.format p.text)
last (Cutting.long p ps) = message LongQueryEnd Body.empty
last (Cutting.item t ts e) = ending e
last (Cutting.typed_item class kind url t ts e) = ending e

abbrev pub messages : Cutting → List Message
messages c = before c ++ (last c ∷ [])

-- what each message adds to the text; an end adds nothing, and a URL is not part of it
abbrev pub texts : Cutting → List (List ℕ)
texts (Cutting.short p) = p.text ∷ []
texts (Cutting.long p ps) = p.text ∷ map (λ (q : Piece). q.text) ps ++ ([] ∷ [])
texts (Cutting.item t ts e) = t ∷ ts ++ ([] ∷ [])
texts (Cutting.typed_item class kind url t ts e) = t ∷ ts ++ ([] ∷ [])

-- which opening it wants
abbrev pub opening : Cutting → Open
opening (Cutting.short p) = Open.Statement
opening (Cutting.long p ps) = Open.Statement
opening (Cutting.item t ts e) = Open.Item
opening (Cutting.typed_item class kind url t ts e) = Open.TypedItem

-- "with class and type in 4.0 or the format"; "The first part's format counts for a long statement"
abbrev pub values : Cutting → List ℕ
values (Cutting.short p) = p.format ∷ []
values (Cutting.long p ps) = p.format ∷ []
values (Cutting.item t ts e) = []
values (Cutting.typed_item class kind url t ts e) = class ∷ kind ∷ []

-- each message has allowed values: "later ones are checked for 0 or 1 and otherwise ignored"
abbrev pub AllAllowed : List Message → Type 0
AllAllowed = Every (λ (m : Message). allowed m.body ≡ true)

-- the buffer with s over its front
abbrev pub fronted : List ℕ → List ℕ → List ℕ
fronted d s = s ++ drop (length s) d

-- the text that was cut
abbrev pub whole : Cutting → List ℕ
whole c = flatten (texts c)

-- its messages, joined one after another from a fresh opening, with a buffer d
abbrev pub calls : Cutting → List ℕ → Run
calls c d = run (opened_with (opening c) d) (messages c)

-- what is left and answered where all was taken, and the text handed over
abbrev pub returned : Cutting → List ℕ → Run
returned c d =
    let replies = map (λ (m : Message). Reply.taken) (before c) ++ (Reply.whole (values c) (length (whole c)) ∷ []) in
    record { gathered = record { assembly = closed; buffer = fronted d (whole c) }; replies = replies }

pub record Joins (c : Cutting) (d : List ℕ) : Type 0 where
  -- where the text fits, every part is taken, the last message hands over that many bytes, and the assembly is closed ..
  pub fits : length (whole c) ≤ length d → calls c d ≡ returned c d
  -- .. and the front part of the buffer is the text
  pub handed : length (whole c) ≤ length d → take (length (whole c)) (calls c d).gathered.buffer ≡ whole c
  -- where it does not, 12 from the part that would overrun on, for the end too; the front of the buffer keeps what was gathered before it
  pub overruns : length d < length (whole c) → (calls c d).replies ≡ short_replies (length d) (texts c)
  pub front : length d < length (whole c) → (calls c d).gathered.buffer ≡ fronted d (short_text (length d) (texts c))
  pub marked : length d < length (whole c) → (calls c d).gathered.assembly.overflowed ≡ true
