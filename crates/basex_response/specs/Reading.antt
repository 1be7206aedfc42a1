-- Document 01, "Responses are read knowing the request": what reading one answers.
use Rattle.std.specs.Prelude.{Result, Ok, Err, Option, Some, None, ℕ, ◌-◌}
use Rattle.wire.specs.declared.Refusal.{Refusal}
use mathlib.Core.List.{List, [], ◌∷◌, ◌++◌, flatten}
use lib.{Dec.ltb, ListN.length}
use Rattle.wire.specs.{Bytes.if, Fields.Got, Fields.Field, Fields.◌>>=◌, Fields.◌>>◌, Fields.give, Fields.required}
use Rattle.wire.specs.declared.Refusal.TheVariants.{MoreBytes, UnknownInstruction, ValueNotAllowed, NoRoom}
use Rattle.basex.specs.{declared.Reply.Reply, Kinds.find_of, Kinds.ahead, Kinds.behind, Kinds.listed, Kinds.is_full, Kinds.status_allowed}
use Rattle.basex.specs.{Response.Item, Response.Response, Texts.texts, Texts.length_at}
use Rattle.basex_response.specs.{declared.Replied.Replied, Items.list, Items.item_texts}

-- a response that was read
abbrev pub read_as_response : ℕ → ℕ → ℕ → ℕ → ℕ → ℕ → ℕ → Result Replied Refusal
read_as_response first second items listed status error read =
    Ok (record { first = first; second = second; items = items; listed = listed; status = status; error = error; read = read })

abbrev pub byte_field : Field ℕ
byte_field [] = Got.refused MoreBytes
byte_field (b ∷ s) = Got.got b s

-- "RESULTS, FULL: items, then 00", and none elsewhere
abbrev pub list_field : Reply → Field (List Item)
list_field reply s = if (listed reply) (list (is_full reply) s) (Got.got [] s)

-- "fields left to right"
unfoldable pub fields_of : Reply → Field Response
fields_of reply = do
  ts ← texts (ahead reply)
  is ← list_field reply
  status ← byte_field
  required (status_allowed status) ValueNotAllowed
  es ← texts (behind reply status)
  give (record { texts = ts; items = is; status = status; error = es })

abbrev pub reading_as : Option (ℕ × Reply) → Field Response
reading_as None s = Got.refused UnknownInstruction
reading_as (Some (n, reply)) s = fields_of reply s

-- a response to a request that starts with the byte: "1 for no byte, 2, then fields"
unfoldable pub reading : ℕ → Field Response
reading kind [] = Got.refused MoreBytes
reading kind (b ∷ s) = reading_as (find_of kind) (b ∷ s)

-- every text of a response, in the order of its bytes
abbrev pub all_texts : Response → List (List ℕ)
all_texts r = r.texts ++ (item_texts r.items ++ r.error)

-- .. one behind the other, as they stand in the output
abbrev pub text_bytes : Response → List ℕ
text_bytes r = flatten (all_texts r)

-- of n bytes: how long each text is (the first, the second, those of the items, the error), how many items, the status, and the bytes read
abbrev pub judgement : ℕ → Got Response → Result Replied Refusal
judgement n (Got.refused r) = Err r
judgement n (Got.got p rest) =
    read_as_response (length_at p.texts 0) (length_at p.texts 1) (length p.items) (length (flatten (item_texts p.items))) p.status
    (length_at p.error 0) (n - length rest)

-- the same with an output of so many; "with 10 last"
abbrev pub answered : ℕ → ℕ → Got Response → Result Replied Refusal
answered n room (Got.refused r) = Err r
answered n room (Got.got p rest) = if (ltb room (length (text_bytes p))) (Err NoRoom) (judgement n (Got.got p rest))
