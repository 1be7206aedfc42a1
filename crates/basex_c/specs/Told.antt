-- What each call counts, what it tells, and which bytes it stores.
use Rattle.std.specs.Prelude.{Result, Ok, Err, Option, Some, None, List, [], ◌∷◌, ℕ, ◌-◌}
use Rattle.wire.specs.declared.Refusal.{Refusal}
use lib.{Dec.ltb, Dec.eqb, ListN.length, ListN.drop, ListN.get_or}
use Rattle.wire.specs.{Bytes.if, Fields.Got, declared.Place.Place}
use Rattle.wire.specs.declared.Refusal.TheVariants.{MoreBytes, UnknownInstruction, ValueNotAllowed, NoRoom}
use Rattle.basex_string.specs.{declared.StringAt.StringAt, Answers.located, Answers.decoded}
use Rattle.basex_string.specs.Scan as strings
use Rattle.basex.specs.{declared.Reply.Reply, Kinds.find_of, Kinds.listed, Kinds.is_full}
use Rattle.basex_request.specs.{declared.Requested.Requested, Reading.requested}
use Rattle.basex_request.specs.Reading as requests
use Rattle.basex_response.specs.{declared.ItemAt.ItemAt, declared.Replied.Replied, Errors.error_at, Items.next, Items.item_at, Reading.answered}
use Rattle.basex_response.specs.Reading as responses
use Rattle.basex_c.specs.{Codes.Outcome, Codes.lent}

-- the bytes of a string that stands at `at`; told is how long it is, decoded
abbrev pub string_told : ℕ → Result StringAt Refusal → Outcome
string_told at (Ok m) = Outcome.counted (m.next - at) (m.len ∷ [])
string_told at (Err r) = Outcome.refused r

-- the bytes of a request; told are its kind and how long each of four texts is
abbrev pub request_told : Result Requested Refusal → Outcome
request_told (Ok m) = Outcome.counted m.read (m.kind ∷ m.first ∷ m.second ∷ m.third ∷ m.fourth ∷ [])
request_told (Err r) = Outcome.refused r

-- the bytes of a response; told are how long two texts are, the items, how long all their texts are, the status, and how long the error is
abbrev pub response_told : Result Replied Refusal → Outcome
response_told (Ok m) = Outcome.counted m.read (m.first ∷ m.second ∷ m.items ∷ m.listed ∷ m.status ∷ m.error ∷ [])
response_told (Err r) = Outcome.refused r

-- the bytes of an item that stands at `at`; told are its id, and how long its URI and its text are. 0 at the 00 behind the last, and nothing is told
abbrev pub item_told : ℕ → Result ItemAt Refusal → Outcome
item_told at (Ok (ItemAt.Item id uri text behind)) = Outcome.counted (behind - at) (id ∷ uri ∷ text ∷ [])
item_told at (Ok (ItemAt.End behind)) = Outcome.counted 0 []
item_told at (Err r) = Outcome.refused r

-- the item that stands at `at` in a response: 2 for a kind that is none, 8 for one without items, then its fields
abbrev pub item_as : Option (ℕ × Reply) → List ℕ → ℕ → Result ItemAt Refusal
item_as None s at = Err UnknownInstruction
item_as (Some (n, reply)) s at =
    if (listed reply) (item_at (is_full reply) at (length s - at) (next (is_full reply) (drop at s))) (Err ValueNotAllowed)

-- "1 for no byte, 2, then fields": where no byte stands at `at`, 1 whatever the kind
abbrev pub item_in : ℕ → List ℕ → ℕ → Result ItemAt Refusal
item_in kind s at = if (ltb at (length s)) (item_as (find_of kind) s at) (Err MoreBytes)

-- the bytes of what was read, none where reading is refused
abbrev pub bytes_read : {A : Type 0} → (A → List ℕ) → Got A → List ℕ
bytes_read bytes (Got.refused r) = []
bytes_read bytes (Got.got a rest) = bytes a

-- judging the string at `at`, with so many numbers lent
abbrev pub judging : List ℕ → ℕ → ℕ → Outcome
judging s at numbers = lent numbers (string_told at (located (length s) (strings.reading (drop at s))))

-- the same, and decoding it from `to` on into an output of so many bytes
abbrev pub decoding : List ℕ → ℕ → ℕ → ℕ → ℕ → Outcome
decoding s at room to numbers = lent numbers (string_told at (decoded (length s) room to (strings.reading (drop at s))))

-- reading a request into an output of so many bytes, with so many numbers lent
abbrev pub request_read : List ℕ → ℕ → ℕ → Outcome
request_read s room numbers = lent numbers (request_told (requested (length s) room (requests.reading s)))

-- the same of a response to a request that starts with the byte
abbrev pub response_read : ℕ → List ℕ → ℕ → ℕ → Outcome
response_read kind s room numbers = lent numbers (response_told (answered (length s) room (responses.reading kind s)))

-- reading the item at `at` of one, with so many numbers lent
abbrev pub item_read : ℕ → List ℕ → ℕ → ℕ → Outcome
item_read kind s at numbers = lent numbers (item_told at (item_in kind s at))

-- the error of a response: 1 where the request failed, and told are where it starts and how long it is. 0 where it did not, and nothing is told
abbrev pub error_told : Result (Option Place) Refusal → Outcome
error_told (Ok (Some place)) = Outcome.counted 1 (place.start ∷ place.len ∷ [])
error_told (Ok None) = Outcome.counted 0 []
error_told (Err r) = Outcome.refused r

-- by the six numbers that reading it told: 2 for a kind that is none, 8 for a status above 1
abbrev pub error_by : Option (ℕ × Reply) → List ℕ → Result (Option Place) Refusal
error_by None n = Err UnknownInstruction
error_by (Some (k, reply)) n =
    if (ltb 1 (get_or n 4 0)) (Err ValueNotAllowed)
    (if (eqb (get_or n 4 0) 0) (Ok None) (Ok (Some (error_at reply (get_or n 0 0) (get_or n 1 0) (get_or n 3 0) (get_or n 5 0)))))

-- 10 ahead of anything where fewer than six are given
abbrev pub error_in : ℕ → List ℕ → Result (Option Place) Refusal
error_in kind n = if (ltb (length n) 6) (Err NoRoom) (error_by (find_of kind) n)

-- telling it, with so many numbers lent
abbrev pub error_read : ℕ → List ℕ → ℕ → Outcome
error_read kind n numbers = lent numbers (error_told (error_in kind n))
