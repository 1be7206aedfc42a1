-- The calls by which programs in C and Rust reach BaseX (`kdr_basex_..`): what each answers and leaves, turned back into what it means
-- by the names in the header `bindings/c/keddorimp.h`, is what was read or written.
--
-- `Called` and the definitions behind it have the right sides of the contracts. For each call a record or a type says what right is, and
-- `BaseXCalls`, at the end, that every call comes out right, whatever can be lent (`Lendable`).
use mathlib.Core.{Bool.Bool, Bool.true, Bool.false, List.List, List.[], List.◌∷◌, List.◌++◌, List.flatten, Logic.◌⊎◌, Path.◌≡◌}
use Rattle.std.specs.Prelude.{Some, None, ℕ, zero, suc, ◌+◌, ◌≤◌, ◌<◌}
use lib.{Dec.eqb, ListN.length, ListN.take, ListN.drop, ListN.get_or}
use Rattle.wire.specs.{Bytes.if, Bytes.splice, Call.in_room, Call.output_after, Fields.Got, declared.Refusal.Refusal, Refusals.number_of}
use Rattle.basex_string.specs.Strings.{string}
use Rattle.basex_string.specs.Scan as strings
use Rattle.basex.specs.{Texts.strings as strings_bytes, declared.Reply.Reply, Kinds.find_of, Kinds.listed, Kinds.is_full, Request.Request}
use Rattle.basex.specs.Request as request
use Rattle.basex.specs.Response.{Item, Response, item_bytes, ItemAllowed, Stands, error_of}
use Rattle.basex.specs.Response as response
use Rattle.basex_request.specs.{Calls.padded, Reading.kind_of, Reading.texts_of}
use Rattle.basex_request.specs.Reading as requests
use Rattle.basex_request.specs.Writing as requesting
use Rattle.basex_response.specs.Reading as responses
use Rattle.basex_response.specs.{Reading.all_texts, Writing.item_of, Writing.full_of, Writing.item_written, Writing.end_written, Writing.end_bytes}
use Rattle.basex_laws.specs.Calls.{listed_of, uri_of, text_of}
use Rattle.basex_laws.specs.Exactly.{Cut, parts_of, Means, Unwritten, MeansItem, ItemUnwritten, MeansEnd, EndUnwritten}
use Rattle.basex_laws.specs.Moments.{Encoded, Begun, next_bytes, NextAllowed, BadId, BadItem}
use Rattle.basex_c.specs.Codes.{Outcome, counted_of, code, told_in}
use Rattle.basex_c.specs.Told.{bytes_read, judging, decoding, request_read, response_read, item_read, error_read}
use Rattle.answer_c.specs.Codes.{counted_code}
use Rattle.demands.specs.Answered.{Answered, REFUSED, answered}

-- a slice that can be lent: none in memory has 2^63 elements
abbrev pub Lendable : List ℕ → Type 0
Lendable s = length s < REFUSED

-- what a call answers, and what it leaves in the lent output and in the lent numbers; none where it is lent none
pub record Called : Type 0 where
  pub answer : Answered
  pub out : List ℕ
  pub told : List ℕ

-- the right sides of the contracts, call by call: first of those that tell numbers ..
abbrev pub telling : List ℕ → ℕ → List ℕ → List ℕ → Outcome → Called
telling out to bytes told o = record { answer = answered (code o); out = output_after (counted_of o) out to bytes; told = told_in told o }

abbrev pub string_at_called : List ℕ → ℕ → List ℕ → Called
string_at_called s at told = telling [] 0 [] told (judging s at (length told))

abbrev pub decode_called : List ℕ → ℕ → List ℕ → ℕ → List ℕ → Called
decode_called s at out to told = telling out to (bytes_read (λ s. s) (strings.reading (drop at s))) told (decoding s at (length out) to (length told))

abbrev pub read_request_called : List ℕ → List ℕ → List ℕ → Called
read_request_called s out told = telling out 0 (bytes_read requests.text_bytes (requests.reading s)) told (request_read s (length out) (length told))

abbrev pub read_response_called : ℕ → List ℕ → List ℕ → List ℕ → Called
read_response_called kind s out told =
    telling out 0 (bytes_read responses.text_bytes (responses.reading kind s)) told (response_read kind s (length out) (length told))

abbrev pub item_called : ℕ → List ℕ → ℕ → List ℕ → Called
item_called kind s at told = telling [] 0 [] told (item_read kind s at (length told))

abbrev pub error_called : ℕ → List ℕ → List ℕ → Called
error_called kind numbers place = telling [] 0 [] place (error_read kind numbers (length place))

-- .. and then of those that write
abbrev pub writing : ℕ → List ℕ → Called
writing answer out = record { answer = answered answer; out = out; told = [] }

abbrev pub write_string_called : List ℕ → ℕ → List ℕ → Called
write_string_called out at text =
    writing (counted_code (in_room (length out) at (length (string text))))
    (output_after (in_room (length out) at (length (string text))) out at (string text))

abbrev pub write_request_called : List ℕ → ℕ → List (List ℕ) → Called
write_request_called out kind ts =
    writing (counted_code (requesting.written (length out) kind ts))
    (output_after (requesting.written (length out) kind ts) out 0 (requesting.bytes_of kind ts))

abbrev pub write_item_called : List ℕ → ℕ → ℕ → ℕ → List ℕ → List ℕ → Called
write_item_called out at kind id uri text =
    writing (counted_code (item_written (length out) at kind id uri text))
    (output_after (item_written (length out) at kind id uri text) out at (item_bytes (item_of (full_of (find_of kind)) id uri text)))

abbrev pub write_end_called : List ℕ → ℕ → ℕ → List ℕ → List ℕ → ℕ → List ℕ → Called
write_end_called out at kind first second status error =
    writing (counted_code (end_written (length out) at kind first second status error))
    (output_after (end_written (length out) at kind first second status error) out at (end_bytes (find_of kind) first second status error))

-- "A refusal returns its number alone": everything that was lent is as it was
abbrev pub refused_with : Refusal → List ℕ → List ℕ → Called
refused_with r out told = record { answer = Answered.refusal (number_of r); out = out; told = told }

-- a call that was lent an output and numbers came out right: refused where a refusal is due, or accepted
pub data ComesOutRight (Due : Refusal → Type 0) (Accepted : Called → Type 0) (out told : List ℕ) (c : Called) : Type 0 where
  refused : (r : Refusal) → Due r → c ≡ refused_with r out told → ComesOutRight Due Accepted out told c
  accepted : Accepted c → ComesOutRight Due Accepted out told c

-- the refusal that is due for a call of reading: what reading refuses, and "with 10 last" where it reads well and what it reads has no place
pub data Unread {A : Type 0} (x : Got A) (NoPlace : A → Type 0) : Refusal → Type 0 where
  unread : (r : Refusal) → x ≡ Got.refused r → Unread x NoPlace r
  no_room : (a : A) (rest : List ℕ) → x ≡ Got.got a rest → NoPlace a → Unread x NoPlace Refusal.NoRoom

-- an output that has no room for so many bytes, or fewer lent numbers than are told
abbrev pub NoPlace : List ℕ → ℕ → List ℕ → ℕ → Type 0
NoPlace out bytes told fields = (length out < bytes) ⊎ (length told < fields)

-- so many numbers are told: as many are lent, and those behind them are as they were
pub record Fields (n : ℕ) (before after : List ℕ) : Type 0 where
  pub enough : n ≤ length before
  pub long : length after ≡ length before
  pub behind : drop n after ≡ drop n before

-- enum kdr_basex_string_field, KDR_BASEX_STRING_LENGTH: how long a string is, decoded
abbrev pub string_length : List ℕ → ℕ
string_length told = get_or told 0 0

-- the string that starts at `at`: how many bytes it takes, and how long it is, decoded
pub record StringRead (s : List ℕ) (at : ℕ) (told : List ℕ) (c : Called) : Type 0 where
  pub text : List ℕ
  pub rest : List ℕ
  pub stands : drop at s ≡ string text ++ rest
  pub counted : c.answer ≡ Answered.count (length (string text))
  pub long : string_length c.told ≡ length text
  pub fields : Fields 1 told c.told

-- .. and decoded into the output from `to` on: it is cut out there by its length, and nothing else has changed
pub record Decoded (s : List ℕ) (at : ℕ) (out : List ℕ) (to : ℕ) (told : List ℕ) (c : Called) : Type 0 where
  pub read : StringRead s at told c
  pub fits : to + length read.text ≤ length out
  pub there : take (string_length c.told) (drop to c.out) ≡ read.text
  pub stored : c.out ≡ splice out to read.text

-- enum kdr_basex_request_field: KDR_BASEX_REQUEST_KIND, KDR_BASEX_REQUEST_LENGTH_1 to _4
pub record RequestNumbers : Type 0 where
  pub kind : ℕ
  pub length_1 : ℕ
  pub length_2 : ℕ
  pub length_3 : ℕ
  pub length_4 : ℕ

abbrev pub request_numbers : List ℕ → RequestNumbers
request_numbers t = record { kind = get_or t 0 0; length_1 = get_or t 1 0; length_2 = get_or t 2 0; length_3 = get_or t 3 0; length_4 = get_or t 4 0 }

-- KDR_BASEX_COMMAND
abbrev pub COMMAND : ℕ
COMMAND = 0x20

-- the texts of a request cut out of the output by the numbers told: one behind the other in front of it
abbrev pub RequestTexts : RequestNumbers → List ℕ → List (List ℕ) → Type 0
RequestTexts n out ts = Cut ts out n.length_1 n.length_2 n.length_3 n.length_4

-- a published request whose encoding stands in front: its kind, and its texts cut out of the output by the lengths told
pub record RequestRead (s out told : List ℕ) (c : Called) : Type 0 where
  pub value : Request
  pub rest : List ℕ
  pub published : request.Published value
  pub stands : s ≡ request.encode value ++ rest
  pub counted : c.answer ≡ Answered.count (length (request.encode value))
  pub named : (request_numbers c.told).kind ≡ kind_of value
  pub texts : RequestTexts (request_numbers c.told) c.out (padded (texts_of value))
  pub fields : Fields 5 told c.told
  pub fits : length (flatten (texts_of value)) ≤ length out
  pub stored : c.out ≡ splice out 0 (flatten (texts_of value))

-- enum kdr_basex_response_field: KDR_BASEX_RESPONSE_LENGTH_1 and _2, _ITEMS, _LISTED, _STATUS, _ERROR
pub record ResponseNumbers : Type 0 where
  pub length_1 : ℕ
  pub length_2 : ℕ
  pub items : ℕ
  pub listed : ℕ
  pub status : ℕ
  pub error : ℕ

abbrev pub response_numbers : List ℕ → ResponseNumbers
response_numbers t =
    record { length_1 = get_or t 0 0; length_2 = get_or t 1 0; items = get_or t 2 0; listed = get_or t 3 0; status = get_or t 4 0; error = get_or t 5 0 }

-- the texts of a response cut out of the output by the numbers told: the first, the second, those of the items together, and the error
abbrev pub ResponseTexts : ResponseNumbers → List ℕ → List (List ℕ) → Type 0
ResponseTexts n out ts = Cut ts out n.length_1 n.length_2 n.listed n.error

-- a published response to the request whose encoding stands in front: its status, how many items, and its texts cut out of the output by the lengths told
pub record ResponseRead (kind : ℕ) (s out told : List ℕ) (c : Called) : Type 0 where
  pub value : Response
  pub rest : List ℕ
  pub stands : Stands kind value s rest
  pub counted : c.answer ≡ Answered.count (length (response.encode stands.reply value))
  pub items : (response_numbers c.told).items ≡ length value.items
  pub status : (response_numbers c.told).status ≡ value.status
  pub texts : ResponseTexts (response_numbers c.told) c.out (parts_of value)
  pub fields : Fields 6 told c.told
  pub fits : length (flatten (all_texts value)) ≤ length out
  pub stored : c.out ≡ splice out 0 (flatten (all_texts value))

-- enum kdr_basex_error_field: KDR_BASEX_ERROR_START, _LENGTH
pub record ErrorNumbers : Type 0 where
  pub start : ℕ
  pub len : ℕ

abbrev pub error_numbers : List ℕ → ErrorNumbers
error_numbers t = record { start = get_or t 0 0; len = get_or t 1 0 }

-- the refusal that is due where the error is asked for, by whatever numbers are given, with so many lent
pub data ErrorDue (kind : ℕ) (numbers : List ℕ) (lent : ℕ) : Refusal → Type 0 where
  -- 10 ahead of anything: fewer than six are given
  too_few : length numbers < 6 → ErrorDue kind numbers lent Refusal.NoRoom
  -- 2: a kind that is none
  unknown : 6 ≤ length numbers → find_of kind ≡ None → ErrorDue kind numbers lent Refusal.UnknownInstruction
  -- "Status above 01: 8."
  bad_status : 6 ≤ length numbers → (n : ℕ) (reply : Reply) → find_of kind ≡ Some (n, reply) → 1 < (response_numbers numbers).status
      → ErrorDue kind numbers lent Refusal.ValueNotAllowed
  -- 10, last: there is an error, and fewer than two are lent
  no_room : 6 ≤ length numbers → (n : ℕ) (reply : Reply) → find_of kind ≡ Some (n, reply) → (response_numbers numbers).status ≡ 1 → lent < 2
      → ErrorDue kind numbers lent Refusal.NoRoom

-- the request did not fail: 0, and nothing is told
pub record NoError (place : List ℕ) (c : Called) : Type 0 where
  pub counted : c.answer ≡ Answered.count 0
  pub untold : c.told ≡ place

-- it failed: 1, and two numbers are told
pub record SomeError (place : List ℕ) (c : Called) : Type 0 where
  pub counted : c.answer ≡ Answered.count 1
  pub fields : Fields 2 place c.told

-- by status 00 or 01
abbrev pub ErrorAsked : List ℕ → List ℕ → Called → Type 0
ErrorAsked numbers place c =
    (((response_numbers numbers).status ≡ 0) × NoError place c) ⊎ (((response_numbers numbers).status ≡ 1) × SomeError place c)

-- the error string of a response, none or one, is cut out of the output that reading the response left, by the two numbers told
pub data ErrorTold (errors : List (List ℕ)) (out place : List ℕ) (c : Called) : Type 0 where
  none : errors ≡ [] → NoError place c → ErrorTold errors out place c
  -- 10: "A refusal returns its number alone"
  no_room : (t : List ℕ) → errors ≡ t ∷ [] → length place < 2 → c ≡ refused_with Refusal.NoRoom [] place → ErrorTold errors out place c
  one : (t : List ℕ) → errors ≡ t ∷ [] → SomeError place c
      → (error_numbers c.told).start + (error_numbers c.told).len ≤ length out
      → take (error_numbers c.told).len (drop (error_numbers c.told).start out) ≡ t → ErrorTold errors out place c

-- enum kdr_basex_item_field: KDR_BASEX_ITEM_ID, _URI, _TEXT
pub record ItemNumbers : Type 0 where
  pub id : ℕ
  pub uri : ℕ
  pub text : ℕ

abbrev pub item_numbers : List ℕ → ItemNumbers
item_numbers t = record { id = get_or t 0 0; uri = get_or t 1 0; text = get_or t 2 0 }

-- the kind is that of a request whose response has items, with URIs or without
pub record Lists (kind : ℕ) (full : Bool) : Type 0 where
  pub strings : ℕ
  pub reply : Reply
  pub known : find_of kind ≡ Some (strings, reply)
  pub list : listed reply ≡ true
  pub uris : is_full reply ≡ full

-- the refusal that is due for an item, by the encodings, where s are the bytes from its place on and so many numbers are lent:
-- "1 for no byte, 2, then fields left to right: 1, 8, and 13 as soon as the pair is there", "with 10 last"
pub data ItemDue (kind : ℕ) (s : List ℕ) (numbers : ℕ) : Refusal → Type 0 where
  -- 1 for no byte, whatever the kind
  no_byte : s ≡ [] → ItemDue kind s numbers Refusal.MoreBytes
  -- 2 for a kind that is none, and 8 for one without items, at the first byte, whatever it is
  unknown : 0 < length s → find_of kind ≡ None → ItemDue kind s numbers Refusal.UnknownInstruction
  unlisted : 0 < length s → (n : ℕ) (reply : Reply) → find_of kind ≡ Some (n, reply) → listed reply ≡ false → ItemDue kind s numbers Refusal.ValueNotAllowed
  -- 1: an item, or the 00 behind the last, is begun and not whole
  more : (full : Bool) → Lists kind full → Begun (Encoded (NextAllowed full) next_bytes) s → ItemDue kind s numbers Refusal.MoreBytes
  -- "a type id (7-15 or 32-83, else 8)"
  bad_id : (full : Bool) → Lists kind full → BadId s → ItemDue kind s numbers Refusal.ValueNotAllowed
  -- 13 in one of its strings
  bad_pair : (full : Bool) → Lists kind full → BadItem full s → ItemDue kind s numbers Refusal.BadEscape
  -- 10: an item stands there, and fewer than three numbers are lent
  no_room : (full : Bool) → Lists kind full → (i : Item) (rest : List ℕ) → ItemAllowed full i → s ≡ item_bytes i ++ rest → numbers < 3
      → ItemDue kind s numbers Refusal.NoRoom

-- an item at `at`: how many bytes it takes, its id, and how long its URI and its text are
pub record ItemRead (kind : ℕ) (s : List ℕ) (at : ℕ) (told : List ℕ) (c : Called) : Type 0 where
  pub full : Bool
  pub lists : Lists kind full
  pub item : Item
  pub rest : List ℕ
  pub allowed : ItemAllowed full item
  pub stands : drop at s ≡ item_bytes item ++ rest
  pub counted : c.answer ≡ Answered.count (length (item_bytes item))
  pub named : (item_numbers c.told).id ≡ item.id
  pub uri : (item_numbers c.told).uri ≡ length (uri_of full item)
  pub text : (item_numbers c.told).text ≡ length (text_of full item)
  pub fields : Fields 3 told c.told

-- the 00 behind the last item: 0, and nothing is told
pub record ItemsEnd (kind : ℕ) (s : List ℕ) (at : ℕ) (told : List ℕ) (c : Called) : Type 0 where
  pub full : Bool
  pub lists : Lists kind full
  pub rest : List ℕ
  pub stands : drop at s ≡ 0 ∷ rest
  pub counted : c.answer ≡ Answered.count 0
  pub untold : c.told ≡ told

-- an item by the numbers told, its texts cut out of the output from `to` on, and what comes then; none at the end of the items or a refusal
abbrev pub onward : Bool → List ℕ → ℕ → ℕ → Answered → ItemNumbers → (ℕ → ℕ → List Item) → List Item
onward full out at to (Answered.refusal r) t then = []
onward full out at to (Answered.count n) t then =
    if (eqb n 0) []
    (item_of full t.id (take t.uri (drop to out)) (take t.text (drop (to + t.uri) out)) ∷ then (at + n) (to + (t.uri + t.text)))

-- the items that up to n calls of kdr_basex_item tell, the first at `at` in the bytes and each other as far behind the one before as that has bytes
unfoldable pub walked : ℕ → ℕ → List ℕ → List ℕ → List ℕ → ℕ → ℕ → List Item
walked zero kind s out told at to = []
walked (suc n) kind s out told at to =
    onward (full_of (find_of kind)) out at to (item_called kind s at told).answer (item_numbers (item_called kind s at told).told) (walked n kind s out told)

-- the response with these items in place of its own
abbrev pub with_items : Response → List Item → Response
with_items r is = record { texts = r.texts; items = is; status = r.status; error = r.error }

-- by how many bytes an answer takes a caller onward
abbrev pub count_of : Answered → ℕ
count_of (Answered.count n) = n
count_of (Answered.refusal r) = 0

-- what is left of the bytes when n times kdr_basex_item was asked at their front, and as many bytes were dropped as it counted
unfoldable pub streamed : ℕ → ℕ → List ℕ → List ℕ → List ℕ
streamed zero kind told s = s
streamed (suc n) kind told s = streamed n kind told (drop (count_of (item_called kind s 0 told).answer) s)

-- bytes written from `at` on: as many as are counted, and nothing else has changed
pub record Written (Is : List ℕ → Type 0) (out : List ℕ) (at : ℕ) (c : Called) : Type 0 where
  pub bytes : List ℕ
  pub is : Is bytes
  pub counted : c.answer ≡ Answered.count (length bytes)
  pub fits : at + length bytes ≤ length out
  pub there : c.out ≡ splice out at bytes

-- the encoding of the published request that a kind and texts stand for; of the item; of the response without its items
abbrev pub RequestBytes : ℕ → List (List ℕ) → List ℕ → Type 0
RequestBytes kind ts e = (q : Request) × Means kind ts q × request.Published q × (e ≡ request.encode q)

abbrev pub ItemBytes : ℕ → ℕ → List ℕ → List ℕ → List ℕ → Type 0
ItemBytes kind id uri text e = (i : Item) × MeansItem kind id uri text i × (e ≡ item_bytes i)

abbrev pub EndBytes : ℕ → List ℕ → List ℕ → ℕ → List ℕ → List ℕ → Type 0
EndBytes kind first second status error e =
    (reply : Reply) × (r : Response) × MeansEnd kind first second status error reply r × (e ≡ response.encode reply r)

pub record BaseXCalls : Type 0 where
  -- kdr_basex_string_len is never refused: for texts below 2^62 bytes its answer is a count as any other
  pub string_len : (text : List ℕ) → length text < 4611686018427387904 → answered (length (string text)) ≡ Answered.count (length (string text))
  pub write_string : (out : List ℕ) → Lendable out → (at : ℕ) (text : List ℕ)
      → ComesOutRight (λ r. (r ≡ Refusal.NoRoom) × (length out < at + length (string text))) (Written (λ e. e ≡ string text) out at)
      out [] (write_string_called out at text)
  pub string_at : (s : List ℕ) → Lendable s → (at : ℕ) (told : List ℕ)
      → ComesOutRight (Unread (strings.reading (drop at s)) (λ t. length told < 1)) (StringRead s at told)
      [] told (string_at_called s at told)
  pub decode : (s : List ℕ) → Lendable s → (at : ℕ) (out : List ℕ) (to : ℕ) (told : List ℕ)
      → ComesOutRight (Unread (strings.reading (drop at s)) (λ t. NoPlace out (to + length t) told 1)) (Decoded s at out to told)
      out told (decode_called s at out to told)
  pub read_request : (s : List ℕ) → Lendable s → (out told : List ℕ)
      → ComesOutRight (Unread (requests.reading s) (λ q. NoPlace out (length (flatten (texts_of q))) told 5)) (RequestRead s out told)
      out told (read_request_called s out told)
  -- "its first byte, and KDR_BASEX_COMMAND for each COMMAND", and the texts in the request's order
  pub command_told : (text : List ℕ) → (kind_of (Request.command text) ≡ COMMAND) × (texts_of (Request.command text) ≡ text ∷ [])
  pub coded_told : (first : ℕ) (texts : List (List ℕ)) → (kind_of (Request.coded first texts) ≡ first) × (texts_of (Request.coded first texts) ≡ texts)
  pub write_request : (out : List ℕ) → Lendable out → (kind : ℕ) (a b c d : List ℕ)
      → ComesOutRight (Unwritten (length out) kind (a ∷ b ∷ c ∷ d ∷ [])) (Written (RequestBytes kind (a ∷ b ∷ c ∷ d ∷ [])) out 0)
      out [] (write_request_called out kind (a ∷ b ∷ c ∷ d ∷ []))
  pub read_response : (kind : ℕ) (s : List ℕ) → Lendable s → (out told : List ℕ)
      → ComesOutRight (Unread (responses.reading kind s) (λ r. NoPlace out (length (flatten (all_texts r))) told 6)) (ResponseRead kind s out told)
      out told (read_response_called kind s out told)
  -- a response that stands in front is the one that is read
  pub response-read : (kind : ℕ) (s : List ℕ) → Lendable s → (r : Response) (rest out told : List ℕ) → Stands kind r s rest
      → length (flatten (all_texts r)) ≤ length out → 6 ≤ length told
      → (a : ResponseRead kind s out told (read_response_called kind s out told)) × (a.value ≡ r) × (a.rest ≡ rest)
  -- an output as long as the input always suffices: with enough numbers lent, no call of reading is refused with 10
  pub decode_suffices : (s : List ℕ) → Lendable s → (at : ℕ) (out : List ℕ) (to : ℕ) (told : List ℕ) → to + length s ≤ length out → 1 ≤ length told
      → ¬ ((decode_called s at out to told).answer ≡ Answered.refusal 10)
  pub request_suffices : (s : List ℕ) → Lendable s → (out told : List ℕ) → length s ≤ length out → 5 ≤ length told
      → ¬ ((read_request_called s out told).answer ≡ Answered.refusal 10)
  pub response_suffices : (kind : ℕ) (s : List ℕ) → Lendable s → (out told : List ℕ) → length s ≤ length out → 6 ≤ length told
      → ¬ ((read_response_called kind s out told).answer ≡ Answered.refusal 10)
  -- whatever numbers are given, kdr_basex_error answers by the status, and refuses exactly where it is due
  pub error : (kind : ℕ) (numbers place : List ℕ)
      → ComesOutRight (ErrorDue kind numbers (length place)) (ErrorAsked numbers place) [] place (error_called kind numbers place)
  pub error_due : (kind : ℕ) (numbers place : List ℕ) (r : Refusal) → ErrorDue kind numbers (length place) r
      → error_called kind numbers place ≡ refused_with r [] place
  -- by the numbers that kdr_basex_read_response told of a response, it tells where the error stands in the output that this left
  pub error-told : (kind : ℕ) (s : List ℕ) (r : Response) (rest out told place : List ℕ) (h : Stands kind r s rest)
      → length (flatten (all_texts r)) ≤ length out → 6 ≤ length told
      → ErrorTold (error_of h.reply r) (read_response_called kind s out told).out place (error_called kind (read_response_called kind s out told).told place)
  -- an item, or the end of them; and a refusal exactly where it is due
  pub item : (kind : ℕ) (s : List ℕ) → Lendable s → (at : ℕ) (told : List ℕ)
      → ComesOutRight (ItemDue kind (drop at s) (length told)) (λ c. ItemRead kind s at told c ⊎ ItemsEnd kind s at told c)
      [] told (item_called kind s at told)
  pub item_due : (kind : ℕ) (s : List ℕ) (at : ℕ) (told : List ℕ) (r : Refusal) → ItemDue kind (drop at s) (length told) r
      → item_called kind s at told ≡ refused_with r [] told
  -- the items of a response that was read, walked from the front, with their texts out of the output that reading it left
  pub items_walked : (kind : ℕ) (s : List ℕ) → Lendable s → listed_of (find_of kind) ≡ true
      → (r : Response) (rest out told : List ℕ) → Stands kind r s rest → length (flatten (all_texts r)) ≤ length out → 3 ≤ length told
      → walked (suc (length r.items)) kind s (splice out 0 (flatten (all_texts r))) told 0 0 ≡ r.items
  -- an item is told at the place where it stands, whatever is ahead of it and behind it, so also where the rest of the response has not come:
  -- one reads there exactly that item, and what comes later cannot change it; ..
  pub item_taken : (kind : ℕ) (full : Bool) → Lists kind full → (s : List ℕ) → Lendable s → (at : ℕ) (i : Item) (rest told : List ℕ)
      → ItemAllowed full i → drop at s ≡ item_bytes i ++ rest → 3 ≤ length told
      → (a : ItemRead kind s at told (item_called kind s at told)) × (a.item ≡ i) × (a.rest ≡ rest)
  -- .. so is the end of the items; ..
  pub item_none : (kind : ℕ) (full : Bool) → Lists kind full → (s : List ℕ) (at : ℕ) (rest told : List ℕ) → drop at s ≡ 0 ∷ rest
      → ItemsEnd kind s at told (item_called kind s at told)
  -- .. and the texts of an item are decoded by themselves: its strings stand behind its id, one behind the other
  pub item_decoded : (s : List ℕ) → Lendable s → (at : ℕ) (i : Item) (rest : List ℕ) → drop at s ≡ item_bytes i ++ rest
      → (front : List (List ℕ)) (t : List ℕ) (back : List (List ℕ)) → i.texts ≡ front ++ (t ∷ back)
      → (out : List ℕ) (to : ℕ) (told : List ℕ) → to + length t ≤ length out → 1 ≤ length told
      → (a : Decoded s (at + suc (length (strings_bytes front))) out to told (decode_called s (at + suc (length (strings_bytes front))) out to told))
      × (a.read.text ≡ t)
  -- of a response that has come whole, item by item: the first is told, and behind it stands the response without it; ..
  pub item_first : (kind : ℕ) (s : List ℕ) → Lendable s → (r : Response) (rest told : List ℕ) → Stands kind r s rest
      → (i : Item) (is : List Item) → r.items ≡ i ∷ is → 3 ≤ length told
      → (a : ItemRead kind s 0 told (item_called kind s 0 told)) × (a.item ≡ i) × Stands kind (with_items r is) (drop (length (item_bytes i)) s) rest
  -- .. so one comes to the end of the items, where what is left reads as the response without them
  pub items_streamed : (kind : ℕ) (s : List ℕ) → Lendable s → listed_of (find_of kind) ≡ true → (r : Response) (rest told : List ℕ)
      → Stands kind r s rest → 3 ≤ length told
      → ItemsEnd kind (streamed (length r.items) kind told s) 0 told (item_called kind (streamed (length r.items) kind told s) 0 told)
      × Stands kind (with_items r []) (streamed (length r.items) kind told s) rest
  pub write_item : (out : List ℕ) → Lendable out → (at kind id : ℕ) (uri text : List ℕ)
      → ComesOutRight (ItemUnwritten (length out) at kind id uri text) (Written (ItemBytes kind id uri text) out at)
      out [] (write_item_called out at kind id uri text)
  pub write_end : (out : List ℕ) → Lendable out → (at kind : ℕ) (first second : List ℕ) (status : ℕ) (error : List ℕ)
      → ComesOutRight (EndUnwritten (length out) at kind first second status error) (Written (EndBytes kind first second status error) out at)
      out [] (write_end_called out at kind first second status error)
