-- Document 01, "When writing or cutting: 2, 8, 11, 14, 10", and "Strings are decoded into lent output, with 10 last": exactly what is written and what
-- a call of reading tells, and which refusal is due else.
use Rattle.basex_response.specs.Reading.{read_as_response}
use Rattle.basex_request.specs.Reading.{read_as_request}
use Rattle.basex_string.specs.Answers.{string_there}
use Rattle.std.specs.Prelude.{Some, None, Ok, Err, ℕ, ◌+◌, ◌-◌, ◌≤◌, ◌<◌, length, take, drop, get_or}
use mathlib.Core.{Bool.Bool, Bool.true, Bool.false, List.List, List.[], List.◌∷◌, List.◌++◌, List.flatten, List.map, Logic.◌↔◌, Path.◌≡◌}
use Rattle.wire.specs.{Bytes.splice, Call.in_room, Call.output_after, Fields.Got, declared.Refusal.Refusal}
use Rattle.basex_string.specs.{declared.StringAt.StringAt, Answers.output_read, Strings.string}
use Rattle.basex_string.specs.Answers as decoding
use Rattle.basex_string.specs.Scan as strings
use Rattle.basex.specs.{declared.Reply.Reply}
use Rattle.basex.specs.{Request.Request, Request.opens, Response.Item, Response.Response, Response.item_bytes, Response.ItemAllowed, Texts.length_at}
use Rattle.basex.specs.Kinds.{find_of, row_byte, ahead, behind, listed, is_full, id_allowed, has_uri}
use Rattle.basex.specs.Request as request
use Rattle.basex.specs.Response as response
use Rattle.basex_request.specs.{declared.Requested.Requested, Calls.padded, Calls.cut, Reading.kind_of, Reading.texts_of}
use Rattle.basex_request.specs.Reading as requests
use Rattle.basex_request.specs.Writing as requesting
use Rattle.basex_response.specs.{declared.ItemAt.ItemAt, declared.Replied.Replied, Errors.error_at, Items.item_texts, Items.item_at, Reading.all_texts}
use Rattle.basex_response.specs.Writing.{item_of, item_written, full_of, end_written, end_bytes}
use Rattle.basex_response.specs.Items as items
use Rattle.basex_response.specs.Reading as responses
use Rattle.basex_laws.specs.Calls.{uri_of, text_of}

-- of texts given where n are taken, one beyond those is not empty
pub record Spare (n : ℕ) (ts : List (List ℕ)) : Type 0 where
  pub number : ℕ
  pub beyond : n ≤ number
  pub filled : 0 < length_at ts number

-- an encoding has n bytes, and they fit from `at` on in an output of so many
pub record Fits (room at : ℕ) (bytes : List ℕ) (n : ℕ) : Type 0 where
  pub count : n ≡ length bytes
  pub within : at + n ≤ room

-- a kind and four texts stand for the request q; every byte from 20 to FE stands for COMMAND
pub record Means (kind : ℕ) (ts : List (List ℕ)) (q : Request) : Type 0 where
  pub named : kind_of q ≡ row_byte kind
  pub given : padded (texts_of q) ≡ ts

-- the refusal that is due for a request
pub data Unwritten (room kind : ℕ) (ts : List (List ℕ)) : Refusal → Type 0 where
  -- "Other first bytes: 2."
  unknown : find_of kind ≡ None → Unwritten room kind ts Refusal.UnknownInstruction
  -- 8: a text that the kind does not take
  spare : (n : ℕ) (reply : Reply) → find_of kind ≡ Some (n, reply) → Spare n ts → Unwritten room kind ts Refusal.ValueNotAllowed
  -- "A command that is empty or starts otherwise: 11."
  command : (t : List ℕ) → Means kind ts (Request.command t) → opens t ≡ false → Unwritten room kind ts Refusal.NoEncoding
  -- 10: "lent output shorter than the bytes to be put there"
  no_room : (q : Request) → Means kind ts q → request.Published q → room < length (request.encode q) → Unwritten room kind ts Refusal.NoRoom

-- a kind, id, URI and text stand for the item i of a response with items
pub record MeansItem (kind id : ℕ) (uri text : List ℕ) (i : Item) : Type 0 where
  pub strings : ℕ
  pub reply : Reply
  pub known : find_of kind ≡ Some (strings, reply)
  pub list : listed reply ≡ true
  pub allowed : ItemAllowed (is_full reply) i
  pub named : i.id ≡ id
  pub one : uri_of (is_full reply) i ≡ uri
  pub two : text_of (is_full reply) i ≡ text

-- the refusal that is due for an item
pub data ItemUnwritten (room at kind id : ℕ) (uri text : List ℕ) : Refusal → Type 0 where
  -- 2: "unknown instruction, or BaseX first byte"
  unknown : find_of kind ≡ None → ItemUnwritten room at kind id uri text Refusal.UnknownInstruction
  -- 8: a kind without items ("RESULTS, FULL: items")
  unlisted : (n : ℕ) (reply : Reply) → find_of kind ≡ Some (n, reply) → listed reply ≡ false → ItemUnwritten room at kind id uri text Refusal.ValueNotAllowed
  -- "a type id (7-15 or 32-83, else 8)"
  bad_id : (n : ℕ) (reply : Reply) → find_of kind ≡ Some (n, reply) → id_allowed id ≡ false → ItemUnwritten room at kind id uri text Refusal.ValueNotAllowed
  -- 8: a URI where the item has none ("in FULL a URI string after 12, 14 and 82")
  spare : (n : ℕ) (reply : Reply) → find_of kind ≡ Some (n, reply) → has_uri (is_full reply) id ≡ false → 0 < length uri
      → ItemUnwritten room at kind id uri text Refusal.ValueNotAllowed
  -- 10: "lent output shorter than the bytes to be put there"
  no_room : (i : Item) → MeansItem kind id uri text i → room < at + length (item_bytes i) → ItemUnwritten room at kind id uri text Refusal.NoRoom

-- a kind, two texts, a status and an error stand for the response r without items: all of one that has no list, and what stands behind the items of another
pub record MeansEnd (kind : ℕ) (first second : List ℕ) (status : ℕ) (error : List ℕ) (reply : Reply) (r : Response) : Type 0 where
  pub strings : ℕ
  pub known : find_of kind ≡ Some (strings, reply)
  pub published : response.Published reply r
  pub bare : r.items ≡ []
  pub state : r.status ≡ status
  pub one : get_or r.texts 0 [] ≡ first
  pub two : get_or r.texts 1 [] ≡ second
  pub last : get_or r.error 0 [] ≡ error

-- the refusal that is due for the end of a response
pub data EndUnwritten (room at kind : ℕ) (first second : List ℕ) (status : ℕ) (error : List ℕ) : Refusal → Type 0 where
  -- 2: "unknown instruction, or BaseX first byte"
  unknown : find_of kind ≡ None → EndUnwritten room at kind first second status error Refusal.UnknownInstruction
  -- "Status above 01: 8."
  bad_status : (n : ℕ) (reply : Reply) → find_of kind ≡ Some (n, reply) → 1 < status
      → EndUnwritten room at kind first second status error Refusal.ValueNotAllowed
  -- 8: a text ahead of the status that the response does not take
  spare : (n : ℕ) (reply : Reply) → find_of kind ≡ Some (n, reply) → Spare (ahead reply) (first ∷ second ∷ [])
      → EndUnwritten room at kind first second status error Refusal.ValueNotAllowed
  -- 8: an error where there is none behind the status
  spare_error : (n : ℕ) (reply : Reply) → find_of kind ≡ Some (n, reply) → Spare (behind reply status) (error ∷ [])
      → EndUnwritten room at kind first second status error Refusal.ValueNotAllowed
  -- 10: "lent output shorter than the bytes to be put there"
  no_room : (reply : Reply) (r : Response) → MeansEnd kind first second status error reply r → room < at + length (response.encode reply r)
      → EndUnwritten room at kind first second status error Refusal.NoRoom

-- only published values are written, each as its encoding, and every other call gets the refusal that is due
pub record WrittenExactly : Type 0 where
  -- every text is a string
  pub string_written : (room at : ℕ) (text : List ℕ) (n : ℕ)
      → (in_room room at (length (string text)) ≡ Ok n) ↔ Fits room at (string text) n
  pub string_unwritten : (room at : ℕ) (text : List ℕ) (r : Refusal)
      → (in_room room at (length (string text)) ≡ Err r) ↔ ((r ≡ Refusal.NoRoom) × (room < at + length (string text)))
  pub request-written : (room kind : ℕ) (a b c d : List ℕ) (n : ℕ)
      → (requesting.written room kind (a ∷ b ∷ c ∷ d ∷ []) ≡ Ok n)
      ↔ ((q : Request) × Means kind (a ∷ b ∷ c ∷ d ∷ []) q × request.Published q × Fits room 0 (request.encode q) n)
  pub request_unwritten : (room kind : ℕ) (a b c d : List ℕ) (r : Refusal)
      → (requesting.written room kind (a ∷ b ∷ c ∷ d ∷ []) ≡ Err r) ↔ Unwritten room kind (a ∷ b ∷ c ∷ d ∷ []) r
  pub request_there : (out : List ℕ) (kind : ℕ) (ts : List (List ℕ)) (q : Request) → Means kind ts q → request.Published q
      → length (request.encode q) ≤ length out
      → output_after (requesting.written (length out) kind ts) out 0 (requesting.bytes_of kind ts) ≡ splice out 0 (request.encode q)
  pub item-written : (room at kind id : ℕ) (uri text : List ℕ) (n : ℕ)
      → (item_written room at kind id uri text ≡ Ok n) ↔ ((i : Item) × MeansItem kind id uri text i × Fits room at (item_bytes i) n)
  pub item_unwritten : (room at kind id : ℕ) (uri text : List ℕ) (r : Refusal)
      → (item_written room at kind id uri text ≡ Err r) ↔ ItemUnwritten room at kind id uri text r
  pub item_there : (out : List ℕ) (at kind id : ℕ) (uri text : List ℕ) (i : Item) → MeansItem kind id uri text i → at + length (item_bytes i) ≤ length out
      → output_after (item_written (length out) at kind id uri text) out at (item_bytes (item_of (full_of (find_of kind)) id uri text))
      ≡ splice out at (item_bytes i)
  pub end-written : (room at kind : ℕ) (first second : List ℕ) (status : ℕ) (error : List ℕ) (n : ℕ)
      → (end_written room at kind first second status error ≡ Ok n)
      ↔ ((reply : Reply) × (r : Response) × MeansEnd kind first second status error reply r × Fits room at (response.encode reply r) n)
  pub end_unwritten : (room at kind : ℕ) (first second : List ℕ) (status : ℕ) (error : List ℕ) (r : Refusal)
      → (end_written room at kind first second status error ≡ Err r) ↔ EndUnwritten room at kind first second status error r
  pub end_there : (out : List ℕ) (at kind : ℕ) (first second : List ℕ) (status : ℕ) (error : List ℕ) (reply : Reply) (r : Response)
      → MeansEnd kind first second status error reply r → at + length (response.encode reply r) ≤ length out
      → output_after (end_written (length out) at kind first second status error) out at (end_bytes (find_of kind) first second status error)
      ≡ splice out at (response.encode reply r)

-- a reading gives a, and leaves what starts at `next` in the bytes s
pub record Reads {A : Type 0} (x : Got A) (s : List ℕ) (next : ℕ) (a : A) : Type 0 where
  pub read : x ≡ Got.got a (drop next s)
  pub place : next ≤ length s

-- a reading gives what needs more than so many bytes
pub record TooLong {A : Type 0} (x : Got A) (need : A → ℕ) (room : ℕ) : Type 0 where
  pub value : A
  pub rest : List ℕ
  pub read : x ≡ Got.got value rest
  pub long : room < need value

-- the refusal that is due for a call that puts what it reads into an output of so many bytes
pub data Unread {A : Type 0} (x : Got A) (need : A → ℕ) (room : ℕ) : Refusal → Type 0 where
  -- what reading refuses
  refused : (r : Refusal) → x ≡ Got.refused r → Unread x need room r
  -- "with 10 last": it reads well, and does not fit
  no_room : TooLong x need room → Unread x need room Refusal.NoRoom

-- the string at `at`: how many bytes its text has, and where what follows starts
pub record Located (b : List ℕ) (at len next : ℕ) : Type 0 where
  pub text : List ℕ
  pub reads : Reads (strings.reading (drop at b)) b next text
  pub long : len ≡ length text

-- .. with its text in the output from `to` on
pub record Decoded (b : List ℕ) (at : ℕ) (out : List ℕ) (to len next : ℕ) : Type 0 where
  pub text : List ℕ
  pub reads : Reads (strings.reading (drop at b)) b next text
  pub long : len ≡ length text
  pub fits : to + len ≤ length out
  pub stored : output_read (λ s. s) out to (strings.reading (drop at b)) ≡ splice out to text
  pub there : take len (drop to (output_read (λ s. s) out to (strings.reading (drop at b)))) ≡ text

-- four texts told by their lengths: they stand one behind the other in front of the output
pub record Cut (ts : List (List ℕ)) (out : List ℕ) (a b c d : ℕ) : Type 0 where
  pub lengths : map length ts ≡ a ∷ b ∷ c ∷ d ∷ []
  pub there : cut out a b c d ≡ ts

-- what is told of a request: the kind, the lengths of its texts, and how many bytes were read
pub record RequestTold (s out : List ℕ) (kind a b c d n : ℕ) : Type 0 where
  pub request : Request
  pub reads : Reads (requests.reading s) s n request
  pub named : kind ≡ kind_of request
  pub fits : length (flatten (texts_of request)) ≤ length out
  pub stored : output_read requests.text_bytes out 0 (requests.reading s) ≡ splice out 0 (flatten (texts_of request))
  pub texts : Cut (padded (texts_of request)) (output_read requests.text_bytes out 0 (requests.reading s)) a b c d

-- the texts of a response as they are told: the first and the second ahead of the status, those of the items together, the error behind it
abbrev pub parts_of : Response → List (List ℕ)
parts_of r = get_or r.texts 0 [] ∷ get_or r.texts 1 [] ∷ flatten (item_texts r.items) ∷ get_or r.error 0 [] ∷ []

-- what is told of a response to a request that starts with the byte: the lengths of its texts, how many items, the status, and how many bytes were read
pub record ResponseTold (kind : ℕ) (s out : List ℕ) (first second items listed status error n : ℕ) : Type 0 where
  pub response : Response
  pub reads : Reads (responses.reading kind s) s n response
  pub count : items ≡ length (response).items
  pub state : status ≡ (response).status
  pub fits : length (flatten (all_texts response)) ≤ length out
  pub stored : output_read responses.text_bytes out 0 (responses.reading kind s) ≡ splice out 0 (flatten (all_texts response))
  pub texts : Cut (parts_of response) (output_read responses.text_bytes out 0 (responses.reading kind s)) first second listed error

-- what is told of an item whose bytes stand at `at`: its id, the lengths of its URI and its text, and where what follows starts
pub record ItemTold (full : Bool) (s : List ℕ) (at id uri text next : ℕ) : Type 0 where
  pub item : Item
  pub allowed : ItemAllowed full item
  pub stands : drop at s ≡ item_bytes item ++ drop next s
  pub place : next ≤ length s
  pub named : id ≡ item.id
  pub one : uri ≡ length (uri_of full item)
  pub two : text ≡ length (text_of full item)

-- a call of reading tells what is there, and else the refusal that is due
pub record ToldExactly : Type 0 where
  pub string_located : (b : List ℕ) (at len next : ℕ)
      → (decoding.located (length b) (strings.reading (drop at b)) ≡ string_there len next) ↔ Located b at len next
  pub string_unlocated : (b : List ℕ) (at : ℕ) (r : Refusal)
      → (decoding.located (length b) (strings.reading (drop at b)) ≡ Err r) ↔ (strings.reading (drop at b) ≡ Got.refused r)
  pub string_decoded : (b : List ℕ) (at : ℕ) (out : List ℕ) (to len next : ℕ)
      → (decoding.decoded (length b) (length out) to (strings.reading (drop at b)) ≡ string_there len next) ↔ Decoded b at out to len next
  pub string_undecoded : (b : List ℕ) (at : ℕ) (out : List ℕ) (to : ℕ) (r : Refusal)
      → (decoding.decoded (length b) (length out) to (strings.reading (drop at b)) ≡ Err r)
      ↔ Unread (strings.reading (drop at b)) (λ t. to + length t) (length out) r
  pub string_no_room : (b : List ℕ) (at : ℕ) (out : List ℕ) (to : ℕ)
      → (decoding.decoded (length b) (length out) to (strings.reading (drop at b)) ≡ Err Refusal.NoRoom)
      ↔ TooLong (strings.reading (drop at b)) (λ t. to + length t) (length out)
  pub request-told : (s out : List ℕ) (kind a b c d n : ℕ)
      → (requests.requested (length s) (length out) (requests.reading s) ≡ read_as_request kind a b c d n) ↔ RequestTold s out kind a b c d n
  pub request_refused : (s out : List ℕ) (r : Refusal)
      → (requests.requested (length s) (length out) (requests.reading s) ≡ Err r)
      ↔ Unread (requests.reading s) (λ q. length (flatten (texts_of q))) (length out) r
  pub request_no_room : (s out : List ℕ)
      → (requests.requested (length s) (length out) (requests.reading s) ≡ Err Refusal.NoRoom)
      ↔ TooLong (requests.reading s) (λ q. length (flatten (texts_of q))) (length out)
  pub response-told : (kind : ℕ) (s out : List ℕ) (first second items listed status error n : ℕ)
      → (responses.answered (length s) (length out) (responses.reading kind s) ≡ read_as_response first second items listed status error n)
      ↔ ResponseTold kind s out first second items listed status error n
  pub response_refused : (kind : ℕ) (s out : List ℕ) (r : Refusal)
      → (responses.answered (length s) (length out) (responses.reading kind s) ≡ Err r)
      ↔ Unread (responses.reading kind s) (λ p. length (flatten (all_texts p))) (length out) r
  pub response_no_room : (kind : ℕ) (s out : List ℕ)
      → (responses.answered (length s) (length out) (responses.reading kind s) ≡ Err Refusal.NoRoom)
      ↔ TooLong (responses.reading kind s) (λ p. length (flatten (all_texts p))) (length out)
  pub item-told : (full : Bool) (s : List ℕ) (at id uri text next : ℕ)
      → (item_at full at (length s - at) (items.next full (drop at s)) ≡ Ok (ItemAt.Item id uri text next)) ↔ ItemTold full s at id uri text next
  -- "items, then 00"
  pub item-end : (full : Bool) (s : List ℕ) (at next : ℕ)
      → (item_at full at (length s - at) (items.next full (drop at s)) ≡ Ok (ItemAt.End next)) ↔ ((drop at s ≡ 0 ∷ drop next s) × (next ≡ at + 1))
  pub item_refused : (full : Bool) (s : List ℕ) (at : ℕ) (r : Refusal)
      → (item_at full at (length s - at) (items.next full (drop at s)) ≡ Err r) ↔ (items.next full (drop at s) ≡ Got.refused r)

-- no text is longer than its bytes: an output as long as the input has room for all of them
pub record InputSuffices : Type 0 where
  pub string_short : (s t rest : List ℕ) → strings.reading s ≡ Got.got t rest → length t ≤ length s
  pub request_short : (s : List ℕ) (q : Request) (rest : List ℕ) → requests.reading s ≡ Got.got q rest → length (flatten (texts_of q)) ≤ length s
  pub response_short : (kind : ℕ) (s : List ℕ) (r : Response) (rest : List ℕ) → responses.reading kind s ≡ Got.got r rest
      → length (flatten (all_texts r)) ≤ length s

-- which of a response's parts is the error where there is one
abbrev pub error_part : Reply → ℕ
error_part Reply.Command = 1
error_part Reply.Create = 0
error_part Reply.Query = 3
error_part Reply.Results = 3
error_part Reply.Full = 3

-- the one error string of a response: the last of its strings, and one of the parts that are told; its place is behind all the others
pub record OneError (reply : Reply) (r : Response) : Type 0 where
  pub front : List (List ℕ)
  pub error : List ℕ
  pub one : response.error_of reply r ≡ error ∷ []
  pub last : all_texts r ≡ front ++ (error ∷ [])
  pub part : get_or (parts_of r) (error_part reply) [] ≡ error
  pub place : error_at reply (length_at r.texts 0) (length_at r.texts 1) (length (flatten (item_texts r.items))) (length_at r.error 0)
      ≡ record { start = length (flatten front); len = length error }

-- "with status 01 the last string is the error", and with 00 there is none
pub record ErrorsExactly : Type 0 where
  pub error_one : (reply : Reply) (r : Response) → response.Published reply r → r.status ≡ 1 → OneError reply r
  pub error_none : (reply : Reply) (r : Response) → r.status ≡ 0 → response.error_of reply r ≡ []
