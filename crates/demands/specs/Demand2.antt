-- Demand 2: "Reading accepts exactly the messages and strings of the two published protocols under 01's readings, and writing yields the same bytes back;
-- what was written reads as the same message. Cutting a statement or an item and joining it returns its bytes, where they fit the lent buffer."
--
-- Of each protocol, and of cutting and joining, a record says so; `Demand2`, at the end, is all three. Published formats (`Published`, `encode`, `string`)
-- and cuts know no reader and no joiner.
use mathlib.Core.{Bool.true, List.List, List.[], List.◌∷◌, List.◌++◌, List.map, List.flatten, Logic.◌↔◌, Option.some, Path.◌≡◌}
use Rattle.std.specs.Prelude.{Some, Ok, Err, ℕ, suc, ◌+◌, ◌-◌, ◌≤◌, ◌<◌}
use lib.{Dec.T, Dec.leb, ListN.length, ListN.take, ListN.drop, ListN.get_elem?}
use Rattle.wire.specs.{Bytes.IsBytes, Bytes.if, Bytes.splice, Call.output_after, Every.Every, Fields.Got, declared.Refusal.TheVariants.NoEncoding}
use Rattle.sedna.specs.{declared.Side.Side, declared.Side.TheVariants.Client, declared.Side.TheVariants.Server, declared.Entry.Entry}
use Rattle.sedna.specs.{Allowed.format_allowed, Allowed.allowed, Encode.body_bytes, Encode.encode}
use Rattle.sedna.specs.{Message.Url, Message.Pair, Message.Body, Message.Message, Message.message, Names.LongQueryEnd}
use Rattle.sedna.specs.{Published.Published, Published.Front, Published.Writable, Table.InTable}
use Rattle.sedna_read.specs.{declared.Places.Places, Meaning.meaning, Meaning.option_in}
use Rattle.sedna_read.specs.Places.{place, located, option_at, read_as_message}
use Rattle.sedna_read.specs.Reading.{Answer, reading}
use Rattle.sedna_write.specs.{Pairs.given, Pairs.pairs_of, Pairs.options_written, Writing.written}
use Rattle.sedna_laws.specs.Pieces.{Bounded}
use Rattle.grammar.specs.Grammar as grammar
use Rattle.grammar.specs.{Layout.flat_request, Layout.flat_item, Sent.Version, Sent.from, Sent.up_to}
use Rattle.parts_cut.specs.Cut.{start_room, cut_statement, cut_item, cut_typed_item}
use Rattle.parts_cut.specs.Part.{statement_parts, item_parts_from, item_count, url_parts, part_written}
use Rattle.parts_join.specs.{declared.Open.Open, Cuttings.Cutting, Cuttings.Ending, Cuttings.ending, Cuttings.messages, Cuttings.AllAllowed, Cuttings.Joins}
use Rattle.parts_handing.specs.Handing.{HandsOver}
use Rattle.parts_laws.specs.{Filled.Filled, Rejoined.UrlFits, Rejoined.Rejoined}
use Rattle.parts_laws.specs.ThroughBytes.{Uncut, Sendable, Roomy, Returned}
use Rattle.basex_string.specs.Scan as strings
use Rattle.basex_string.specs.{Answers.output_read, Strings.string}
use Rattle.basex.specs.{declared.Reply.Reply, Kinds.find_of, Request.Request, Response.Response, Response.Stands}
use Rattle.basex.specs.Request as request
use Rattle.basex.specs.Response as response
use Rattle.basex_request.specs.{Calls.padded, Calls.cut, Reading.kind_of, Reading.texts_of, Reading.requested, Reading.read_as_request}
use Rattle.basex_request.specs.Reading as requests
use Rattle.basex_request.specs.Writing as requesting
use Rattle.basex_response.specs.Reading as responses
use Rattle.basex_response.specs.{Reading.all_texts, Writing.full_of}
use Rattle.basex_laws.specs.Calls.{listed_of, handed, responded}
use Rattle.basex_laws.specs.Exactly.{WrittenExactly, ToldExactly, InputSuffices, ErrorsExactly}

-- Sedna's messages, read by the side that sent them. The bytes of a slice are bytes: `IsBytes s` is no condition on a caller
pub record Sedna : Type 0 where
  -- message m with n bytes is accepted exactly when the side sends it and the first n bytes are its encoding
  pub reading_exact : (side : Side) (s : List ℕ) → IsBytes s → (m : Message) (n : ℕ) → (reading side s ≡ Answer.accepted m n) ↔ (Published side m × Front s m n)
  -- one message per byte string
  pub one_message : (side : Side) (s : List ℕ) (m m' : Message) (n n' : ℕ)
      → Published side m × Front s m n → Published side m' × Front s m' n' → (m ≡ m') × (n ≡ n')
  -- one encoding per message
  pub one_encoding : (side : Side) (s s' : List ℕ) → IsBytes s → IsBytes s' → (m : Message) (n n' : ℕ)
      → reading side s ≡ Answer.accepted m n → reading side s' ≡ Answer.accepted m n' → (n ≡ n') × (take n s ≡ take n s')
  -- "Bytes after the message are not touched": what stands behind does not matter
  pub behind : (side : Side) (s s' : List ℕ) → IsBytes s → (m : Message) (n : ℕ)
      → reading side s ≡ Answer.accepted m n → take n s' ≡ take n s → reading side s' ≡ Answer.accepted m n
  -- what the reader answers, by the places of the fields, means what reading answers
  pub places_hold : (side : Side) (s : List ℕ) → IsBytes s → meaning s (located (reading side s)) ≡ reading side s
  -- the option number k that is handed out is the message's, and there is none beyond
  pub options_hold : (side : Side) (s : List ℕ) → IsBytes s → (i n : ℕ) (ps : List Pair)
      → reading side s ≡ Answer.accepted (message i (Body.options ps)) n → (k : ℕ) → option_in s (option_at k 8 (take (n - 8) (drop 8 s))) ≡ get_elem? ps k
  -- and as many are told as there are
  pub options_counted : (side : Side) (s : List ℕ) (i n : ℕ) (ps : List Pair)
      → reading side s ≡ Answer.accepted (message i (Body.options ps)) n
      → located (reading side s) ≡ read_as_message i (Places.Options (place 8 (n - 8)) (length ps)) n
  -- n bytes are written exactly when a side sends m, its encoding has n bytes and they fit; by `Writes` they are the encoding.
  -- What a function is handed is u8, u32 and slices of bytes: `Bounded` is no condition on a caller
  pub writing_exact : (room : ℕ) (m : Message) → Bounded m.body → (n : ℕ) → (written room m ≡ Ok n) ↔ Writable room m n
  -- options, which the writer takes as three lists: lists that belong together are written as the message with those options ..
  pub options-written : (room i : ℕ) (ids lengths values : List ℕ) → given ids lengths values ≡ true
      → options_written room i ids lengths values ≡ written room (message i (Body.options (pairs_of ids lengths values)))
  -- .. option k having the k-th id and the next bytes of the values, as many as the k-th length ..
  pub options_are : (ids lengths values : List ℕ) → given ids lengths values ≡ true
      → (map (λ (p : Pair). p.id) (pairs_of ids lengths values) ≡ ids)
      × (map (λ (p : Pair). length p.value) (pairs_of ids lengths values) ≡ lengths)
      × (flatten (map (λ (p : Pair). p.value) (pairs_of ids lengths values)) ≡ values)
  -- .. and every message's options can be given so
  pub options_given : (ps : List Pair)
      → (ids : List ℕ) × (lengths : List ℕ) × (values : List ℕ) × (given ids lengths values ≡ true) × (pairs_of ids lengths values ≡ ps)
  -- what was written reads as the same message
  pub read_written : (side : Side) (out : List ℕ) (m : Message) (n : ℕ) → Published side m
      → written (length out) m ≡ Ok n → reading side (output_after (Ok n) out 0 (encode m)) ≡ Answer.accepted m n
  -- writing yields the same bytes back
  pub write_read : (side : Side) (s : List ℕ) → IsBytes s → (m : Message) (n : ℕ) → reading side s ≡ Answer.accepted m n → (out : List ℕ) → n ≤ length out
      → (written (length out) m ≡ Ok n) × (output_after (Ok n) out 0 (encode m) ≡ take n s ++ drop n out)
  -- "read as 0 to 4,294,967,295": of a body of at most 10,240, being bytes (`Published.bytes`) says that its ints are at most 4,294,967,295,
  -- and its other numbers and the elements of its texts below 256
  pub bounds : (b : Body) → length (body_bytes b) ≤ 10240 → IsBytes (body_bytes b) ↔ Bounded b
  -- no instruction stands twice in the table
  pub once : (e e' : Entry) → InTable e → InTable e' → e.0 ≡ e'.0 → e ≡ e'

-- "Cutting a statement or an item and joining it returns its bytes, where they fit the lent buffer." A text is a slice of bytes, class and
-- type are bytes: `IsBytes text` and `Bounded` are no condition on a caller
pub record Parts : Type 0 where
  -- "Joining accepts every cutting, empty parts included", whoever made it
  pub joins : (c : Cutting) → AllAllowed (messages c) → (d : List ℕ) → Joins c d
  -- "handed over as the front part of the gathering buffer": the part has all the bytes that the answer tells, and of a cutting it is the text
  pub hands_over : HandsOver
  -- a statement: every message of its cut is one that the codec reads; in their order they are a statement's text of the grammar; there are as many as
  -- 01 says; and joined again they are the statement
  pub statement_published : (format : ℕ) → format_allowed format ≡ true → (text : List ℕ) → IsBytes text → Every (Published Client) (cut_statement format text)
  pub statement_laid_out : (format : ℕ) → format_allowed format ≡ true → (text : List ℕ) → IsBytes text
      → (q : grammar.Request) × (flat_request q ≡ cut_statement format text)
  pub statement_counted : (format : ℕ) (text : List ℕ) → length (cut_statement format text) ≡ statement_parts (length text)
  pub statement_edges : (statement_parts 0 ≡ 1) × ((statement_parts 10234 ≡ 1) × ((statement_parts 10235 ≡ 3) × (statement_parts 20468 ≡ 3)))
  -- "parts of 10,234 with the rest (1 to 10,234) last, then LongQueryEnd": each part but the last is full
  pub statement_filled : (format : ℕ) (text : List ℕ) → 10234 < length text
      → (ms : List Message) × (cut_statement format text ≡ ms ++ (message LongQueryEnd Body.empty ∷ [])) × Filled ms
  pub statement_rejoined : (format : ℕ) → format_allowed format ≡ true → (d text : List ℕ)
      → Rejoined Open.Statement (cut_statement format text) (format ∷ []) text d
  -- an item up to 3.0, with either end behind its cut
  pub item_published : (text : List ℕ) → IsBytes text → Every (Published Server) (cut_item text)
  pub item_laid_out : (v : Version) → T (up_to 3 v) → (text : List ℕ) → IsBytes text → (i : grammar.Item v) × (flat_item i ≡ cut_item text)
  pub item_counted : (text : List ℕ) → length (cut_item text) ≡ item_count (length text)
  pub item_filled : (text : List ℕ) → Filled (cut_item text)
  pub item_rejoined : (text : List ℕ) (e : Ending) (d : List ℕ) → Rejoined Open.Item (cut_item text ++ (ending e ∷ [])) [] text d
  -- an item of 4.0, URL or none
  pub typed_published : (class kind : ℕ) (url : Url) (text : List ℕ) → allowed (Body.item class kind url text) ≡ true
      → Bounded (Body.item class kind url text) → UrlFits url → Every (Published Server) (cut_typed_item class kind url text)
  pub typed_laid_out : (v : Version) → T (from 4 v) → (class kind : ℕ) (url : Url) (text : List ℕ) → allowed (Body.item class kind url text) ≡ true
      → Bounded (Body.item class kind url text) → UrlFits url → (i : grammar.Item v) × (flat_item i ≡ cut_typed_item class kind url text)
  pub typed_counted : (class kind : ℕ) (url : Url) (text : List ℕ)
      → length (cut_typed_item class kind url text) ≡ item_parts_from (start_room url) (length text)
  pub typed_filled : (class kind : ℕ) (url : Url) (text : List ℕ) → UrlFits url → Filled (cut_typed_item class kind url text)
  -- "(u above 10,227: 11)": then an ItemStart with the URL has no encoding, not even with no text, and there is no cut to count
  pub url_fits : (class kind : ℕ) (url : Url) → UrlFits url ↔ (length (body_bytes (Body.item class kind url [])) ≤ 10240)
  pub url_counted : (class kind : ℕ) (url text : List ℕ) → url_parts (length text) (length url)
      ≡ if (leb (length url) 10227) (Ok (length (cut_typed_item class kind (Url.present url) text))) (Err NoEncoding)
  pub typed_rejoined : (class kind : ℕ) (url : Url) (text : List ℕ) → allowed (Body.item class kind url text) ≡ true → (e : Ending) (d : List ℕ)
      → Rejoined Open.TypedItem (cut_typed_item class kind url text ++ (ending e ∷ [])) (class ∷ kind ∷ []) text d
  -- through bytes: part k of a cut that was written and read back, by the places that the reader tells, is the cut's message k, which is what
  -- `parts_join::join` is given
  pub part_read : (side : Side) (cut : List Message) → Every (Published side) cut → (k : ℕ) (m : Message) → get_elem? cut k ≡ some m
      → (out : List ℕ) (n : ℕ) → part_written true true cut k (length out) ≡ Ok n
      → meaning (output_after (Ok n) out 0 (encode m)) (located (reading side (output_after (Ok n) out 0 (encode m))))
      ≡ Answer.accepted m n
  -- all of it at once: what is cut, written part by part into outputs with room, read by its side, and joined in order is returned where it fits the
  -- buffer; where it does not, 12. Outputs of 10,248 bytes always have room
  pub returned : (u : Uncut) → Sendable u → (outs : ℕ → List ℕ) → Roomy u outs → (d : List ℕ) → Returned u outs d
  pub room_enough : (u : Uncut) → Sendable u → (outs : ℕ → List ℕ) → ((k : ℕ) → 10248 ≤ length (outs k)) → Roomy u outs

-- BaseX strings, requests, and responses read knowing the request
pub record BaseX : Type 0 where
  -- what the calls write, and what those of reading tell, exactly; and which refusal is due else
  pub written_exactly : WrittenExactly
  pub told_exactly : ToldExactly
  -- a string is read exactly where its encoding stands in front
  pub string_exact : (s t rest : List ℕ) → (strings.reading s ≡ Got.got t rest) ↔ (s ≡ string t ++ rest)
  -- a string has one encoding
  pub one_string : (s t rest more : List ℕ) → string s ++ rest ≡ string t ++ more → (s ≡ t) × (rest ≡ more)
  -- a request is read exactly where it is published and its encoding stands in front
  pub request_exact : (s : List ℕ) (q : Request) (rest : List ℕ)
      → (requests.reading s ≡ Got.got q rest) ↔ (request.Published q × (s ≡ request.encode q ++ rest))
  -- one encoding per request, and no request's is the start of another's
  pub one_request : (q p : Request) (rest more : List ℕ) → request.Published q → request.Published p → request.encode q ++ rest ≡ request.encode p ++ more
      → (q ≡ p) × (rest ≡ more)
  -- what stands behind does not matter
  pub request_behind : (s : List ℕ) (q : Request) (rest other : List ℕ) → requests.reading s ≡ Got.got q rest
      → requests.reading (take (length s - length rest) s ++ other) ≡ Got.got q other
  -- what was written reads as the same request
  pub request_read_written : (q : Request) → request.Published q → (out : List ℕ) → length (request.encode q) ≤ length out
      → (requesting.written (length out) (kind_of q) (padded (texts_of q)) ≡ Ok (length (request.encode q)))
      × (requests.reading
      (output_after (requesting.written (length out) (kind_of q) (padded (texts_of q))) out 0 (requesting.bytes_of (kind_of q) (padded (texts_of q))))
      ≡ Got.got q (drop (length (request.encode q)) out))
  -- writing yields the same bytes back: what a call of reading told, of the texts in its output, is written as the n bytes that it read
  pub request_write_read : (s out : List ℕ) (kind a b c d n : ℕ)
      → requested (length s) (length out) (requests.reading s) ≡ read_as_request kind a b c d n → (to : List ℕ) → n ≤ length to
      → (requesting.written (length to) kind (cut (output_read requests.text_bytes out 0 (requests.reading s)) a b c d) ≡ Ok n)
      × (output_after (requesting.written (length to) kind (cut (output_read requests.text_bytes out 0 (requests.reading s)) a b c d)) to 0
      (requesting.bytes_of kind (cut (output_read requests.text_bytes out 0 (requests.reading s)) a b c d)) ≡ splice to 0 (take n s))
  -- a response is read, knowing the request's first byte, exactly where it is published for it and its encoding stands in front
  pub response_exact : (kind : ℕ) (s : List ℕ) (r : Response) (rest : List ℕ) → (responses.reading kind s ≡ Got.got r rest) ↔ Stands kind r s rest
  -- one response per byte string
  pub one_response : (kind : ℕ) (s : List ℕ) (r q : Response) (rest more : List ℕ) → Stands kind r s rest → Stands kind q s more → (r ≡ q) × (rest ≡ more)
  pub response_behind : (kind : ℕ) (s : List ℕ) (r : Response) (rest other : List ℕ) → responses.reading kind s ≡ Got.got r rest
      → responses.reading kind (take (length s - length rest) s ++ other) ≡ Got.got r other
  -- item by item and then the rest, a published response is written as its encoding ..
  pub response_written : (kind n : ℕ) (reply : Reply) → find_of kind ≡ Some (n, reply) → (r : Response) → response.Published reply r → (out : List ℕ) (at : ℕ)
      → at + length (response.encode reply r) ≤ length out
      → responded kind r (record { bytes = out; at = at })
      ≡ record { bytes = splice out at (response.encode reply r); at = at + length (response.encode reply r) }
  -- .. which reads as the same response
  pub response_read_written : (kind n : ℕ) (reply : Reply) → find_of kind ≡ Some (n, reply) → (r : Response) → response.Published reply r → (rest : List ℕ)
      → responses.reading kind (response.encode reply r ++ rest) ≡ Got.got r rest
  -- writing yields the same bytes back
  pub response_write_read : (kind : ℕ) (s : List ℕ) (r : Response) (rest : List ℕ) → responses.reading kind s ≡ Got.got r rest → (out : List ℕ)
      → length s - length rest ≤ length out
      → responded kind r (record { bytes = out; at = 0 }) ≡ record { bytes = splice out 0 (take (length s - length rest) s); at = length s - length rest }
  -- every item of a response that was read is handed out, in order, with its id, URI and text, however many there are
  pub items_handed : (kind : ℕ) (s : List ℕ) (r : Response) (rest out : List ℕ) → listed_of (find_of kind) ≡ true → responses.reading kind s ≡ Got.got r rest
      → length (flatten (all_texts r)) ≤ length out
      → handed (suc (length r.items)) (full_of (find_of kind)) s (output_read responses.text_bytes out 0 (responses.reading kind s)) 0 0 ≡ r.items
  -- an output as long as the input has room for every text
  pub input_suffices : InputSuffices
  -- "with status 01 the last string is the error"
  pub errors_exactly : ErrorsExactly

pub record Demand2 : Type 0 where
  pub sedna : Sedna
  pub parts : Parts
  pub basex : BaseX
