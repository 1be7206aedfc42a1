-- Demand 1: "Every input gets a defined answer. Bad bytes, wrong order and short room are refused with the number document 01 lists, at the moment it
-- lists and never otherwise. A refusal leaves the session record and every lent buffer unchanged, but for the spoilt mark 01 gives an overfull item or
-- statement."
--
-- That every input gets the answer of a definition is what the contracts say: `sedna_read::read` answers `located (reading side bytes)`. Each
-- `sedna_write::write_..` whose arguments are a message answers `written` of it and writes its `encode`; `write_options`, whose lists may not belong
-- together, answers `options_written` and writes that of `options_message`. `session::step` returns `stepped`, `session_lent::step_lent` answers
-- `lent_answer` and leaves `lent_session`, each `parts_cut::write_.._part` writes its `CutPart`, `parts_join::join` returns `joined` and leaves
-- `buffer_after`, and the functions of BaseX answer and leave what is named in the last record.
--
-- Here stands which refusal each of them gives, and when, by the published formats; and what a refused call leaves. When a step gives 9 is demand 3's.
use mathlib.Core.{Bool.Bool, Bool.true, Bool.false, List.List, List.[], List.◌∷◌, List.◌++◌, Logic.◌↔◌, Path.◌≡◌}
use Rattle.std.specs.Prelude.{Result, Err, ℕ, ◌≤◌, length, drop}
use Rattle.wire.specs.{Bytes.IsBytes, Call.in_room, Call.output_after, Every.OneOf, declared.Refusal.Refusal, Refusals.number_of}
use Rattle.sedna.specs.{declared.Side.Side, Encode.body_bytes, Message.Body, Message.Message}
use Rattle.sedna_read.specs.Reading.{Answer, reading}
use Rattle.sedna_write.specs.{Pairs.sum, Pairs.given, Pairs.options_written, Writing.written}
use Rattle.sedna_laws.specs.{Due.Due, Pieces.pieces_bytes, Pieces.pieces_of, Unwritten.Unwritten, Unwritten.UnwrittenLists}
use Rattle.session.specs.{declared.Session.Session, Step.stepped}
use Rattle.session_lent.specs.Lent.{lent_answer, lent_session}
use Rattle.parts_laws.specs.{PartDue.PartRight, ThroughBytes.Uncut, ThroughBytes.Slices, ThroughBytes.part, ThroughBytes.part_output}
use Rattle.parts_join.specs.{declared.Assembly.Assembly, declared.Open.Open, Answers.Reply, Answers.reply, Joining.joined, Offered.Offered}
use Rattle.parts_join.specs.Refusals.{RefusalLeaves}
use Rattle.basex_laws.specs.Moments.{StringMoments, RequestMoments, ItemMoments, ResponseMoments}
use Rattle.basex_string.specs.{Answers.decoded, Answers.output_read, Strings.string}
use Rattle.basex_string.specs.Scan as scan
use Rattle.basex_request.specs.Reading as requests
use Rattle.basex_request.specs.Writing as requesting
use Rattle.basex_response.specs.Writing.{item_written, end_written}
use Rattle.basex_response.specs.Reading as responses

-- Sedna's messages and the session. The bytes of a slice are bytes: `IsBytes s` is no condition on a caller
pub record Sedna : Type 0 where
  -- "at the moment it lists and never otherwise": reading refuses with r exactly when `Due` says so, by the table, the published bodies and the bytes ..
  pub reading_refused : (side : Side) (s : List ℕ) → IsBytes s → (r : Refusal) → (reading side s ≡ Answer.refused r) ↔ Due side s r
  -- .. where the fields of a body, of which one may be wrong, are those of its encoding ..
  pub fields_encoded : (b : Body) → pieces_bytes (pieces_of b) ≡ body_bytes b
  -- .. "as soon as the byte is there": a refusal other than 1 stands, whatever bytes follow
  pub refusal_stands : (side : Side) (s t : List ℕ) → IsBytes (s ++ t)
      → (r : Refusal) → ¬ (r ≡ Refusal.MoreBytes) → reading side s ≡ Answer.refused r → reading side (s ++ t) ≡ Answer.refused r
  -- writing refuses with r exactly when `Unwritten` says so
  pub writing_refused : (room : ℕ) (m : Message) (r : Refusal) → (written room m ≡ Err r) ↔ Unwritten room m r
  -- options, which the writer takes as three lists: they belong together exactly when there are as many lengths as ids, which add up to the values.
  -- Then what is written is a message (`options-written` in demand 2). Else the call is refused, with 2 or 8 as `UnwrittenLists` says
  pub lists_together : (ids lengths values : List ℕ) → (given ids lengths values ≡ true) ↔ ((length ids ≡ length lengths) × (sum lengths ≡ length values))
  pub lists_refused : (room i : ℕ) (ids lengths values : List ℕ) → given ids lengths values ≡ false → (r : Refusal)
      → (options_written room i ids lengths values ≡ Err r) ↔ UnwrittenLists i r
  pub lists_unwritten : (room i : ℕ) (ids lengths values : List ℕ) → given ids lengths values ≡ false
      → (r : Refusal) × (options_written room i ids lengths values ≡ Err r)
  -- a refused step, of either form, leaves the session record as it was, and refuses with 1 to 9 only
  pub step_refused : (s : Session) (side : Side) (bytes : List ℕ) (r : Refusal) → (stepped s side bytes).answer ≡ Err r
      → ((stepped s side bytes).session ≡ s) × (1 ≤ number_of r) × (number_of r ≤ 9)
  pub lent_refused : (s : Session) (side : Side) (bytes : List ℕ) (r : Refusal) → lent_answer s side bytes ≡ Err r
      → (lent_session s side bytes ≡ s) × (1 ≤ number_of r) × (number_of r ≤ 9)

-- cutting and joining
pub record Parts : Type 0 where
  -- "When writing or cutting: 2, 8, 11, 14, 10": what writing part k of any cut answers, and what it leaves in the lent output
  pub part_due : (u : Uncut) → Slices u → (k : ℕ) (out : List ℕ) → PartRight u k out ((part u k).answer (length out)) (part_output u k out)
  -- "When joining: 8, 9, 12": what each of any list of messages is answered after an opening, by the cuttings alone
  pub offered : (what : Open) (d : List ℕ) (offers : List Message) → Offered what d offers
  -- a refused part or end leaves the buffer, and the record but for the mark
  pub join_refused : (a : Assembly) (d : List ℕ) (m : Message) (n : ℕ) → reply (joined a (length d) m).answer ≡ Reply.number n → RefusalLeaves a d m n

-- BaseX
pub record BaseX : Type 0 where
  -- "Order: 1 for no byte, 2, then fields left to right: 1, 8, and 13 as soon as the pair is there": which refusal reading gives, and when, by the encodings
  -- alone. When writing refuses, and a call of reading with 10, is said with what they write and tell (`WrittenExactly`, `ToldExactly`, in demand 2)
  pub string_moments : StringMoments
  pub request_moments : RequestMoments
  pub item_moments : (full : Bool) → ItemMoments full
  pub response_moments : (kind : ℕ) → ResponseMoments kind
  -- a refused call refuses with no other number, and one of reading leaves every lent byte
  pub string_refused : (b : List ℕ) (at : ℕ) (out : List ℕ) (to : ℕ) (r : Refusal)
      → decoded (length b) (length out) to (scan.reading (drop at b)) ≡ Err r
      → OneOf (1 ∷ 10 ∷ 13 ∷ []) (number_of r) × (output_read (λ s. s) out to (scan.reading (drop at b)) ≡ out)
  pub string_unwritten : (room at : ℕ) (text : List ℕ) (r : Refusal) → in_room room at (length (string text)) ≡ Err r
      → OneOf (10 ∷ []) (number_of r)
  pub request_refused : (s out : List ℕ) (r : Refusal) → requests.requested (length s) (length out) (requests.reading s) ≡ Err r
      → OneOf (1 ∷ 2 ∷ 10 ∷ 13 ∷ []) (number_of r) × (output_read requests.text_bytes out 0 (requests.reading s) ≡ out)
  pub request_unwritten : (room kind : ℕ) (texts : List (List ℕ)) (r : Refusal) → requesting.written room kind texts ≡ Err r
      → OneOf (2 ∷ 8 ∷ 10 ∷ 11 ∷ []) (number_of r)
  pub response_refused : (kind : ℕ) (s out : List ℕ) (r : Refusal) → responses.answered (length s) (length out) (responses.reading kind s) ≡ Err r
      → OneOf (1 ∷ 2 ∷ 8 ∷ 10 ∷ 13 ∷ []) (number_of r) × (output_read responses.text_bytes out 0 (responses.reading kind s) ≡ out)
  pub item_unwritten : (room at kind id : ℕ) (uri text : List ℕ) (r : Refusal) → item_written room at kind id uri text ≡ Err r
      → OneOf (2 ∷ 8 ∷ 10 ∷ []) (number_of r)
  pub end_unwritten : (room at kind : ℕ) (first second : List ℕ) (status : ℕ) (error : List ℕ) (r : Refusal)
      → end_written room at kind first second status error ≡ Err r → OneOf (2 ∷ 8 ∷ 10 ∷ []) (number_of r)

pub record Demand1 : Type 0 where
  pub sedna : Sedna
  pub parts : Parts
  pub basex : BaseX
  -- what any call of writing leaves is `output_after` of its answer (`Writes`): refused, it leaves every byte
  pub writing_leaves : (answer : Result ℕ Refusal) (r : Refusal) → answer ≡ Err r → (out : List ℕ) (at : ℕ) (bytes : List ℕ)
      → output_after answer out at bytes ≡ out
