-- Demand 3: "Take any list of messages offered to the session step one after another, from either side, bad bytes and refused ones included. It starts
-- from a fresh session, each step gets the record that the last one returned or left, and nobody else writes that record meanwhile. Then the following
-- holds after the list."
--
-- First what is claimed, of any session: by the grammar, by what is offered, and by what is answered; no machine is named there. Then the session that it
-- holds of, and `Demand3`.
use mathlib.Core.{Bool.Bool, Bool.true, List.List, List.[], List.◌∷◌, List.◌++◌, Logic.◌↔◌, Option.Option, Option.some, Path.◌≡◌}
use Rattle.std.specs.Prelude.{ℕ, ◌<◌}
use lib.{Dec.T, ListN.length}
use Rattle.wire.specs.{Bytes.IsBytes, Every.Every, declared.Refusal.Refusal, Refusals.number_of}
use Rattle.wire.specs.Calls.{Done, record_after_all, kept_after_all, AllRight}
use Rattle.sedna.specs.{declared.Side.Side, Message.Body, Message.Message, Message.message, Names.ErrorResponse, Published.Published}
use Rattle.sedna_read.specs.{Meaning.meaning, Reading.Answer, Reading.reading}
use Rattle.grammar.specs.{Conversation.Whole, Conversation.Begins, Grammar.Conversation, Layout.flat, Sent.can_send, Turn.HasTurn}
use Rattle.session.specs.{declared.Session.Session, Step.fresh_session, Step.stepped, Step.closed_of, Step.turn_of, Step.side_of}
use Rattle.session_lent.specs.Lent.{lent_answer, lent_session}

-- "Besides the form by value, a step updates the session record where the gateway keeps it"
pub data Form : Type 0 where
  by_value lent : Form

-- "What is offered to a step is a side and bytes"; each offer goes to one form of the step. That they are bytes is so of every slice
pub record Offer : Type 0 where
  pub form : Form
  pub side : Side
  pub bytes : List ℕ
  pub are_bytes : IsBytes bytes

-- the right answer to an offer, given the messages accepted before it
pub data RightAnswer (before : List Message) (o : Offer) : Answer → Type 0 where
  -- "A message that 01's order of reading refuses ahead of its 9 got that refusal."
  unread : {r : Refusal} → reading o.side o.bytes ≡ Answer.refused r → RightAnswer before o (Answer.refused r)
  -- "Any other was refused, and then with 9, exactly when no conversation begins with those accepted before it followed by it."
  out_of_order : {m : Message} {n : ℕ} {r : Refusal} → reading o.side o.bytes ≡ Answer.accepted m n → ¬ Begins (before ++ (m ∷ [])) → number_of r ≡ 9
      → RightAnswer before o (Answer.refused r)
  -- "a step that accepts answers that message and the number of bytes read"
  accepted : {m : Message} {n : ℕ} → reading o.side o.bytes ≡ Answer.accepted m n → Begins (before ++ (m ∷ []))
      → RightAnswer before o (Answer.accepted m n)

-- the accepted messages, in their order
abbrev pub accepting : List Message → Offer → Answer → List Message
accepting before o (Answer.refused r) = before
accepting before o (Answer.accepted m n) = before ++ (m ∷ [])

-- of a session whose step does so much to its record ("each step gets the record that the last one returned or left, and nobody else writes that record
-- meanwhile"): what holds after a list of offers
module _ (Record : Type 0) (does : Record → Offer → Done Record Answer) where
  abbrev pub accepted_from : Record → List Offer → List Message
  accepted_from = kept_after_all does accepting []

  pub record After (fresh : Record) (closed : Record → Bool) (turn : Record → Option Side) (offers : List Offer) : Type 0 where
    -- "The accepted messages, in their order, begin a conversation of document 01's grammar": so every list accepted so far can be finished
    pub begun : Begins (accepted_from fresh offers)
    -- what each offer got
    pub right : AllRight does accepting (λ before s o done. RightAnswer before o done.answer) [] fresh offers
    -- "The session reports itself closed exactly when the accepted ones are a whole conversation."
    pub whole : (closed (record_after_all does fresh offers) ≡ true) ↔ Whole (accepted_from fresh offers)
    -- "Messages alternate by turn": the session tells who has it then, if any side has
    pub turned : HasTurn (accepted_from fresh offers) (turn (record_after_all does fresh offers))

-- a step of either form, as its contract says: `session::step` returns `stepped`; `session_lent::step_lent` answers `lent_answer` and leaves `lent_session`.
-- An answer by places means the message with the bytes at them
abbrev pub performed : Form → Session → Offer → Done Session Answer
performed Form.by_value s o =
    record { record_after = (stepped s o.side o.bytes).session; answer = meaning o.bytes (stepped s o.side o.bytes).answer }
performed Form.lent s o =
    record { record_after = lent_session s o.side o.bytes; answer = meaning o.bytes (lent_answer s o.side o.bytes) }

abbrev pub step : Session → Offer → Done Session Answer
step s o = performed o.form s o

-- what `session::whose_turn` answers
abbrev pub on_turn : Session → Option Side
on_turn s = side_of (turn_of s)

pub record Demand3 : Type 1 where
  -- `fresh_session` is `Session::FRESH`, `closed_of` what `session::closed` answers
  pub after_any_list : (offers : List Offer) → After Session step fresh_session closed_of on_turn offers
  -- "Every whole conversation can be laid out by the grammar in one way only: any two layouts of it are equal."
  pub one_layout : (c d : Conversation) → flat c ≡ flat d → c ≡ d
  -- "After the end every message gets 9 where no refusal ahead of 9 meets it": no conversation goes on behind a whole one
  pub ended : (l : List Message) (m : Message) → Whole l → ¬ Begins (l ++ (m ∷ []))
  -- the grammar's messages are the codec's: a body can be sent with an instruction exactly when some side publishes the message
  pub payloads : (k : ℕ) (b : Body) → T (can_send k b) ↔ ((side : Side) × Published side (message k b))
  -- so a list that begins a conversation has no message that nobody can send
  pub sendable : (l : List Message) → Begins l → Every (λ (m : Message). (side : Side) × Published side m) l
  -- "Messages alternate by turn": behind messages that begin a conversation one side has the turn, and one only, or the conversation is over
  pub turn : (l : List Message) → Begins l → (t : Option Side) × HasTurn l t
  pub one_turn : (l : List Message) (t u : Option Side) → HasTurn l t → HasTurn l u → t ≡ u
  -- "ErrorResponse: where the client has the turn (after StartUp) it ends the conversation."
  pub broken_off : (l : List Message) (m : Message) → Published Side.Server m → m.instruction ≡ ErrorResponse
      → 0 < length l → HasTurn l (some Side.Client) → Whole (l ++ (m ∷ []))
  -- "Where the server has it, …": it is an answer wherever that is
  pub error_answers : (l : List Message) (m : Message) → Published Side.Server m → m.instruction ≡ ErrorResponse
      → HasTurn l (some Side.Server) → Begins (l ++ (m ∷ []))
