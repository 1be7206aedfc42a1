-- "Messages alternate by turn": who has the turn behind messages that begin a conversation. No machine is known here.
use mathlib.Core.{List.List, List.[], List.◌∷◌, List.◌++◌, Option.Option, Option.none, Option.some, Path.◌≡◌}
use Rattle.sedna.specs.{declared.Side.Side, Message.Message, Names.ErrorResponse, Published.Published}
use Rattle.grammar.specs.Conversation.{Whole, Begins}

-- a message that the side sends goes on
pub record GoesOn (before : List Message) (side : Side) : Type 0 where
  pub next : Message
  pub published : Published side next
  pub begins : Begins (before ++ (next ∷ []))

-- the side that has the turn, none where the conversation is over; `Demand3.one_turn`: each case shuts out the others
pub data HasTurn (before : List Message) : Option Side → Type 0 where
  -- a message of the client's goes on; of the server's, ErrorResponse at most, which ends the conversation (`Demand3.broken_off`)
  client : GoesOn before Side.Client → ((m : Message) → Published Side.Server m → Begins (before ++ (m ∷ [])) → m.instruction ≡ ErrorResponse)
      → HasTurn before (some Side.Client)
  -- a message of the server's goes on, and none of the client's
  server : GoesOn before Side.Server → ¬ GoesOn before Side.Client → HasTurn before (some Side.Server)
  over : Whole before → HasTurn before none
