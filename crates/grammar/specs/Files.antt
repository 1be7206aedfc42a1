-- Where a file is being sent, which version holds, and what a conversation goes on with. No machine is known here.
use mathlib.Core.{List.List, List.[], List.◌∷◌, List.◌++◌, Logic.◌↔◌, Path.◌≡◌}
use Rattle.std.specs.Prelude.{ℕ, eqb}
use Rattle.wire.specs.{Bytes.if, Every.Every, Every.OneOf}
use Rattle.sedna.specs.{declared.Side.Side, Message.Message, Published.Published}
use Rattle.sedna.specs.Names as M
use Rattle.grammar.specs.{Conversation.Begins, Sent.Version, Sent.from, Sent.version_of}

-- messages that end within a file: the server asked for it, the first or a further one, and then come "any number of portions", or none
pub record InFile (l : List Message) : Type 0 where
  pub before : List Message
  pub asking : Message
  pub asks : OneOf (M.BulkLoadFileName ∷ M.BulkLoadFromStream ∷ []) asking.instruction
  pub portions : List Message
  pub are_portions : Every (λ (m : Message). m.instruction ≡ M.BulkLoadPortion) portions
  pub so_far : l ≡ before ++ (asking ∷ portions)

-- "The version holds from here": the one that SessionParameters names
abbrev pub version_said : List Message → Version
version_said [] = 0
version_said (m ∷ l) = if (eqb m.instruction M.SessionParameters) (version_of m.body) (version_said l)

-- what goes on inside a transaction where no result is open: statements, Commit, Rollback, Close and side exchanges, options "from 3.0"; or ErrorResponse
abbrev pub inside : Version → List ℕ
inside v =
    M.Execute ∷ M.ExecuteLong ∷ M.Commit ∷ M.Rollback ∷ M.Close ∷ M.ShowTime ∷
    if (from 3 v) (M.SetOptions ∷ M.ResetOptions ∷ M.ErrorResponse ∷ []) (M.ErrorResponse ∷ [])

-- a conversation goes on behind l with what a side sends by one of these instructions, and with nothing else
abbrev pub GoesOnWith : List Message → List ℕ → Type 0
GoesOnWith l instructions = (m : Message) → Begins (l ++ (m ∷ [])) ↔ (((side : Side) × Published side m) × OneOf instructions m.instruction)
