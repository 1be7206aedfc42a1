-- Document 02, request 2, "A disk error half way through a file": what is promised. "Demand 3 is over 01's grammar so amended" (`File` and `LastFile` in
-- crates/grammar/specs/Grammar.antt), and its text stays; here stands what the amended bullet makes of any conversation, and of the step.
use mathlib.Core.{List.List, List.[], List.◌∷◌, List.◌++◌, Path.◌≡◌}
use Rattle.std.specs.Prelude.{ℕ}
use Rattle.wire.specs.{Bytes.if, Calls.record_after_all, Every.OneOf}
use Rattle.sedna.specs.{declared.Side.Side, Message.Message, Published.Published}
use Rattle.sedna.specs.Names as M
use Rattle.sedna_read.specs.Reading.{Answer, reading}
use Rattle.grammar.specs.{Conversation.Begins, Files.InFile, Files.version_said, Files.inside, Files.GoesOnWith, Sent.from}
use Rattle.session.specs.{declared.Session.Session, Step.fresh_session}
use Rattle.demands.specs.Demand3.{Offer, accepted_from, step}

pub record Request2 : Type 0 where
  -- 01: "then one of: …; a bulk load": a file may be asked for behind every statement's text ..
  pub asked : (l : List Message) (text m : Message) → OneOf (M.Execute ∷ M.LongQueryEnd ∷ []) text.instruction → Begins (l ++ (text ∷ []))
      → Published Side.Server m → OneOf (M.BulkLoadFileName ∷ M.BulkLoadFromStream ∷ []) m.instruction → Begins (l ++ (text ∷ m ∷ []))
  -- .. and "BulkLoadError may stand after any number of portions instead of BulkLoadEnd". ErrorResponse breaks the file off (`Demand3.broken_off`)
  pub in_file : (l : List Message) → InFile l → Begins l → GoesOnWith l (M.BulkLoadPortion ∷ M.BulkLoadEnd ∷ M.BulkLoadError ∷ M.ErrorResponse ∷ [])
  -- it stands nowhere else
  pub only_there : (l : List Message) (e : Message) → e.instruction ≡ M.BulkLoadError → Begins (l ++ (e ∷ [])) → InFile l
  -- 01, which stays: "After BulkLoadEnd: BulkLoadSucceeded, BulkLoadFailed, or, from 2.0, another BulkLoadFileName and its file"; or ErrorResponse
  pub behind-end : (l : List Message) (e : Message) → e.instruction ≡ M.BulkLoadEnd → Begins (l ++ (e ∷ []))
      → GoesOnWith (l ++ (e ∷ []))
      (M.BulkLoadSucceeded ∷ M.BulkLoadFailed ∷ if (from 2 (version_said l)) (M.BulkLoadFileName ∷ M.ErrorResponse ∷ []) (M.ErrorResponse ∷ []))
  -- "After BulkLoadError: BulkLoadFailed", or ErrorResponse; so no BulkLoadSucceeded, and no further file
  pub behind_error : (l : List Message) (e : Message) → e.instruction ≡ M.BulkLoadError → Begins (l ++ (e ∷ []))
      → GoesOnWith (l ++ (e ∷ [])) (M.BulkLoadFailed ∷ M.ErrorResponse ∷ [])
  -- that ends the statement, and the transaction goes on
  pub still_inside : (l : List Message) (e answer : Message) → e.instruction ≡ M.BulkLoadError → Begins (l ++ (e ∷ answer ∷ []))
      → GoesOnWith (l ++ (e ∷ answer ∷ [])) (inside (version_said l))
  -- "that move no longer gets 9": whatever was offered before it, by either form of the step
  pub taken : (offers : List Offer) → InFile (accepted_from Session step fresh_session offers)
      → (o : Offer) (m : Message) (n : ℕ) → reading o.side o.bytes ≡ Answer.accepted m n → m.instruction ≡ M.BulkLoadError
      → (step (record_after_all step fresh_session offers) o).answer ≡ Answer.accepted m n
