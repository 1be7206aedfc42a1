-- Joining that hands over at once what is finished: what the part is, and what is claimed of it.
use mathlib.Core.{List.List, Path.◌≡◌}
use Rattle.std.specs.Prelude.{ℕ, ◌≤◌, length, take}
use Rattle.wire.specs.Calls.{record_after_all}
use Rattle.sedna.specs.Message.{Message}
use Rattle.parts_join.specs.{declared.Assembly.Assembly, Answers.reply, Answers.bytes_handed, Calls.Gathered, Calls.opened_with, Calls.join_call}
use Rattle.parts_join.specs.Cuttings.{Cutting, before, last, messages, opening, whole, AllAllowed}
use Rattle.parts_join.specs.Joining.{joined, buffer_after}
use Rattle.parts_handing.specs.declared.Handing.{Handing}

-- "handed over as the front part of the gathering buffer": of what the buffer holds after the message, the first n bytes, where the answer tells n; none
-- where nothing is finished
abbrev pub handed_over : Assembly → List ℕ → Message → List ℕ
handed_over a d m = take (bytes_handed (reply (joined a (length d) m).answer)) (buffer_after a d m)

-- the contract of `join_handing`: the part starts where the buffer starts, so a copy would not do
pub record JoinHands (a : Assembly) (d : List ℕ) (at : ℕ × ℕ) (m : Message) (r : Handing) : Type 0 where
  pub answers : r.joined ≡ joined a (length d) m
  pub part : r.part.now ≡ handed_over a d m
  pub place : r.part.ref_ptr ≡ at

-- what all messages of a cutting but the last leave, joined one after another from a fresh opening, with a buffer d
abbrev pub gathered : Cutting → List ℕ → Gathered
gathered c d = record_after_all join_call (opened_with (opening c) d) (before c)

pub record HandsOver : Type 0 where
  -- whatever the record, the part has all the bytes that the answer tells
  pub all : (a : Assembly) (d : List ℕ) (m : Message) → length (handed_over a d m) ≡ bytes_handed (reply (joined a (length d) m).answer)
  -- the last message of a cutting, whoever made it, hands over the text, where that fits the buffer
  pub text : (c : Cutting) → AllAllowed (messages c) → (d : List ℕ) → length (whole c) ≤ length d
      → handed_over (gathered c d).assembly (gathered c d).buffer (last c) ≡ whole c
