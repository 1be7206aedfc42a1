-- Document 01, "When writing or cutting: 2, 8, 11, 14, 10": the moment of each refusal, told by the table and the message.
use mathlib.Core.{Bool.true, Path.◌≡◌}
use Rattle.std.specs.Prelude.{ℕ, ◌<◌, ◌≤◌, length}
use Rattle.wire.specs.declared.Refusal.{Refusal}
use Rattle.wire.specs.declared.Refusal.TheVariants.{UnknownInstruction, ValueNotAllowed, NoEncoding, NoRoom}
use Rattle.sedna.specs.{declared.Entry.Entry, declared.Side.Side, Allowed.allowed, Encode.body_bytes, Encode.encode, Message.Message, Message.shape_of}
use Rattle.sedna.specs.Table.{InTable}

pub data Unwritten (room : ℕ) (m : Message) : Refusal → Type 0 where
  -- 2: the table lacks the instruction
  unknown : ((e : Entry) → InTable e → ¬ (e.0 ≡ m.instruction)) → Unwritten room m UnknownInstruction
  -- 8: it has it with another body, or a value is not allowed
  value : (e : Entry) → InTable e → e.0 ≡ m.instruction → ¬ ((e.2 ≡ shape_of m.body) × (allowed m.body ≡ true)) → Unwritten room m ValueNotAllowed
  -- 11: "body above 10,240"
  too_long : (side : Side) → InTable (m.instruction, side, shape_of m.body) → allowed m.body ≡ true
      → 10240 < length (body_bytes m.body) → Unwritten room m NoEncoding
  -- 10: "lent output shorter than the bytes to be put there"
  no_room : (side : Side) → InTable (m.instruction, side, shape_of m.body) → allowed m.body ≡ true → length (body_bytes m.body) ≤ 10240
      → room < length (encode m) → Unwritten room m NoRoom

-- the same of options given as lists that do not belong together: 8 goes ahead of 11 and 10, so that neither their lengths nor the room matter
pub data UnwrittenLists (instruction : ℕ) : Refusal → Type 0 where
  -- 2: the table lacks the instruction
  unknown : ((e : Entry) → InTable e → ¬ (e.0 ≡ instruction)) → UnwrittenLists instruction UnknownInstruction
  -- 8: it has it, with options or with another body
  value : (e : Entry) → InTable e → e.0 ≡ instruction → UnwrittenLists instruction ValueNotAllowed
