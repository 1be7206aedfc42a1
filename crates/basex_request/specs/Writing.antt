-- Document 01, "When writing or cutting: 2, 8, 11, 14, 10": what writing a request answers, and its bytes.
use Rattle.std.specs.Prelude.{Option, Some, None, Result, Err, ℕ, length, take}
use Rattle.wire.specs.declared.Refusal.{Refusal}
use mathlib.Core.{Bool.Bool, Bool.true, List.List, List.[], List.◌∷◌}
use Rattle.wire.specs.{Bytes.if, Call.in_room}
use Rattle.wire.specs.declared.Refusal.TheVariants.{UnknownInstruction, ValueNotAllowed, NoEncoding}
use Rattle.basex.specs.{declared.Reply.Reply, Kinds.find_of, Kinds.is_command, Request.Request, Request.encode, Request.opens, Texts.unused}

-- the first text, none where there is none
abbrev pub first_of : List (List ℕ) → List ℕ
first_of [] = []
first_of (t ∷ ts) = t

-- the request of a kind: those of the four texts that it takes
abbrev pub request_of : ℕ → ℕ → Reply → List (List ℕ) → Request
request_of kind n reply ts = if (is_command reply) (Request.command (first_of ts)) (Request.coded kind (take n ts))

-- "A command that is empty or starts otherwise: 11."
abbrev pub encodable : Request → Bool
encodable (Request.command t) = opens t
encodable (Request.coded b ts) = true

-- what writing a request answers, in an output of so many bytes: 11, then 10
abbrev pub request_written : ℕ → Request → Result ℕ Refusal
request_written room q = if (encodable q) (in_room room 0 (length (encode q))) (Err NoEncoding)

-- 2 for a kind that is none; 8 for a text that it does not take; then 11 and 10
abbrev pub written_as : ℕ → ℕ → Option (ℕ × Reply) → List (List ℕ) → Result ℕ Refusal
written_as room kind None ts = Err UnknownInstruction
written_as room kind (Some (n, reply)) ts = if (unused n ts) (request_written room (request_of kind n reply ts)) (Err ValueNotAllowed)

-- what writing answers, for a kind, four texts and an output of so many bytes
unfoldable pub written : ℕ → ℕ → List (List ℕ) → Result ℕ Refusal
written room kind ts = written_as room kind (find_of kind) ts

-- the bytes of the request that the table makes of a kind and texts
abbrev pub bytes_as : ℕ → Option (ℕ × Reply) → List (List ℕ) → List ℕ
bytes_as kind None ts = []
bytes_as kind (Some (n, reply)) ts = encode (request_of kind n reply ts)

abbrev pub bytes_of : ℕ → List (List ℕ) → List ℕ
bytes_of kind ts = bytes_as kind (find_of kind) ts
