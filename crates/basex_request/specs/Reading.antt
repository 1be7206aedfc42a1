-- Document 01, "Order: 1 for no byte, 2, then fields left to right …, with 10 last": what reading a request answers.
use Rattle.std.specs.Prelude.{Result, Ok, Err, Option, Some, None, ℕ, ◌-◌}
use Rattle.wire.specs.declared.Refusal.{Refusal}
use mathlib.Core.List.{List, [], ◌∷◌, flatten}
use lib.{Dec.ltb, ListN.length}
use Rattle.wire.specs.{Bytes.if, Fields.Got, Fields.Field, Fields.go_on, Fields.give}
use Rattle.wire.specs.declared.Refusal.TheVariants.{MoreBytes, UnknownInstruction, NoRoom}
use Rattle.basex_string.specs.Scan as strings
use Rattle.basex.specs.{declared.Reply.Reply, Kinds.find_of, Kinds.is_command, Request.Request, Texts.texts, Texts.length_at}
use Rattle.basex_request.specs.declared.Requested.{Requested}

-- a request that was read
abbrev pub read_as_request : ℕ → ℕ → ℕ → ℕ → ℕ → ℕ → Result Requested Refusal
read_as_request kind first second third fourth read = Ok (record { kind = kind; first = first; second = second; third = third; fourth = fourth; read = read })

-- the fields behind the first byte b, which is text itself in a COMMAND
abbrev pub fields_of : ℕ → Option (ℕ × Reply) → Field Request
fields_of b None s = Got.refused UnknownInstruction
fields_of b (Some (n, reply)) s =
    if (is_command reply) (go_on (strings.reading (b ∷ s)) (λ t. give (Request.command t))) (go_on (texts n s) (λ ts. give (Request.coded b ts)))

unfoldable pub reading : Field Request
reading [] = Got.refused MoreBytes
reading (b ∷ s) = fields_of b (find_of b) s

-- the kind's number: its first byte, 20 for COMMAND
abbrev pub kind_of : Request → ℕ
kind_of (Request.command t) = 0x20
kind_of (Request.coded b ts) = b

abbrev pub texts_of : Request → List (List ℕ)
texts_of (Request.command t) = t ∷ []
texts_of (Request.coded b ts) = ts

-- the texts one behind the other, as they stand in the output
abbrev pub text_bytes : Request → List ℕ
text_bytes q = flatten (texts_of q)

-- of n bytes, and with an output of so many: the kind, the length of each text, and the bytes read; "with 10 last"
abbrev pub requested : ℕ → ℕ → Got Request → Result Requested Refusal
requested n room (Got.refused r) = Err r
requested n room (Got.got q rest) =
    if (ltb room (length (text_bytes q))) (Err NoRoom)
    (read_as_request (kind_of q) (length_at (texts_of q) 0) (length_at (texts_of q) 1) (length_at (texts_of q) 2) (length_at (texts_of q) 3) (n - length rest))
