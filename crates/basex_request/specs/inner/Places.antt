-- What is told of a request before any text is stored: where its strings stand, and how long each text is.
use Rattle.std.specs.Prelude.{Result, Ok, Err, List, ℕ, ◌+◌, ◌-◌, length}
use Rattle.wire.specs.declared.Refusal.{Refusal}
use Rattle.wire.specs.Fields.{Got}
use Rattle.basex.specs.{Request.Request, Texts.length_at}
use Rattle.basex_request.specs.{declared.RequestAt.RequestAt, Reading.kind_of, Reading.texts_of}

-- a request that is there
abbrev pub found_request : ℕ → ℕ → ℕ → ℕ → ℕ → ℕ → ℕ → ℕ → Result RequestAt Refusal
found_request kind from n first second third fourth read =
    Ok (record { from = from; n = n; told = record { kind = kind; first = first; second = second; third = third; fourth = fourth; read = read } })

-- where a request's strings start: the first byte of a COMMAND is text
abbrev pub from_of : Request → ℕ
from_of (Request.command t) = 0
from_of (Request.coded b ts) = 1

-- of n bytes from `from` on, the strings of a request of that kind were read
abbrev pub strings_from : ℕ → ℕ → ℕ → Got (List (List ℕ)) → Result RequestAt Refusal
strings_from kind from n (Got.refused r) = Err r
strings_from kind from n (Got.got ts rest) =
    found_request kind from (length ts) (length_at ts 0) (length_at ts 1) (length_at ts 2) (length_at ts 3) (from + (n - length rest))

-- of n bytes, a request was read
abbrev pub request_at : ℕ → Got Request → Result RequestAt Refusal
request_at n (Got.refused r) = Err r
request_at n (Got.got q rest) =
    found_request (kind_of q) (from_of q) (length (texts_of q)) (length_at (texts_of q) 0) (length_at (texts_of q) 1) (length_at (texts_of q) 2)
    (length_at (texts_of q) 3) (n - length rest)
