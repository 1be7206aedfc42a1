-- What judging and decoding a string answer, and what a reader leaves in the lent output.
use Rattle.std.specs.Prelude.{Result, Ok, Err, List, ℕ, ◌+◌, ◌-◌}
use Rattle.wire.specs.declared.Refusal.{Refusal}
use lib.{Dec.ltb, ListN.length}
use Rattle.wire.specs.{Bytes.if, Call.put_at, Fields.Got, declared.Refusal.TheVariants.NoRoom}
use Rattle.basex_string.specs.declared.StringAt.{StringAt}

-- a string that is there: how many bytes it has, decoded, and where the next field starts
abbrev pub string_there : ℕ → ℕ → Result StringAt Refusal
string_there len next = Ok (record { len = len; next = next })

-- of n bytes, those behind the string are left: how long it is, and where they start
abbrev pub located : ℕ → Got (List ℕ) → Result StringAt Refusal
located n (Got.refused r) = Err r
located n (Got.got s rest) = string_there (length s) (n - length rest)

-- the same with the string put into an output of so many bytes from `to` on: "with 10 last"
abbrev pub decoded : ℕ → ℕ → ℕ → Got (List ℕ) → Result StringAt Refusal
decoded n room to (Got.refused r) = Err r
decoded n room to (Got.got s rest) = if (ltb room (to + length s)) (Err NoRoom) (string_there (length s) (n - length rest))

-- the output after a call that puts what it reads there, from `to` on: its bytes, or as it was where reading is refused or they do not fit
abbrev pub output_read : {A : Type 0} → (A → List ℕ) → List ℕ → ℕ → Got A → List ℕ
output_read bytes out to (Got.refused r) = out
output_read bytes out to (Got.got a rest) = put_at out to (bytes a)
