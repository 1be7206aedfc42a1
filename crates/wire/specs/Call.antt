-- What a call that writes into lent output answers, and what it leaves there: all of its bytes or nothing. Document 01: "A refusal returns its number
-- alone, with 0 bytes read or written; buffers and session record stay unchanged."
use Rattle.std.specs.Prelude.{ℕ, ◌+◌, Result, Ok, Err}
use Rattle.wire.specs.declared.Refusal.{Refusal}
use mathlib.Core.{List.List, Path.◌≡◌}
use lib.{Dec.ltb, ListN.length}
use Rattle.wire.specs.{declared.Refusal.TheVariants.NoRoom, Bytes.if, Bytes.splice}

-- "lent output shorter than the bytes to be put there": n bytes from `at` on, in an output of so many
abbrev pub in_room : ℕ → ℕ → ℕ → Result ℕ Refusal
in_room room at n = if (ltb room (at + n)) (Err NoRoom) (Ok n)

-- the output after a call that was so answered: these bytes from `at` on, or as it was where the call was refused
abbrev pub output_after : Result ℕ Refusal → List ℕ → ℕ → List ℕ → List ℕ
output_after (Err r) out at bytes = out
output_after (Ok n) out at bytes = splice out at bytes

-- the output after bytes were put there that only want room
unfoldable pub put_at : List ℕ → ℕ → List ℕ → List ℕ
put_at out at bytes = output_after (in_room (length out) at (length bytes)) out at bytes

-- a contract: the call answers this, and leaves that in what it was lent
pub record Gives {A : Type 0} (answer : A) (output : List ℕ) (r : A) (after : List ℕ) : Type 0 where
  pub answers : r ≡ answer
  pub leaves : after ≡ output

-- the contract of a call that writes: these bytes from `at` on, or the refusal and nothing
abbrev pub Writes : Result ℕ Refusal → List ℕ → ℕ → List ℕ → Result ℕ Refusal → List ℕ → Type 0
Writes answer out at bytes = Gives answer (output_after answer out at bytes)
