-- Where a record stands in a transcript.
use Rattle.std.specs.Prelude.{ℕ, ◌+◌, ◌≤◌, length, take, drop, Option, Some, None}
use mathlib.Core.{List.List, Path.◌≡◌}
use Rattle.records.specs.{declared.Head.Head, declared.Next.Next, Record.head_of, Record.Front}

-- what stands at `at`: the payload of a record, behind six bytes
abbrev pub located : ℕ → Front → Next
located at Front.end = Next.End
located at Front.damaged = Next.Damaged
located at (Front.sound r s) = Next.Record r.side (record { start = at + 6; len = length r.payload })

-- a head has six bytes, and a payload its bound
abbrev pub Bounded : ℕ → Option Head → Type 0
Bounded room (Some m) = (6 ≤ room) × (m.len ≤ 10248)
Bounded room None = Unit {0}

-- the contract of judging a head
pub record HeadRead (bytes : List ℕ) (r : Option Head) : Type 0 where
  pub answers : r ≡ head_of bytes
  pub bounded : Bounded (length bytes) r

-- as many bytes as a head asks for: its own six, and the payload that it tells
abbrev pub reach : Option Head → ℕ
reach None = 6
reach (Some m) = 6 + m.len

-- what is read of an input for its first record
abbrev pub reads : List ℕ → List ℕ
reads s = take (reach (head_of (take 6 s))) s

-- what is left for those behind it
abbrev pub unread : List ℕ → List ℕ
unread s = drop (reach (head_of (take 6 s))) s
