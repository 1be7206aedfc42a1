-- Document 01, "The transcript program": "Standard input holds records: payload length (four bytes, little-endian, at most 10,248), kind (two bytes,
-- little-endian, 1 client, 2 server), payload, one message."
use Rattle.std.specs.Prelude.{ℕ, zero, suc, ◌+◌, ◌*◌, Option, Some, None}
use mathlib.Core.{Bool.Bool, Bool.true, Bool.false, List.List, List.[], List.◌∷◌}
use lib.{Dec.ltb, Dec.eqb, ListN.length, ListN.take, ListN.drop}
use Rattle.wire.specs.Bytes.{if}
use Rattle.sedna.specs.declared.Side.{Side}
use Rattle.records.specs.declared.Head.{Head}

-- a sound head
abbrev pub head_there : Side → ℕ → Option Head
head_there side len = Some (record { side = side; len = len })

-- the number that bytes spell, "little-endian"
abbrev pub little : List ℕ → ℕ
little [] = 0
little (b ∷ s) = b + 256 * little s

-- "1 client, 2 server": who sent a payload of n bytes; another kind is bad
abbrev pub sent : ℕ → ℕ → Option Head
sent kind n = if (eqb kind 1) (head_there Side.Client n) (if (eqb kind 2) (head_there Side.Server n) None)

-- the six bytes ahead of a payload: who sent it and its length; "damaged at a bad length or kind or a cut record"
unfoldable pub head_of : List ℕ → Option Head
head_of s =
    if (ltb (length s) 6)
    None
    (if (ltb 10248 (little (take 4 s))) None (sent (little (take 2 (drop 4 s))) (little (take 4 s))))

-- one record: who sent its payload, and the payload
pub record Record : Type 0 where
  pub side : Side
  pub payload : List ℕ

-- a record of its two parts
abbrev pub record_of : Side → List ℕ → Record
record_of side payload = record { side = side; payload = payload }

-- what stands at the front of the input: its end; damage; or a record, and the input behind it
pub data Front : Type 0 where
  end damaged : Front
  sound : Record → List ℕ → Front

-- the payload behind a head, in what is left of the input
abbrev pub behind : List ℕ → Option Head → Front
behind s None = Front.damaged
behind s (Some m) = if (ltb (length s) m.len) Front.damaged (Front.sound (record_of m.side (take m.len s)) (drop m.len s))

-- an input that has a byte left has a head in front, whole or cut
unfoldable pub front : List ℕ → Front
front [] = Front.end
front (b ∷ s) = behind (drop 6 (b ∷ s)) (head_of (b ∷ s))

-- the records of an input, up to its end or, "where it stops", to the damage
pub record Records : Type 0 where
  pub sound : List Record
  pub damaged : Bool

-- what stands in front, and the records of the input behind it
abbrev pub from_front : (List ℕ → Records) → Front → Records
from_front more Front.end = record { sound = []; damaged = false }
from_front more Front.damaged = record { sound = []; damaged = true }
from_front more (Front.sound r s) = record { sound = r ∷ (more s).sound; damaged = (more s).damaged }

-- the number bounds how many records are looked for
unfoldable pub records_up_to : ℕ → List ℕ → Records
records_up_to zero s = record { sound = []; damaged = false }
records_up_to (suc most) s = from_front (records_up_to most) (front s)

-- no input has more records than bytes
abbrev pub records : List ℕ → Records
records s = records_up_to (length s) s
