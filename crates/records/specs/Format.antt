-- The same sentence of document 01 written out, with no reader in it; and what it is for `records` to be right.
use mathlib.Core.{Bool.true, Bool.false, List.List, List.[], List.◌∷◌, List.◌++◌, List.flat_map, Path.◌≡◌}
use Rattle.std.specs.Prelude.{ℕ, zero, suc, ◌/◌, ◌%◌, ◌≤◌, ◌<◌, length}
use Rattle.wire.specs.{Bytes.IsBytes, Every.Every}
use Rattle.sedna.specs.Kinds.{side_number}
use Rattle.records.specs.Record.{Record, Records, records}

-- a number in so many bytes, "little-endian"
abbrev pub little_bytes : ℕ → ℕ → List ℕ
little_bytes zero n = []
little_bytes (suc k) n = n % 256 ∷ little_bytes k (n / 256)

-- "payload length (four bytes, little-endian, ...), kind (two bytes, little-endian, 1 client, 2 server), payload"
abbrev pub record_bytes : Record → List ℕ
record_bytes r = little_bytes 4 (length r.payload) ++ (little_bytes 2 (side_number r.side) ++ r.payload)

-- records one behind the other
abbrev pub transcript : List Record → List ℕ
transcript = flat_map record_bytes

-- "at most 10,248"
abbrev pub Sound : Record → Type 0
Sound r = length r.payload ≤ 10248

-- no sound record stands in front
abbrev pub NoRecord : List ℕ → Type 0
NoRecord s = (r : Record) (more : List ℕ) → Sound r → ¬ (s ≡ record_bytes r ++ more)

-- an input is its records, written out; behind them nothing is left, or, where it is damaged, something with no sound record in front
pub record Stops (s : List ℕ) (rs : Records) : Type 0 where
  pub sound : Every Sound rs.sound
  pub rest : List ℕ
  pub split : s ≡ transcript rs.sound ++ rest
  pub whole : rs.damaged ≡ false → rest ≡ []
  pub cut : rs.damaged ≡ true → (0 < length rest) × NoRecord rest

-- the bytes of a slice are bytes: `IsBytes s` is no condition on a caller
pub record Format : Type 0 where
  -- records that are written out are read again
  pub read_written : (rs : List Record) → Every Sound rs → records (transcript rs) ≡ record { sound = rs; damaged = false }
  -- and what is read was written so, up to the end or the damage
  pub stops : (s : List ℕ) → IsBytes s → Stops s (records s)
  -- nothing else can be read there
  pub stops_only : (s : List ℕ) → IsBytes s → (rs : Records) → Stops s rs → rs ≡ records s
