-- Strings one behind the other: as they are written, and as they are read off the front.
use Rattle.std.specs.Prelude.{Result, Ok, Err, ℕ, zero, suc, ◌+◌, ◌-◌}
use Rattle.wire.specs.declared.Refusal.{Refusal}
use mathlib.Core.{Bool.Bool, Bool.true, List.List, List.[], List.◌∷◌, List.flat_map, List.flatten}
use lib.{Dec.eqb, ListN.length, ListN.drop, ListN.get_or}
use Rattle.wire.specs.{Bytes.if, Bytes.splice, Fields.Got, Fields.Field, Fields.◌>>=◌, Fields.give}
use Rattle.basex_string.specs.{Strings.string, Scan.reading, Unescaping.Unescaped, Unescaping.unescaped, declared.Ends.Ends}
use Rattle.basex.specs.declared.TwoAt.{TwoAt}

-- strings that are there: how many bytes each has, and where the next field starts
abbrev pub two_there : ℕ → ℕ → ℕ → Result TwoAt Refusal
two_there first second next = Ok (record { first = first; second = second; next = next })

-- a text that is not present is empty
abbrev pub place_if : Bool → List ℕ → Bool
place_if present text = if present true (eqb (length text) 0)

-- the string of a text that is present, else nothing
abbrev pub string_if : Bool → List ℕ → List ℕ
string_if present text = if present (string text) []

abbrev pub strings : List (List ℕ) → List ℕ
strings = flat_map string

-- n strings: "fields left to right"
unfoldable pub texts : ℕ → Field (List (List ℕ))
texts zero = give []
texts (suc n) = do
  t ← reading
  ts ← texts n
  give (t ∷ ts)

-- how many bytes the text number k has, 0 where there is none
abbrev pub length_at : List (List ℕ) → ℕ → ℕ
length_at ts k = length (get_or ts k [])

-- of texts given to be written, those beyond the first n, which have no place, are empty
abbrev pub unused : ℕ → List (List ℕ) → Bool
unused n ts = eqb (length (flatten (drop n ts))) 0

-- of n bytes from `at` on, up to two strings were read: how long each is, and where what stands behind starts
abbrev pub two_at : ℕ → ℕ → Got (List (List ℕ)) → Result TwoAt Refusal
two_at at n (Got.refused r) = Err r
two_at at n (Got.got ts rest) = two_there (length_at ts 0) (length_at ts 1) (at + (n - length rest))

-- texts put into an output: what it holds, where it is free again, and what is left to read
pub record TextsStored : Type 0 where
  pub out : List ℕ
  pub to : ℕ
  pub rest : List ℕ

-- the text of a string is put from `to` on, and it goes on
abbrev pub onward : List ℕ → ℕ → Unescaped → (List ℕ → ℕ → List ℕ → TextsStored) → TextsStored
onward out to t next = next (splice out to t.text) (to + length t.text) t.rest

-- the texts of n strings that were judged, one behind the other from `to` on, as far as there is room: nothing is refused
unfoldable pub texts_stored : ℕ → List ℕ → ℕ → List ℕ → TextsStored
texts_stored zero out to s = record { out = out; to = to; rest = s }
texts_stored (suc n) out to s = onward out to (unescaped (length out - to) s) (texts_stored n)

-- of n bytes from `at` on, what is left to read starts there
abbrev pub ends : ℕ → ℕ → TextsStored → Ends
ends at n s = record { next = at + (n - length s.rest); to = s.to }
