-- What the methods that read the fields of a body off a cursor answer.
use Rattle.std.specs.Prelude.{ℕ, ◌+◌, ◌-◌, Result, Ok, Err, Option}
use mathlib.Core.{Bool.Bool, Bool.true, Bool.false, List.List, List.[], Path.◌≡◌}
use lib.{Dec.leb, ListN.length, ListN.take, ListN.drop}
use Rattle.wire.specs.{declared.Place.Place, declared.Refusal.Refusal, declared.Refusal.TheVariants.ValueNotAllowed}
use Rattle.wire.specs.Fields.{Got, Field, ◌>>=◌, ◌>>◌, required}
use Rattle.sedna.specs.Message.{Url, Pair, Body}
use Rattle.sedna_read.specs.declared.{OptionPlace.OptionPlace, Places.Places}
use Rattle.sedna_read.specs.{Fields.byte_field, Fields.nothing_left, Reading.pair_field, Reading.url_field}
use Rattle.sedna_read.specs.Places.{place, url_place, after_url, places_of}

-- the bytes of s from `at` up to `end`
abbrev pub window : List ℕ → ℕ → ℕ → List ℕ
window s at end = take (end - at) (drop at s)

-- what is left of a body: where it begins in the message, and its bytes
pub record Left : Type 0 where
  pub at : ℕ
  pub bytes : List ℕ

abbrev pub left : List ℕ → ℕ → ℕ → Left
left s at end = record { at = at; bytes = window s at end }

-- what is left behind n bytes
abbrev pub Moved : Left → ℕ → Left → Type 0
Moved old n new = (new.at ≡ old.at + n) × (length new.bytes + n ≡ length old.bytes)

-- a field of n bytes: its value, and what is left behind it, or the refusal
abbrev pub Reads : {A : Type 0} → Field A → ℕ → Left → Result A Refusal → Left → Type 0
Reads field n old (Ok a) new = (field old.bytes ≡ Got.got a new.bytes) × Moved old n new
Reads field n old (Err r) new = field old.bytes ≡ Got.refused r

-- the same of bytes that stand behind k more, by their place
abbrev pub ReadsPlace : Field (List ℕ) → ℕ → Left → Result Place Refusal → Left → Type 0
ReadsPlace field k old (Ok p) new = (t : List ℕ) × (field old.bytes ≡ Got.got t new.bytes) × (p ≡ place (old.at + k) (length t)) × Moved old (k + length t) new
ReadsPlace field k old (Err r) new = field old.bytes ≡ Got.refused r

abbrev pub ReadsPair : Left → Result OptionPlace Refusal → Left → Type 0
ReadsPair old (Ok m) new =
    (p : Pair) × (pair_field old.bytes ≡ Got.got p new.bytes) × (m ≡ record { id = p.id; value = place (old.at + 9) (length p.value) })
    × Moved old (9 + length p.value) new
ReadsPair old (Err r) new = pair_field old.bytes ≡ Got.refused r

-- an item's URL with its flag
abbrev pub flagged_url : Field Url
flagged_url = do
  flag ← byte_field
  required (leb flag 1) ValueNotAllowed
  url_field flag

abbrev pub ReadsUrl : Left → Result (Option Place) Refusal → Left → Type 0
ReadsUrl old (Ok u) new = (url : Url) × (flagged_url old.bytes ≡ Got.got url new.bytes) × (u ≡ url_place old.at url) × (new.at ≡ after_url old.at url)
ReadsUrl old (Err r) new = flagged_url old.bytes ≡ Got.refused r

-- a body, by the places of its fields
abbrev pub ReadsBody : Field Body → Left → Result Places Refusal → Left → Type 0
ReadsBody field old (Ok places) new = (b : Body) × (field old.bytes ≡ Got.got b new.bytes) × (places ≡ places_of old.at (length old.bytes) b)
ReadsBody field old (Err r) new = field old.bytes ≡ Got.refused r

-- whether the body ends here
abbrev pub Ends : Left → Result (Unit {0}) Refusal → Type 0
Ends left (Ok u) = left.bytes ≡ []
Ends left (Err r) = nothing_left left.bytes ≡ Got.refused r

-- a value judged: 8 where it is not allowed
abbrev pub Judged : Bool → Result (Unit {0}) Refusal → Type 0
Judged allowed (Ok u) = allowed ≡ true
Judged allowed (Err r) = (allowed ≡ false) × (r ≡ ValueNotAllowed)
