-- The options of a SetOptions message, given as three lists: ids, how many bytes each value has, and the values one behind the other.
use Rattle.std.specs.Prelude.{ℕ, ◌+◌, Result}
use Rattle.wire.specs.declared.Refusal.{Refusal}
use mathlib.Core.{List.List, List.[], List.◌∷◌, Bool.Bool, Bool.false}
use lib.{Dec.eqb, ListN.length, ListN.take, ListN.drop}
use Rattle.wire.specs.{Bytes.if, Call.Writes}
use Rattle.sedna.specs.{declared.Shape.TheVariants.Options, Encode.pairs_bytes, Encode.encode, Message.Pair, Message.Body, Message.Message, Message.message}
use Rattle.sedna_write.specs.Writing.{judgement}

unfoldable pub sum : List ℕ → ℕ
sum [] = 0
sum (n ∷ ns) = n + sum ns

-- as many lengths as ids, which add up to the values
unfoldable pub given : List ℕ → List ℕ → List ℕ → Bool
given ids lengths values = if (eqb (length ids) (length lengths)) (eqb (sum lengths) (length values)) false

unfoldable pub pairs_of : List ℕ → List ℕ → List ℕ → List Pair
pairs_of [] lengths values = []
pairs_of (id ∷ ids) [] values = []
pairs_of (id ∷ ids) (n ∷ lengths) values = record { id = id; value = take n values } ∷ pairs_of ids lengths (drop n values)

-- the message with these options
abbrev pub options_message : ℕ → List ℕ → List ℕ → List ℕ → Message
options_message instruction ids lengths values = message instruction (Body.options (pairs_of ids lengths values))

-- what writing the options of three lists answers, for an output of so many bytes: lists that do not belong together are a value that is not allowed
abbrev pub options_written : ℕ → ℕ → List ℕ → List ℕ → List ℕ → Result ℕ Refusal
options_written room instruction ids lengths values =
    judgement instruction Options (given ids lengths values) (length (pairs_bytes (pairs_of ids lengths values))) room

-- the contract of a call that writes them in front of the output
abbrev pub WritesOptions : List ℕ → ℕ → List ℕ → List ℕ → List ℕ → Result ℕ Refusal → List ℕ → Type 0
WritesOptions out instruction ids lengths values =
    Writes (options_written (length out) instruction ids lengths values) out 0 (encode (options_message instruction ids lengths values))
