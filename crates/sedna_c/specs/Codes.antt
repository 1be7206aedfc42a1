-- The library's answers as numbers, for programs in C and Rust.
use Rattle.std.specs.Prelude.{List, [], ◌∷◌, ◌++◌, ℕ, Option, Some, None, Result, Ok, Err}
use Rattle.wire.specs.declared.Refusal.{Refusal}
use lib.{Dec.eqb, Dec.ltb, ListN.length, ListN.drop}
use Rattle.wire.specs.{Bytes.if, Call.Gives, declared.Place.Place, declared.Refusal.TheVariants.ValueNotAllowed, declared.Refusal.TheVariants.NoRoom}
use Rattle.answer_c.specs.Codes.{refusal_code, WritesByCode}
use Rattle.sedna.specs.{declared.Side.Side, declared.Side.TheVariants.Client, declared.Side.TheVariants.Server, Encode.encode, Message.Message}
use Rattle.sedna_read.specs.{declared.OptionPlace.OptionPlace, declared.Places.Places, declared.Reading.Reading, Places.located}
use Rattle.sedna_read.specs.Reading.{reading}
use Rattle.sedna_write.specs.{Pairs.options_message, Pairs.options_written, Writing.written}

-- instruction, shape, two numbers, two places, a count, whether there is a URL
abbrev pub field_list : ℕ → ℕ → ℕ → ℕ → Place → Place → ℕ → ℕ → List ℕ
field_list i shape a b first second count url = i ∷ shape ∷ a ∷ b ∷ first.start ∷ first.len ∷ second.start ∷ second.len ∷ count ∷ url ∷ []

abbrev pub none : Place
none = record { start = 0; len = 0 }

abbrev pub item_fields : ℕ → ℕ → ℕ → Option Place → Place → List ℕ
item_fields i class kind None part = field_list i 6 class kind part none 0 0
item_fields i class kind (Some u) part = field_list i 6 class kind part u 0 1

-- a message's fields; those that its shape does not use are 0
abbrev pub fields_of : ℕ → Places → List ℕ
fields_of i Places.Empty = field_list i 0 0 0 none none 0 0
fields_of i (Places.Session major minor user database) = field_list i 1 major minor user database 0 0
fields_of i (Places.Text t) = field_list i 2 0 0 t none 0 0
fields_of i (Places.Statement format t) = field_list i 3 format 0 t none 0 0
fields_of i (Places.Coded code t) = field_list i 4 code 0 t none 0 0
fields_of i (Places.Options pairs count) = field_list i 5 0 0 pairs none count 0
fields_of i (Places.Item class kind u part) = item_fields i class kind u part

-- side 1 is the client, 2 the server
abbrev pub sender_of : ℕ → Option Side
sender_of side = if (eqb side 1) (Some Client) (if (eqb side 2) (Some Server) None)

-- what is read of what a sender sent
abbrev pub read_from : Option Side → List ℕ → Result Reading Refusal
read_from None s = Err ValueNotAllowed
read_from (Some side) s = located (reading side s)

unfoldable pub side_reading : ℕ → List ℕ → Result Reading Refusal
side_reading side s = read_from (sender_of side) s

-- the bytes read, where the lent fields have room for ten numbers; a refusal of the reading goes ahead
abbrev pub read_code : Result Reading Refusal → ℕ → ℕ
read_code (Err r) room = refusal_code r
read_code (Ok m) room = if (ltb room 10) (refusal_code NoRoom) m.count

-- the lent fields then
abbrev pub fields_after : Result Reading Refusal → List ℕ → List ℕ
fields_after (Err r) d = d
fields_after (Ok m) d = if (ltb (length d) 10) d (fields_of m.instruction m.places ++ drop 10 d)

-- the contract of a call that tells an answer: its number, and the lent fields
abbrev pub TellsReading : Result Reading Refusal → List ℕ → ℕ → List ℕ → Type 0
TellsReading answer fields = Gives (read_code answer (length fields)) (fields_after answer fields)

-- 1 where there is the option, or 10 where the lent fields have no room for three numbers; 0 where there is none
abbrev pub option_code : Option OptionPlace → ℕ → ℕ
option_code None room = 0
option_code (Some m) room = if (ltb room 3) (refusal_code NoRoom) 1

abbrev pub option_fields_after : Option OptionPlace → List ℕ → List ℕ
option_fields_after None d = d
option_fields_after (Some m) d = if (ltb (length d) 3) d (m.id ∷ m.value.start ∷ m.value.len ∷ drop 3 d)

-- the contract of the call that tells an option
abbrev pub TellsOption : Option OptionPlace → List ℕ → ℕ → List ℕ → Type 0
TellsOption option fields = Gives (option_code option (length fields)) (option_fields_after option fields)

-- the contract of a call that writes a message in front of the output, and of one whose options are given as three lists
abbrev pub WritesMessageByCode : List ℕ → Message → ℕ → List ℕ → Type 0
WritesMessageByCode out m = WritesByCode (written (length out) m) out 0 (encode m)

abbrev pub WritesOptionsByCode : List ℕ → ℕ → List ℕ → List ℕ → List ℕ → ℕ → List ℕ → Type 0
WritesOptionsByCode out instruction ids lengths values =
    WritesByCode (options_written (length out) instruction ids lengths values) out 0 (encode (options_message instruction ids lengths values))
