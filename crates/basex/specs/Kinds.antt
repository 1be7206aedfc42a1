-- Document 01, "First byte of a request and its strings", and what the response to each is made of.
use Rattle.std.specs.Prelude.{Option, Some, None, ℕ, leb, eqb}
use mathlib.Core.{Bool.Bool, Bool.true, Bool.false, List.List, List.[], List.◌∷◌}
use Rattle.wire.specs.Bytes.{if, between}
use Rattle.basex.specs.declared.Reply.{Reply}
use Rattle.basex.specs.declared.Reply.TheVariants.{Command, Create, Query, Results, Full}
use Rattle.basex.specs.{declared.Kind.Kind, declared.Columns.Columns}

-- first byte, number of strings, response; the last is COMMAND
unfoldable pub kinds : List Kind
kinds =
    -- QUERY, CLOSE, BIND, RESULTS, EXECUTE, INFO, OPTIONS
    (0x00, 1, Query) ∷ (0x02, 1, Query) ∷ (0x03, 4, Query) ∷ (0x04, 1, Results) ∷ (0x05, 1, Query) ∷ (0x06, 1, Query) ∷ (0x07, 1, Query) ∷
    -- CREATE, ADD, PUT, PUTBINARY
    (0x08, 2, Create) ∷ (0x09, 2, Create) ∷ (0x0C, 2, Create) ∷ (0x0D, 2, Create) ∷
    -- CONTEXT, UPDATING, FULL
    (0x0E, 3, Query) ∷ (0x1E, 1, Query) ∷ (0x1F, 1, Full) ∷
    -- COMMAND, for every first byte from 20 to FE
    (0x20, 1, Command) ∷ []

-- "20 to FE starts a COMMAND"
abbrev pub starts_command : ℕ → Bool
starts_command b = between 0x20 0xFE b

-- the byte of its row
abbrev pub row_byte : ℕ → ℕ
row_byte b = if (starts_command b) 0x20 b

-- the strings and the response of the first kind with the byte
unfoldable pub search : ℕ → List Kind → Option (ℕ × Reply)
search b [] = None
search b (k ∷ ks) = if (eqb k.0 b) (Some (k.1, k.2)) (search b ks)

-- what the table says of a first byte: "Other first bytes: 2"
unfoldable pub find_of : ℕ → Option (ℕ × Reply)
find_of b = search (row_byte b) kinds

-- what a response is made of: whether its request is a COMMAND, how many strings stand ahead of the status, whether an error string stands behind
-- status 01, whether there are items, whether they are those of FULL
abbrev pub columns_of : Reply → Columns
-- "COMMAND: two strings", of which with status 01 "the last string is the error"
columns_of Command = record { command = true; ahead = 2; error = false; listed = false; full = false }
-- "CREATE, ADD, PUT, PUTBINARY: one string", which with status 01 is that last string
columns_of Create = record { command = false; ahead = 1; error = false; listed = false; full = false }
-- "QUERY and the query commands: one string …, then 00, or 01 and an error string"
columns_of Query = record { command = false; ahead = 1; error = true; listed = false; full = false }
-- "(RESULTS, FULL: items, then 00)" in place of the one string
columns_of Results = record { command = false; ahead = 0; error = true; listed = true; full = false }
columns_of Full = record { command = false; ahead = 0; error = true; listed = true; full = true }

-- whose first byte is text
abbrev pub is_command : Reply → Bool
is_command reply = (columns_of reply).command

abbrev pub ahead : Reply → ℕ
ahead reply = (columns_of reply).ahead

abbrev pub error_behind : Reply → Bool
error_behind reply = (columns_of reply).error

-- one behind 01, none behind 00
abbrev pub behind : Reply → ℕ → ℕ
behind reply status = if (error_behind reply) status 0

abbrev pub listed : Reply → Bool
listed reply = (columns_of reply).listed

abbrev pub is_full : Reply → Bool
is_full reply = (columns_of reply).full

-- "a type id (7-15 or 32-83, else 8)"
unfoldable pub id_allowed : ℕ → Bool
id_allowed id = if (between 7 15 id) true (between 32 83 id)

-- "in FULL a URI string after 12, 14 and 82"
unfoldable pub has_uri : Bool → ℕ → Bool
has_uri full id = if full (if (eqb id 12) true (if (eqb id 14) true (eqb id 82))) false

-- ".. and a string"
abbrev pub item_strings : Bool → ℕ → ℕ
item_strings full id = if (has_uri full id) 2 1

-- "Status above 01: 8."
abbrev pub status_allowed : ℕ → Bool
status_allowed status = leb status 1
