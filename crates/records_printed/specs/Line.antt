-- Document 01, "The transcript program": "a line per record: number from 1, C or S, instruction in decimal (`-` under four bytes), 0 or the refusal".
-- Text is a list of ASCII codes.
use Rattle.std.specs.Prelude.{List, [], ◌∷◌, ◌++◌, ℕ, zero, suc, ◌+◌, ◌/◌, ◌%◌}
use lib.{Dec.ltb, ListN.length}
use Rattle.wire.specs.Bytes.{if, int_at}
use Rattle.sedna.specs.declared.Side.{Side}
use Rattle.session.specs.declared.Session.{Session}
use Rattle.records.specs.Record.{Record}
use Rattle.records_printed.specs.Answer.{answered}

-- the character of a digit
abbrev pub digit : ℕ → ℕ
digit d = 48 + d

-- n in decimal, the most significant digit first; the first number bounds how many digits there are
unfoldable pub decimal_up_to : ℕ → ℕ → List ℕ
decimal_up_to zero n = []
decimal_up_to (suc most) n = if (ltb n 10) (digit n ∷ []) (decimal_up_to most (n / 10) ++ (digit (n % 10) ∷ []))

-- no number has more digits than it counts, but 0 has one
abbrev pub decimal : ℕ → List ℕ
decimal n = decimal_up_to (suc n) n

-- "C or S"
abbrev pub letter : Side → ℕ
letter Side.Client = 67
letter Side.Server = 83

-- "instruction in decimal (`-` under four bytes)"
abbrev pub instruction : List ℕ → List ℕ
instruction payload = if (ltb (length payload) 4) (45 ∷ []) (decimal (int_at payload 0))

-- between two fields
abbrev pub space : ℕ
space = 32

-- behind every line
abbrev pub newline : ℕ
newline = 10

-- the line of record number n, which is answered x
unfoldable pub line : ℕ → Record → ℕ → List ℕ
line n r x = decimal n ++ (space ∷ letter r.side ∷ space ∷ (instruction r.payload ++ (space ∷ (decimal x ++ (newline ∷ [])))))

-- with what the session answers it
abbrev pub line_in : ℕ → Session → Record → List ℕ
line_in n s r = line n r (answered s r).number
