-- Document 01, "The transcript program": its own example, and a few of its words each by an input and what is printed for it.
use mathlib.Core.{List.List, List.[], List.◌∷◌, List.◌++◌, List.map, Path.◌≡◌}
use Prim.Native.Char.{code}
use Rattle.std.specs.Prelude.{ℕ}
use Prim.Native.String.{String, [] as no_more, ◌∷◌ as ◌then◌}
use Rattle.records_printed.specs.Transcript.{printed}

-- the codes of a text's characters
abbrev pub codes : String → List ℕ
codes no_more = []
codes (c then s) = code c ∷ codes s

pub record Example : Type 0 where
  pub input : List ℕ
  pub output : String

abbrev prints : List ℕ → String → Example
prints input output = record { input = input; output = output }

-- 08000000 0100 0000006E 00000000: a client's StartUp
abbrev start_up : List ℕ
start_up = 8 ∷ 0 ∷ 0 ∷ 0 ∷ 1 ∷ 0 ∷ 0 ∷ 0 ∷ 0 ∷ 0x6E ∷ 0 ∷ 0 ∷ 0 ∷ 0 ∷ []

-- 12000000 0200 00000064 0000000A 00000001 00 00000001 78: a server's ErrorResponse
abbrev error_response : List ℕ
error_response = 0x12 ∷ 0 ∷ 0 ∷ 0 ∷ 2 ∷ 0 ∷ 0 ∷ 0 ∷ 0 ∷ 0x64 ∷ 0 ∷ 0 ∷ 0 ∷ 0x0A ∷ 0 ∷ 0 ∷ 0 ∷ 1 ∷ 0 ∷ 0 ∷ 0 ∷ 0 ∷ 1 ∷ 0x78 ∷ []

unfoldable pub table : List Example
table =
    -- "Input 08000000 0100 ... prints exactly"
    prints (start_up ++ error_response) "1 C 110 0\n2 S 100 0\nclosed\n" ∷
    -- no record
    prints [] "open\n" ∷
    -- "`-` under four bytes": payloads of 0 and of 3 bytes
    prints (0 ∷ 0 ∷ 0 ∷ 0 ∷ 1 ∷ 0 ∷ []) "1 C - 1\nopen\n" ∷
    prints (3 ∷ 0 ∷ 0 ∷ 0 ∷ 2 ∷ 0 ∷ 0 ∷ 0 ∷ 0 ∷ []) "1 S - 1\nopen\n" ∷
    -- "instruction in decimal" of one of 4 bytes, and of one that no table has
    prints (4 ∷ 0 ∷ 0 ∷ 0 ∷ 1 ∷ 0 ∷ 0 ∷ 0 ∷ 0 ∷ 0x6E ∷ []) "1 C 110 1\nopen\n" ∷
    prints (8 ∷ 0 ∷ 0 ∷ 0 ∷ 1 ∷ 0 ∷ 0 ∷ 0 ∷ 0 ∷ 0x65 ∷ 0 ∷ 0 ∷ 0 ∷ 0 ∷ []) "1 C 101 2\nopen\n" ∷
    -- "payload bytes after the message count as 7", and it is not stepped: the same message without them is taken
    prints (9 ∷ 0 ∷ 0 ∷ 0 ∷ 1 ∷ 0 ∷ 0 ∷ 0 ∷ 0 ∷ 0x6E ∷ 0 ∷ 0 ∷ 0 ∷ 0 ∷ 0 ∷ start_up) "1 C 110 7\n2 C 110 0\nopen\n" ∷
    -- "`damaged` at a bad length", 10,249; the lines of the records ahead of it stand
    prints (start_up ++ (0x09 ∷ 0x28 ∷ 0 ∷ 0 ∷ 1 ∷ 0 ∷ [])) "1 C 110 0\ndamaged\n" ∷
    -- "or kind", 3
    prints (start_up ++ (0 ∷ 0 ∷ 0 ∷ 0 ∷ 3 ∷ 0 ∷ [])) "1 C 110 0\ndamaged\n" ∷
    -- "or a cut record": a payload of which a byte is missing, and a head, behind a conversation that is closed
    prints (start_up ++ (3 ∷ 0 ∷ 0 ∷ 0 ∷ 1 ∷ 0 ∷ 0 ∷ 0 ∷ [])) "1 C 110 0\ndamaged\n" ∷
    prints (start_up ++ (error_response ++ (8 ∷ []))) "1 C 110 0\n2 S 100 0\ndamaged\n" ∷
    []

-- for each is printed what stands beside it
abbrev pub ExamplesHold : Type 0
ExamplesHold = map (λ (e : Example). printed e.input) table ≡ map (λ (e : Example). codes e.output) table
