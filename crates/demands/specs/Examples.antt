-- Document 01, "Worked examples (P: proved, as one table)".
use mathlib.Core.{List.List, List.[], List.◌∷◌, List.map, Path.◌≡◌}
use Rattle.std.specs.Prelude.{Result, Ok, Err, ℕ, ◌-◌, length, take}
use Rattle.wire.specs.{Call.put_at, Call.in_room, Fields.Got, declared.Refusal.Refusal, Refusals.number_of}
use Rattle.sedna.specs.{declared.Side.Side, Message.Body, Message.Message, Names.StartUp, Names.Execute}
use Rattle.sedna_read.specs.Reading.{Answer, reading}
use Rattle.basex_string.specs.Scan as strings
use Rattle.basex_string.specs.Strings.{string}

-- what an example asks: a Sedna message read, a BaseX string written, and one read
pub data Question : Type 0 where
  sedna : Side → List ℕ → Question
  basex_write : List ℕ → Question
  basex_read : List ℕ → Question

-- what it is answered: a refusal's number, a message and the bytes read, bytes written, or a text and the bytes read
pub data Reply : Type 0 where
  number : ℕ → Reply
  message : Message → ℕ → Reply
  bytes : List ℕ → Reply
  text : List ℕ → ℕ → Reply

abbrev pub sedna_reply : Answer → Reply
sedna_reply (Answer.refused r) = Reply.number (number_of r)
sedna_reply (Answer.accepted m n) = Reply.message m n

-- what stands in front of the output, where so many bytes were written
abbrev pub written_reply : List ℕ → Result ℕ Refusal → Reply
written_reply out (Err r) = Reply.number (number_of r)
written_reply out (Ok n) = Reply.bytes (take n out)

abbrev pub read_reply : ℕ → Got (List ℕ) → Reply
read_reply n (Got.refused r) = Reply.number (number_of r)
read_reply n (Got.got t rest) = Reply.text t (n - length rest)

-- an output of eight bytes, none of which stands in the encoding below
abbrev blank : List ℕ
blank = 0xEE ∷ 0xEE ∷ 0xEE ∷ 0xEE ∷ 0xEE ∷ 0xEE ∷ 0xEE ∷ 0xEE ∷ []

abbrev pub reply : Question → Reply
reply (Question.sedna side s) = sedna_reply (reading side s)
reply (Question.basex_write t) = written_reply (put_at blank 0 (string t)) (in_room (length blank) 0 (length (string t)))
reply (Question.basex_read s) = read_reply (length s) (strings.reading s)

pub record Example : Type 0 where
  pub asked : Question
  pub answer : Reply

abbrev read : Side → List ℕ → Reply → Example
read side s answer = record { asked = Question.sedna side s; answer = answer }

abbrev refuse : Side → List ℕ → ℕ → Example
refuse side s n = read side s (Reply.number n)

unfoldable pub table : List Example
table =
    -- nothing; seven bytes: 1; 1
    refuse Side.Client [] 1 ∷
    refuse Side.Client (0 ∷ 0 ∷ 0 ∷ 0x6E ∷ 0 ∷ 0 ∷ 0 ∷ []) 1 ∷
    -- client 0000006E 00000000: StartUp, 8 read
    read Side.Client (0 ∷ 0 ∷ 0 ∷ 0x6E ∷ 0 ∷ 0 ∷ 0 ∷ 0 ∷ []) (Reply.message (record { instruction = StartUp; body = Body.empty }) 8) ∷
    -- the same from the server: 3
    refuse Side.Server (0 ∷ 0 ∷ 0 ∷ 0x6E ∷ 0 ∷ 0 ∷ 0 ∷ 0 ∷ []) 3 ∷
    -- client 0000006E 00000001 78: 7
    refuse Side.Client (0 ∷ 0 ∷ 0 ∷ 0x6E ∷ 0 ∷ 0 ∷ 0 ∷ 1 ∷ 0x78 ∷ []) 7 ∷
    -- client 00000065 00000000: 2
    refuse Side.Client (0 ∷ 0 ∷ 0 ∷ 0x65 ∷ 0 ∷ 0 ∷ 0 ∷ 0 ∷ []) 2 ∷
    -- server 00000168 00002801: 4
    refuse Side.Server (0 ∷ 0 ∷ 1 ∷ 0x68 ∷ 0 ∷ 0 ∷ 0x28 ∷ 1 ∷ []) 4 ∷
    -- server 00000168 00002800: 1
    refuse Side.Server (0 ∷ 0 ∷ 1 ∷ 0x68 ∷ 0 ∷ 0 ∷ 0x28 ∷ 0 ∷ []) 1 ∷
    -- client 0000012C 00000007 00 00 00000001 31: Execute, XML, text "1"
    read Side.Client (0 ∷ 0 ∷ 1 ∷ 0x2C ∷ 0 ∷ 0 ∷ 0 ∷ 7 ∷ 0 ∷ 0 ∷ 0 ∷ 0 ∷ 0 ∷ 1 ∷ 0x31 ∷ [])
    (Reply.message (record { instruction = Execute; body = Body.statement 0 (0x31 ∷ []) }) 15) ∷
    -- the same, format 02: 8
    refuse Side.Client (0 ∷ 0 ∷ 1 ∷ 0x2C ∷ 0 ∷ 0 ∷ 0 ∷ 7 ∷ 2 ∷ 0 ∷ 0 ∷ 0 ∷ 0 ∷ 1 ∷ 0x31 ∷ []) 8 ∷
    -- the same, string format 01: 6
    refuse Side.Client (0 ∷ 0 ∷ 1 ∷ 0x2C ∷ 0 ∷ 0 ∷ 0 ∷ 7 ∷ 0 ∷ 1 ∷ 0 ∷ 0 ∷ 0 ∷ 1 ∷ 0x31 ∷ []) 6 ∷
    -- the same, string length 2: 5
    refuse Side.Client (0 ∷ 0 ∷ 1 ∷ 0x2C ∷ 0 ∷ 0 ∷ 0 ∷ 7 ∷ 0 ∷ 0 ∷ 0 ∷ 0 ∷ 0 ∷ 2 ∷ 0x31 ∷ []) 5 ∷
    -- BaseX write 61 00 FF: 61 FF 00 FF FF 00
    record { asked = Question.basex_write (0x61 ∷ 0 ∷ 0xFF ∷ []); answer = Reply.bytes (0x61 ∷ 0xFF ∷ 0 ∷ 0xFF ∷ 0xFF ∷ 0 ∷ []) } ∷
    -- BaseX read FF 41 00: 13
    record { asked = Question.basex_read (0xFF ∷ 0x41 ∷ 0 ∷ []); answer = Reply.number 13 } ∷
    []

-- each is answered as 01 says
abbrev pub MarkedExamples : Type 0
MarkedExamples = map (λ (e : Example). reply e.asked) table ≡ map (λ (e : Example). e.answer) table
