-- Joining for programs in C and Rust: the caller keeps the assembly in the first seven numbers of what it lends.
use Rattle.std.specs.Prelude.{ℕ, Option, Some, None, Result, Ok, Err}
use mathlib.Core.{Bool.Bool, List.List, List.[], List.◌∷◌, List.◌++◌, Path.◌≡◌}
use lib.{Dec.eqb, Dec.ltb, ListN.length, ListN.get_or, ListN.drop}
use Rattle.wire.specs.{Bytes.if, declared.Refusal.Refusal, declared.Refusal.TheVariants.ValueNotAllowed, declared.Refusal.TheVariants.NoRoom}
use Rattle.answer_c.specs.Codes.{refusal_code}
use Rattle.sedna.specs.Message.{Message}
use Rattle.sedna_read.specs.{declared.Reading.Reading, Meaning.body_in}
use Rattle.parts_join.specs.{declared.Answer.Answer, declared.Assembly.Assembly, declared.Joined.Joined, declared.Open.Open, Roles.label}
use Rattle.parts_join.specs.Joining.{opened, joined, buffer_after}
use Rattle.sedna_c.specs.Codes.{side_reading}

-- what is open: 0 nothing, 1 a statement, 2 an item up to 3.0, 3 one of 4.0
abbrev pub open_of : ℕ → Open
open_of n = if (eqb n 1) Open.Statement (if (eqb n 2) Open.Item (if (eqb n 3) Open.TypedItem Open.Nothing))

abbrev pub open_number : Open → ℕ
open_number Open.Nothing = 0
open_number Open.Statement = 1
open_number Open.Item = 2
open_number Open.TypedItem = 3

abbrev pub flag_of : Bool → ℕ
flag_of b = if b 1 0

-- the numbers: what, begun, held, overflowed, format, class, type
abbrev pub assembly_in : List ℕ → Assembly
assembly_in d =
    let n : ℕ → ℕ = λ i. get_or d i 0 in
    record { what = open_of (n 0); begun = eqb (n 1) 1; held = n 2; overflowed = eqb (n 3) 1; label = label (n 4) (n 5) (n 6) }

abbrev pub assembly_list : Assembly → List ℕ
assembly_list a = open_number a.what ∷ flag_of a.begun ∷ a.held ∷ flag_of a.overflowed ∷ a.label.format ∷ a.label.class ∷ a.label.kind ∷ []

-- the numbers once an assembly is put there
abbrev pub assembly_put : Assembly → List ℕ → List ℕ
assembly_put a d = assembly_list a ++ drop 7 d

-- numbers that no assembly has are none
unfoldable pub meant_by : List ℕ → Option Assembly
meant_by d =
    if (ltb 3 (get_or d 0 0))
    None
    (if (ltb 1 (get_or d 1 0))
    None
    (if (ltb 1 (get_or d 3 0))
    None
    (if (ltb 255 (get_or d 4 0))
    None
    (if (ltb 255 (get_or d 5 0))
    None
    (if (ltb 255 (get_or d 6 0))
    None
    (Some (assembly_in d)))))))

-- opening: 10 where seven numbers are not lent, 8 for what is none of the three
abbrev pub open_code : ℕ → List ℕ → ℕ
open_code what d =
    if (ltb (length d) 7) (refusal_code NoRoom) (if (eqb what 0) (refusal_code ValueNotAllowed) (if (ltb 3 what) (refusal_code ValueNotAllowed) 0))

abbrev pub open_after : ℕ → List ℕ → List ℕ
open_after what d = if (ltb (length d) 7) d (if (eqb what 0) d (if (ltb 3 what) d (assembly_put (opened (open_of what)) d)))

-- the bytes read, or the refusal
abbrev pub answer_code : Result Answer Refusal → ℕ → ℕ
answer_code (Ok x) n = n
answer_code (Err r) n = refusal_code r

abbrev pub told_put : ℕ → ℕ → ℕ → ℕ → List ℕ → List ℕ
told_put what len a b d = what ∷ len ∷ a ∷ b ∷ drop 4 d

-- what is told: 0 for a part; 1 a statement, 2 an item, 3 one of 4.0, then its length, format or class, and type
abbrev pub told_after : Result Answer Refusal → List ℕ → List ℕ
told_after (Ok Answer.Part) d = told_put 0 0 0 0 d
told_after (Ok (Answer.Statement format len)) d = told_put 1 len format 0 d
told_after (Ok (Answer.Item len)) d = told_put 2 len 0 0 d
told_after (Ok (Answer.TypedItem class kind len)) d = told_put 3 len class kind d
told_after (Err r) d = d

-- a call's answer, and the lent memory after it
pub record Outcome : Type 0 where
  pub code : ℕ
  pub assembly : List ℕ
  pub buffer : List ℕ
  pub told : List ℕ

-- the contract of a call with that outcome: its answer, and what it leaves
pub record JoinLeaves (o : Outcome) (r : ℕ) (d buffer told : List ℕ) : Type 0 where
  pub answers : r ≡ o.code
  pub leaves_assembly : d ≡ o.assembly
  pub leaves_buffer : buffer ≡ o.buffer
  pub leaves_told : told ≡ o.told

abbrev pub unchanged : Refusal → List ℕ → List ℕ → List ℕ → Outcome
unchanged r d buffer told = record { code = refusal_code r; assembly = d; buffer = buffer; told = told }

-- a message that was read is joined; one that is marked spoilt is so in the lent numbers
abbrev pub message_joined : Message → ℕ → Assembly → List ℕ → List ℕ → List ℕ → Outcome
message_joined m n a d buffer told =
    let j : Joined = joined a (length buffer) m in
    record { code = answer_code j.answer n; assembly = assembly_put j.assembly d; buffer = buffer_after a buffer m; told = told_after j.answer told }

abbrev pub reading_joined : Result Reading Refusal → Assembly → List ℕ → List ℕ → List ℕ → List ℕ → Outcome
reading_joined (Err r) a bytes d buffer told = unchanged r d buffer told
reading_joined (Ok m) a bytes d buffer told = message_joined (record { instruction = m.instruction; body = body_in bytes m.places }) m.count a d buffer told

abbrev pub meant_joined : Option Assembly → Result Reading Refusal → List ℕ → List ℕ → List ℕ → List ℕ → Outcome
meant_joined None r bytes d buffer told = unchanged ValueNotAllowed d buffer told
meant_joined (Some a) r bytes d buffer told = reading_joined r a bytes d buffer told

-- 10 where seven numbers and four are not lent, 8 where the seven are no assembly's; then what reading refuses, then what joining does
unfoldable pub outcome : List ℕ → List ℕ → ℕ → List ℕ → List ℕ → Outcome
outcome d buffer side bytes told =
    if (ltb (length d) 7)
    (unchanged NoRoom d buffer told)
    (if (ltb (length told) 4)
    (unchanged NoRoom d buffer told)
    (meant_joined (meant_by d) (side_reading side bytes) bytes d buffer told))
