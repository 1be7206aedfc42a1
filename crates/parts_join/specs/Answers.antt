-- Document 01's number and values of each answer.
use Rattle.std.specs.Prelude.{List, [], ◌∷◌, ℕ, Result, Ok, Err}
use Rattle.wire.specs.declared.Refusal.{Refusal}
use Rattle.wire.specs.Refusals.{number_of}
use Rattle.parts_join.specs.declared.Answer.{Answer}

pub data Reply : Type 0 where
  -- a refusal's number
  number : ℕ → Reply
  -- a part was taken
  taken : Reply
  -- "handed over as the front part of the gathering buffer, with class and type in 4.0 or the format": those values, and how many bytes
  whole : List ℕ → ℕ → Reply

abbrev pub reply : Result Answer Refusal → Reply
reply (Ok Answer.Part) = Reply.taken
reply (Ok (Answer.Statement format n)) = Reply.whole (format ∷ []) n
reply (Ok (Answer.Item n)) = Reply.whole [] n
reply (Ok (Answer.TypedItem class kind n)) = Reply.whole (class ∷ kind ∷ []) n
reply (Err r) = Reply.number (number_of r)

-- how many bytes are handed over
abbrev pub bytes_handed : Reply → ℕ
bytes_handed (Reply.number k) = 0
bytes_handed Reply.taken = 0
bytes_handed (Reply.whole values n) = n
