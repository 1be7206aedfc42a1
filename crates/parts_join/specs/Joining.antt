-- Document 01, "When joining: 8, 9, 12": what a call answers, the record that it returns, and what it leaves in the lent buffer.
use Rattle.std.specs.Prelude.{ℕ, ◌+◌, Result, Ok, Err}
use mathlib.Core.{Bool.Bool, Bool.true, Bool.false, List.List, Path.◌≡◌}
use lib.{Dec.ltb, ListN.length, ListN.take}
use Rattle.wire.specs.{Bytes.if, Bytes.splice, Call.Gives, declared.Refusal.Refusal}
use Rattle.sedna.specs.{Allowed.allowed, Message.Message}
use Rattle.parts_join.specs.{declared.Answer.Answer, declared.Assembly.Assembly, declared.Joined.Joined, declared.Label.Label, declared.Open.Open}
use Rattle.parts_join.specs.{declared.Role.Role, Answers.reply, Answers.bytes_handed}
use Rattle.parts_join.specs.Roles.{role_of, takes, in_order, ends, text_of, label, label_of}

-- "Opening, a call of its own for a statement, an item up to 3.0 or one of 4.0, drops what an earlier one held, spoilt or unfinished"
abbrev pub opened : Open → Assembly
opened o = record { what = o; begun = false; held = 0; overflowed = false; label = label 0 0 0 }

-- nothing is open
abbrev pub closed : Assembly
closed = opened Open.Nothing

-- "A refusal returns its number alone ...; buffers and session record stay unchanged."
abbrev pub refused : Refusal → Assembly → Joined
refused r a = record { assembly = a; answer = Err r }

-- "Only a gathering that met 12 is marked spoilt."
abbrev pub marked : Assembly → Assembly
marked a = record { what = a.what; begun = a.begun; held = a.held; overflowed = true; label = a.label }

-- the record with n bytes more. "The first part's format counts", and so do its class and type
abbrev pub grown : Assembly → Label → ℕ → Assembly
grown a l n = record { what = a.what; begun = true; held = a.held + n; overflowed = a.overflowed; label = if a.begun a.label l }

-- "A finished item or statement is handed over ... with class and type in 4.0 or the format." Where nothing is open no end is taken, and the first line
-- serves no call
abbrev pub whole_of : Open → Label → ℕ → Result Answer Refusal
whole_of Open.Nothing l n = Ok Answer.Part
whole_of Open.Statement l n = Ok (Answer.Statement l.format n)
whole_of Open.Item l n = Ok (Answer.Item n)
whole_of Open.TypedItem l n = Ok (Answer.TypedItem l.class l.kind n)

-- a part is taken, or "an accepted end closes it"
abbrev pub accepted : Assembly → Role → Joined
accepted a k =
    if (ends k)
    (record { assembly = closed; answer = whole_of a.what a.label a.held })
    (record { assembly = a; answer = Ok Answer.Part })

-- "A part that would overrun gets 12 and spoils the gathering"
unfoldable pub fitted : Assembly → Role → Label → ℕ → ℕ → Joined
fitted a k l n room = if (ltb room (a.held + n)) (refused Refusal.BufferOverrun (marked a)) (accepted (grown a l n) k)

-- 9 for another kind; "further parts and the end get 12 too, ahead of any 9 they would get otherwise"; then 9; then 12
unfoldable pub joined_as : Assembly → Role → Label → ℕ → ℕ → Joined
joined_as a k l n room =
    if (takes k)
    (if a.overflowed (refused Refusal.BufferOverrun a) (if (in_order k a.begun) (fitted a k l n room) (refused Refusal.OutOfOrder a)))
    (refused Refusal.OutOfOrder a)

-- joining a message to what a buffer of so many bytes holds: 8 ahead of all
unfoldable pub joined : Assembly → ℕ → Message → Joined
joined a room m =
    if (allowed m.body)
    (joined_as a (role_of a.what m) (label_of m.body) (length (text_of m.body)) room)
    (refused Refusal.ValueNotAllowed a)

abbrev pub is_accepted : Result Answer Refusal → Bool
is_accepted (Ok x) = true
is_accepted (Err r) = false

-- the buffer then: the text behind what was held, or as it was
unfoldable pub buffer_after : Assembly → List ℕ → Message → List ℕ
buffer_after a d m = if (is_accepted (joined a (length d) m).answer) (splice d a.held (text_of m.body)) d

-- the contract of `join`, for a message m
abbrev pub JoinGives : Assembly → List ℕ → Message → Joined → List ℕ → Type 0
JoinGives a d m = Gives (joined a (length d) m) (buffer_after a d m)

-- the contract of a call that hands over what an answer tells: the front part of the buffer, where that stands, so no copy
pub record Hands (answer : Result Answer Refusal) (buffer : List ℕ) (at : ℕ × ℕ) (part : List ℕ) (there : ℕ × ℕ) : Type 0 where
  pub bytes : part ≡ take (bytes_handed (reply answer)) buffer
  pub place : there ≡ at
