-- Calls of `join` one after another, as wire's `specs/Calls.antt` has them.
use Rattle.std.specs.Prelude.{List, [], ◌∷◌, ◌++◌, map, ℕ, ◌-◌}
use lib.{Dec.ltb, ListN.length}
use Rattle.wire.specs.{Bytes.if, Calls.Done, Calls.answers_from, Calls.record_after_all}
use Rattle.sedna.specs.Message.{Message}
use Rattle.parts_join.specs.{declared.Assembly.Assembly, declared.Joined.Joined, declared.Open.Open, Answers.Reply, Answers.reply}
use Rattle.parts_join.specs.Joining.{opened, joined, buffer_after}

-- what the caller keeps: the record, and the buffer beside it
pub record Gathered : Type 0 where
  pub assembly : Assembly
  pub buffer : List ℕ

-- a fresh opening, with a buffer d
abbrev pub opened_with : Open → List ℕ → Gathered
opened_with what d = record { assembly = opened what; buffer = d }

-- a call of `join`, by its contract
abbrev pub join_call : Gathered → Message → Done Gathered Reply
join_call g m =
    let j : Joined = joined g.assembly (length g.buffer) m in
    record { record_after = record { assembly = j.assembly; buffer = buffer_after g.assembly g.buffer m }; answer = reply j.answer }

-- a list of calls: what they left, and what each was answered
pub record Run : Type 0 where
  pub gathered : Gathered
  pub replies : List Reply

abbrev pub run_of : {Call : Type 0} → (Gathered → Call → Done Gathered Reply) → Gathered → List Call → Run
run_of call g calls = record { gathered = record_after_all call g calls; replies = answers_from call g calls }

unfoldable pub run : Gathered → List Message → Run
run = run_of join_call

-- the answers to messages that add these texts, where they do not fit the room: "A part that would overrun gets 12 ...; further parts and the end get 12 too"
abbrev pub short_replies : ℕ → List (List ℕ) → List Reply
short_replies room [] = []
short_replies room (t ∷ ts) = if (ltb room (length t)) (map (λ (s : List ℕ). Reply.number 12) (t ∷ ts)) (Reply.taken ∷ short_replies (room - length t) ts)

-- the texts before the one that would overrun the room
abbrev pub short_text : ℕ → List (List ℕ) → List ℕ
short_text room [] = []
short_text room (t ∷ ts) = if (ltb room (length t)) [] (t ++ short_text (room - length t) ts)
