-- Joining over any list of messages offered after an opening: what each is answered, by the cuttings alone. No role is named here, and no field of the record.
use mathlib.Core.{Bool.Bool, Bool.true, Bool.false, List.List, List.[], List.◌∷◌, List.◌++◌, List.flat_map, Path.◌≡◌}
use Rattle.std.specs.Prelude.{ℕ, ◌≤◌, ◌<◌}
use lib.{Dec.eqb, ListN.length}
use Rattle.wire.specs.{Bytes.if, Calls.Done, Calls.record_after_all, Calls.kept_after_all, Calls.AllRight}
use Rattle.sedna.specs.{Allowed.allowed, Message.Message}
use Rattle.parts_join.specs.{declared.Open.Open, Answers.Reply, Calls.Gathered, Calls.opened_with, Calls.join_call}
use Rattle.parts_join.specs.{Cuttings.Cutting, Cuttings.messages, Cuttings.opening, Cuttings.values, Cuttings.fronted, Cuttings.whole, Roles.text_of}

-- the messages of a cutting for that opening
pub record Cut (what : Open) (ms : List Message) : Type 0 where
  pub cutting : Cutting
  pub opens : opening cutting ≡ what
  pub made : messages cutting ≡ ms

-- the first messages of one, none to all
abbrev pub Begun : Open → List Message → Type 0
Begun what ms = (more : List Message) × Cut what (ms ++ more)

-- "a part or an end" of such a gathering: some cutting has the message
abbrev pub PartOf : Open → Message → Type 0
PartOf what m = (front : List Message) × Begun what (front ++ (m ∷ []))

-- the text that messages add, which `Joins` holds to the cuttings' texts
abbrev pub text_in : List Message → List ℕ
text_in = flat_map (λ (m : Message). text_of m.body)

-- the right answer to a message m, where `now` are the messages accepted since the opening with m behind them; and whether a part has overrun before
pub data RightReply (what : Open) (room : ℕ) (m : Message) (now : List Message) : Bool → Reply → Type 0 where
  -- "When joining: 8, 9, 12."
  value : {spoilt : Bool} → allowed m.body ≡ false → RightReply what room m now spoilt (Reply.number 8)
  -- "a part or an end that no open gathering takes"; "A second ItemStart, a 4.0 ItemPart before one, an end before any part and a message of another kind get
  -- 9."
  untaken : allowed m.body ≡ true → ¬ Begun what now → RightReply what room m now false (Reply.number 9)
  -- "A part that would overrun gets 12 and spoils the gathering"
  overruns : allowed m.body ≡ true → Begun what now → room < length (text_in now) → RightReply what room m now false (Reply.number 12)
  -- "Joining accepts every cutting, empty parts included."
  taken : allowed m.body ≡ true → Begun what now → ¬ Cut what now → length (text_in now) ≤ room → RightReply what room m now false Reply.taken
  -- "A finished item or statement is handed over ..., with class and type in 4.0 or the format."
  handed : allowed m.body ≡ true → (c : Cut what now) → length (whole c.cutting) ≤ room
      → RightReply what room m now false (Reply.whole (values c.cutting) (length (whole c.cutting)))
  -- "further parts and the end get 12 too, ahead of any 9 they would get otherwise"
  spoilt_part : allowed m.body ≡ true → PartOf what m → RightReply what room m now true (Reply.number 12)
  -- "a message of another kind get[s] 9", then too
  spoilt_other : allowed m.body ≡ true → ¬ PartOf what m → RightReply what room m now true (Reply.number 9)

-- what is kept of the calls: the messages accepted since the opening, and whether a part has overrun
pub record Accepted : Type 0 where
  pub messages : List Message
  pub spoilt : Bool

-- as an opening leaves it
abbrev pub none_accepted : Accepted
none_accepted = record { messages = []; spoilt = false }

-- m too, unless it was answered with a number. "Only a gathering that met 12 is marked spoilt."
abbrev pub accept : Accepted → Message → Reply → Accepted
accept k m (Reply.number n) = record { messages = k.messages; spoilt = if k.spoilt true (eqb n 12) }
accept k m Reply.taken = record { messages = k.messages ++ (m ∷ []); spoilt = k.spoilt }
accept k m (Reply.whole fields n) = record { messages = k.messages ++ (m ∷ []); spoilt = k.spoilt }

-- a call came out right, given what was accepted before it
abbrev pub RightCall : Open → ℕ → Accepted → Gathered → Message → Done Gathered Reply → Type 0
RightCall what room k g m x = RightReply what room m (k.messages ++ (m ∷ [])) k.spoilt x.answer

-- what holds after a list of messages, joined one after another from an opening with a buffer d
pub record Offered (what : Open) (d : List ℕ) (offers : List Message) : Type 0 where
  -- each got the right answer
  pub replies : AllRight join_call accept (RightCall what (length d)) none_accepted (opened_with what d) offers
  -- the texts of the accepted ones stand in front, and behind them the buffer is as it was
  pub buffer : (record_after_all join_call (opened_with what d) offers).buffer
      ≡ fronted d (text_in (kept_after_all join_call accept none_accepted (opened_with what d) offers).messages)
