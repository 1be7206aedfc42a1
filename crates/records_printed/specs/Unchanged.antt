-- Document 01: "A refusal returns its number alone, with 0 bytes read or written; buffers and session record stay unchanged."
use Rattle.std.specs.Prelude.{ℕ, length, Result, Err}
use mathlib.Core.{List.List, Path.◌≡◌}
use Rattle.wire.specs.{Call.in_room, Call.put_at, declared.Refusal.Refusal}
use Rattle.session.specs.declared.Session.{Session}
use Rattle.records.specs.Record.{Front}
use Rattle.records_printed.specs.{NextLine.goes_on, Output.record_line}

-- the refusal is 10, and every lent byte is as it was. No refusal holds a session: the caller's own, passed by value, is what it goes on with
abbrev pub Untouched : List ℕ → ℕ → List ℕ → Refusal → Type 0
Untouched d at text x = (x ≡ Refusal.NoRoom) × (put_at d at text ≡ d)

-- what is answered where the text is so counted is that refusal; `text` is a last line, or all that is printed
pub data Refuses (c : Result ℕ Refusal) (x : Refusal) : Type 0 where
  text : c ≡ Err x → Refuses c x
  line : (s : Session) → record_line s c ≡ Err x → Refuses c x
  next : (s : Session) (f : Front) → goes_on s f c ≡ Err x → Refuses c x

abbrev pub Unchanged : Type 0
Unchanged = (d : List ℕ) (at : ℕ) (text : List ℕ) (x : Refusal) → Refuses (in_room (length d) at (length text)) x → Untouched d at text x
