-- A refusal leaves the output as it was.
use Rattle.std.specs.Prelude.{Result, Ok, Err}
use mathlib.Core.Path.{◌≡◌}
use Prim.Native.Nat.{ℕ}
use Rattle.wire.specs.declared.Refusal.{Refusal}
use Rattle.wire.proofs.Branches.{apart}
use Rattle.session.specs.declared.Session.{Session}
use Rattle.records.specs.Record.{Front}
use Rattle.records_printed.specs.NextLine.{goes_on}
use Rattle.records_printed.specs.Output.{record_line, end_line}
use Rattle.records_printed.specs.Unchanged.{Refuses, Unchanged}
use Rattle.records_printed.proofs.Rooms.{text-refused}

-- a line is refused where its text is
record_refused : (s : Session) (c : Result ℕ Refusal) {x : Refusal} → record_line s c ≡ Err x → c ≡ Err x
record_refused s (Ok n) e = apart (cc)
record_refused s (Err y) e = cc

end_refused : (c : Result ℕ Refusal) {x : Refusal} → end_line c ≡ Err x → c ≡ Err x
end_refused (Ok n) e = apart (cc)
end_refused (Err y) e = cc

next-refused : (s : Session) (f : Front) (c : Result ℕ Refusal) {x : Refusal} → goes_on s f c ≡ Err x → c ≡ Err x
next-refused s Front.end c e = end_refused c e
next-refused s Front.damaged c e = end_refused c e
next-refused s (Front.sound r rest) c e = record_refused _ c e

so_counted : (c : Result ℕ Refusal) (x : Refusal) → Refuses c x → c ≡ Err x
so_counted c x (Refuses.text e) = e
so_counted c x (Refuses.line s e) = record_refused s c e
so_counted c x (Refuses.next s f e) = next-refused s f c e

pub unchanged : Unchanged
unchanged d at text x r = text-refused d at text x (so_counted _ x r)
