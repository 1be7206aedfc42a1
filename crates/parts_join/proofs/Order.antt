-- The order of joining: where the room is judged, and that only a text that fits is accepted.
use Rattle.std.specs.Result.{is_ok}
use Rattle.std.specs.Prelude.{Result, Ok, Err}
use mathlib.Core.Bool.{Bool, true, false}
use mathlib.Core.List.{List}
use mathlib.Core.Path.{◌≡◌, refl, sym, ap, ◌∙◌}
use Prim.Native.Nat.{ℕ, ◌+◌, ◌≤◌, ◌<◌}
use lib.Dec.{ltb}
use lib.ListN.{length}
use borrow.Author.Tests.{lt-ltb, le-ltb, ltb-false}
use Rattle.wire.specs.Bytes.{if}
use Rattle.wire.specs.Call.{put_at}
use Rattle.wire.proofs.Splices.{put_at-fits}
use Rattle.wire.specs.declared.Refusal.{Refusal}
use Rattle.wire.specs.declared.Refusal.TheVariants.{OutOfOrder, BufferOverrun, ValueNotAllowed}
use Rattle.sedna.specs.Allowed.{allowed}
use Rattle.sedna.specs.Message.{Message}
use Rattle.parts_join.specs.declared.Answer.{Answer}
use Rattle.parts_join.specs.declared.Assembly.{Assembly}
use Rattle.parts_join.specs.declared.Joined.{Joined}
use Rattle.parts_join.specs.declared.Label.{Label}
use Rattle.parts_join.specs.declared.Open.{Open}
use Rattle.parts_join.specs.declared.Open.TheVariants as gathering
use Rattle.parts_join.specs.declared.Role.{Role}
use Rattle.parts_join.specs.Roles.{role_of, takes, in_order, text_of, label_of}
use Rattle.parts_join.specs.Joining.{refused, marked, grown, whole_of, accepted, fitted, joined_as, joined, is_accepted, buffer_after}

pub fitted_not : (a : Assembly) (k : Role) (l : Label) (n room : ℕ) → room < a.held + n → fitted a k l n room ≡ refused BufferOverrun (marked a)
unfolding fitted
fitted_not a k l n room h = simp (lt-ltb _ _ h)

pub fitted-there : (a : Assembly) (k : Role) (l : Label) (n room : ℕ) → a.held + n ≤ room → fitted a k l n room ≡ accepted (grown a l n) k
unfolding fitted
fitted-there a k l n room h = simp (le-ltb _ _ h)

-- what is accepted came of the branch that is no refusal
pub came_first : (t : Bool) (j : Joined) (r : Refusal) (a : Assembly) → is_accepted (if t j (refused r a)).answer ≡ true → is_accepted j.answer ≡ true
came_first true j r a h = h
came_first false j r a h = cc

pub came_second : (t : Bool) (r : Refusal) (a : Assembly) (j : Joined) → is_accepted (if t (refused r a) j).answer ≡ true → t ≡ false
came_second true r a j h = cc
came_second false r a j h = refl

pub second-accepted : (t : Bool) (r : Refusal) (a : Assembly) (j : Joined) → is_accepted (if t (refused r a) j).answer ≡ true → is_accepted j.answer ≡ true
second-accepted true r a j h = cc
second-accepted false r a j h = h

fitted-fits : (a : Assembly) (k : Role) (l : Label) (n room : ℕ) → is_accepted (fitted a k l n room).answer ≡ true → a.held + n ≤ room
unfolding fitted
fitted-fits a k l n room h = ltb-false room (a.held + n) (came_second (ltb room (a.held + n)) BufferOverrun (marked a) (accepted (grown a l n) k) h)

as_fits : (a : Assembly) (k : Role) (l : Label) (n room : ℕ) → is_accepted (joined_as a k l n room).answer ≡ true → a.held + n ≤ room
unfolding joined_as
as_fits a k l n room h =
    let first = came_first (takes k) (if a.overflowed (refused BufferOverrun a) (if (in_order k a.begun) (fitted a k l n room) (refused OutOfOrder a))) OutOfOrder a h in
    let second = second-accepted a.overflowed BufferOverrun a (if (in_order k a.begun) (fitted a k l n room) (refused OutOfOrder a)) first in
    fitted-fits a k l n room (came_first (in_order k a.begun) (fitted a k l n room) OutOfOrder a second)

-- only a text that fits is accepted
pub joined-fits : (a : Assembly) (room : ℕ) (m : Message) → is_accepted (joined a room m).answer ≡ true → a.held + length (text_of m.body) ≤ room
unfolding joined
joined-fits a room m h =
    as_fits a (role_of a.what m) (label_of m.body) (length (text_of m.body)) room
    (came_first (allowed m.body) (joined_as a (role_of a.what m) (label_of m.body) (length (text_of m.body)) room) ValueNotAllowed a h)

pub ok_accepted : (x : Result Answer Refusal) → is_ok x ≡ is_accepted x
ok_accepted (Ok x) = refl
ok_accepted (Err r) = refl

-- what was accepted is stored, as the code stores it
pub after-accepted : (a : Assembly) (d : List ℕ) (m : Message) {j : Joined} {t out : List ℕ} → j ≡ joined a (length d) m
    → is_accepted j.answer ≡ true → t ≡ text_of m.body → out ≡ put_at d a.held t → out ≡ buffer_after a d m
unfolding buffer_after
after-accepted a d m e h te p =
    let k : is_accepted (joined a (length d) m).answer ≡ true = ap (λ (i : Joined). is_accepted i.answer) (sym e) ∙ h in
    p ∙ ap (put_at d a.held) te ∙ put_at-fits d a.held (text_of m.body) (joined-fits a (length d) m k) ∙ sym (simp k)

-- what was refused is not
pub after-refused : (a : Assembly) (d : List ℕ) (m : Message) {j : Joined} → j ≡ joined a (length d) m → is_accepted j.answer ≡ false → d ≡ buffer_after a d m
unfolding buffer_after
after-refused a d m e h =
    let k : is_accepted (joined a (length d) m).answer ≡ false = ap (λ (i : Joined). is_accepted i.answer) (sym e) ∙ h in
    simp k

-- what is handed over is no refusal
pub whole-accepted : (what : Open) (l : Label) (n : ℕ) → is_accepted (whole_of what l n) ≡ true
whole-accepted gathering.Nothing l n = refl
whole-accepted gathering.Statement l n = refl
whole-accepted gathering.Item l n = refl
whole-accepted gathering.TypedItem l n = refl
