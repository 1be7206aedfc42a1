-- One call, from a record in progress: a part that fits, the last message, and the part that overruns.
use Rattle.std.specs.Prelude.{Ok}
use mathlib.Core.Bool.{Bool, true, false}
use mathlib.Core.List.{List, ◌++◌}
use mathlib.Core.Path.{◌≡◌, refl, ap, ◌∙◌}
use Prim.Native.Nat.{ℕ, ◌+◌, ◌≤◌, ◌<◌}
use native.Mathlib.Omega.{arith}
use lib.ListN.{length, length-append}
use Rattle.wire.specs.Bytes.{if, splice}
use Rattle.wire.specs.Calls.{Done}
use Rattle.wire.proofs.Splices.{length-splice, splice-splice}
use Rattle.wire.specs.declared.Refusal.TheVariants.{ValueNotAllowed, OutOfOrder, BufferOverrun}
use Rattle.sedna.specs.Allowed.{allowed}
use Rattle.sedna.specs.Message.{Message}
use Rattle.parts_join.specs.declared.Answer.TheVariants as answer
use Rattle.parts_join.specs.declared.Assembly.{Assembly}
use Rattle.parts_join.specs.declared.Joined.{Joined}
use Rattle.parts_join.specs.declared.Label.{Label}
use Rattle.parts_join.specs.declared.Open.{Open}
use Rattle.parts_join.specs.Answers.{Reply, reply}
use Rattle.parts_join.specs.Calls.{Gathered, join_call}
use Rattle.parts_join.specs.Joining.{closed, refused, marked, whole_of, fitted, joined_as, joined, is_accepted, buffer_after}
use Rattle.parts_join.specs.Roles.{role_of, takes, in_order, text_of, label_of}
use Rattle.parts_join.proofs.Order.{fitted-there, fitted_not, whole-accepted}
use Rattle.parts_join.proofs.Places.{Placed}

-- a message with allowed values at its place
pub record Taken (what : Open) (begun end : Bool) (m : Message) : Type 0 where
  pub values : allowed m.body ≡ true
  pub place : Placed what begun end m

-- the record of an assembly that took a part
abbrev pub going : Open → Label → ℕ → Assembly
going what l n = record { what = what; begun = true; held = n; overflowed = false; label = l }

-- the label that counts once m is taken
abbrev pub first_label : Assembly → Message → Label
first_label a m = if a.begun a.label (label_of m.body)

-- a record beside a buffer d that has g in front
abbrev pub beside : Assembly → List ℕ → List ℕ → Gathered
beside a d g = record { assembly = a; buffer = splice d 0 g }

-- what a call leaves and answers
abbrev pub did : Gathered → Reply → Done Gathered Reply
did g x = record { record_after = g; answer = x }

-- what a call comes to, in the order of the tests
module _ (a : Assembly) (room : ℕ) (m : Message) where
  joined-there : {end : Bool} → Taken a.what a.begun end m → a.overflowed ≡ false
      → joined a room m ≡ fitted a (role_of a.what m) (label_of m.body) (length (text_of m.body)) room
  unfolding joined joined_as
  joined-there t h = simp (t.values, t.place.kind, h, t.place.order)

  pub joined-value : allowed m.body ≡ false → joined a room m ≡ refused ValueNotAllowed a
  unfolding joined
  joined-value v = simp v

  pub joined-other : allowed m.body ≡ true → takes (role_of a.what m) ≡ false → joined a room m ≡ refused OutOfOrder a
  unfolding joined joined_as
  joined-other v k = simp (v, k)

  pub joined-late : allowed m.body ≡ true → takes (role_of a.what m) ≡ true → a.overflowed ≡ false
      → in_order (role_of a.what m) a.begun ≡ false → joined a room m ≡ refused OutOfOrder a
  unfolding joined joined_as
  joined-late v k h o = simp (v, k, h, o)

  pub joined-spoilt : allowed m.body ≡ true → takes (role_of a.what m) ≡ true → a.overflowed ≡ true
      → joined a room m ≡ refused BufferOverrun a
  unfolding joined joined_as
  joined-spoilt v k h = simp (v, k, h)

module _ (g : Gathered) (m : Message) (j : Joined) (e : joined g.assembly (length g.buffer) m ≡ j) where
  call_taken : is_accepted j.answer ≡ true
      → join_call g m ≡ did (record { assembly = j.assembly; buffer = splice g.buffer g.assembly.held (text_of m.body) }) (reply j.answer)
  unfolding buffer_after
  call_taken h = simp (e, h)

  pub call_refused : is_accepted j.answer ≡ false → join_call g m ≡ did (record { assembly = j.assembly; buffer = g.buffer }) (reply j.answer)
  unfolding buffer_after
  call_refused h = simp (e, h)

-- behind g, which stands at the front of d
over-front : (d g t : List ℕ) (n : ℕ) → n ≡ length g → length (g ++ t) ≤ length d → splice (splice d 0 g) n t ≡ splice d 0 (g ++ t)
over-front d g t n e h =
    let l : length (g ++ t) ≡ length g + length t = length-append g t in
    let z : n ≡ 0 + length g = omega arith in
    ap (λ (k : ℕ). splice (splice d 0 g) k t) z ∙ splice-splice d 0 g t (omega arith)

-- a message to a record in progress, which holds g
module _ (a : Assembly) (d g : List ℕ) (m : Message) (h : a.overflowed ≡ false) (e : a.held ≡ length g) where
  abbrev text : List ℕ
  text = text_of m.body

  grown_by : a.held + length text ≡ length (g ++ text)
  grown_by = let l : length (g ++ text) ≡ length g + length text = length-append g text in omega arith

  -- the call, where the text fits ..
  there : {end : Bool} → Taken a.what a.begun end m → length (g ++ text) ≤ length d → (j : Joined)
      → joined a (length (splice d 0 g)) m ≡ j → is_accepted j.answer ≡ true
      → join_call (beside a d g) m ≡ did (beside j.assembly d (g ++ text)) (reply j.answer)
  there t f j q ok =
      call_taken (beside a d g) m j q ok
      ∙ ap (λ (b : List ℕ). did (record { assembly = j.assembly; buffer = b }) (reply j.answer)) (over-front d g text a.held e f)

  fitting : {end : Bool} → Taken a.what a.begun end m → length (g ++ text) ≤ length d → length (splice d 0 g) ≡ length d
  fitting t f = length-splice d 0 g (omega (arith, grown_by))

  -- .. a part ..
  pub step_part : Taken a.what a.begun false m → length (g ++ text) ≤ length d
      → join_call (beside a d g) m ≡ did (beside (going a.what (first_label a m) (length (g ++ text))) d (g ++ text)) Reply.taken
  step_part t f =
      there t f (record { assembly = going a.what (first_label a m) (length (g ++ text)); answer = Ok answer.Part })
      (joined-there a (length (splice d 0 g)) m t h
      ∙ fitted-there a (role_of a.what m) (label_of m.body) (length text) (length (splice d 0 g)) (omega (arith, grown_by, fitting t f))
      ∙ simp (t.place.ending, h, grown_by))
      refl

  -- .. and the last message
  pub step_end : Taken a.what a.begun true m → length (g ++ text) ≤ length d
      → join_call (beside a d g) m ≡ did (beside closed d (g ++ text)) (reply (whole_of a.what (first_label a m) (length (g ++ text))))
  step_end t f =
      there t f (record { assembly = closed; answer = whole_of a.what (first_label a m) (length (g ++ text)) })
      (joined-there a (length (splice d 0 g)) m t h
      ∙ fitted-there a (role_of a.what m) (label_of m.body) (length text) (length (splice d 0 g)) (omega (arith, grown_by, fitting t f))
      ∙ simp (t.place.ending, grown_by))
      (whole-accepted a.what (first_label a m) (length (g ++ text)))

  -- the part that overruns
  pub step-over : {end : Bool} → Taken a.what a.begun end m → length g ≤ length d → length d < length (g ++ text)
      → join_call (beside a d g) m ≡ did (beside (marked a) d g) (Reply.number 12)
  step-over t f o =
      let dl : length (splice d 0 g) ≡ length d = length-splice d 0 g (omega arith) in
      call_refused (beside a d g) m _
      (joined-there a (length (splice d 0 g)) m t h
      ∙ fitted_not a (role_of a.what m) (label_of m.body) (length text) (length (splice d 0 g)) (omega (arith, grown_by)))
      refl
