-- What the calls of reading and writing tell is what they mean.
use mathlib.Core.Bool.{Bool, true, false}
use mathlib.Core.List.{List, [], ◌∷◌}
use mathlib.Core.Option.{some}
use mathlib.Core.Path.{◌≡◌, refl, sym, ap, ◌∙◌, subst}
use Prim.Native.Nat.{ℕ, ◌-◌, ◌≤◌}
use native.Mathlib.Omega.{arith}
use lib.Dec.{eqb, ltb}
use lib.ListN.{length, drop, get_elem?, length-take, length-drop}
use borrow.Author.Tests.{le-ltb, ltb-true, ltb-false, eqb-true, eqb-false}
use Rattle.std.specs.Prelude.{Option, Some, None, Result, Err}
use Rattle.std.proofs.lemmas.Bool.Decides.{nat_tests}
use Rattle.wire.specs.Bytes.{IsBytes, if}
use Rattle.wire.specs.declared.Place.{Place}
use Rattle.wire.specs.declared.Refusal.{Refusal}
use Rattle.wire.specs.declared.Refusal.TheVariants.{ValueNotAllowed, NoRoom}
use Rattle.answer_c.specs.Codes.{refusal_code, counted_code}
use Rattle.sedna.specs.declared.Shape.{Shape}
use Rattle.sedna.specs.declared.Side.{Side}
use Rattle.sedna.specs.declared.Side.TheVariants.{Client, Server}
use Rattle.sedna.specs.Message.{Pair, Body, Message, message}
use Rattle.sedna_read.specs.declared.OptionPlace.{OptionPlace}
use Rattle.sedna_read.specs.Meaning.{part_of, option_in}
use Rattle.sedna_read.specs.Places.{places_of, located, option_at, option_there}
use Rattle.sedna_read.specs.Reading.{Answer, reading}
use Rattle.sedna_read.proofs.Pairs.{option_past}
use Rattle.sedna_write.specs.Writing.{judgement}
use Rattle.sedna_c.specs.Codes.{side_reading, read_code, fields_after, option_code, option_fields_after}
use Rattle.sedna_laws.proofs.Bytes.{bytes-part}
use Rattle.sedna_laws.proofs.Options.{option_exact, option_inside}
use Rattle.wire.proofs.Call.{refused-leaves}
use Rattle.sedna_laws.proofs.Lists.{lists_refused, lists_unwritten}
use Rattle.demands.specs.Answered.{answered}
use Rattle.demands.specs.Header.{◌at◌, slice, Inside, offered_by, SideOf, ReadsAs, client, server, START_1, LENGTH_1, COUNT}
use Rattle.demands.specs.SednaCalls.{ReadRight, OptionRight, OptionCalled, written_as, SednaCalls}
use Rattle.demands.proofs.Answered.{counted, refused}
use Rattle.demands.proofs.Tells.{read_count, tells, ten, one_message}

-- what a side's number and bytes offer that read well
pub is-offered : (bytes : List ℕ) {k : ℕ} {side : Side} {m : Message} {n : ℕ} → SideOf k side → reading side bytes ≡ Answer.accepted m n
    → offered_by k bytes ≡ m ∷ []
is-offered bytes is e = grind arith

-- a number is some side's, or no side's
pub data Sides (n : ℕ) : Type 0 where
  one : (side : Side) → SideOf n side → Sides n
  neither : eqb n 1 ≡ false → eqb n 2 ≡ false → ((side : Side) → ¬ SideOf n side) → Sides n

pub sides : (n : ℕ) → Sides n
sides n = by (eqb n 1) refl (eqb n 2) refl
  where
    by : (a : Bool) → eqb n 1 ≡ a → (b : Bool) → eqb n 2 ≡ b → Sides n
    by true is b q = Sides.one Client (subst (λ (k : ℕ). SideOf k Client) (sym (eqb-true n 1 is)) client)
    by false other true is = Sides.one Server (subst (λ (k : ℕ). SideOf k Server) (sym (eqb-true n 2 is)) server)
    by false other false none = Sides.neither other none (λ side x. no-side n side x refl)
      where
        no-side : (k : ℕ) (side : Side) → SideOf k side → k ≡ n → ⊥
        no-side k side client e = eqb-false n 1 other (sym e)
        no-side k side server e = eqb-false n 2 none (sym e)

-- what a side's reading is
pub side-read : (side : ℕ) (s : Side) (bytes : List ℕ) → SideOf side s → side_reading side bytes ≡ located (reading s bytes)
unfolding side_reading
side-read side s bytes client = refl
side-read side s bytes server = refl

pub side-nobody : (side : ℕ) (bytes : List ℕ) → eqb side 1 ≡ false → eqb side 2 ≡ false → side_reading side bytes ≡ Err ValueNotAllowed
unfolding side_reading
side-nobody side bytes o p = rw (o, p)

module _ (side : ℕ) (bytes lent : List ℕ) (are : IsBytes bytes) where
  by_side : (s : Side) → SideOf side s → ReadRight side bytes lent (answered (read_code (located (reading s bytes)) (length lent))) (fields_after (located (reading s bytes)) lent)
  by_side s is = by (reading s bytes) refl (ltb (length lent) 10) refl
    where
      by : (a : Answer) → reading s bytes ≡ a → (t : Bool) → ltb (length lent) 10 ≡ t → ReadRight side bytes lent (answered (read_code (located a) (length lent))) (fields_after (located a) lent)
      by (Answer.refused r) e t q = rw (refused r) (ReadRight.unread r (record { side = s; is = is; read = e }))
      by (Answer.accepted m n) e true short = rw (short, refused NoRoom) (ReadRight.no_room m n (record { side = s; is = is; read = e }) (ltb-true (length lent) 10 short))
      by (Answer.accepted m n) e false room =
          rw (room, read_count s bytes are m n e)
          (ReadRight.accepted m n _ (record { side = s; is = is; read = e }) (ltb-false (length lent) 10 room)
          (tells s bytes are m n e (drop 10 lent)) (ten m.instruction (places_of 8 (n - 8) m.body) (drop 10 lent)).1)

  read : ReadRight side bytes lent (answered (read_code (side_reading side bytes) (length lent))) (fields_after (side_reading side bytes) lent)
  read = by (sides side)
    where
      by : Sides side → ReadRight side bytes lent (answered (read_code (side_reading side bytes) (length lent))) (fields_after (side_reading side bytes) lent)
      by (Sides.one s is) = rw (side-read side s bytes is) (by_side s is)
      by (Sides.neither o p none) = rw (side-nobody side bytes o p, refused ValueNotAllowed) (ReadRight.nobody none)

option-there : (bytes lent : List ℕ) (o : Option OptionPlace) → ((id : ℕ) (v : Place) → o ≡ option_there id v → Inside bytes v.start v.len)
    → OptionRight bytes lent (option_in bytes o) (answered (option_code o (length lent))) (option_fields_after o lent)
option-there bytes lent None h = rw (counted 0 (omega arith)) OptionRight.missing
option-there bytes lent (Some m) h = by (ltb (length lent) 3) refl
  where
    by : (t : Bool) → ltb (length lent) 3 ≡ t → OptionRight bytes lent (some (record { id = m.id; value = part_of bytes m.value })) (answered (if t (refusal_code NoRoom) 1))
        (if t lent (m.id ∷ m.value.start ∷ m.value.len ∷ drop 3 lent))
    by true short = rw (refused NoRoom) (OptionRight.no_room _ (ltb-true (length lent) 3 short))
    by false room = rw (counted 1 (omega arith)) (OptionRight.found _ _ (ltb-false (length lent) 3 room) refl (h m.id m.value refl) refl)

-- a place behind the bytes has no option, and any other one lies in them
option_in_lem : (bytes : List ℕ) → IsBytes bytes → (start len k id : ℕ) (v : Place) → option_at k start (slice bytes start len) ≡ option_there id v → Inside bytes v.start v.len
option_in_lem bytes are start len k id v e =
    grind (
      arith,
      nat_tests,
      option_past k bytes start len,
      option_inside k start (slice bytes start len) (bytes-part bytes start len are) id v e,
      length-take len (drop start bytes),
      length-drop start bytes,
    )

option : (bytes : List ℕ) → IsBytes bytes → (start length' k : ℕ) (lent : List ℕ) → OptionCalled bytes start length' k lent (option_in bytes (option_at k start (slice bytes start length')))
option bytes are start length' k lent = option-there bytes lent (option_at k start (slice bytes start length')) (option_in_lem bytes are start length' k)

options : (side : ℕ) (bytes f : List ℕ) → IsBytes bytes → 10 ≤ length f
    → (i n : ℕ) (ps : List Pair) → ReadsAs side bytes (Answer.accepted (message i (Body.options ps)) n)
    → (fields_after (side_reading side bytes) f at COUNT ≡ length ps)
    × ((k : ℕ) (lent : List ℕ)
    → OptionCalled bytes (fields_after (side_reading side bytes) f at START_1) (fields_after (side_reading side bytes) f at LENGTH_1) k lent (get_elem? ps k))
options side bytes f are room i n ps r =
    rw (side-read side r.side bytes r.is, r.read, le-ltb (length f) 10 room)
    (refl, λ k lent. subst (OptionCalled bytes 8 (n - 8) k lent) (option_exact r.side bytes are i n ps r.read k) (option bytes are 8 (n - 8) k lent))

pub write : (instruction : ℕ) (shape : Shape) (ok : Bool) (n room : ℕ)
    → answered (counted_code (judgement instruction shape ok n room)) ≡ written_as (judgement instruction shape ok n room)
unfolding judgement
write instruction shape ok n room = grind (arith, nat_tests)

pub sedna-calls : SednaCalls
sedna-calls = record {
  one_message = one_message;
  read = read;
  option = option;
  options = options;
  write = write;
  lists = λ instruction ids lengths values out e.
      let x = lists_unwritten (length out) instruction ids lengths values e in (
        x.0,
        (lists_refused (length out) instruction ids lengths values e x.0).0 x.1,
        ap (λ (w : Result ℕ Refusal). answered (counted_code w)) x.1 ∙ refused x.0,
        refused-leaves _ x.0 out 0 _ x.1,
      );
}
