-- Demand 3 holds of the exported calls: the record in the caller's bytes follows the messages accepted.
use mathlib.Core.Bool.{Bool, true, false}
use mathlib.Core.List.{List, [], ◌∷◌, ◌++◌}
use mathlib.Core.Path.{◌≡◌, refl, sym, ap, subst}
use Prim.Native.Nat.{ℕ, ◌-◌, ◌≤◌}
use native.Mathlib.Omega.{arith}
use lib.Dec.{eqb, ltb}
use lib.ListN.{length, drop}
use borrow.Author.Tests.{lt-ltb, le-ltb, ltb-true, ltb-false}
use Rattle.std.specs.Prelude.{Option, Some, None, Err}
use Rattle.std.proofs.lemmas.Bool.Decides.{nat_tests}
use Rattle.wire.specs.declared.Refusal.TheVariants.{ValueNotAllowed, OutOfOrder, NoRoom}
use Rattle.wire.specs.declared.Refusal.{Refusal}
use Rattle.wire.specs.Refusals.{number_of}
use Rattle.sedna.specs.declared.Side.{Side}
use Rattle.sedna.specs.declared.Side.TheVariants.{Client, Server}
use Rattle.sedna.specs.Message.{Message}
use Rattle.sedna_read.specs.Places.{places_of}
use Rattle.sedna_read.specs.Reading.{Answer, reading}
use Rattle.wire.specs.Calls.{Done}
use Rattle.wire.proofs.Calls.{all_right, holds_after}
use Rattle.wire.proofs.Calls as calls-of
use Rattle.sedna_laws.proofs.Exact.{exact}
use Rattle.session.specs.declared.Session.{Session}
use Rattle.session.specs.declared.Stepped.{Stepped}
use Rattle.session.specs.Step.{fresh_session, Outcome, outcome, by_places, stepped, turn_of, side_of}
use Rattle.session_laws.proofs.Follows.{Follows, fresh_follows, begins, whole-closed, Settled, settles, moved, nine}
use Rattle.session_laws.proofs.Published.{published-sent}
use Rattle.session_laws.proofs.Turn.{turn_exact}
use Rattle.sedna_c.specs.Codes.{read_code, fields_after}
use Rattle.sedna_c.specs.Sessions.{record_in, record_put, side_stepped, kept, turn_number}
use Rattle.demands.specs.Answered.{Answered, answered, Call, Told}
use Rattle.demands.specs.Exports.{called, Why, RightCall, accepting, Closes, Turns, After, Demand3Exports}
use Rattle.demands.specs.Header.{SideOf, client, server, TurnOf}
use Rattle.demands.proofs.Answered as answers
use Rattle.demands.proofs.SednaCalls.{is-offered, Sides, sides}
use Rattle.demands.proofs.Tells.{read_count, tells, ten}

-- what a call makes of a step
abbrev called_as : List ℕ → Call → Stepped → Done (List ℕ) Told
called_as d c x = record {
  record_after = kept x.answer x.session (length c.numbers) d;
  answer = record { answer = answered (read_code x.answer (length c.numbers)); numbers = fields_after x.answer c.numbers };
}

-- what a side's step is
side-stepped : (s : Session) (side : ℕ) (of : Side) (bytes : List ℕ) → SideOf side of → side_stepped s side bytes ≡ stepped s of bytes
unfolding side_stepped
side-stepped s side of bytes is = grind arith

side-nobody : (s : Session) (side : ℕ) (bytes : List ℕ) → eqb side 1 ≡ false → eqb side 2 ≡ false
    → side_stepped s side bytes ≡ record { session = s; answer = Err ValueNotAllowed }
unfolding side_stepped
side-nobody s side bytes o p = rw (o, p)

-- the session's bytes follow the accepted messages
record Kept (before : List Message) (d : List ℕ) : Type 0 where
  pub two : 2 ≤ length d
  pub follows : Follows before (record_in d)

-- a call came out right, and the bytes follow
abbrev Goes : List Message → List ℕ → Call → Done (List ℕ) Told → Type 0
Goes before d c x = RightCall before d c x × Kept (accepting before c x.answer) x.record_after

module _ (before : List Message) (d : List ℕ) (two : 2 ≤ length d) (c : Call) (i : Follows before (record_in d)) where
  is-called : called d c ≡ called_as d c (side_stepped (record_in d) c.side c.bytes)
  is-called = rw (le-ltb (length d) 2 two)

  refused : (r : Refusal) → Why before c (number_of r) → Goes before d c (called_as d c (record { session = record_in d; answer = Err r }))
  refused r why = rw (answers.refused r) (RightCall.refused (number_of r) why, record { two = two; follows = i })

  module _ (side : Side) (is : SideOf c.side side) where
    -- a message that is accepted, where the numbers have room for it
    takes : (m : Message) (n : ℕ) → reading side c.bytes ≡ Answer.accepted m n → {s : Session} → Follows (before ++ (m ∷ [])) s
        → Goes before d c (called_as d c (by_places (record { session = s; answer = Answer.accepted m n })))
    takes m n e {s} f = by (ltb (length c.numbers) 10) refl
      where
        by : (t : Bool) → ltb (length c.numbers) 10 ≡ t → Goes before d c (called_as d c (by_places (record { session = s; answer = Answer.accepted m n })))
        by true short = rw short (refused NoRoom (Why.no_room m n (record { side = side; is = is; read = e }) (begins f) (ltb-true (length c.numbers) 10 short)))
        by false room =
            rw (room, read_count side c.bytes c.are_bytes m n e, is-offered c.bytes is e) (
              RightCall.accepted m n (record_put s d) _ (record { side = side; is = is; read = e }) (begins f) (ltb-false (length c.numbers) 10 room)
                  (tells side c.bytes c.are_bytes m n e (drop 10 c.numbers))
                  (ten m.instruction (places_of 8 (n - 8) m.body) (drop 10 c.numbers)).1 refl,
              record { two = omega arith; follows = f },
            )

    settled_so : (m : Message) (n : ℕ) → reading side c.bytes ≡ Answer.accepted m n → {x : Outcome} → Settled before (record_in d) m n x → Goes before d c (called_as d c (by_places x))
    settled_so m n e (moved f) = takes m n e f
    settled_so m n e (nine b) = refused OutOfOrder (Why.out_of_order m n (record { side = side; is = is; read = e }) b)

    stepped_so : Goes before d c (called_as d c (stepped (record_in d) side c.bytes))
    unfolding stepped
    stepped_so = by (reading side c.bytes) refl
      where
        by : (a : Answer) → reading side c.bytes ≡ a → Goes before d c (called_as d c (by_places (outcome (record_in d) (reading side c.bytes))))
        by (Answer.refused r) e = rw e (refused r (Why.unread r (record { side = side; is = is; read = e })))
        by (Answer.accepted m n) e =
            rw e (settled_so m n e (settles i m n (published-sent ((exact side c.bytes c.are_bytes m n).0 e).0)))

  goes : Goes before d c (called d c)
  goes = subst (Goes before d c) (sym is-called) (by (sides c.side))
    where
      by : Sides c.side → Goes before d c (called_as d c (side_stepped (record_in d) c.side c.bytes))
      by (Sides.one side is) = rw (side-stepped (record_in d) c.side side c.bytes is) (stepped_so side is)
      by (Sides.neither o p none) = rw (side-nobody (record_in d) c.side c.bytes o p) (refused ValueNotAllowed (Why.nobody none))

closes : (before : List Message) (d : List ℕ) → 2 ≤ length d → Follows before (record_in d) → Closes before d
closes before d two i = record { over = grind (arith, nat_tests, whole-closed i); goes_on = grind (arith, nat_tests, whole-closed i) }

turns : (before : List Message) (d : List ℕ) → 2 ≤ length d → Follows before (record_in d) → Turns before d
turns before d two i = record { turn = side_of (turn_of (record_in d)); names = rw (le-ltb (length d) 2 two) (number (turn_of (record_in d))); has = turn_exact i }
  where
    number : (t : Option Side) → TurnOf (turn_number t) (side_of t)
    number (Some Client) = TurnOf.somebody client
    number (Some Server) = TurnOf.somebody server
    number None = TurnOf.nobody

goes_on : calls-of.Goes called accepting RightCall Kept
goes_on before d c k = goes before d k.two c k.follows

after : (d : List ℕ) → Kept [] d → (calls : List Call) → After d calls
after d k calls =
    let l = holds_after called accepting RightCall Kept goes_on [] d calls k in
    record {
      right = all_right called accepting RightCall Kept goes_on [] d calls k;
      begun = begins l.follows;
      closes = closes _ _ l.two l.follows;
      turns = turns _ _ l.two l.follows;
    }

pub demand_3_exports : Demand3Exports
demand_3_exports = record {
  after_any_calls = λ d two calls. rw (le-ltb (length d) 2 two) (after (record_put fresh_session d) (record { two = omega arith; follows = fresh_follows }) calls);
  fresh = λ d two. rw (le-ltb (length d) 2 two) (answers.counted 0 (omega arith), refl);
  no_record = λ d short c. rw (lt-ltb (length d) 2 short) (
    answers.refused NoRoom,
    refl,
    ap
        (λ (x : Answered). record { record_after = d; answer = record { answer = x; numbers = c.numbers } }) (answers.refused NoRoom),
    refl,
    refl,
  );
}
