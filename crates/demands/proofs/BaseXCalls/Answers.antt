-- What the header makes of an answer, and how a call of reading tells or refuses.
use mathlib.Core.Bool.{Bool, true, false}
use mathlib.Core.List.{List, ◌++◌}
use mathlib.Core.Path.{◌≡◌, refl, ap}
use Prim.Native.Nat.{ℕ, ◌-◌, ◌≤◌, ◌<◌}
use native.Mathlib.Omega.{arith}
use lib.Dec.{ltb}
use lib.ListN.{length, drop, length-append, length-drop}
use lib.Seq.{drop-append_seam}
use borrow.Author.Tests.{ltb-true, ltb-false}
use Rattle.std.proofs.lemmas.Bool.Decides.{nat_tests}
use Rattle.wire.specs.Bytes.{splice}
use Rattle.wire.specs.Fields.{Got}
use Rattle.wire.specs.declared.Refusal.{Refusal}
use Rattle.wire.specs.declared.Refusal.TheVariants.{NoRoom}
use Rattle.basex_laws.specs.Exactly as exact
use Rattle.basex_c.specs.Codes.{Outcome, lent}
use Rattle.demands.specs.Answered.{Answered, answered}
use Rattle.demands.specs.BaseXCalls.{Lendable, Called, telling, refused_with, ComesOutRight, Unread, Fields}
use Rattle.demands.proofs.Answered.{refused}

-- bytes that stand at `at` are counted by where what follows them starts
module _ (s : List ℕ) (short : Lendable s) (bytes : List ℕ) (n : ℕ) (place : n ≤ length s) where
  pub counts : (at : ℕ) → drop at s ≡ bytes ++ drop n s → answered (n - at) ≡ Answered.count (length bytes)
  counts at e = grind (arith, nat_tests, ap length e, length-append bytes (drop n s), length-drop at s, length-drop n s)

  pub counts_front : s ≡ bytes ++ drop n s → answered n ≡ Answered.count (length bytes)
  counts_front e = grind (arith, nat_tests, ap length e, length-append bytes (drop n s), length-drop n s)

module _ (out : List ℕ) (to : ℕ) (bytes told : List ℕ) where
  -- a refusal leaves everything
  pub refused_as : (r : Refusal) → telling out to bytes told (Outcome.refused r) ≡ refused_with r out told
  refused_as r = ap (λ (a : Answered). record { answer = a; out = out; told = told }) (refused r)

  module _ {Due : Refusal → Type 0} {Accepted : Called → Type 0} where
    pub refuses : (r : Refusal) → Due r → ComesOutRight Due Accepted out told (telling out to bytes told (Outcome.refused r))
    refuses r d = ComesOutRight.refused r d (refused_as r)

    -- a count with numbers to tell: "with 10 last"
    pub tells : (n : ℕ) (ns : List ℕ) → (length told < length ns → Due NoRoom)
        → (length ns ≤ length told → Accepted (record { answer = answered n; out = splice out to bytes; told = ns ++ drop (length ns) told }))
        → ComesOutRight Due Accepted out told (telling out to bytes told (lent (length told) (Outcome.counted n ns)))
    tells n ns short full = by (ltb (length told) (length ns)) refl
      where
        by : (b : Bool) → ltb (length told) (length ns) ≡ b → ComesOutRight Due Accepted out told (telling out to bytes told (lent (length told) (Outcome.counted n ns)))
        by true e = rw e (refuses NoRoom (short (ltb-true (length told) (length ns) e)))
        by false e = rw e (ComesOutRight.accepted (full (ltb-false (length told) (length ns) e)))

-- numbers told in front of those lent
pub in_front : (ns told : List ℕ) → length ns ≤ length told → Fields (length ns) told (ns ++ drop (length ns) told)
in_front ns told h =
    let l = length-append ns (drop (length ns) told) in
    let d = length-drop (length ns) told in
    record { enough = h; long = omega arith; behind = drop-append_seam ns (drop (length ns) told) }

-- what the library's readers are due is due to the calls
pub due : {A : Type 0} {x : Got A} {need : A → ℕ} {room : ℕ} {r : Refusal} {No : A → Type 0} → ((a : A) → room < need a → No a) → exact.Unread x need room r → Unread x No r
due f (exact.Unread.refused r e) = Unread.unread r e
due f (exact.Unread.no_room t) = Unread.no_room t.value t.rest t.read (f t.value t.long)
