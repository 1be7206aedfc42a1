-- A call of reading tells what was read where it fits; one argument for strings, requests and responses.
use mathlib.Core.Path.{◌≡◌, refl, sym, ap, ap₂, ◌∙◌}
use mathlib.Core.List.{List, ◌++◌, append_assoc, flatten}
use Prim.Native.Nat.{ℕ, ◌+◌, ◌-◌, ◌≤◌}
use native.Mathlib.Omega.{arith}
use lib.Dec.{ltb}
use lib.ListN.{length, take, drop, length-append, length-drop}
use lib.Seq.{length-take-le, take-append_seam, drop_at, drop-append_seam}
use borrow.Author.Tests.{ltb-true, ltb-false, le-ltb, lt-ltb}
use Rattle.wire.specs.Bytes.{if, splice}
use Rattle.wire.specs.Call.{put_at}
use Rattle.wire.specs.Fields.{Got}
use Rattle.wire.specs.declared.Refusal.{Refusal}
use Rattle.wire.specs.declared.Refusal.TheVariants.{NoRoom}
use Rattle.wire.proofs.Splices.{put_at-fits}
use Rattle.basex.specs.Texts.{length_at}
use Rattle.basex_request.specs.Calls.{padded, cut}
use Rattle.basex_request.proofs.Parts.{cut-flatten}
use Rattle.basex_laws.specs.Exactly.{Reads, TooLong, Unread, Cut}
use Rattle.basex_laws.proofs.Chosen.{chosen}

-- what stands behind bytes that were read starts there
pub behind-there : (s bytes rest : List ℕ) → s ≡ bytes ++ rest → drop (length s - length rest) s ≡ rest
behind-there s bytes rest e =
    let l = ap length e ∙ length-append bytes rest in
    let n : length s - length rest ≡ length bytes = omega arith in
    ap₂ (λ (m : ℕ) (b : List ℕ). drop m b) n e ∙ drop-append_seam bytes rest

module _ {A B : Type 0} (refuse : Refusal → B) (tell : A → ℕ → B) (need : A → ℕ) (room : ℕ) (s : List ℕ) where
  -- what is read of s is refused or told; "with 10 last"
  abbrev pub answer : Got A → B
  answer (Got.refused r) = refuse r
  answer (Got.got a rest) = if (ltb room (need a)) (refuse NoRoom) (tell a (length s - length rest))

  -- what holds of the refusals that are due, and of what was read where it fits, holds of the answer
  pub tells : (D : B → Type 0) (x : Got A) → ((a : A) (rest : List ℕ) → x ≡ Got.got a rest → drop (length s - length rest) s ≡ rest)
      → ((r : Refusal) → Unread x need room r → D (refuse r)) → ((a : A) (n : ℕ) → Reads x s n a → need a ≤ room → D (tell a n)) → D (answer x)
  tells D x ends f g = by x refl
    where
      by : (y : Got A) → x ≡ y → D (answer y)
      by (Got.refused r) p = f r (Unread.refused r p)
      by (Got.got a rest) p =
          chosen D (ltb room (need a)) (λ t. f NoRoom (Unread.no_room (record { value = a; rest = rest; read = p; long = ltb-true room (need a) t })))
          (λ t. g a (length s - length rest) (record { read = p ∙ ap (Got.got a) (sym (ends a rest p)); place = omega arith }) (ltb-false room (need a) t))

  pub unread_back : (x : Got A) (r : Refusal) → Unread x need room r → answer x ≡ refuse r
  unread_back x r (Unread.refused q e) = rw e refl
  unread_back x r (Unread.no_room t) = rw t.read (rw (lt-ltb room (need t.value) t.long) refl)

  pub reads_back : (x : Got A) (n : ℕ) (a : A) → Reads x s n a → need a ≤ room → answer x ≡ tell a n
  reads_back x n a r h =
      let p = r.place in
      let l = length-drop n s in
      let k : length s - length (drop n s) ≡ n = omega arith in
      rw r.read (rw (le-ltb room (need a) h) (ap (tell a) k))

-- a reading that never refuses with 10 is refused with it exactly where what it gives is too long
pub ten : {A : Type 0} (x : Got A) (need : A → ℕ) (room : ℕ) → (x ≡ Got.refused NoRoom → ⊥) → (r : Refusal) → r ≡ NoRoom → Unread x need room r → TooLong x need room
ten x need room never r e (Unread.refused q p) = absurd (never (p ∙ ap Got.refused e))
ten x need room never r e (Unread.no_room t) = t

-- a text that was put from `to` on is there
pub text-there : (out : List ℕ) (to : ℕ) (t : List ℕ) → to + length t ≤ length out → take (length t) (drop to (put_at out to t)) ≡ t
unfolding splice
text-there out to t h =
    let l = length-take-le to out (omega arith) in
    let p = put_at-fits out to t h ∙ append_assoc (take to out) t (drop (to + length t) out) in
    rw (ap (drop to) p ∙ drop_at (take to out) (t ++ drop (to + length t) out) to l) (take-append_seam t (drop (to + length t) out))

-- four texts put one behind the other are there, told by their lengths
pub cut-there : (ts : List (List ℕ)) (flat out : List ℕ) → flat ≡ flatten ts → length flat ≤ length out
    → Cut (padded ts) (put_at out 0 flat) (length_at ts 0) (length_at ts 1) (length_at ts 2) (length_at ts 3)
unfolding splice
cut-there ts flat out e h =
    let z : 0 + length flat ≤ length out = omega arith in
    let p : put_at out 0 flat ≡ flatten ts ++ drop (0 + length flat) out = put_at-fits out 0 flat z ∙ ap (λ (m : List ℕ). m ++ drop (0 + length flat) out) e in
    record { lengths = refl; there = ap (λ (o : List ℕ). cut o (length_at ts 0) (length_at ts 1) (length_at ts 2) (length_at ts 3)) p ∙ cut-flatten ts (drop (0 + length flat) out) }
