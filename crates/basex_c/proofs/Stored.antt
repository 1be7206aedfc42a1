-- A call that is lent no output where too few numbers are lent: it stores nothing then, and answers as with all of the output.
use mathlib.Core.Bool.{Bool, true, false}
use mathlib.Core.Path.{◌≡◌, refl, sym, ap, ◌∙◌}
use mathlib.Core.List.{List, [], ◌∷◌, ◌++◌, append-nil}
use Prim.Native.Nat.{ℕ, zero, suc, ◌+◌}
use native.Mathlib.Omega.{arith}
use lib.Dec.{ltb}
use lib.ListN.{length, take, drop, take-append-drop}
use lib.Seq.{take_all, drop-length}
use borrow.Author.Tests.{ltb-true, ltb-false}
use Rattle.wire.specs.Bytes.{if, splice}
use Rattle.wire.specs.Call.{put_at, output_after}
use Rattle.wire.specs.declared.Refusal.{Refusal}
use Rattle.wire.specs.declared.Refusal.TheVariants.{NoRoom}
use Rattle.wire.proofs.Splices.{splice-none, put_at-fits, put_at_not}
use Rattle.basex_c.specs.Codes.{Outcome, lent, counted_of, code, told_in, Tells, Reads}

placed_none : (at : ℕ) (t : List ℕ) → put_at [] at t ≡ []
placed_none zero [] = put_at-fits [] 0 [] (omega arith) ∙ splice-none [] 0
placed_none (suc n) [] = put_at_not [] (suc n) [] (omega arith)
placed_none at (x ∷ t) = put_at_not [] at (x ∷ t) (omega arith)

-- what a call is answered by the room of its output, which is judged last, and what it leaves there: t from `at` on; k numbers are told
pub data Judged {A : Type 0} (k : ℕ) (tell : A → Outcome) (ask : ℕ → A) (s : List ℕ → List ℕ) (at : ℕ) (t : List ℕ) : Type 0 where
  never : {r : Refusal} → ((room : ℕ) → tell (ask room) ≡ Outcome.refused r) → ((d : List ℕ) → s d ≡ d) → Judged k tell ask s at t
  fits : (none some : A) (size : ℕ) {n : ℕ} {told : List ℕ} → tell none ≡ Outcome.refused NoRoom → tell some ≡ Outcome.counted n told → length told ≡ k
      → size ≡ at + length t → ((room : ℕ) → ask room ≡ if (ltb room size) none some) → ((d : List ℕ) → s d ≡ put_at d at t) → Judged k tell ask s at t

-- so many numbers are lent, and of the output d the part before `room`, which the call makes `part` of
module _ {A : Type 0} (numbers room : ℕ) (d part : List ℕ) (tell : A → Outcome) (ask : ℕ → A) (s : List ℕ → List ℕ) (p : part ≡ s (take room d)) (at : ℕ) (t : List ℕ) where
  -- the output after a call with that outcome
  abbrev left : Outcome → List ℕ
  left o = output_after (counted_of o) d at t

  module _ (none some : A) (n : ℕ) (told : List ℕ) (refused : tell none ≡ Outcome.refused NoRoom) (counted : tell some ≡ Outcome.counted n told) where
    too_few : ltb numbers (length told) ≡ true → (b : Bool) → lent numbers (tell (if b none some)) ≡ Outcome.refused NoRoom
    too_few e true = rw refused
    too_few e false = rw (counted, e)

    enough : ltb numbers (length told) ≡ false → (b : Bool) → (b ≡ true → s d ≡ d) → (b ≡ false → s d ≡ splice d at t) → left (lent numbers (tell (if b none some))) ≡ s d
    enough e true h g = rw refused (sym (h refl))
    enough e false h g = rw (counted, e) (sym (g refl))

  stored : {k : ℕ} → Judged k tell ask s at t → (few : Bool) → ltb numbers k ≡ few → room ≡ if few 0 (length d)
      → (lent numbers (tell (ask (length (take room d)))) ≡ lent numbers (tell (ask (length d)))) × (part ++ drop room d ≡ left (lent numbers (tell (ask (length d)))))
  stored (Judged.never e same) few w q = (
    ap (lent numbers) (e _ ∙ sym (e _)),
    ap (λ (x : List ℕ). x ++ drop room d) (p ∙ same (take room d)) ∙ take-append-drop room d
        ∙ sym (ap (λ (o : Outcome). left (lent numbers o)) (e (length d))),
  )
  stored (Judged.fits none some size {n} {told} f g l z e same) true w q =
      let always : (a : ℕ) → lent numbers (tell (ask a)) ≡ Outcome.refused NoRoom = λ a. ap (λ (x : A). lent numbers (tell x)) (e a) ∙ too_few none some n told f g (rw l w) (ltb a size) in
      let empty : part ≡ [] = p ∙ ap (λ (m : ℕ). s (take m d)) q ∙ same [] ∙ placed_none at t in
      (always _ ∙ sym (always _), ap (λ (x : List ℕ). x ++ drop room d) empty ∙ ap (λ (m : ℕ). drop m d) q ∙ sym (ap left (always (length d))))
  stored (Judged.fits none some size {n} {told} f g l z e same) false w q =
      let all : take room d ≡ d = ap (λ (m : ℕ). take m d) q ∙ take_all (length d) d (omega arith) in
      let rest : drop room d ≡ [] = ap (λ (m : ℕ). drop m d) q ∙ drop-length d in
      let full : ltb (length d) size ≡ true → s d ≡ d = λ v. same d ∙ put_at_not d at t (omega (arith, ltb-true (length d) size v)) in
      let there : ltb (length d) size ≡ false → s d ≡ splice d at t = λ v. same d ∙ put_at-fits d at t (omega (arith, ltb-false (length d) size v)) in (
        ap (λ (x : List ℕ). lent numbers (tell (ask (length x)))) all,
        ap (λ (x : List ℕ). x ++ drop room d) (p ∙ ap s all) ∙ ap (λ (x : List ℕ). s d ++ x) rest ∙ append-nil (s d)
            ∙ sym (ap (λ (x : A). left (lent numbers (tell x))) (e (length d)) ∙ enough none some n told f g (rw l w) (ltb (length d) size) full there),
      )

-- what the exports promise, from what the functions that they call do
pub exported : {A : Type 0} {k room r at : ℕ} {part after bytes : List ℕ} {answer : A} {tell : A → Outcome} {ask : ℕ → A} {s : List ℕ → List ℕ} (d t : List ℕ) → Judged k tell ask s at bytes
    → room ≡ if (ltb (length t) k) 0 (length d) → answer ≡ ask (length (take room d)) → part ≡ s (take room d)
    → Tells (lent (length t) (tell answer)) t r after → Reads (lent (length t) (tell (ask (length d)))) d at bytes t r (part ++ drop room d) after
exported {k = k} {room = room} {at = at} {part = part} {bytes = bytes} {tell = tell} {ask = ask} {s = s} d t j q a p h =
    let z = stored (length t) room d part tell ask s p at bytes j (ltb (length t) k) refl q in
    let o = ap (λ x. lent (length t) (tell x)) a ∙ z.0 in
    record { answers = h.answers ∙ ap code o; stores = z.1; tells = h.leaves ∙ ap (told_in t) o }
