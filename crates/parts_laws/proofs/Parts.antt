-- What writing a part of a cut answers, and that what was written is read again as that part.
use Rattle.std.specs.Prelude.{Ok, Err}
use mathlib.Core.Bool.{Bool, true, false}
use mathlib.Core.List.{List, [], ◌∷◌}
use mathlib.Core.Option.{none, some}
use mathlib.Core.Path.{◌≡◌, refl, sym, ap, subst, ◌∙◌}
use Prim.Native.Nat.{ℕ, zero, suc, ◌≤◌}
use native.Mathlib.Omega.{arith}
use lib.Dec.{ltb}
use lib.ListN.{length, get_elem?}
use borrow.Author.Tests.{ltb-true, ltb-false}
use Rattle.wire.specs.Bytes.{if, splice}
use Rattle.wire.specs.Call.{output_after}
use Rattle.wire.specs.Every.{Every}
use Rattle.wire.specs.declared.Refusal.TheVariants.{NoSuchPart, NoRoom}
use Rattle.sedna.specs.declared.Side.{Side}
use Rattle.sedna.specs.Encode.{encode}
use Rattle.sedna.specs.Message.{Message}
use Rattle.sedna.specs.Published.{Published}
use Rattle.sedna_read.specs.Meaning.{meaning}
use Rattle.sedna_read.specs.Places.{located}
use Rattle.sedna_read.specs.Reading.{Answer, reading}
use Rattle.sedna_write.specs.Writing.{written}
use Rattle.sedna_laws.specs.Unwritten.{Unwritten}
use Rattle.wire.proofs.Branches.{apart}
use Rattle.sedna_laws.proofs.Meaning.{accepted-means}
use Rattle.sedna_laws.proofs.Unwritten.{unwritten_exact}
use Rattle.sedna_laws.proofs.Written.{written_forth, front-written, read_written}
use Rattle.parts_cut.specs.Part.{written_of, part_written}

-- beyond the last there is none
none-there : {A : Type 0} (l : List A) (k : ℕ) → length l ≤ k → get_elem? l k ≡ none
none-there [] zero h = refl
none-there [] (suc k) h = refl
none-there (x ∷ l) zero h = absurd (omega arith)
none-there (x ∷ l) (suc k) h = none-there l k (omega arith)

-- what holds of every one holds of number k
pub at : {A : Type 0} (P : A → Type 0) (l : List A) (k : ℕ) (x : A) → Every P l → get_elem? l k ≡ some x → P x
at P [] zero x h e = apart (cc)
at P [] (suc k) x h e = apart (cc)
at P (y ∷ l) zero x h e = let z : y ≡ x = cc in subst P z h.0
at P (y ∷ l) (suc k) x h e = at P l k x h.1 e

-- "beyond the last: 14"
pub part-beyond : (cut : List Message) (k room : ℕ) → length cut ≤ k → part_written true true cut k room ≡ Err NoSuchPart
part-beyond cut k room h = ap (written_of room) (none-there cut k h)

-- a published message is written, or there is no room
pub published-written : (side : Side) (m : Message) (room : ℕ) → Published side m → written room m ≡ if (ltb room (length (encode m))) (Err NoRoom) (Ok (length (encode m)))
published-written side m room p = by (ltb room (length (encode m))) refl
  where
    by : (t : Bool) → ltb room (length (encode m)) ≡ t → written room m ≡ if t (Err NoRoom) (Ok (length (encode m)))
    by true e = (unwritten_exact room m NoRoom).1 (Unwritten.no_room side p.listed p.values p.short (ltb-true room (length (encode m)) e))
    by false e = written_forth room m (length (encode m)) (record { side = side; published = p; count = refl; fits = ltb-false room (length (encode m)) e })

-- ".., 14, 10": any other part is written, or there is no room
pub part-there : (side : Side) (cut : List Message) → Every (Published side) cut → (k room : ℕ) (m : Message) → get_elem? cut k ≡ some m
    → part_written true true cut k room ≡ if (ltb room (length (encode m))) (Err NoRoom) (Ok (length (encode m)))
part-there side cut h k room m e = ap (written_of room) e ∙ published-written side m room (at (Published side) cut k m h e)

-- a part that was written is read again, by its places too, as the message that it is
pub part_read : (side : Side) (cut : List Message) → Every (Published side) cut → (k : ℕ) (m : Message) → get_elem? cut k ≡ some m
    → (out : List ℕ) (n : ℕ) → part_written true true cut k (length out) ≡ Ok n
    → meaning (output_after (Ok n) out 0 (encode m)) (located (reading side (output_after (Ok n) out 0 (encode m)))) ≡ Answer.accepted m n
part_read side cut h k m e out n w =
    let p : Published side m = at (Published side) cut k m h e in
    let wrote : written (length out) m ≡ Ok n = sym (ap (written_of (length out)) e) ∙ w in
    let s : List ℕ = splice out 0 (encode m) in
    ap (λ (a : Answer). meaning s (located a)) (read_written side out m n p wrote) ∙ accepted-means side s m n p (front-written side out m n p wrote)
