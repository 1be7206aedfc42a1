-- What writing a part of a cut answers and leaves is what is due.
use Rattle.std.specs.Prelude.{Result, Ok, Err}
use Rattle.wire.specs.declared.Refusal.{Refusal}
use mathlib.Core.Bool.{Bool, true, false}
use mathlib.Core.List.{List, [], ◌∷◌}
use mathlib.Core.Option.{Option, none, some}
use mathlib.Core.Path.{◌≡◌, refl, sym, ap, subst, ◌∙◌}
use Prim.Native.Nat.{ℕ, zero, suc, ◌≤◌}
use native.Mathlib.Omega.{arith}
use lib.Dec.{ltb}
use lib.ListN.{length, get_elem?}
use borrow.Author.Tests.{ltb-true, ltb-false, leb-true, le-leb}
use Rattle.wire.specs.Bytes.{if}
use Rattle.wire.specs.Every.{Every}
use Rattle.wire.specs.Call.{output_after}
use Rattle.wire.specs.declared.Refusal.TheVariants.{ValueNotAllowed, NoEncoding, NoSuchPart, NoRoom}
use Rattle.sedna.specs.Encode.{encode}
use Rattle.sedna.specs.Message.{Url, Message}
use Rattle.sedna.specs.Published.{Published}
use Rattle.sedna_write.specs.Writing.{written}
use Rattle.sedna_laws.proofs.Written.{splice_front}
use Rattle.wire.proofs.Branches.{apart}
use Rattle.parts_cut.specs.Part.{written_of, part_bytes}
use Rattle.parts_laws.specs.PartDue.{PartRight}
use Rattle.parts_laws.specs.ThroughBytes.{Uncut, sender, cut, permitted, encodable, Allowed, Fits, Slices, part, part_output}
use Rattle.parts_laws.proofs.Cuts.{statement-cut-published, item-cut-published, typed_item-cut-published}
use Rattle.parts_laws.proofs.Parts.{at, published-written}

-- the tests of the whole say what is allowed and what fits
allowed-is : (u : Uncut) → permitted u ≡ true → Allowed u
allowed-is (Uncut.statement format t) e = e
allowed-is (Uncut.item t e) p = tt
allowed-is (Uncut.typed_item class kind url t e) p = p

allowed_not : (u : Uncut) → permitted u ≡ false → ¬ Allowed u
allowed_not (Uncut.statement format t) e a = apart (cc)
allowed_not (Uncut.item t e) p a = apart (cc)
allowed_not (Uncut.typed_item class kind url t e) p a = apart (cc)

fits-is : (u : Uncut) → encodable u ≡ true → Fits u
fits-is (Uncut.statement format t) e = tt
fits-is (Uncut.item t e) p = tt
fits-is (Uncut.typed_item class kind Url.absent t e) p = tt
fits-is (Uncut.typed_item class kind (Url.present url) t e) p = leb-true (length url) 10227 p

fits_not : (u : Uncut) → encodable u ≡ false → ¬ Fits u
fits_not (Uncut.statement format t) e f = apart (cc)
fits_not (Uncut.item t e) p f = apart (cc)
fits_not (Uncut.typed_item class kind Url.absent t e) p f = apart (cc)
fits_not (Uncut.typed_item class kind (Url.present url) t e) p f = let q = le-leb (length url) 10227 f in apart (cc)

published : (u : Uncut) → Allowed u → Slices u → Fits u → Every (Published (sender u)) (cut u)
published (Uncut.statement format t) a s f = statement-cut-published format a t s
published (Uncut.item t e) a s f = item-cut-published t s
published (Uncut.typed_item class kind url t e) a s f = typed_item-cut-published class kind url t a s f

-- where there is no number k the list is at its end
ended : {A : Type 0} (l : List A) (k : ℕ) → get_elem? l k ≡ none → length l ≤ k
ended [] k e = omega arith
ended (x ∷ l) zero e = apart (cc)
ended (x ∷ l) (suc k) e = let h = ended l k e in omega (arith, h)

module _ (u : Uncut) (s : Slices u) (k : ℕ) (out : List ℕ) where
  abbrev answer : Bool → Bool → Option Message → Result ℕ Refusal
  answer a b o = if a (if b (written_of (length out) o) (Err NoEncoding)) (Err ValueNotAllowed)

  abbrev Due : Result ℕ Refusal → Option Message → Type 0
  Due w o = PartRight u k out w (output_after w out 0 (part_bytes o))

  there : (m : Message) → Allowed u → Fits u → get_elem? (cut u) k ≡ some m → Due (written (length out) m) (some m)
  there m a f e = by (ltb (length out) (length (encode m))) refl
    where
      is : written (length out) m ≡ if (ltb (length out) (length (encode m))) (Err NoRoom) (Ok (length (encode m)))
      is = published-written (sender u) m (length out) (at (Published (sender u)) (cut u) k m (published u a s f) e)

      by : (t : Bool) → ltb (length out) (length (encode m)) ≡ t → Due (written (length out) m) (some m)
      by true t =
          let w : written (length out) m ≡ Err NoRoom = is ∙ ap (λ (b : Bool). if b (Err NoRoom) (Ok (length (encode m)))) t in
          subst (λ (w : Result ℕ Refusal). Due w (some m)) (sym w) (PartRight.no_room NoRoom m refl a f e (ltb-true (length out) (length (encode m)) t))
      by false t =
          let w : written (length out) m ≡ Ok (length (encode m)) = is ∙ ap (λ (b : Bool). if b (Err NoRoom) (Ok (length (encode m)))) t in
          subst (λ (w : Result ℕ Refusal). Due w (some m)) (sym w)
          (rw (splice_front out (encode m) (length (encode m)) refl) (PartRight.put m a f e (ltb-false (length out) (length (encode m)) t)))

  by_tests : (a b : Bool) (o : Option Message) → permitted u ≡ a → encodable u ≡ b → get_elem? (cut u) k ≡ o → Due (answer a b o) o
  by_tests false b o p q e = PartRight.value ValueNotAllowed refl (allowed_not u p)
  by_tests true false o p q e = PartRight.url NoEncoding refl (allowed-is u p) (fits_not u q)
  by_tests true true none p q e = PartRight.beyond NoSuchPart refl (allowed-is u p) (fits-is u q) (ended (cut u) k e)
  by_tests true true (some m) p q e = there m (allowed-is u p) (fits-is u q) e

  pub part_due : PartRight u k out ((part u k).answer (length out)) (part_output u k out)
  part_due = by_tests (permitted u) (encodable u) (get_elem? (cut u) k) refl refl refl
