-- A body is refused with 5 exactly where it ends inside a field.
use mathlib.Core.Bool.{Bool, true, false}
use mathlib.Core.List.{List, [], ◌∷◌, ◌++◌, append_assoc, append-nil}
use mathlib.Core.Logic.{◌↔◌, ◌⊎◌, inl, inr}
use mathlib.Core.Path.{◌≡◌, refl, sym, ap, subst, ◌∙◌}
use Prim.Native.Nat.{ℕ}
use native.Mathlib.Omega.{arith}
use lib.Dec.{eqb}
use lib.ListN.{length, length-append}
use borrow.Author.Tests.{eqb-true, eqb-false}
use Rattle.wire.specs.Bytes.{IsBytes}
use Rattle.wire.specs.Fields.{Got, go_on, ◌>>◌, give}
use Rattle.wire.specs.declared.Refusal.{Refusal}
use Rattle.wire.specs.declared.Refusal.TheVariants.{FieldCut, StringFormat, BytesLeftOver, ValueNotAllowed}
use Rattle.sedna.specs.declared.Shape.{Shape}
use Rattle.sedna.specs.declared.Shape.TheVariants as shapes
use Rattle.sedna.specs.Encode.{body_bytes}
use Rattle.sedna.specs.Kinds.{same_shape}
use Rattle.sedna.specs.Message.{Body}
use Rattle.sedna_read.specs.Fields.{nothing_left}
use Rattle.sedna_read.specs.Reading.{session_fields, fields_of, body_field}
use Rattle.sedna_laws.specs.Due.{IsBody, CutShort, LeftOver}
use Rattle.sedna_laws.proofs.Bodies.{fields_back, body_forth, body_back}
use Rattle.wire.proofs.Branches.{apart}
use Rattle.sedna_laws.proofs.Completes.{bytes-both, fields_complete}
use Rattle.sedna_laws.proofs.LeftOver.{left-over_exact}
use Rattle.sedna_laws.proofs.Persist.{fields_persist}
use Rattle.sedna_laws.proofs.Refusals.{GotIn, body_refuses}
use Rattle.sedna_laws.proofs.Written.{same_shape_lem}

-- whole bytes of a body are read as one
body-read : (shape : Shape) (s : List ℕ) → IsBytes s → IsBody shape s → (b : Body) × (body_field shape s ≡ Got.got b [])
body-read shape s h v =
    (v.body, ap (body_field shape) v.bytes ∙ ap (λ (o : Shape). body_field o (body_bytes v.body)) (sym v.shaped) ∙ body_forth v.body v.values (rw v.bytes at h))

read-body : (shape : Shape) (s : List ℕ) → IsBytes s → (b : Body) (rest : List ℕ) → body_field shape s ≡ Got.got b rest → IsBody shape s
read-body shape s h b rest e = let r = body_back shape s b rest h e in record { body = b; shaped = r.shaped; values = r.values; bytes = r.split ∙ append-nil (body_bytes b) }

-- what a body may be refused with
abbrev pub Among : Refusal → Type 0
Among r = (r ≡ FieldCut) ⊎ (r ≡ BytesLeftOver) ⊎ ((r ≡ StringFormat) ⊎ (r ≡ ValueNotAllowed))

module _ (shape : Shape) (s : List ℕ) (h : IsBytes s) where
  -- refused with 5, the fields were, since 7 stands behind them
  fields-cut : (g : Got Body) → go_on g (λ b. ◌>>◌ nothing_left (give b)) ≡ Got.refused FieldCut → g ≡ Got.refused FieldCut
  fields-cut (Got.refused r) e = let z : r ≡ FieldCut = cc in ap Got.refused z
  fields-cut (Got.got b []) e = apart (cc)
  fields-cut (Got.got b (x ∷ l)) e = apart (cc)

  not_whole : {r : Refusal} → body_field shape s ≡ Got.refused r → ¬ IsBody shape s
  not_whole {r} e v = let w = body-read shape s h v in apart (let z : Got.got w.0 [] ≡ Got.refused r = sym w.1 ∙ e in cc)

  -- a version of which one byte is there, or anything else
  lone : ((shape ≡ shapes.Session) × (length s ≡ 1)) ⊎ ¬ ((shape ≡ shapes.Session) × (length s ≡ 1))
  lone = by (same_shape shape shapes.Session) refl (eqb (length s) 1) refl
    where
      by : (a : Bool) → same_shape shape shapes.Session ≡ a → (b : Bool) → eqb (length s) 1 ≡ b → ((shape ≡ shapes.Session) × (length s ≡ 1)) ⊎ ¬ ((shape ≡ shapes.Session) × (length s ≡ 1))
      by true p true q = inl (same_shape_lem shape shapes.Session p, eqb-true (length s) 1 q)
      by true p false q = inr (λ x. eqb-false (length s) 1 q x.1)
      by false p b q = inr (λ x. apart (let z : true ≡ false = ap (λ (o : Shape). same_shape o shapes.Session) (sym x.0) ∙ p in cc))

  cut_back : body_field shape s ≡ Got.refused FieldCut → CutShort shape s
  unfolding body_field
  cut_back e = by lone
    where
      by : ((shape ≡ shapes.Session) × (length s ≡ 1)) ⊎ ¬ ((shape ≡ shapes.Session) × (length s ≡ 1)) → CutShort shape s
      by (inl p) = CutShort.lone_major p.0 p.1
      by (inr p) =
          let c = fields_complete shape s h (fields-cut (fields_of shape s) e) p in
          let r = fields_back shape (s ++ c.more) c.value [] (bytes-both s c.more h c.bytes) c.got in
          CutShort.inside (not_whole e) c.more c.bytes (record { body = c.value; shaped = r.shaped; values = r.values; bytes = r.split ∙ append-nil (body_bytes c.value) })

  -- refused with 6 or 8, the fields were, and with more bytes too
  bad-stands : (r : Refusal) → (r ≡ StringFormat) ⊎ (r ≡ ValueNotAllowed) → body_field shape s ≡ Got.refused r → (more : List ℕ) → IsBytes (s ++ more) → body_field shape (s ++ more) ≡ Got.refused r
  unfolding body_field
  bad-stands r w e more h' = by (fields_of shape s) refl e
    where
      not_cut : (r ≡ StringFormat) ⊎ (r ≡ ValueNotAllowed) → ¬ (r ≡ FieldCut)
      not_cut (inl p) q = apart (let z : StringFormat ≡ FieldCut = sym p ∙ q in cc)
      not_cut (inr p) q = apart (let z : ValueNotAllowed ≡ FieldCut = sym p ∙ q in cc)

      not_over : {P : Type 0} → (r ≡ StringFormat) ⊎ (r ≡ ValueNotAllowed) → BytesLeftOver ≡ r → P
      not_over (inl p) q = apart (let z : BytesLeftOver ≡ StringFormat = q ∙ p in cc)
      not_over (inr p) q = apart (let z : BytesLeftOver ≡ ValueNotAllowed = q ∙ p in cc)

      by : (g : Got Body) → fields_of shape s ≡ g → go_on g (λ b. ◌>>◌ nothing_left (give b)) ≡ Got.refused r → go_on (fields_of shape (s ++ more)) (λ b. ◌>>◌ nothing_left (give b)) ≡ Got.refused r
      by (Got.refused u) q e = let z : u ≡ r = cc in rw (fields_persist shape s more h' r (not_cut w) (q ∙ ap Got.refused z))
      by (Got.got b []) q e = apart (cc)
      by (Got.got b (x ∷ l)) q e = let z : BytesLeftOver ≡ r = cc in not_over w z

  cut_inside : ¬ IsBody shape s → (more : List ℕ) → IsBytes more → IsBody shape (s ++ more) → body_field shape s ≡ Got.refused FieldCut
  cut_inside none more hm v = by (body_field shape s) refl
    where
      h' : IsBytes (s ++ more)
      h' = bytes-both s more h hm

      got : (b : Body) × (body_field shape (s ++ more) ≡ Got.got b [])
      got = body-read shape (s ++ more) h' v

      never : {P : Type 0} (r : Refusal) → body_field shape (s ++ more) ≡ Got.refused r → P
      never r e = apart (let z : Got.got got.0 [] ≡ Got.refused r = sym got.1 ∙ e in cc)

      over : LeftOver shape s → LeftOver shape (s ++ more)
      over o = record {
        front = o.front;
        more = o.more ++ more;
        split = ap (λ (l : List ℕ). l ++ more) o.split ∙ append_assoc o.front o.more more;
        whole = o.whole;
        some = omega (arith, o.some, length-append o.more more);
        ends = o.ends;
      }

      so : (r : Refusal) → body_field shape s ≡ Got.refused r → Among r → body_field shape s ≡ Got.refused FieldCut
      so r q (inl z) = q ∙ ap Got.refused z
      so r q (inr (inl z)) = never BytesLeftOver ((left-over_exact shape (s ++ more) h').1 (over ((left-over_exact shape s h).0 (q ∙ ap Got.refused z))))
      so r q (inr (inr w)) = never r (bad-stands r w q more h')

      by : (g : Got Body) → body_field shape s ≡ g → body_field shape s ≡ Got.refused FieldCut
      by (Got.got b rest) q = absurd (none (read-body shape s h b rest q))
      by (Got.refused r) q = so r q (subst (GotIn Among) q (body_refuses Among (inl refl) (inr (inr (inl refl))) (inr (inr (inr refl))) (inr (inl refl)) shape s))

one_byte : (s : List ℕ) → length s ≡ 1 → body_field shapes.Session s ≡ Got.refused FieldCut
unfolding body_field session_fields
one_byte [] l = absurd (omega arith)
one_byte (x ∷ []) l = refl
one_byte (x ∷ y ∷ s) l = absurd (omega arith)

cut_forth : (shape : Shape) (s : List ℕ) → IsBytes s → CutShort shape s → body_field shape s ≡ Got.refused FieldCut
cut_forth shape s h (CutShort.inside none more hm v) = cut_inside shape s h none more hm v
cut_forth shape s h (CutShort.lone_major z l) = ap (λ (o : Shape). body_field o s) z ∙ one_byte s l

-- demand 1, reading: 5 exactly where the body ends inside a field
pub cut_exact : (shape : Shape) (s : List ℕ) → IsBytes s → (body_field shape s ≡ Got.refused FieldCut) ↔ CutShort shape s
cut_exact shape s h = (cut_back shape s h, cut_forth shape s h)
