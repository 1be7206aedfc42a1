-- Reading refuses exactly what is due: with that number, and at that moment.
use Rattle.std.specs.Prelude.{Option, Some, None}
use mathlib.Core.Bool.{Bool, true, false}
use mathlib.Core.List.{List}
use mathlib.Core.Logic.{◌↔◌}
use mathlib.Core.Path.{◌≡◌, refl, sym, ap, subst, ◌∙◌}
use Prim.Native.Nat.{ℕ, ◌+◌, ◌≤◌}
use lib.Dec.{ltb}
use lib.ListN.{length, take, drop}
use borrow.Author.Tests.{lt-ltb, le-ltb, ltb-true, ltb-false}
use Rattle.wire.specs.Bytes.{IsBytes, int_at}
use Rattle.wire.specs.Fields.{Got}
use Rattle.wire.specs.declared.Refusal.{Refusal}
use Rattle.wire.specs.declared.Refusal.TheVariants.{MoreBytes, UnknownInstruction, OtherSide, BodyTooLong}
use Rattle.sedna.specs.declared.Entry.{Entry}
use Rattle.sedna.specs.declared.Shape.{Shape}
use Rattle.sedna.specs.declared.Side.{Side}
use Rattle.sedna.specs.Kinds.{same_side}
use Rattle.sedna.specs.Message.{Body}
use Rattle.sedna.specs.Table.{InTable, find_of}
use Rattle.sedna_read.specs.Reading.{body_field, Heading, head_of, heading, Answer, answered, after_head, reading}
use Rattle.sedna_laws.specs.Due.{Head, Due}
use Rattle.wire.proofs.Branches.{apart, either}
use Rattle.sedna_laws.proofs.Bytes.{bytes-part}
use Rattle.sedna_laws.proofs.Heads.{same_back, same_forth, head_forth, head_back}
use Rattle.sedna_laws.proofs.InBody.{in_body_exact}
use Rattle.sedna_laws.proofs.Table.{find_listed, listed_find}

-- the table lacks an instruction exactly where none is found
pub lacking : (k : ℕ) → find_of k ≡ None → (e : Entry) → InTable e → ¬ (e.0 ≡ k)
lacking k found e listed p = apart (let z : None ≡ Some (e.1, e.2) = sym found ∙ ap find_of (sym p) ∙ find_listed e listed in cc)

pub lacks : (k : ℕ) → ((e : Entry) → InTable e → ¬ (e.0 ≡ k)) → find_of k ≡ None
lacks k none = by (find_of k) refl
  where
    by : (f : Option (Side × Shape)) → find_of k ≡ f → f ≡ None
    by None q = refl
    by (Some (a, b)) q = absurd (none (k, a, b) (listed_find k a b q) refl)

other_side : (a b : Side) → ¬ (a ≡ b) → same_side a b ≡ false
other_side a b differ = by (same_side a b) refl
  where
    by : (t : Bool) → same_side a b ≡ t → t ≡ false
    by true q = absurd (differ (same_back a b q))
    by false q = refl

not_same : (a b : Side) → same_side a b ≡ false → ¬ (a ≡ b)
not_same a b e p = apart (let z : true ≡ false = sym (same_forth a) ∙ ap (same_side a) p ∙ e in cc)

module _ (side : Side) (s : List ℕ) (r : Refusal) (h : IsBytes s) where
  is-due : {q : Refusal} → Answer.refused q ≡ Answer.refused r → Due side s q → Due side s r
  is-due {q} e = let z : q ≡ r = cc in subst (Due side s) z

  head_due : (f : Option (Side × Shape)) → find_of (int_at s 0) ≡ f → 8 ≤ length s → (q : Refusal) → head_of side (int_at s 4) f ≡ Heading.refused q → Due side s q
  head_due None found long q e = let z : UnknownInstruction ≡ q = cc in subst (Due side s) z (Due.unknown long (lacking (int_at s 0) found))
  head_due (Some (sender, shape)) found long q e =
      let listed : InTable (int_at s 0, sender, shape) = listed_find (int_at s 0) sender shape found in
      either (same_side sender side) _ _ e
      (λ same e₁. either (ltb 10240 (int_at s 4)) _ _ e₁
      (λ more e₂.
      let z : BodyTooLong ≡ q = cc in
      subst (Due side s) z (Due.too_long long shape (rw (same_back sender side same) at listed) (ltb-true 10240 (int_at s 4) more)))
      (λ _ e₂. apart (cc)))
      (λ other e₁. let z : OtherSide ≡ q = cc in subst (Due side s) z (Due.other_side long sender shape listed (not_same sender side other)))

  in_head : (q : Refusal) → heading side s ≡ Heading.refused q → Due side s q
  unfolding heading
  in_head q p =
      either (ltb (length s) 8) _ _ p
      (λ short p₁. let z : MoreBytes ≡ q = cc in subst (Due side s) z (Due.no_head (ltb-true (length s) 8 short)))
      (λ long p₁. head_due (find_of (int_at s 0)) refl (ltb-false (length s) 8 long) q p₁)

  due_back : reading side s ≡ Answer.refused r → Due side s r
  unfolding reading heading
  due_back e = by (heading side s) refl e
    where
      in_body : (shape : Shape) (n : ℕ) → Head side s shape n → 8 + n ≤ length s → (g : Got Body) → body_field shape (take n (drop 8 s)) ≡ g
          → answered (int_at s 0) (8 + n) g ≡ Answer.refused r → Due side s r
      in_body shape n head fits (Got.refused q) p e = is-due e (Due.in_body q shape n head fits ((in_body_exact shape (take n (drop 8 s)) (bytes-part s 8 n h) q).0 p))
      in_body shape n head fits (Got.got b rest) p e = apart (cc)

      by : (g : Heading) → heading side s ≡ g → after_head s g ≡ Answer.refused r → Due side s r
      by (Heading.refused q) p e = is-due e (in_head q p)
      by (Heading.headed shape n) p e =
          let head : Head side s shape n = head_back side s shape n p in
          either (ltb (length s) (8 + n)) _ _ e
          (λ cut e₁. is-due e₁ (Due.no_body shape n head (ltb-true (length s) (8 + n) cut)))
          (λ fits e₁. in_body shape n head (ltb-false (length s) (8 + n) fits) (body_field shape (take n (drop 8 s))) refl e₁)

due_forth : (side : Side) (s : List ℕ) → IsBytes s → {r : Refusal} → Due side s r → reading side s ≡ Answer.refused r
unfolding reading heading
due_forth side s h (Due.no_head l) = rw (lt-ltb (length s) 8 l)
due_forth side s h (Due.unknown long none) = rw (le-ltb (length s) 8 long, lacks (int_at s 0) none)
due_forth side s h (Due.other_side long sender shape listed differ) = rw (le-ltb (length s) 8 long, find_listed (int_at s 0, sender, shape) listed, other_side sender side differ)
due_forth side s h (Due.too_long long shape listed more) = rw (le-ltb (length s) 8 long, find_listed (int_at s 0, side, shape) listed, same_forth side, lt-ltb 10240 (int_at s 4) more)
due_forth side s h (Due.no_body shape n head cut) = ap (after_head s) (head_forth side s shape n head) ∙ rw (lt-ltb (length s) (8 + n) cut)
due_forth side s h (Due.in_body r shape n head fits e) = ap (after_head s) (head_forth side s shape n head)
    ∙ rw (le-ltb (length s) (8 + n) fits, (in_body_exact shape (take n (drop 8 s)) (bytes-part s 8 n h) r).1 e)

-- demand 1, reading: a refusal is given exactly when it is due
pub refused_exact : (side : Side) (s : List ℕ) → IsBytes s → (r : Refusal) → (reading side s ≡ Answer.refused r) ↔ Due side s r
refused_exact side s h r = (due_back side s r h, due_forth side s h)
