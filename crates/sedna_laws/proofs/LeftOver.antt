-- A body is refused with 7 exactly where a whole one stands in front of more bytes.
use mathlib.Core.List.{List, [], ◌∷◌, ◌++◌}
use mathlib.Core.Logic.{◌↔◌}
use mathlib.Core.Path.{◌≡◌, refl, sym, ap, subst, ◌∙◌}
use Prim.Native.Nat.{ℕ, zero, suc, ◌≤◌}
use native.Mathlib.Omega.{arith}
use lib.ListN.{length, length-append}
use Rattle.wire.specs.Bytes.{IsBytes, int}
use Rattle.wire.specs.Fields.{Got, go_on, ◌>>◌, give}
use Rattle.wire.specs.declared.Refusal.{Refusal}
use Rattle.wire.specs.declared.Refusal.TheVariants.{BytesLeftOver}
use Rattle.wire.specs.Refusals.{number_of}
use Rattle.sedna.specs.declared.Shape.{Shape}
use Rattle.sedna.specs.declared.Shape.TheVariants as shape
use Rattle.sedna.specs.Encode.{string, pair_bytes, body_bytes}
use Rattle.sedna.specs.Message.{Pair, Body, shape_of}
use Rattle.sedna_read.specs.Fields.{nothing_left}
use Rattle.sedna_read.specs.Reading.{pair_field, pairs_field, options_fields, fields_of, body_field}
use Rattle.sedna_laws.specs.Due.{LeftOver}
use Rattle.sedna_laws.proofs.Bodies.{Ends, fields_forth, fields_back}
use Rattle.wire.proofs.Branches.{apart}
use Rattle.sedna_laws.proofs.Pairs.{pair_back}
use Rattle.sedna_laws.proofs.Refusals.{GotIn, fields-refuse}
use Rattle.sedna_laws.proofs.Steps.{past, given}

-- no field is refused with 7
not_seven : (shape : Shape) (s : List ℕ) → ¬ (fields_of shape s ≡ Got.refused BytesLeftOver)
not_seven shape s e =
    let p : ¬ (number_of BytesLeftOver ≡ 7) = subst (GotIn (λ (r : Refusal). ¬ (number_of r ≡ 7))) e
    (fields-refuse (λ (r : Refusal). ¬ (number_of r ≡ 7)) (λ z. omega arith) (λ z. omega arith) (λ z. omega arith) shape s) in
    p refl

-- pairs are read up to the end
onward : (first : Pair) (g : Got (List Pair)) (ps : List Pair) (rest : List ℕ) → ((more : List Pair) (l : List ℕ) → g ≡ Got.got more l → l ≡ [])
    → go_on g (λ qs. give (first ∷ qs)) ≡ Got.got ps rest → rest ≡ []
onward first (Got.refused r) ps rest f e = apart (cc)
onward first (Got.got more l) ps rest f e = let z : l ≡ rest = cc in sym z ∙ f more l refl

pairs-all : (n : ℕ) (s : List ℕ) (ps : List Pair) (rest : List ℕ) → IsBytes s → length s ≤ n → pairs_field n s ≡ Got.got ps rest → rest ≡ []
unfolding pairs_field pair_bytes int
pairs-all zero [] ps rest h l e = given (λ (ps : List Pair) (r : List ℕ). r ≡ []) e refl
pairs-all zero (x ∷ s) ps rest h l e = absurd (omega arith)
pairs-all (suc n) [] ps rest h l e = given (λ (ps : List Pair) (r : List ℕ). r ≡ []) e refl
pairs-all (suc n) (x ∷ s) ps rest h l e =
    past pair_field pair_bytes pair_back (x ∷ s) _ h e λ first s₁ p₁ h₁ e₁.
    let less : length s₁ ≤ n = omega (arith, ap length p₁, length-append (string first.value) s₁) in
    onward first (pairs_field n s₁) ps rest (λ more k q. pairs-all n s₁ more k h₁ less q) e₁

options-all : (s : List ℕ) (b : Body) (rest : List ℕ) → IsBytes s → fields_of shape.Options s ≡ Got.got b rest → rest ≡ []
unfolding options_fields
options-all s b rest h e = by (pairs_field (length s) s) refl e
  where
    by : (g : Got (List Pair)) → pairs_field (length s) s ≡ g → go_on g (λ ps. give (Body.options ps)) ≡ Got.got b rest → rest ≡ []
    by (Got.refused r) q e = apart (cc)
    by (Got.got ps l) q e = let z : l ≡ rest = cc in sym z ∙ pairs-all (length s) s ps l h (omega arith) q

module _ (shape : Shape) (s : List ℕ) (h : IsBytes s) where
  left_back : body_field shape s ≡ Got.refused BytesLeftOver → LeftOver shape s
  unfolding body_field
  left_back e = by (fields_of shape s) refl e
    where
      by : (g : Got Body) → fields_of shape s ≡ g → go_on g (λ b. ◌>>◌ nothing_left (give b)) ≡ Got.refused BytesLeftOver → LeftOver shape s
      by (Got.refused r) q e = let z : r ≡ BytesLeftOver = cc in absurd (not_seven shape s (q ∙ ap Got.refused z))
      by (Got.got b []) q e = apart (cc)
      by (Got.got b (x ∷ l)) q e =
          let r = fields_back shape s b (x ∷ l) h q in
          record {
            front = body_bytes b;
            more = x ∷ l;
            split = r.split;
            whole = record { body = b; shaped = r.shaped; values = r.values; bytes = refl };
            some = omega arith;
            ends = λ z. absurd (omega (arith, ap length (options-all s b (x ∷ l) h (rw z at q))));
          }

  left_forth : LeftOver shape s → body_field shape s ≡ Got.refused BytesLeftOver
  unfolding body_field
  left_forth v = by v.more refl
    where
      ended : (b : Body) (rest : List ℕ) → shape_of b ≡ shape → Ends b rest
      ended Body.empty rest z = tt
      ended (Body.session major minor user database) rest z = tt
      ended (Body.text t) rest z = tt
      ended (Body.statement format t) rest z = tt
      ended (Body.coded code t) rest z = tt
      ended (Body.options pairs) rest z = absurd (v.ends (sym z))
      ended (Body.item class kind url part) rest z = tt

      b : Body
      b = v.whole.body

      got : (rest : List ℕ) → v.more ≡ rest → fields_of shape s ≡ Got.got b rest
      got rest m =
          let split : s ≡ body_bytes b ++ rest = v.split ∙ ap (λ (l : List ℕ). v.front ++ l) m ∙ ap (λ (l : List ℕ). l ++ rest) v.whole.bytes in
          ap (fields_of shape) split ∙ ap (λ (o : Shape). fields_of o (body_bytes b ++ rest)) (sym v.whole.shaped)
          ∙ fields_forth b rest (ended b rest v.whole.shaped) v.whole.values (rw split at h)

      by : (rest : List ℕ) → v.more ≡ rest → go_on (fields_of shape s) (λ b. ◌>>◌ nothing_left (give b)) ≡ Got.refused BytesLeftOver
      by [] m = absurd (omega (arith, v.some, ap length m))
      by (x ∷ l) m = rw (got (x ∷ l) m)

-- demand 1, reading: 7 exactly where bytes are left over
pub left-over_exact : (shape : Shape) (s : List ℕ) → IsBytes s → (body_field shape s ≡ Got.refused BytesLeftOver) ↔ LeftOver shape s
left-over_exact shape s h = (left_back shape s h, left_forth shape s h)
