-- What reading a response refuses with.
use Rattle.std.specs.Prelude.{Option, Some, None}
use mathlib.Core.Path.{◌≡◌, refl, sym, ◌∙◌}
use mathlib.Core.List.{List, [], ◌∷◌}
use mathlib.Core.Bool.{Bool, true, false}
use mathlib.Core.Logic.{◌⊎◌, inl, inr}
use Prim.Native.Nat.{ℕ}
use native.Mathlib.Omega.{arith}
use lib.ListN.{length}
use Rattle.wire.specs.Bytes.{if}
use Rattle.wire.specs.Fields.{Got, Field, go_on, give, required}
use Rattle.wire.specs.declared.Refusal.{Refusal}
use Rattle.wire.specs.declared.Refusal.TheVariants.{UnknownInstruction, ValueNotAllowed}
use Rattle.wire.proofs.Fields.{Split, stopped}
use Rattle.basex.specs.declared.Reply.{Reply}
use Rattle.basex.specs.Kinds.{find_of, ahead, behind, listed, is_full, status_allowed}
use Rattle.basex.specs.Response.{Item, Response}
use Rattle.basex.specs.Texts.{texts}
use Rattle.basex_response.specs.Items.{items}
use Rattle.basex_response.specs.Reading.{byte_field, list_field, fields_of, reading}
use Rattle.basex_laws.proofs.Listed.{OfFields, of_texts, items_refuses}
use Rattle.basex_laws.proofs.Responses.{ended, fields_are, reading-known}

module _ (reply : Reply) (r : Refusal) where
  byte : (s1 : List ℕ) → byte_field s1 ≡ Got.refused r → OfFields r
  byte [] d = inl (cc)
  byte (b ∷ s1) d = let z : ◌≡◌ {A = ℕ} 0 1 = cc in absurd (omega arith)

  list : (b : Bool) (s1 : List ℕ) → if b (items (length s1) (is_full reply) s1) (Got.got [] s1) ≡ Got.refused r → OfFields r
  list true s1 d = items_refuses (is_full reply) (length s1) s1 r d
  list false s1 d = let z : ◌≡◌ {A = ℕ} 0 1 = cc in absurd (omega arith)

  module _ (ts : List (List ℕ)) (is : List Item) where
    abbrev make : ℕ → List (List ℕ) → Field Response
    make status es = give (record { texts = ts; items = is; status = status; error = es })

    error : (status : ℕ) (s2 : List ℕ) → (texts (behind reply status) s2 ≡ Got.refused r) ⊎ Split (texts (behind reply status) s2) (make status) (Got.refused r) → OfFields r
    error status s2 (inl d) = of_texts (behind reply status) s2 r d
    error status s2 (inr d) = let g = d.goes in let z : ◌≡◌ {A = ℕ} 0 1 = cc in absurd (omega arith)

    judge : (status : ℕ) (s2 : List ℕ) (b : Bool) → go_on (required b ValueNotAllowed s2) (λ _ s3. go_on (texts (behind reply status) s3) (make status)) ≡ Got.refused r → OfFields r
    judge status s2 true d = error status s2 (stopped (texts (behind reply status) s2) (make status) r d)
    judge status s2 false d = inr (inl (cc))

    third : (s1 : List ℕ) → (byte_field s1 ≡ Got.refused r) ⊎ Split (byte_field s1)
        (λ status s2. go_on (required (status_allowed status) ValueNotAllowed s2) (λ _ s3. go_on (texts (behind reply status) s3) (make status))) (Got.refused r) → OfFields r
    third s1 (inl d) = byte s1 d
    third s1 (inr d) = judge d.value d.behind (status_allowed d.value) d.goes

  second : (ts : List (List ℕ)) (s1 : List ℕ) → (list_field reply s1 ≡ Got.refused r) ⊎ Split (list_field reply s1) (ended reply ts) (Got.refused r) → OfFields r
  second ts s1 (inl d) = list (listed reply) s1 d
  second ts s1 (inr d) = third ts d.value d.behind (stopped (byte_field d.behind)
      (λ status s2. go_on (required (status_allowed status) ValueNotAllowed s2) (λ _ s3. go_on (texts (behind reply status) s3) (make ts d.value status))) r d.goes)

  first : (s : List ℕ) → (texts (ahead reply) s ≡ Got.refused r) ⊎ Split (texts (ahead reply) s) (λ ts s1. go_on (list_field reply s1) (ended reply ts)) (Got.refused r) → OfFields r
  first s (inl d) = of_texts (ahead reply) s r d
  first s (inr d) = second d.value d.behind (stopped (list_field reply d.behind) (ended reply d.value) r d.goes)

  -- a response to a known request is refused with 1, 8 or 13
  pub fields-refuse : (s : List ℕ) → fields_of reply s ≡ Got.refused r → OfFields r
  fields-refuse s e = first s (stopped (texts (ahead reply) s) (λ ts s1. go_on (list_field reply s1) (ended reply ts)) r (sym (fields_are reply s) ∙ e))

-- reading refuses with 1, 2, 8 or 13 alone
pub reading_refuses : (kind : ℕ) (s : List ℕ) (r : Refusal) → reading kind s ≡ Got.refused r → (r ≡ UnknownInstruction) ⊎ OfFields r
unfolding reading
reading_refuses kind s r e = by (find_of kind) refl s e
  where
    by : (f : Option (ℕ × Reply)) → find_of kind ≡ f → (s : List ℕ) → reading kind s ≡ Got.refused r → (r ≡ UnknownInstruction) ⊎ OfFields r
    by None k [] e = inr (inl (cc))
    by None k (b ∷ s) e = let d : Got.refused UnknownInstruction ≡ Got.refused r = rw k at e in inl (cc)
    by (Some (n, reply)) k s e = inr (fields-refuse reply r s (sym (reading-known kind n reply k s) ∙ e))
