-- The end of a response: its bytes part by part, and what writing it answers.
use Rattle.std.specs.Prelude.{Some, Result, Err}
use Rattle.wire.specs.declared.Refusal.{Refusal}
use mathlib.Core.Path.{◌≡◌, refl, sym, ap, ◌∙◌}
use mathlib.Core.Bool.{Bool, true, false}
use mathlib.Core.List.{List, [], ◌∷◌, ◌++◌, flatten, append-nil, flat_map}
use Prim.Native.Nat.{ℕ, zero, suc, ◌+◌, ◌≤◌}
use native.Mathlib.Omega.{arith}
use lib.Dec.{ltb, eqb, eqb-suc-zero}
use lib.ListN.{length, take, length-append}
use borrow.Author.Tests.{leb-true}
use Rattle.wire.specs.Bytes.{if}
use Rattle.wire.specs.declared.Refusal.TheVariants.{ValueNotAllowed}
use Rattle.basex_string.specs.Strings.{string}
use Rattle.basex.specs.declared.Reply.{Reply}
use Rattle.basex.specs.Kinds.{find_of, ahead, behind, listed, status_allowed}
use Rattle.basex.specs.Response.{encode}
use Rattle.basex.specs.Texts.{place_if, string_if, strings, unused}
use Rattle.wire.specs.Call.{in_room}
use Rattle.basex_response.specs.Writing.{end_of, end_written, end_written_as, end_bytes}
use Rattle.basex_response.specs.inner.Spelling.{zero_if, ahead_parts, last_parts, end_parts, end_allowed}
use Rattle.basex_response.proofs.Fields.{ahead-few, behind-few}

pub ahead-size : (n : ℕ) (first second : List ℕ) → length (ahead_parts n first second) ≡ length (string_if (ltb 0 n) first) + length (string_if (ltb 1 n) second)
ahead-size n first second = length-append (string_if (ltb 0 n) first) (string_if (ltb 1 n) second)

pub last-size : (list : Bool) (status n : ℕ) (error : List ℕ) → length (last_parts list status n error) ≡ length (zero_if list) + 1 + length (string_if (ltb 0 n) error)
last-size list status n error = omega (arith, length-append (zero_if list) (status ∷ string_if (ltb 0 n) error))

two-strings : (n : ℕ) → n ≤ 2 → (first second : List ℕ) → ahead_parts n first second ≡ strings (take n (first ∷ second ∷ []))
unfolding flat_map
two-strings zero h first second = refl
two-strings (suc zero) h first second = refl
two-strings (suc (suc zero)) h first second = ap (λ (m : List ℕ). string first ++ m) (sym (append-nil (string second)))
two-strings (suc (suc (suc n))) h first second = absurd (omega arith)

one_string : (n : ℕ) → n ≤ 1 → (error : List ℕ) → string_if (ltb 0 n) error ≡ strings (take n (error ∷ []))
unfolding flat_map
one_string zero h error = refl
one_string (suc zero) h error = sym (append-nil (string error))
one_string (suc (suc n)) h error = absurd (omega arith)

pub end-parts : (reply : Reply) (first second : List ℕ) (status : ℕ) (error : List ℕ) → status ≤ 1 → end_parts reply first second status error ≡ encode reply (end_of reply first second status error)
unfolding encode flat_map
end-parts reply first second status error h =
    ap (λ (m : List ℕ). m ++ last_parts (listed reply) status (behind reply status) error) (two-strings (ahead reply) (ahead-few reply) first second)
    ∙ ap (λ (m : List ℕ). strings (take (ahead reply) (first ∷ second ∷ [])) ++ (zero_if (listed reply) ++ (status ∷ m)))
    (one_string (behind reply status) (let f = behind-few reply status in omega arith) error)

-- a text without a place is empty
both-empty : (first second : List ℕ) → eqb (length (first ++ (second ++ []))) 0 ≡ if (eqb (length first) 0) (eqb (length second) 0) false
both-empty [] second = ap (λ (m : List ℕ). eqb (length m) 0) (append-nil second)
both-empty (x ∷ first) second = eqb-suc-zero (length (first ++ (second ++ []))) ∙ sym (rw (eqb-suc-zero (length first)) refl)

two-places : (n : ℕ) → n ≤ 2 → (first second : List ℕ) → unused n (first ∷ second ∷ []) ≡ if (place_if (ltb 0 n) first) (place_if (ltb 1 n) second) false
unfolding flatten
two-places zero h first second = both-empty first second
two-places (suc zero) h first second = ap (λ (m : List ℕ). eqb (length m) 0) (append-nil second)
two-places (suc (suc zero)) h first second = refl
two-places (suc (suc (suc n))) h first second = absurd (omega arith)

one_place : (n : ℕ) → n ≤ 1 → (error : List ℕ) → unused n (error ∷ []) ≡ place_if (ltb 0 n) error
unfolding flatten
one_place zero h error = ap (λ (m : List ℕ). eqb (length m) 0) (append-nil error)
one_place (suc zero) h error = refl
one_place (suc (suc n)) h error = absurd (omega arith)

-- what writing an end answers
abbrev chosen : Bool → Result ℕ Refusal → Result ℕ Refusal
chosen t x = if t x (Err ValueNotAllowed)

module _ (room at : ℕ) (n : ℕ) (reply : Reply) (first second : List ℕ) (status : ℕ) (error : List ℕ) where
  abbrev answer : Result ℕ Refusal
  answer = in_room room at (length (encode reply (end_of reply first second status error)))

  end-told : end_written_as room at (Some (n, reply)) first second status error ≡ chosen (end_allowed reply first second status error) answer
  end-told = by (status_allowed status) refl
    where
      twice : (p q r : Bool) → chosen (if p q false) (chosen r answer) ≡ chosen (if p (if q r false) false) answer
      twice true true r = refl
      twice true false r = refl
      twice false q r = refl

      by : (t : Bool) → status_allowed status ≡ t
          → chosen t (chosen (unused (ahead reply) (first ∷ second ∷ [])) (chosen (unused (behind reply status) (error ∷ [])) answer))
          ≡ chosen (if t (if (place_if (ltb 0 (ahead reply)) first) (if (place_if (ltb 1 (ahead reply)) second) (place_if (ltb 0 (behind reply status)) error) false) false) false) answer
      by false e = refl
      by true e =
          let h = leb-true status 1 e in
          rw (two-places (ahead reply) (ahead-few reply) first second, one_place (behind reply status) (let f = behind-few reply status in omega arith) error)
          (twice (place_if (ltb 0 (ahead reply)) first) (place_if (ltb 1 (ahead reply)) second) (place_if (ltb 0 (behind reply status)) error))

  allowed-status : end_allowed reply first second status error ≡ true → status ≤ 1
  allowed-status e = by (status_allowed status) refl (if (place_if (ltb 0 (ahead reply)) first) (if (place_if (ltb 1 (ahead reply)) second) (place_if (ltb 0 (behind reply status)) error) false) false) e
    where
      by : (t : Bool) → status_allowed status ≡ t → (x : Bool) → if t x false ≡ true → status ≤ 1
      by true p x q = leb-true status 1 p
      by false p x q = let z : ◌≡◌ {A = ℕ} 0 1 = cc in absurd (omega arith)

  module _ (kind : ℕ) (k : find_of kind ≡ Some (n, reply)) where
    pub end_refused : end_allowed reply first second status error ≡ false → Err ValueNotAllowed ≡ end_written room at kind first second status error
    unfolding end_written
    end_refused e = rw k (sym (end-told ∙ rw e refl))

    pub end-bytes : end_allowed reply first second status error ≡ true → end_parts reply first second status error ≡ end_bytes (find_of kind) first second status error
    end-bytes e = rw k (end-parts reply first second status error (allowed-status e))

    pub end-answer : end_allowed reply first second status error ≡ true → in_room room at (length (end_parts reply first second status error)) ≡ end_written room at kind first second status error
    unfolding end_written
    end-answer e = rw k (ap (λ (m : List ℕ). in_room room at (length m)) (end-parts reply first second status error (allowed-status e)) ∙ sym (end-told ∙ rw e refl))
