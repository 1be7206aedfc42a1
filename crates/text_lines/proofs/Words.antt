-- The words of a text, found one behind the other.
use mathlib.Core.Path.{◌≡◌, refl, ap, ◌∙◌}
use mathlib.Core.List.{List, [], ◌∷◌}
use mathlib.Core.Bool.{Bool, true, false}
use Prim.Native.Nat.{ℕ, suc, ◌<◌}
use native.Mathlib.Omega.{arith}
use lib.Dec.{eqb}
use lib.ListN.{length}
use Rattle.wire.specs.Bytes.{if}
use Rattle.text_lines.specs.Cuts.{before_first, behind_first, space, same_bytes, TakesPart, onto, words_of, ahead_of}
use Rattle.text_lines.proofs.Parts.{behind_shorter}

words_cons : (x : ℕ) (s : List ℕ) → words_of (x ∷ s) ≡ before_first space (x ∷ s) ∷ words_of (behind_first space (x ∷ s))
unfolding before_first behind_first words_of
words_cons x [] = by (eqb x space)
  where
    by : (t : Bool) → if t ([] ∷ []) (onto x []) ≡ if t [] (x ∷ []) ∷ words_of (if t [] [])
    by true = refl
    by false = refl
words_cons x (y ∷ s) = by (eqb x space) (words_cons y s)
  where
    by : (t : Bool) → words_of (y ∷ s) ≡ before_first space (y ∷ s) ∷ words_of (behind_first space (y ∷ s))
        → if t ([] ∷ words_of (y ∷ s)) (onto x (words_of (y ∷ s))) ≡ if t [] (x ∷ before_first space (y ∷ s)) ∷ words_of (if t (y ∷ s) (behind_first space (y ∷ s)))
    by true e = refl
    by false e = ap (onto x) e

-- a part that is taken off the front is the first word
module _ {b : ℕ} {s part left : List ℕ} (p : TakesPart b s part left) where
  pub takes-shorter : length left < length s
  takes-shorter = omega (arith, behind_shorter b s p.some, ap length p.behind)

  pub words_on : b ≡ space → words_of s ≡ part ∷ words_of left
  words_on e = by s p.some (p.ahead ∙ ap (λ (c : ℕ). before_first c s) e) (p.behind ∙ ap (λ (c : ℕ). behind_first c s) e)
    where
      by : (r : List ℕ) → 0 < length r → part ≡ before_first space r → left ≡ behind_first space r → words_of r ≡ part ∷ words_of left
      by [] h q l = absurd (omega arith)
      by (x ∷ r) h q l = rw (q, l) (words_cons x r)

  pub ahead_here : (w : List ℕ) → b ≡ space → same_bytes part w ≡ true → ahead_of w (words_of s) ≡ 0
  unfolding ahead_of
  ahead_here w e q = rw (words_on e) (simp q)

  pub ahead-on : (w : List ℕ) → b ≡ space → same_bytes part w ≡ false → ahead_of w (words_of s) ≡ suc (ahead_of w (words_of left))
  unfolding ahead_of
  ahead-on w e q = rw (words_on e) (simp q)

module _ {s : List ℕ} (e : s ≡ []) where
  pub words_end : words_of s ≡ []
  unfolding words_of
  words_end = rw e

  pub ahead-end : (w : List ℕ) → ahead_of w (words_of s) ≡ 0
  unfolding ahead_of
  ahead-end w = rw words_end
