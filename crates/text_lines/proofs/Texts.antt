-- A word behind a front, and the words of a text one behind the other.
use Rattle.std.specs.Prelude.{Option, Some, None}
use mathlib.Core.Path.{◌≡◌, refl, sym, ap, subst, ◌∙◌}
use mathlib.Core.List.{List, []}
use Prim.Native.Nat.{ℕ, ◌≤◌, ◌<◌}
use native.Mathlib.Omega.{arith}
use lib.Dec.{eqb}
use lib.ListN.{length, take}
use lib.Seq.{length-take-le}
use borrow.Author.Tests.{eq-eqb, ne_eqb}
use Rattle.wire.specs.Bytes.{if}
use Rattle.text_lines.specs.Cuts.{before_first, behind_first, space, TakesPart, words_of}
use Rattle.text_lines.specs.Numbers.{decimal_of}
use Rattle.text_lines.specs.Spelling.{and_then, first_of, that_fit, with_pairs, with_count, with_word, with_words, star, pairs_at, last_at, word_at, text_at, Fronted, Spells}
use Rattle.text_lines.proofs.Words.{words_on, words_end}
use Rattle.text_lines.proofs.Fronts.{answers, Found, found-on, spells-on, first_short, first-whole, first-front, over_first}

module _ (d : List ℕ) (n : ℕ) (w : List ℕ) where
  word_none : pairs_at d n (before_first star w) ≡ None → word_at d n w ≡ None
  unfolding with_word
  word_none e = by (first_of d n) e
    where
      by : (o : Option (List ℕ)) → and_then o (λ t. that_fit (length d) (with_pairs t (before_first star w))) ≡ None → and_then o (λ t. with_word (length d) t w) ≡ None
      by None e = refl
      by (Some t) e = rw e

  word_some : {u : List ℕ} → pairs_at d n (before_first star w) ≡ Some u
      → word_at d n w ≡ if (eqb (length (before_first star w)) (length w)) (Some u) (with_count (length d) u (decimal_of (behind_first star w)))
  unfolding with_word
  word_some {u} e = by (first_of d n) e
    where
      by : (o : Option (List ℕ)) → and_then o (λ t. that_fit (length d) (with_pairs t (before_first star w))) ≡ Some u
          → and_then o (λ t. with_word (length d) t w) ≡ if (eqb (length (before_first star w)) (length w)) (Some u) (with_count (length d) u (decimal_of (behind_first star w)))
      by None e = cc
      by (Some t) e = rw e

  -- x is what stands before the count
  module _ {x : List ℕ} (q : x ≡ before_first star w) where
    pub word_lost : pairs_at d n x ≡ None → word_at d n w ≡ None
    word_lost e = word_none (ap (pairs_at d n) (sym q) ∙ e)

    module _ {m : ℕ} {c : List ℕ} (f : Found d n (pairs_at d n x) m c) where
      read : pairs_at d n (before_first star w) ≡ Some f.t
      read = ap (pairs_at d n) (sym q) ∙ f.is

      -- no count behind the digits
      pub word_plain : length x ≡ length w → Spells d n (word_at d n w) (Some m) c
      word_plain e =
          let k : length (before_first star w) ≡ length w = ap length (sym q) ∙ e in
          answers f.t (word_some read ∙ simp (eq-eqb _ _ k)) f.long f.fronted

      module _ (h : length x ≡ length w → ⊥) where
        counted : word_at d n w ≡ with_count (length d) f.t (decimal_of (behind_first star w))
        counted =
            let k : length (before_first star w) ≡ length w → ⊥ = λ e. h (ap length q ∙ e) in
            word_some read ∙ simp (ne_eqb _ _ k)

        pub word_uncounted : decimal_of (behind_first star w) ≡ None → word_at d n w ≡ None
        word_uncounted e = counted ∙ ap (with_count (length d) f.t) e

        pub word_counted : {times : ℕ} {r : Option ℕ} {e : List ℕ} → decimal_of (behind_first star w) ≡ Some times → Spells c m (last_at c m times) r e → Spells d n (word_at d n w) r e
        word_counted {times} {r} {e} p s =
            let g = first-front f.fronted f.long in
            let y : last_at c m times ≡ word_at d n w = rw (g.1, g.0) (sym (counted ∙ ap (with_count (length d) f.t) p)) in
            spells-on (word_at d n w) f.fronted f.long (subst (λ (o : Option (List ℕ)). Spells c m o r e) y s)

-- the words of s but for those that are left stand behind the first n bytes of d, up to m
pub record Worded (d : List ℕ) (n : ℕ) (s out : List ℕ) (m : ℕ) (rest : List ℕ) : Type 0 where
  pub t : List ℕ
  pub long : m ≡ length t
  pub fronted : Fronted d n t out
  pub left : text_at d n s ≡ with_words (length d) t (words_of rest)

pub worded_start : (d : List ℕ) (n : ℕ) (s : List ℕ) → n ≤ length d → Worded d n s d n s
worded_start d n s h =
    let l : length (take n d) ≡ n = length-take-le n d h in
    record { t = take n d; long = sym l; fronted = record { makes = over_first d n h; grows = omega arith; fits = omega arith }; left = rw (first-whole d n h) }

pub text-short : (d : List ℕ) (n : ℕ) (s : List ℕ) → length d < n → text_at d n s ≡ None
text-short d n s h = rw (first_short d n h)

module _ {d : List ℕ} {n : ℕ} {s out : List ℕ} {m : ℕ} {rest : List ℕ} (p : Worded d n s out m rest) where
  pub worded_end : rest ≡ [] → Spells d n (text_at d n s) (Some m) out
  unfolding with_words
  worded_end e = answers p.t (p.left ∙ ap (with_words (length d) p.t) (words_end e)) p.long p.fronted

  module _ {b : ℕ} {one left : List ℕ} (h : TakesPart b rest one left) (e : b ≡ space) where
    word_here : with_word (length d) p.t one ≡ word_at out m one
    word_here =
        let g = first-front p.fronted p.long in
        rw (g.1, g.0)

    rest-left : text_at d n s ≡ and_then (word_at out m one) (λ u. with_words (length d) u (words_of left))
    unfolding with_words
    rest-left = p.left ∙ ap (with_words (length d) p.t) (words_on h e) ∙ ap (λ (o : Option (List ℕ)). and_then o (λ u. with_words (length d) u (words_of left))) word_here

    pub worded_none : word_at out m one ≡ None → text_at d n s ≡ None
    worded_none q = rest-left ∙ rw q

    pub worded_next : {k : ℕ} {e : List ℕ} → Found out m (word_at out m one) k e → Worded d n s e k left
    worded_next f = record { t = f.t; long = f.long; fronted = found-on p.fronted p.long f; left = rest-left ∙ rw f.is }
