-- Bytes that text spells, put behind those that stand at the front of an output: `None` where the text spells none, or there is no room.
use Rattle.std.specs.Prelude.{ℕ, ◌+◌, ◌*◌, ◌-◌, ◌≤◌, Option, Some, None}
use mathlib.Core.{Path.◌≡◌, List.List, List.[], List.◌∷◌, List.◌++◌}
use lib.{Dec.eqb, Dec.ltb, ListN.length, ListN.take, ListN.get_or, ListN.replicate}
use Rattle.wire.specs.Bytes.{if, splice}
use Rattle.text_lines.specs.{Cuts.before_first, Cuts.behind_first, Cuts.words_of}
use Rattle.text_lines.specs.Numbers.{digit_of, decimal_of}

-- goes on with the bytes so far; None stays
abbrev pub and_then : Option (List ℕ) → (List ℕ → Option (List ℕ)) → Option (List ℕ)
and_then None f = None
and_then (Some t) f = f t

-- the first n bytes of an output that has so many
abbrev pub first_of : List ℕ → ℕ → Option (List ℕ)
first_of d n = if (ltb (length d) n) None (Some (take n d))

-- the bytes, where an output of so many has room
abbrev pub that_fit : ℕ → Option (List ℕ) → Option (List ℕ)
that_fit room None = None
that_fit room (Some t) = if (ltb room (length t)) None (Some t)

-- t, and the bytes that pairs of digits spell
unfoldable pub with_pairs : List ℕ → List ℕ → Option (List ℕ)
with_pairs t [] = Some t
with_pairs t (a ∷ []) = None
with_pairs t (a ∷ b ∷ s) =
    if (ltb 15 (digit_of a)) None (if (ltb 15 (digit_of b)) None (with_pairs (t ++ ((digit_of a * 16 + digit_of b) ∷ [])) s))

-- t with its last byte there so many times in all
unfoldable pub with_last : List ℕ → ℕ → Option (List ℕ)
with_last t times =
    if (eqb (length t) 0) None (if (eqb times 0) None (Some (t ++ replicate (times - 1) (get_or t (length t - 1) 0))))

-- the byte ahead of a count
abbrev pub star : ℕ
star = 42

-- t with its last byte there as often as a number says
abbrev pub with_count : ℕ → List ℕ → Option ℕ → Option (List ℕ)
with_count room t None = None
with_count room t (Some times) = that_fit room (with_last t times)

-- t, and the bytes of a word: pairs of digits, and perhaps `*` with how many times the last byte stands in all
unfoldable pub with_word : ℕ → List ℕ → List ℕ → Option (List ℕ)
with_word room t w =
    and_then
    (that_fit room (with_pairs t (before_first star w)))
    (λ u. if (eqb (length (before_first star w)) (length w)) (Some u) (with_count room u (decimal_of (behind_first star w))))

-- t, and the bytes of some words, one behind the other
unfoldable pub with_words : ℕ → List ℕ → List (List ℕ) → Option (List ℕ)
with_words room t [] = Some t
with_words room t (w ∷ ws) = and_then (with_word room t w) (λ u. with_words room u ws)

-- the front of the output d once the bytes that pairs of digits spell stand behind its first n
abbrev pub pairs_at : List ℕ → ℕ → List ℕ → Option (List ℕ)
pairs_at d n s = and_then (first_of d n) (λ t. that_fit (length d) (with_pairs t s))

-- the same with the last of those n bytes there so many times in all
abbrev pub last_at : List ℕ → ℕ → ℕ → Option (List ℕ)
last_at d n times = and_then (first_of d n) (λ t. that_fit (length d) (with_last t times))

-- the same with the bytes of a word behind them
abbrev pub word_at : List ℕ → ℕ → List ℕ → Option (List ℕ)
word_at d n w = and_then (first_of d n) (λ t. with_word (length d) t w)

-- the same with the bytes of every word of a text
abbrev pub text_at : List ℕ → ℕ → List ℕ → Option (List ℕ)
text_at d n s = and_then (first_of d n) (λ t. with_words (length d) t (words_of s))

-- how many bytes the front has
abbrev pub count_of : Option (List ℕ) → Option ℕ
count_of None = None
count_of (Some t) = Some (length t)

-- e is d with t at its front, n bytes at least and no more than d has
pub record Fronted (d : List ℕ) (n : ℕ) (t e : List ℕ) : Type 0 where
  pub makes : e ≡ splice d 0 t
  pub grows : n ≤ length t
  pub fits : length t ≤ length d

-- e is d with the front, where there is one; else nothing is said of it
abbrev pub HasFront : List ℕ → ℕ → Option (List ℕ) → List ℕ → Type 0
HasFront d n None e = Unit {0}
HasFront d n (Some t) e = Fronted d n t e

-- the answer r counts the front, and e is what the output d then holds
pub record Spells (d : List ℕ) (n : ℕ) (front : Option (List ℕ)) (r : Option ℕ) (e : List ℕ) : Type 0 where
  pub answers : r ≡ count_of front
  pub leaves : HasFront d n front e
