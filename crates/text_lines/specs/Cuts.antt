-- Parts of text: what stands before and behind a byte, words, and whether two texts are the same.
use mathlib.Core.{Bool.Bool, Bool.true, Bool.false, List.List, List.[], List.◌∷◌}
use Rattle.std.specs.Prelude.{ℕ, suc, eqb, length, ◌<◌}
use mathlib.Core.Path.{◌≡◌}
use Rattle.wire.specs.Bytes.{if}

-- all before the first b; the whole where there is none
unfoldable pub before_first : ℕ → List ℕ → List ℕ
before_first b [] = []
before_first b (x ∷ s) = if (eqb x b) [] (x ∷ before_first b s)

-- all behind the first b; nothing where there is none
unfoldable pub behind_first : ℕ → List ℕ → List ℕ
behind_first b [] = []
behind_first b (x ∷ s) = if (eqb x b) s (behind_first b s)

-- a part taken off the front of a text that is not empty: all before the first b, and what is left is all behind it
pub record TakesPart (b : ℕ) (s part left : List ℕ) : Type 0 where
  pub some : 0 < length s
  pub ahead : part ≡ before_first b s
  pub behind : left ≡ behind_first b s

-- the byte between two words
abbrev pub space : ℕ
space = 32

-- s without a space in front
unfoldable pub without_space : List ℕ → List ℕ
without_space [] = []
without_space (x ∷ s) = if (eqb x space) s (x ∷ s)

-- whether s and t have the same bytes in the same order
unfoldable pub same_bytes : List ℕ → List ℕ → Bool
same_bytes [] [] = true
same_bytes [] (y ∷ t) = false
same_bytes (x ∷ s) [] = false
same_bytes (x ∷ s) (y ∷ t) = if (eqb x y) (same_bytes s t) false

-- b put in front of the first word
abbrev pub onto : ℕ → List (List ℕ) → List (List ℕ)
onto b [] = (b ∷ []) ∷ []
onto b (w ∷ ws) = (b ∷ w) ∷ ws

-- the words of a text, each ended by a space or by the end of the text
unfoldable pub words_of : List ℕ → List (List ℕ)
words_of [] = []
words_of (x ∷ s) = if (eqb x space) ([] ∷ words_of s) (onto x (words_of s))

-- how many words stand ahead of the first that is w; all of them where none is
unfoldable pub ahead_of : List ℕ → List (List ℕ) → ℕ
ahead_of w [] = 0
ahead_of w (v ∷ vs) = if (same_bytes v w) 0 (suc (ahead_of w vs))

-- s behind none, one or two of its words, and never more than two
unfoldable pub behind_words : ℕ → List ℕ → List ℕ
behind_words n s = if (eqb n 0) s (if (eqb n 1) (behind_first space s) (behind_first space (behind_first space s)))
