-- One byte of a text: what it adds to the string, and the stores that write it.
use mathlib.Core.Path.{◌≡◌, refl, subst, sym, ap, ◌∙◌}
use mathlib.Core.List.{List, [], ◌∷◌, ◌++◌}
use mathlib.Core.Bool.{Bool, true, false}
use Prim.Native.Nat.{ℕ, zero, suc, ◌+◌, ◌-◌, ◌≤◌, ◌<◌}
use native.Mathlib.Numerals.{add-one}
use native.Mathlib.Omega.{arith}
use lib.ListN.{length, take, drop, get_or, set, drop_of_length-le}
use lib.Seq.{drop-cons, drop-drop, set-set}
use Rattle.wire.specs.Bytes.{if, splice}
use Rattle.wire.specs.Call.{put_at}
use Rattle.wire.proofs.Splices.{Ahead, start, step, splice-none, splice-sets, put_at-fits}
use Rattle.basex_string.specs.Strings.{special, string}
use Rattle.basex_string.specs.inner.Runs.{specials}

pub here : (s : List ℕ) (i : ℕ) → i < length s → drop i s ≡ get_or s i 0 ∷ drop (i + 1) s
here s i h = drop-cons s i 0 h ∙ ap (λ (n : ℕ). get_or s i 0 ∷ drop n s) (sym (add-one i))

-- how many bytes a string has: "FF before each 00 and FF, then 00"
pub string-length : (s : List ℕ) → length (string s) ≡ length s + specials s + 1
unfolding string specials
string-length [] = refl
string-length (b ∷ s) = by (special b) (string-length s)
  where
    by : (t : Bool) → length (string s) ≡ length s + specials s + 1 → length (if t (255 ∷ b ∷ string s) (b ∷ string s)) ≡ length (b ∷ s) + if t (suc (specials s)) (specials s) + 1
    by true e = omega arith
    by false e = omega arith

pub specials-split : (m : ℕ) (s : List ℕ) → specials s ≡ specials (take m s) + specials (drop m s)
unfolding specials
specials-split zero s = omega arith
specials-split (suc m) [] = refl
specials-split (suc m) (b ∷ s) = by (special b) (specials-split m s)
  where
    by : (t : Bool) → specials s ≡ specials (take m s) + specials (drop m s)
        → if t (suc (specials s)) (specials s) ≡ if t (suc (specials (take m s))) (specials (take m s)) + specials (drop m s)
    by true e = omega arith
    by false e = e

pub specials-within : (s : List ℕ) → specials s ≤ length s
unfolding specials
specials-within [] = omega arith
specials-within (b ∷ s) = by (special b) (specials-within s)
  where
    by : (t : Bool) → specials s ≤ length s → if t (suc (specials s)) (specials s) ≤ suc (length s)
    by true h = omega arith
    by false h = omega arith

-- the special bytes from i on, those up to `end` first
pub specials-next : (s : List ℕ) (i end : ℕ) → i ≤ end → specials (drop i s) ≡ specials (take (end - i) (drop i s)) + specials (drop end s)
specials-next s i end h =
    let e : i + (end - i) ≡ end = omega arith in
    specials-split (end - i) (drop i s) ∙ ap (λ (l : List ℕ). specials (take (end - i) (drop i s)) + specials l) (drop-drop (end - i) i s ∙ ap (λ (n : ℕ). drop n s) e)

-- a text with no special byte, and the 00
string-plain-all : (s : List ℕ) → specials s ≡ 0 → string s ≡ s ++ 0 ∷ []
unfolding string specials
string-plain-all [] e = refl
string-plain-all (b ∷ s) e = by (special b) (string-plain-all s) e
  where
    by : (t : Bool) → (specials s ≡ 0 → string s ≡ s ++ 0 ∷ []) → if t (suc (specials s)) (specials s) ≡ 0 → if t (255 ∷ b ∷ string s) (b ∷ string s) ≡ b ∷ (s ++ 0 ∷ [])
    by true f e = absurd (omega arith)
    by false f e = ap (λ (l : List ℕ). b ∷ l) (f e)

pub string_clean : (s : List ℕ) → length (string s) ≡ length s + 1 → string s ≡ s ++ 0 ∷ []
string_clean s e = let n = string-length s in string-plain-all s (omega arith)

pub specials-end : (s : List ℕ) (i : ℕ) → length s ≤ i → specials (drop i s) ≡ 0
unfolding specials
specials-end s i h = ap specials (drop_of_length-le s h)

pub string-end : (s : List ℕ) (i : ℕ) → length s ≤ i → string (drop i s) ≡ 0 ∷ []
unfolding string
string-end s i h = ap string (drop_of_length-le s h)

module _ (s : List ℕ) (i : ℕ) (h : i < length s) where
  pub specials-special : special (get_or s i 0) ≡ true → specials (drop i s) ≡ specials (drop (i + 1) s) + 1
  unfolding specials
  specials-special e = ap specials (here s i h) ∙ rw e (omega arith)

  pub specials-plain : special (get_or s i 0) ≡ false → specials (drop i s) ≡ specials (drop (i + 1) s)
  unfolding specials
  specials-plain e = ap specials (here s i h) ∙ rw e

  pub string-special : special (get_or s i 0) ≡ true → string (drop i s) ≡ 255 ∷ get_or s i 0 ∷ string (drop (i + 1) s)
  unfolding string
  string-special e = ap string (here s i h) ∙ rw e

  pub string-plain : special (get_or s i 0) ≡ false → string (drop i s) ≡ get_or s i 0 ∷ string (drop (i + 1) s)
  unfolding string
  string-plain e = ap string (here s i h) ∙ rw e

pub put_one : (d : List ℕ) (at x : ℕ) → at + 1 ≤ length d → set d at x ≡ put_at d at (x ∷ [])
put_one d at x h = splice-sets d at (x ∷ []) h ∙ sym (put_at-fits d at (x ∷ []) h)

put_two : (d : List ℕ) (at x y : ℕ) → at + 2 ≤ length d → set (set d at x) (at + 1) y ≡ put_at d at (x ∷ y ∷ [])
put_two d at x y h = ap (λ (n : ℕ). set (set d at x) n y) (add-one at) ∙ splice-sets d at (x ∷ y ∷ []) h ∙ sym (put_at-fits d at (x ∷ y ∷ []) h)

-- the loop of `store_few`: an FF is stored, and then the byte behind it or in its place
pub ahead-pair : {t d : List ℕ} {to b : ℕ} {text rest : List ℕ} (k : ℕ) → text ≡ 255 ∷ b ∷ rest → Ahead t d to text → k ≡ to + 1 → Ahead t (set (set d to 255) k b) (k + 1) rest
ahead-pair {t} {d} {to} {b} {text} {rest} k e a q =
    let f : Ahead t d to ((255 ∷ b ∷ []) ++ rest) = subst (Ahead t d to) e a in
    step (255 ∷ b ∷ []) (k + 1) f (ap (λ (n : ℕ). set (set d to 255) n b) q ∙ put_two d to 255 b (omega arith)) (omega arith)

pub ahead-over : {t d : List ℕ} {to b : ℕ} {text rest : List ℕ} (k : ℕ) → text ≡ b ∷ rest → Ahead t d to text → k ≡ to → Ahead t (set (set d to 255) k b) (k + 1) rest
ahead-over {t} {d} {to} {b} {text} {rest} k e a q =
    let f : Ahead t d to ((b ∷ []) ++ rest) = subst (Ahead t d to) e a in
    step (b ∷ []) (k + 1) f (ap (λ (n : ℕ). set (set d to 255) n b) q ∙ set-set d to 255 b ∙ put_one d to b (omega arith)) (omega arith)

-- the loop of `store_text`: n bytes stand from `to` on, and `rest` is ahead
pub ahead-from : (d : List ℕ) (to : ℕ) (s : List ℕ) → to + length s ≤ length d → Ahead (splice d to s) d (to + 0) s
ahead-from d to s h = let e : to + 0 ≡ to = omega arith in rw e (start d to s h)

pub ahead-one : {t d : List ℕ} (to n : ℕ) {x : ℕ} {text rest : List ℕ} → text ≡ x ∷ rest → Ahead t d (to + n) text → Ahead t (set d (to + n) x) (to + (n + 1)) rest
ahead-one {t} {d} to n {x} {text} {rest} e a =
    let b : Ahead t d (to + n) ((x ∷ []) ++ rest) = subst (Ahead t d (to + n)) e a in
    step (x ∷ []) (to + (n + 1)) b (put_one d (to + n) x (omega arith)) (omega arith)

pub ahead_none : {t d : List ℕ} {at : ℕ} {rest : List ℕ} → Ahead t d at rest → length rest ≡ 0 → d ≡ t
ahead_none {rest = []} a e = sym (splice-none _ _) ∙ a.makes
ahead_none {rest = x ∷ rest} a e = absurd (omega arith)

-- a run of what is ahead was written, up to k
pub ahead-run : {t d e text rest : List ℕ} {at : ℕ} (r : List ℕ) → text ≡ r ++ rest → (k : ℕ) → Ahead t d at text → e ≡ put_at d at r → k ≡ at + length r → Ahead t e k rest
ahead-run {t} {d} {e} {text} {rest} {at} r q k a p z = step r k (subst (Ahead t d at) q a) p z

-- what is ahead now makes of the output what was ahead made of it
pub ahead-on : {t d e text rest : List ℕ} {at j k : ℕ} → Ahead t d at text → splice e j rest ≡ splice d at text → k ≡ j → k + length rest ≤ length e → Ahead t e k rest
ahead-on {e = e} {rest = rest} a p q f = record { makes = ap (λ (m : ℕ). splice e m rest) q ∙ p ∙ a.makes; fits = f }
