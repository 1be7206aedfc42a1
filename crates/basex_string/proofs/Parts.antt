-- A text in parts: the string of the whole is that of a part, its 00 written over by the rest's.
use mathlib.Core.Path.{◌≡◌, refl, subst, sym, ap, ◌∙◌}
use mathlib.Core.List.{List, [], ◌∷◌, ◌++◌, append_assoc, append-nil}
use mathlib.Core.Bool.{Bool, true, false}
use Prim.Native.Nat.{ℕ, ◌+◌, ◌-◌, ◌≤◌, ◌<◌}
use native.Mathlib.Omega.{arith}
use lib.ListN.{length, take, drop, set, length-append, length-set, length-take, take-append-drop}
use lib.Seq.{take_at, drop_at, drop-drop, length-take-le}
use Rattle.wire.specs.Bytes.{if, splice}
use Rattle.wire.proofs.Splices.{Ahead, splice-splice, splice-sets, length-splice}
use Rattle.basex_string.specs.Strings.{special, string}
use Rattle.basex_string.proofs.Steps.{string-length, specials-split}

-- the bytes of a text as they stand in a string, without the 00
abbrev spelt : List ℕ → List ℕ
spelt [] = []
spelt (b ∷ s) = if (special b) (255 ∷ b ∷ spelt s) (b ∷ spelt s)

string-spelt : (x y : List ℕ) → string (x ++ y) ≡ spelt x ++ string y
unfolding string
string-spelt [] y = refl
string-spelt (b ∷ x) y = by (special b) (string-spelt x y)
  where
    by : (t : Bool) → string (x ++ y) ≡ spelt x ++ string y → if t (255 ∷ b ∷ string (x ++ y)) (b ∷ string (x ++ y)) ≡ if t (255 ∷ b ∷ spelt x) (b ∷ spelt x) ++ string y
    by true e = ap (λ (l : List ℕ). 255 ∷ b ∷ l) e
    by false e = ap (λ (l : List ℕ). b ∷ l) e

string_alone : (x : List ℕ) → string x ≡ spelt x ++ 0 ∷ []
unfolding string
string_alone x = ap string (sym (append-nil x)) ∙ string-spelt x []

-- a write, and a longer one to the same place
over-same : (d : List ℕ) (k : ℕ) (a b : List ℕ) → length a ≤ length b → k + length b ≤ length d → splice (splice d k a) k b ≡ splice d k b
unfolding splice
over-same d k a b h f =
    let p : List ℕ = take k d ++ a in
    let l : length (take k d) ≡ k = length-take-le k d (omega arith) in
    let e : length p ≡ k + length a = length-append (take k d) a ∙ ap (λ (n : ℕ). n + length a) l in
    let m : k + length a + (length b - length a) ≡ k + length b = omega arith in
    ap (λ (x : List ℕ). x ++ b ++ drop (k + length b) (p ++ drop (k + length a) d))
    (ap (take k) (append_assoc (take k d) a (drop (k + length a) d)) ∙ take_at (take k d) (a ++ drop (k + length a) d) k l)
    ∙ ap (λ (x : List ℕ). take k d ++ b ++ x)
    (ap (λ (n : ℕ). drop n (p ++ drop (k + length a) d)) (sym m) ∙ sym (drop-drop (length b - length a) (k + length a) (p ++ drop (k + length a) d)) ∙ ap (drop (length b - length a))
    (drop_at p (drop (k + length a) d) (k + length a) e) ∙ drop-drop (length b - length a) (k + length a) d ∙ ap (λ (n : ℕ). drop n d) m)

-- a byte is stored where more is ahead
pub ahead-set : {t d text : List ℕ} {at : ℕ} (x : ℕ) → Ahead t d at text → 0 < length text → Ahead t (set d at x) at text
ahead-set {t} {d} {text} {at} x a h =
    let f = a.fits in
    record {
      makes = ap (λ (l : List ℕ). splice l at text) (splice-sets d at (x ∷ []) (omega arith)) ∙ over-same d at (x ∷ []) text h (omega arith) ∙ a.makes;
      fits = simp length-set f;
    }

pub string-part : (m : ℕ) (s : List ℕ) → length (string (take m s)) ≤ length (string s)
string-part m s =
    let a = string-length s in
    let b = string-length (take m s) in
    let c = specials-split m s in
    let l = length-take m s in
    omega arith

-- x and a 00 were written, and y is ahead from the 00 on
ahead-end : {t d e : List ℕ} {to : ℕ} (x y : List ℕ) (r : ℕ) → Ahead t d to (x ++ y) → 1 ≤ length y → e ≡ splice d to (x ++ 0 ∷ []) → r ≡ to + length x → Ahead t e r y
ahead-end {t} {d} {e} {to} x y r a h p q =
    let l = length-append x y in
    let f = a.fits in
    let z = length-append x (0 ∷ []) in
    let n : length e ≡ length d = ap length p ∙ length-splice d to (x ++ 0 ∷ []) (omega arith) in
    let b : length (splice d to x) ≡ length d = length-splice d to x (omega arith) in
    let k : ℕ = to + length x in
    record {
      makes =
          ap (λ (m : List ℕ). splice m r y) p ∙ ap (λ (m : ℕ). splice (splice d to (x ++ 0 ∷ [])) m y) q
          ∙ ap (λ (m : List ℕ). splice m k y) (sym (splice-splice d to x (0 ∷ []) (omega arith)))
          ∙ over-same (splice d to x) k (0 ∷ []) y h (omega arith) ∙ splice-splice d to x y (omega arith) ∙ a.makes;
      fits = omega arith;
    }

-- the part from i to `end` was written, and its 00 at r
pub ahead-part : {t d e : List ℕ} {to : ℕ} (s : List ℕ) (i end r : ℕ) → i ≤ end → Ahead t d to (string (drop i s)) → e ≡ splice d to (string (take (end - i) (drop i s)))
    → r + 1 ≡ to + length (string (take (end - i) (drop i s))) → Ahead t e r (string (drop end s))
ahead-part {t} {d} {e} {to} s i end r h a p q =
    let x = take (end - i) (drop i s) in
    let y = string (drop end s) in
    let j : i + (end - i) ≡ end = omega arith in
    let w : string (drop i s) ≡ spelt x ++ y =
    ap string (sym (take-append-drop (end - i) (drop i s)))
    ∙ string-spelt x (drop (end - i) (drop i s)) ∙ ap (λ (l : List ℕ). spelt x ++ string l) (drop-drop (end - i) i s ∙ ap (λ (n : ℕ). drop n s) j) in
    let z = string_alone x in
    let l = ap length z ∙ length-append (spelt x) (0 ∷ []) in
    let n = string-length (drop end s) in
    ahead-end (spelt x) y r (subst (Ahead t d to) w a) (omega arith) (p ∙ ap (splice d to) z) (omega arith)
