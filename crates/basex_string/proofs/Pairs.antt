-- Pairs of an FF and what it escapes, one behind the other.
use mathlib.Core.Path.{◌≡◌, refl, ap, ◌∙◌}
use mathlib.Core.List.{List, [], ◌∷◌}
use mathlib.Core.Bool.{Bool, true, false}
use Prim.Native.Nat.{ℕ, zero, suc, ◌+◌, ◌*◌, ◌≤◌, ◌<◌}
use native.Mathlib.Omega.{arith}
use lib.Dec.{eqb}
use lib.ListN.{length, drop, get_or}
use lib.Seq.{drop-drop}
use borrow.Author.Tests.{eq-eqb, ne_eqb, eqb-true}
use Rattle.wire.specs.Bytes.{if}
use Rattle.basex_string.specs.Strings.{special}
use Rattle.basex_string.specs.Scan.{push, scan, reading}
use Rattle.basex_string.specs.inner.Runs.{pairs}
use Rattle.basex_string.specs.inner.Storing.{text_read}
use Rattle.basex_string.proofs.Steps.{here}
use Rattle.basex_string.proofs.Scans.{seen, seen_push, text-pair}

-- the text that is left behind n pairs from `from` on
abbrev pub behind : List ℕ → ℕ → ℕ → List ℕ
behind s from n = text_read (reading (drop (from + 2 * n) s))

pub behind-none : (s : List ℕ) (from : ℕ) → behind s from 0 ≡ text_read (reading (drop from s))
behind-none s from = let m : from + 2 * 0 ≡ from = omega arith in ap (λ (k : ℕ). text_read (reading (drop k s))) m

-- `put_pairs` goes on with the pair number n
pub behind-next : (s : List ℕ) (from n : ℕ) → 0 < length (behind s from n) → get_or s (from + 2 * n) 0 ≡ 255 → behind s from n ≡ get_or s (from + 2 * n + 1) 0 ∷ behind s from (n + 1)
behind-next s from n h f =
    let e : from + 2 * n + 2 ≡ from + 2 * (n + 1) = omega arith in
    text-pair s (from + 2 * n) h f ∙ ap (λ (k : ℕ). get_or s (from + 2 * n + 1) 0 ∷ text_read (reading (drop k s))) e

-- where it stopped is behind the first pair
pub behind-first : (s : List ℕ) (from n : ℕ) → get_or s from 0 ≡ 255 → (get_or s (from + 2 * n) 0 ≡ 255 → ⊥) → 0 < n
behind-first s from zero e f = let m : from + 2 * 0 ≡ from = omega arith in absurd (f (ap (λ (k : ℕ). get_or s k 0) m ∙ e))
behind-first s from (suc n) e f = omega arith

-- a pair at i
pub pairs-more : (s : List ℕ) (i : ℕ) → i + 1 < length s → get_or s i 0 ≡ 255 → special (get_or s (i + 1) 0) ≡ true → pairs (drop i s) ≡ 1 + pairs (drop (i + 2) s)
unfolding pairs
pairs-more s i h e g =
    let m : i + 1 + 1 ≡ i + 2 = omega arith in
    let two : drop (i + 1) s ≡ get_or s (i + 1) 0 ∷ drop (i + 2) s = here s (i + 1) h ∙ ap (λ (n : ℕ). get_or s (i + 1) 0 ∷ drop n s) m in
    ap pairs (here s i (omega arith) ∙ ap (λ (l : List ℕ). get_or s i 0 ∷ l) two) ∙ rw (eq-eqb (get_or s i 0) 255 e, g) (omega arith)

reading-two : (a b : ℕ) (l : List ℕ) → eqb a 255 ≡ true → special b ≡ true → reading (a ∷ b ∷ l) ≡ push b (reading l)
unfolding scan
reading-two a b l p q = let e = eqb-true a 255 p in rw (ne_eqb a 0 (λ (z : a ≡ 0). omega arith), p, q)

-- k pairs in front are k bytes of the string
pairs-read : (n len : ℕ) (l : List ℕ) (k : ℕ) → k ≤ pairs l → seen n len (reading l) ≡ seen n (len + k) (reading (drop (2 * k) l))
unfolding pairs scan
pairs-read n len l zero h = let e : len + 0 ≡ len = omega arith in rw e
pairs-read n len [] (suc k) h = absurd (omega arith)
pairs-read n len (a ∷ []) (suc k) h = absurd (omega arith)
pairs-read n len (a ∷ b ∷ l) (suc k) h = by (eqb a 255) refl (special b) refl h (pairs-read n (len + 1) l k)
  where
    by : (f : Bool) → eqb a 255 ≡ f → (t : Bool) → special b ≡ t → suc k ≤ if f (if t (suc (pairs l)) 0) 0
        → (k ≤ pairs l → seen n (len + 1) (reading l) ≡ seen n (len + 1 + k) (reading (drop (2 * k) l)))
        → seen n len (reading (a ∷ b ∷ l)) ≡ seen n (len + suc k) (reading (drop (2 * suc k) (a ∷ b ∷ l)))
    by false p t q h ih = absurd (omega arith)
    by true p false q h ih = absurd (omega arith)
    by true p true q h ih =
        let e : len + 1 + k ≡ len + suc k = omega arith in
        let m : 2 * suc k ≡ suc (suc (2 * k)) = omega arith in
        ap (seen n len) (reading-two a b l p q) ∙ seen_push n len b (reading l) ∙ ih (omega arith) ∙ rw (e, m)

-- so at a place
pub pairs_seen : (n len : ℕ) (s : List ℕ) (i k : ℕ) → k ≤ pairs (drop i s) → seen n len (reading (drop i s)) ≡ seen n (len + k) (reading (drop (i + 2 * k) s))
pairs_seen n len s i k h = pairs-read n len (drop i s) k h ∙ ap (λ (l : List ℕ). seen n (len + k) (reading l)) (drop-drop (2 * k) i s)
