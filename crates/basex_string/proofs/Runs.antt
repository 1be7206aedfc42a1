-- Runs of plain bytes: how they are found, and what the definitions make of them.
use Rattle.basex_string.specs.Answers.{string_there}
use mathlib.Core.Path.{◌≡◌, refl, subst, sym, ap, ◌∙◌}
use mathlib.Core.List.{List, [], ◌∷◌, ◌++◌}
use mathlib.Core.Bool.{Bool, true, false}
use Prim.Native.Nat.{ℕ, zero, suc, ◌+◌, ◌-◌, ◌≤◌, ◌<◌}
use native.Mathlib.Omega.{arith}
use lib.Dec.{leb, eqb}
use lib.ListN.{length, take, drop, get_or, length-append, length-drop, drop_of_length-le}
use lib.Seq.{drop-drop, length-take-le}
use Rattle.std.proofs.lemmas.List.{get_or-take}
use borrow.Author.Tests.{le-leb, lt-leb, leb-true, leb-false, ne_eqb}
use Rattle.wire.specs.Bytes.{if}
use Rattle.basex_string.specs.Strings.{special, string}
use Rattle.wire.specs.Fields.{Got}
use Rattle.basex_string.specs.Scan.{push, scan, reading}
use Rattle.basex_string.specs.inner.Runs.{run}
use Rattle.basex_string.specs.inner.Storing.{text_read}
use Rattle.basex_string.proofs.Steps.{here}
use Rattle.basex_string.proofs.Scans.{seen}

-- a special byte ends the run, a plain one goes on with it
run_past : (l : List ℕ) (i : ℕ) → special (get_or l i 0) ≡ true → run l ≤ i
unfolding run
run_past [] i e = omega arith
run_past (b ∷ l) zero e = rw e (omega arith)
run_past (b ∷ l) (suc i) e = by (special b) (run_past l i e)
  where
    by : (t : Bool) → run l ≤ i → if t 0 (suc (run l)) ≤ suc i
    by true h = omega arith
    by false h = omega arith

run_on : (l : List ℕ) (i : ℕ) → i < length l → special (get_or l i 0) ≡ false → i ≤ run l → i < run l
unfolding run
run_on [] i h e k = absurd (omega arith)
run_on (b ∷ l) zero h e k = rw e (omega arith)
run_on (b ∷ l) (suc i) h e k = by (special b) (run_on l i (omega arith) e) k
  where
    by : (t : Bool) → (i ≤ run l → i < run l) → suc i ≤ if t 0 (suc (run l)) → suc i < if t 0 (suc (run l))
    by true f k = absurd (omega arith)
    by false f k = let z = f (omega arith) in omega arith

run-further : (l : List ℕ) (m : ℕ) → m ≤ run l → run l ≡ m + run (drop m l)
unfolding run
run-further l zero h = omega arith
run-further [] (suc m) h = absurd (omega arith)
run-further (b ∷ l) (suc m) h = by (special b) (run-further l m) h
  where
    by : (t : Bool) → (m ≤ run l → run l ≡ m + run (drop m l)) → suc m ≤ if t 0 (suc (run l)) → if t 0 (suc (run l)) ≡ suc m + run (drop m l)
    by true f h = absurd (omega arith)
    by false f h = let z = f (omega arith) in omega arith

pub run-within : (l : List ℕ) → run l ≤ length l
unfolding run
run-within [] = omega arith
run-within (b ∷ l) = by (special b) (run-within l)
  where
    by : (t : Bool) → run l ≤ length l → if t 0 (suc (run l)) ≤ suc (length l)
    by true h = omega arith
    by false h = omega arith

-- no more of it stands in the first m bytes
pub run-taken : (m : ℕ) (l : List ℕ) → run (take m l) ≤ run l
unfolding run
run-taken zero l = omega arith
run-taken (suc m) [] = omega arith
run-taken (suc m) (b ∷ l) = by (special b) (run-taken m l)
  where
    by : (t : Bool) → run (take m l) ≤ run l → if t 0 (suc (run (take m l))) ≤ if t 0 (suc (run l))
    by true h = omega arith
    by false h = omega arith

-- finding it: `plain_block` looks at byte i of the sixteen in front of l
module _ (l : List ℕ) (i : ℕ) (p : Bool) (few : i < 16) (h : i < length l) (e : p ≡ leb i (run l)) where
  pub block_special : special (get_or (take 16 l) i 0) ≡ true → false ≡ leb (i + 1) (run l)
  block_special g =
      let z = run_past l i (ap special (sym (get_or-take 16 l i 0 few)) ∙ g) in
      sym (lt-leb (i + 1) (run l) (omega arith))

  pub block_plain : special (get_or (take 16 l) i 0) ≡ false → p ≡ leb (i + 1) (run l)
  block_plain g = by (leb i (run l)) refl
    where
      by : (t : Bool) → leb i (run l) ≡ t → p ≡ leb (i + 1) (run l)
      by true q =
          let z = run_on l i h (ap special (sym (get_or-take 16 l i 0 few)) ∙ g) (leb-true _ _ q) in
          e ∙ q ∙ sym (le-leb (i + 1) (run l) (omega arith))
      by false q =
          let z = leb-false i (run l) q in
          e ∙ q ∙ sym (lt-leb (i + 1) (run l) (omega arith))

pub block_none : (n : ℕ) → true ≡ leb 0 n
block_none n = sym (le-leb 0 n (omega arith))

-- `run_end` goes on from where the blocks end
pub run-start : (s : List ℕ) (from at : ℕ) → from ≤ at → at ≤ from + run (drop from s) → from + run (drop from s) ≡ at + run (drop at s)
run-start s from at h k =
    let e : from + (at - from) ≡ at = omega arith in
    let f = run-further (drop from s) (at - from) (omega arith) in
    let g : drop (at - from) (drop from s) ≡ drop at s = drop-drop (at - from) from s ∙ ap (λ (n : ℕ). drop n s) e in
    let l = ap run g in
    omega arith

-- `skip_blocks` is at `at`, and m more bytes are plain
pub skip_next : (s : List ℕ) (from at m : ℕ) → from ≤ at → at ≤ from + run (drop from s) → m ≤ run (drop at s) → at + m ≤ from + run (drop from s)
skip_next s from at m h k q = omega (arith, run-start s from at h k)

pub run_none : (s : List ℕ) (i : ℕ) → length s ≤ i → run (drop i s) ≡ 0
unfolding run
run_none s i h = ap run (drop_of_length-le s h)

module _ (s : List ℕ) (i : ℕ) (h : i < length s) where
  pub run-special : special (get_or s i 0) ≡ true → run (drop i s) ≡ 0
  unfolding run
  run-special e = ap run (here s i h) ∙ rw e

  pub run-plain : special (get_or s i 0) ≡ false → run (drop i s) ≡ suc (run (drop (i + 1) s))
  unfolding run
  run-plain e = ap run (here s i h) ∙ rw e

  pub run_goes : (get_or s i 0 ≡ 0 → ⊥) → (get_or s i 0 ≡ 255 → ⊥) → 0 < run (drop i s)
  run_goes z f = let e = run-plain (rw (ne_eqb (get_or s i 0) 0 z, ne_eqb (get_or s i 0) 255 f)) in omega arith

-- what the definitions make of m plain bytes in front
string-run : (m : ℕ) (l : List ℕ) → m ≤ run l → string l ≡ take m l ++ string (drop m l)
unfolding run string
string-run zero l h = refl
string-run (suc m) [] h = absurd (omega arith)
string-run (suc m) (b ∷ l) h = by (special b) (string-run m l) h
  where
    by : (t : Bool) → (m ≤ run l → string l ≡ take m l ++ string (drop m l)) → suc m ≤ if t 0 (suc (run l))
        → if t (255 ∷ b ∷ string l) (b ∷ string l) ≡ b ∷ (take m l ++ string (drop m l))
    by true f h = absurd (omega arith)
    by false f h = ap (λ (x : List ℕ). b ∷ x) (f (omega arith))

-- a run read in front of what follows
abbrev pushes : List ℕ → Got (List ℕ) → Got (List ℕ)
pushes r (Got.refused q) = Got.refused q
pushes r (Got.got s rest) = Got.got (r ++ s) rest

pushes_none : (x : Got (List ℕ)) → x ≡ pushes [] x
pushes_none (Got.refused q) = refl
pushes_none (Got.got s rest) = refl

push_pushes : (b : ℕ) (r : List ℕ) (x : Got (List ℕ)) → push b (pushes r x) ≡ pushes (b ∷ r) x
push_pushes b r (Got.refused q) = refl
push_pushes b r (Got.got s rest) = refl

reading-plain : (b : ℕ) (l : List ℕ) → special b ≡ false → reading (b ∷ l) ≡ push b (reading l)
unfolding scan
reading-plain b l = by (eqb b 0) refl (eqb b 255) refl
  where
    by : (z : Bool) → eqb b 0 ≡ z → (f : Bool) → eqb b 255 ≡ f → special b ≡ false → reading (b ∷ l) ≡ push b (reading l)
    by true p f q e = let w : true ≡ false = rw p at e in cc
    by false p true q e = let w : true ≡ false = rw (p, q) at e in cc
    by false p false q e = rw (p, q)

reading-run : (m : ℕ) (l : List ℕ) → m ≤ run l → reading l ≡ pushes (take m l) (reading (drop m l))
unfolding run scan
reading-run zero l h = pushes_none (reading l)
reading-run (suc m) [] h = absurd (omega arith)
reading-run (suc m) (b ∷ l) h = by (special b) refl (reading-run m l) h
  where
    by : (t : Bool) → special b ≡ t → (m ≤ run l → reading l ≡ pushes (take m l) (reading (drop m l))) → suc m ≤ if t 0 (suc (run l))
        → reading (b ∷ l) ≡ pushes (b ∷ take m l) (reading (drop m l))
    by true e f h = absurd (omega arith)
    by false e f h = reading-plain b l e ∙ ap (push b) (f (omega arith)) ∙ push_pushes b (take m l) (reading (drop m l))

seen_pushes : (n len : ℕ) (r : List ℕ) (x : Got (List ℕ)) → seen n len (pushes r x) ≡ seen n (len + length r) x
seen_pushes n len r (Got.refused q) = refl
seen_pushes n len r (Got.got s rest) =
    let l = length-append r s in
    let e : len + length (r ++ s) ≡ len + length r + length s = omega arith in
    ap (λ (m : ℕ). string_there m (n - length rest)) e

text_pushes : (r : List ℕ) (x : Got (List ℕ)) → 0 < length (text_read (pushes r x)) → text_read (pushes r x) ≡ r ++ text_read x
text_pushes r (Got.refused q) h = absurd (omega arith)
text_pushes r (Got.got s rest) h = refl

-- plain bytes from i to `end`
module _ (s : List ℕ) (i end : ℕ) (h : i ≤ end) (k : end ≤ i + run (drop i s)) where
  rest : drop (end - i) (drop i s) ≡ drop end s
  rest = let e : i + (end - i) ≡ end = omega arith in drop-drop (end - i) i s ∙ ap (λ (n : ℕ). drop n s) e

  pub run_fits : i ≤ length s → end ≤ length s
  run_fits f = let w = run-within (drop i s) in let l = length-drop i s in omega arith

  pub run-size : i ≤ length s → length (take (end - i) (drop i s)) ≡ end - i
  run-size f = let w = run-within (drop i s) in length-take-le (end - i) (drop i s) (omega arith)

  pub run-string : string (drop i s) ≡ take (end - i) (drop i s) ++ string (drop end s)
  run-string = string-run (end - i) (drop i s) (omega arith) ∙ ap (λ (m : List ℕ). take (end - i) (drop i s) ++ string m) rest

  pub run-string-size : i ≤ length s → length (string (drop i s)) ≡ (end - i) + length (string (drop end s))
  run-string-size f = ap length run-string ∙ length-append (take (end - i) (drop i s)) (string (drop end s)) ∙ ap (λ (n : ℕ). n + length (string (drop end s))) (run-size f)

  run-reading : reading (drop i s) ≡ pushes (take (end - i) (drop i s)) (reading (drop end s))
  run-reading = reading-run (end - i) (drop i s) (omega arith) ∙ ap (λ (m : List ℕ). pushes (take (end - i) (drop i s)) (reading m)) rest

  pub run_seen : (n len : ℕ) → i ≤ length s → seen n len (reading (drop i s)) ≡ seen n (len + (end - i)) (reading (drop end s))
  run_seen n len f = ap (seen n len) run-reading ∙ seen_pushes n len (take (end - i) (drop i s)) (reading (drop end s)) ∙ ap (λ (m : ℕ). seen n (len + m) (reading (drop end s))) (run-size f)

  pub run-text : 0 < length (text_read (reading (drop i s))) → text_read (reading (drop i s)) ≡ take (end - i) (drop i s) ++ text_read (reading (drop end s))
  run-text t = ap text_read run-reading ∙ text_pushes (take (end - i) (drop i s)) (reading (drop end s)) (subst (λ (x : Got (List ℕ)). 0 < length (text_read x)) run-reading t)

  pub run-text-size : i ≤ length s → 0 < length (text_read (reading (drop i s))) → length (text_read (reading (drop i s))) ≡ (end - i) + length (text_read (reading (drop end s)))
  run-text-size f t = ap length (run-text t) ∙ length-append (take (end - i) (drop i s)) (text_read (reading (drop end s))) ∙ ap (λ (n : ℕ). n + length (text_read (reading (drop end s)))) (run-size f)
