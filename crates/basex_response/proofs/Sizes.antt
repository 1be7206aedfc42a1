-- How much room texts take, and where what stands behind them starts.
use Rattle.std.specs.Prelude.{Ok, Err}
use mathlib.Core.Path.{◌≡◌, refl, sym, ap, ◌∙◌}
use mathlib.Core.List.{List, [], ◌∷◌, ◌++◌, flatten, append_assoc, flat_map}
use Prim.Native.Nat.{ℕ, ◌+◌, ◌-◌, ◌≤◌, min}
use native.Mathlib.Omega.{arith}
use lib.ListN.{length, drop, length-append, length-drop}
use lib.Seq.{drop-drop, drop-append_seam}
use Rattle.wire.specs.Fields.{Got}
use Rattle.wire.specs.declared.Refusal.{Refusal}
use Rattle.basex_string.proofs.Handed.{ok-same}
use Rattle.basex_string.specs.Strings.{string}
use Rattle.basex.specs.declared.TwoAt.{TwoAt}
use Rattle.basex_string.proofs.Steps.{string-length}
use Rattle.basex.specs.Texts.{strings, texts, two_at, length_at}
use Rattle.basex.proofs.Texts.{texts_exact}

pub flatten-append : (ts us : List (List ℕ)) → flatten (ts ++ us) ≡ flatten ts ++ flatten us
unfolding flatten
flatten-append [] us = refl
flatten-append (t ∷ ts) us = ap (λ (m : List ℕ). t ++ m) (flatten-append ts us) ∙ sym (append_assoc t (flatten ts) (flatten us))

-- a text is shorter than its string
pub texts_shorter : (ts : List (List ℕ)) → length (flatten ts) + length ts ≤ length (strings ts)
unfolding flatten flat_map
texts_shorter [] = omega arith
texts_shorter (t ∷ ts) =
    let i = texts_shorter ts in
    let n = string-length t in
    omega (arith, length-append t (flatten ts), length-append (string t) (strings ts))

-- up to two texts, and up to one
pub two-lengths : (ts : List (List ℕ)) → length ts ≤ 2 → length_at ts 0 + length_at ts 1 ≡ length (flatten ts)
unfolding flatten
two-lengths [] h = refl
two-lengths (t ∷ []) h = omega (arith, length-append t [])
two-lengths (t ∷ u ∷ []) h = omega (arith, length-append t (u ++ []), length-append u [])
two-lengths (t ∷ u ∷ v ∷ ts) h = absurd (omega arith)

pub one-length : (ts : List (List ℕ)) → length ts ≤ 1 → length_at ts 0 ≡ length (flatten ts)
unfolding flatten
one-length [] h = refl
one-length (t ∷ []) h = omega (arith, length-append t [])
one-length (t ∷ u ∷ ts) h = absurd (omega arith)

-- bytes that stand at `at`, and what is behind them
module _ (b : List ℕ) (at : ℕ) (bytes rest : List ℕ) (e : drop at b ≡ bytes ++ rest) where
  pub all_of : length bytes + length rest ≡ length b - at
  all_of = sym (length-append bytes rest) ∙ ap length (sym e) ∙ length-drop at b

  pub behind-at : at + (length b - at - length rest) ≡ at + length bytes
  behind-at = let l = all_of in omega arith

  pub behind-is : drop (at + length bytes) b ≡ rest
  behind-is = sym (drop-drop (length bytes) at b) ∙ ap (drop (length bytes)) e ∙ drop-append_seam bytes rest

-- up to two strings stand at `at`: their texts, and where what is behind them starts
pub record Two (b : List ℕ) (at n : ℕ) (found : TwoAt) : Type 0 where
  pub ts : List (List ℕ)
  pub rest : List ℕ
  pub got : texts n (drop at b) ≡ Got.got ts rest
  pub one : found.first ≡ length_at ts 0
  pub two : found.second ≡ length_at ts 1
  pub ends : found.next ≡ at + length (strings ts)
  pub behind : drop found.next b ≡ rest
  pub whole : length (strings ts) + length rest ≡ length b - at

module _ (b : List ℕ) (at n : ℕ) (h : n ≤ 2) where
  pub two_here : (found : TwoAt) → two_at at (length b - at) (texts (min n 2) (drop at b)) ≡ Ok found → Two b at n found
  two_here found e = by (texts n (drop at b)) refl (ap (λ (m : ℕ). two_at at (length b - at) (texts m (drop at b))) (let m : n ≡ min n 2 = omega arith in m) ∙ e)
    where
      by : (x : Got (List (List ℕ))) → texts n (drop at b) ≡ x → two_at at (length b - at) x ≡ Ok found → Two b at n found
      by (Got.refused r) p q = let z : ◌≡◌ {A = ℕ} 0 1 = cc in absurd (omega arith)
      by (Got.got ts rest) p q =
          let x = (texts_exact n (drop at b) ts rest p).1 in
          let y = sym (ok-same q) in
          let l : found.next ≡ at + (length b - at - length rest) = ap (λ (t : TwoAt). t.next) y in
          let k = l ∙ behind-at b at (strings ts) rest x in
          record {
            ts = ts;
            rest = rest;
            got = p;
            one = ap (λ (t : TwoAt). t.first) y;
            two = ap (λ (t : TwoAt). t.second) y;
            ends = k;
            behind = ap (λ (m : ℕ). drop m b) k ∙ behind-is b at (strings ts) rest x;
            whole = all_of b at (strings ts) rest x;
          }

  pub two_not : (r : Refusal) → two_at at (length b - at) (texts (min n 2) (drop at b)) ≡ Err r → texts n (drop at b) ≡ Got.refused r
  two_not r e = by (texts n (drop at b)) (ap (λ (m : ℕ). two_at at (length b - at) (texts m (drop at b))) (let m : n ≡ min n 2 = omega arith in m) ∙ e)
    where
      by : (x : Got (List (List ℕ))) → two_at at (length b - at) x ≡ Err r → x ≡ Got.refused r
      by (Got.refused q) p = let z : q ≡ r = cc in ap Got.refused z
      by (Got.got ts rest) p = let z : ◌≡◌ {A = ℕ} 0 1 = cc in absurd (omega arith)
