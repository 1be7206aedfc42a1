-- Laws of `over` and `placed`: what a write, and a run of writes, leaves.
use mathlib.Core.Path.{◌≡◌, refl, sym, ap, ◌∙◌}
use mathlib.Core.List.{List, [], ◌∷◌, ◌++◌, append_assoc}
use Prim.Native.Nat.{ℕ, ◌+◌, ◌-◌, ◌≤◌, ◌<◌}
use native.Mathlib.Omega.{arith}
use lib.ListN.{length, take, drop, length-append, length-drop, take-append-drop}
use lib.Seq.{sets, sets-eq, length-sets, length-take-le, take_at, take-add, take-append_seam, drop_at, drop-drop}
use borrow.Author.Tests.{lt-ltb, le-ltb}
use borrow.Rule.Slice.PartMut.{put_mid}
use Rattle.wire.specs.Bytes.{splice}
use Rattle.std.specs.Prelude.{Result, Ok, Err}
use Rattle.wire.specs.declared.Refusal.{Refusal}
use Rattle.wire.specs.Call.{put_at, in_room, output_after}

pub splice-sets : (d : List ℕ) (at : ℕ) (s : List ℕ) → at + length s ≤ length d → sets d at s ≡ splice d at s
unfolding splice
splice-sets d at s h = sets-eq s d at h

-- a write to a part of a slice is a splice
pub put_mid-splice : (d : List ℕ) (at : ℕ) (s : List ℕ) → put_mid at (length s) d s ≡ splice d at s
unfolding splice
put_mid-splice d at s = rw (drop-drop (length s) at d) (sym (append_assoc (take at d) s (drop (at + length s) d)))

pub length-splice : (d : List ℕ) (at : ℕ) (s : List ℕ) → at + length s ≤ length d → length (splice d at s) ≡ length d
length-splice d at s h = ap length (sym (splice-sets d at s h)) ∙ length-sets d at s

-- a write, and one right after it, are one write of both
pub splice-splice : (d : List ℕ) (at : ℕ) (a b : List ℕ) → at + length a + length b ≤ length d → splice (splice d at a) (at + length a) b ≡ splice d at (a ++ b)
unfolding splice
splice-splice d at a b h =
    let n : ℕ = at + length a in
    let p : List ℕ = take at d ++ a in
    let e : length p ≡ n = length-append (take at d) a ∙ ap (λ (k : ℕ). k + length a) (length-take-le at d (omega arith)) in
    let m : at + length a + length b ≡ at + length (a ++ b) = omega (arith, length-append a b) in
    ap (λ (l : List ℕ). l ++ b ++ drop (n + length b) (p ++ drop n d)) (take_at p (drop n d) n e)
    ∙ ap (λ (l : List ℕ). p ++ b ++ l) (sym (drop-drop (length b) n (p ++ drop n d)) ∙ ap (drop (length b)) (drop_at p (drop n d) n e) ∙ drop-drop (length b) n d)
    ∙ ap (λ (l : List ℕ). l ++ drop (n + length b) d) (append_assoc (take at d) a b)
    ∙ ap (λ (k : ℕ). take at d ++ (a ++ b) ++ drop k d) m

append-none : (l : List ℕ) → l ++ [] ≡ l
append-none [] = refl
append-none (x ∷ l) = ap (λ (m : List ℕ). x ∷ m) (append-none l)

-- a write of nothing
pub splice-none : (d : List ℕ) (at : ℕ) → splice d at [] ≡ d
unfolding splice
splice-none d at =
    let e : at + 0 ≡ at = omega arith in
    rw (e, append-none (take at d)) (take-append-drop at d)

pub put_at-fits : (d : List ℕ) (at : ℕ) (s : List ℕ) → at + length s ≤ length d → put_at d at s ≡ splice d at s
unfolding put_at
put_at-fits d at s h = simp (le-ltb _ _ h)

-- a write of nothing, whether or not there is room for it
pub put_at-none : (d : List ℕ) (at : ℕ) (s : List ℕ) → length s ≡ 0 → put_at d at s ≡ d
unfolding put_at
put_at-none d at (x ∷ s) h = absurd (omega arith)
put_at-none d at [] h = by (in_room (length d) at 0)
  where
    by : (a : Result ℕ Refusal) → output_after a d at [] ≡ d
    by (Err r) = refl
    by (Ok n) = splice-none d at

pub put_at_not : (d : List ℕ) (at : ℕ) (s : List ℕ) → length d < at + length s → put_at d at s ≡ d
unfolding put_at
put_at_not d at s h = simp (lt-ltb _ _ h)

-- `rest`, written from `at`, makes t of what the output holds now
pub record Ahead (t d : List ℕ) (at : ℕ) (rest : List ℕ) : Type 0 where
  pub makes : splice d at rest ≡ t
  pub fits : at + length rest ≤ length d

pub start : (d : List ℕ) (at : ℕ) (rest : List ℕ) → at + length rest ≤ length d → Ahead (splice d at rest) d at rest
start d at rest h = record { makes = refl; fits = h }

-- the first of what is ahead was written, up to k
pub step : {t d : List ℕ} {at : ℕ} (x : List ℕ) {rest e : List ℕ} (k : ℕ) → Ahead t d at (x ++ rest) → e ≡ put_at d at x → k ≡ at + length x → Ahead t e k rest
step {t} {d} {at} x {rest} {e} k a p q =
    let l : length (x ++ rest) ≡ length x + length rest = length-append x rest in
    let f : at + length (x ++ rest) ≤ length d = a.fits in
    let o : e ≡ splice d at x = p ∙ put_at-fits d at x (omega arith) in
    let n : length e ≡ length d = ap length o ∙ length-splice d at x (omega arith) in
    record {
      makes = ap (λ (m : List ℕ). splice m k rest) o ∙ ap (λ (m : ℕ). splice (splice d at x) m rest) q ∙ splice-splice d at x rest (omega arith) ∙ a.makes;
      fits = omega arith;
    }

-- all of what is ahead was written
pub last : {t d : List ℕ} {at : ℕ} {x e : List ℕ} → Ahead t d at x → e ≡ put_at d at x → e ≡ t
last {t} {d} {at} {x} a p = p ∙ put_at-fits d at x a.fits ∙ a.makes

-- two writes, one right behind the other
pub both : (d : List ℕ) (at : ℕ) {a b : List ℕ} (x y : List ℕ) (k : ℕ) → at + length (x ++ y) ≤ length d → a ≡ put_at d at x → b ≡ put_at a k y → k ≡ at + length x → b ≡ put_at d at (x ++ y)
both d at x y k h p q e = last (step x k (start d at (x ++ y) h) p e) q ∙ sym (put_at-fits d at (x ++ y) h)

-- what was written over the front is there
pub splice_back : (d s : List ℕ) → take (length s - 0) (drop 0 (splice d 0 s)) ≡ s
unfolding splice
splice_back d s =
    let e : length s - 0 ≡ length s = omega arith in
    rw e (take-append_seam s (drop (0 + length s) d))

-- the first `from` elements of s were written, and then the next up to `to`
pub splice-next : (d : List ℕ) (at : ℕ) (s : List ℕ) (from to : ℕ) → from ≤ to → to ≤ length s → at + length s ≤ length d
    → splice (splice d at (take from s)) (at + from) (take (to - from) (drop from s)) ≡ splice d at (take to s)
splice-next d at s from to h k f =
    let a : length (take from s) ≡ from = length-take-le from s (omega arith) in
    let b : length (drop from s) ≡ length s - from = length-drop from s in
    let c : length (take (to - from) (drop from s)) ≡ to - from = length-take-le (to - from) (drop from s) (omega arith) in
    let e : from + (to - from) ≡ to = omega arith in
    let m : at + from ≡ at + length (take from s) = omega arith in
    rw m (splice-splice d at (take from s) (take (to - from) (drop from s)) (omega arith)) ∙ ap (splice d at) (sym (take-add from (to - from) s) ∙ ap (λ (n : ℕ). take n s) e)
