-- Bytes copied to the output part by part.
use mathlib.Core.Path.{◌≡◌, sym, ap, ◌∙◌}
use mathlib.Core.List.{List, [], ◌∷◌, ◌++◌}
use Prim.Native.Nat.{ℕ, ◌+◌, ◌≤◌, ◌<◌}
use native.Mathlib.Omega.{arith}
use lib.ListN.{length, take, drop, get_or, set, length-drop}
use lib.Seq.{take-add, drop-drop, length-take-le}
use Rattle.wire.specs.Bytes.{splice}
use Rattle.wire.specs.Call.{put_at}
use Rattle.wire.proofs.Splices.{splice-none, splice-splice, splice-sets, length-splice, put_at-fits}
use Rattle.basex_string.proofs.Steps.{here}

module _ (b d : List ℕ) (from to : ℕ) where
  -- k bytes from `from` on stand in e from `to` on, which is d otherwise
  abbrev pub Copied : List ℕ → ℕ → Type 0
  Copied e k = e ≡ splice d to (take k (drop from b))

  pub copied_none : Copied d 0
  copied_none = sym (splice-none d to)

  module _ {e : List ℕ} (k m : ℕ) (c : Copied e k) (h : from + (k + m) ≤ length b) (f : to + (k + m) ≤ length d) where
    size : (j n : ℕ) → j + n ≤ length b → length (take n (drop j b)) ≡ n
    size j n p = let l = length-drop j b in length-take-le n (drop j b) (omega arith)

    -- and m more behind them
    pub copied_over : splice e (to + k) (take m (drop (from + k) b)) ≡ splice d to (take (k + m) (drop from b))
    copied_over =
        let x : List ℕ = take k (drop from b) in
        let y : List ℕ = take m (drop (from + k) b) in
        let l : length x ≡ k = size from k (omega arith) in
        let n : length y ≡ m = size (from + k) m (omega arith) in
        ap (λ (o : List ℕ). splice o (to + k) y) c ∙ ap (λ (o : ℕ). splice (splice d to x) (to + o) y) (sym l) ∙ splice-splice d to x y (omega arith)
        ∙ ap (splice d to) (ap (λ (o : List ℕ). x ++ take m o) (sym (drop-drop k from b)) ∙ sym (take-add k m (drop from b)))

    pub copied_more : {g : List ℕ} → g ≡ put_at e (to + k) (take m (drop (from + k) b)) → Copied g (k + m)
    copied_more p =
        let l : length e ≡ length d = ap length c ∙ length-splice d to (take k (drop from b)) (let z = size from k (omega arith) in omega arith) in
        let n = size (from + k) m (omega arith) in
        p ∙ put_at-fits e (to + k) (take m (drop (from + k) b)) (omega arith) ∙ copied_over

  pub copied_byte : {e : List ℕ} (k : ℕ) → Copied e k → from + k < length b → to + k < length d → Copied (set e (to + k) (get_or b (from + k) 0)) (k + 1)
  copied_byte {e} k c h f =
      let z : List ℕ = drop (from + k) b in
      let l : length e ≡ length d = ap length c ∙ length-splice d to (take k (drop from b)) (let y = length-drop from b in let w = length-take-le k (drop from b) (omega arith) in omega arith) in
      splice-sets e (to + k) (get_or b (from + k) 0 ∷ []) (omega arith) ∙ ap (λ (o : List ℕ). splice e (to + k) (take 1 o)) (sym (here b (from + k) h)) ∙ copied_over k 1 c (omega arith) (omega arith)
