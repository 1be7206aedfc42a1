-- Unescaping: one step of it, and that of a string that reads well and fits it yields the text.
use mathlib.Core.Path.{◌≡◌, refl, sym, ap, ◌∙◌}
use mathlib.Core.List.{List, [], ◌∷◌, ◌++◌}
use mathlib.Core.Bool.{Bool, true, false}
use Prim.Native.Nat.{ℕ, zero, suc, ◌+◌, ◌-◌, ◌≤◌, ◌<◌}
use native.Mathlib.Omega.{arith}
use lib.Dec.{eqb}
use lib.ListN.{length, take, drop, get_or, set, length-append, length-drop, drop_of_length-le}
use lib.Seq.{drop-drop, length-take-le}
use borrow.Author.Tests.{eq-eqb, ne_eqb, eqb-false}
use Rattle.wire.specs.Bytes.{if, splice}
use Rattle.wire.specs.Call.{Gives}
use Rattle.wire.specs.Fields.{Got}
use Rattle.wire.proofs.Splices.{splice-none, splice-splice, splice-sets, length-splice}
use Rattle.basex_string.specs.Strings.{special, escaped, string}
use Rattle.basex_string.specs.Scan.{reading}
use Rattle.basex_string.specs.inner.Runs.{run}
use Rattle.basex_string.specs.Unescaping.{Unescaped, stop, keep, unescaping, unescaped, ended}
use Rattle.basex_string.proofs.Steps.{here}
use Rattle.basex_string.proofs.Runs.{run-within}
use Rattle.basex_string.proofs.Laws.{escaped-append, exact}

-- no more than there is room for, and so behind an FF
both_fit : (s : List ℕ) (room : ℕ) → (length (unescaped room s).text ≤ room) × (0 < room → length (unescaping true room s).text ≤ room)
unfolding unescaping
both_fit [] room = (omega arith, λ (h : 0 < room). omega arith)
both_fit (b ∷ s) room = (by (eqb b 0) (eqb room 0) refl (eqb b 255) (both_fit s room).1 (both_fit s (room - 1)).0, second (both_fit s (room - 1)).0)
  where
    second : length (unescaped (room - 1) s).text ≤ room - 1 → 0 < room → suc (length (unescaped (room - 1) s).text) ≤ room
    second i h = omega arith

    by : (z r : Bool) → eqb room 0 ≡ r → (f : Bool) → (0 < room → length (unescaping true room s).text ≤ room) → length (unescaped (room - 1) s).text ≤ room - 1
        → length (if z (stop s) (if r (stop (b ∷ s)) (if f (unescaping true room s) (keep b (unescaped (room - 1) s))))).text ≤ room
    by true r p f i j = omega arith
    by false true p f i j = omega arith
    by false false p true i j = let z = eqb-false room 0 p in i (omega arith)
    by false false p false i j = let z = eqb-false room 0 p in omega arith

unescaped-fits : (room : ℕ) (s : List ℕ) → length (unescaped room s).text ≤ room
unescaped-fits room s = (both_fit s room).0

pub unescaped-end : (room : ℕ) (s : List ℕ) (i : ℕ) → length s ≤ i → unescaped room (drop i s) ≡ stop []
unfolding unescaping
unescaped-end room s i h = ap (unescaped room) (drop_of_length-le s h)

-- the text behind a part of it
abbrev keeps : List ℕ → Unescaped → Unescaped
keeps x t = record { text = x ++ t.text; rest = t.rest }

unescaped-plain : (room b : ℕ) (s : List ℕ) → 0 < room → special b ≡ false → unescaped room (b ∷ s) ≡ keep b (unescaped (room - 1) s)
unfolding unescaping
unescaped-plain room b s h = by (eqb b 0) refl (eqb b 255) refl
  where
    r : eqb room 0 ≡ false
    r = ne_eqb room 0 (λ (z : room ≡ 0). omega arith)

    by : (z : Bool) → eqb b 0 ≡ z → (f : Bool) → eqb b 255 ≡ f → special b ≡ false → unescaped room (b ∷ s) ≡ keep b (unescaped (room - 1) s)
    by true p f q e = let w : true ≡ false = rw p at e in cc
    by false p true q e = let w : true ≡ false = rw (p, q) at e in cc
    by false p false q e = rw (p, q, r)

unescaped-run : (m room : ℕ) (s : List ℕ) → m ≤ run s → m ≤ room → unescaped room s ≡ keeps (take m s) (unescaped (room - m) (drop m s))
unfolding run
unescaped-run zero room s h k = let e : room - 0 ≡ room = omega arith in rw e
unescaped-run (suc m) room [] h k = absurd (omega arith)
unescaped-run (suc m) room (b ∷ s) h k = by (special b) refl (unescaped-run m (room - 1) s) h
  where
    by : (t : Bool) → special b ≡ t → (m ≤ run s → m ≤ room - 1 → unescaped (room - 1) s ≡ keeps (take m s) (unescaped (room - 1 - m) (drop m s))) → suc m ≤ if t 0 (suc (run s))
        → unescaped room (b ∷ s) ≡ keeps (b ∷ take m s) (unescaped (room - suc m) (drop m s))
    by true e f h = absurd (omega arith)
    by false e f h =
        let z : room - 1 - m ≡ room - suc m = omega arith in
        unescaped-plain room b s (omega arith) e ∙ ap (keep b) (f (omega arith) (omega arith)) ∙ ap (λ (n : ℕ). keeps (b ∷ take m s) (unescaped n (drop m s))) z

-- one step at a place
module _ (room : ℕ) (s : List ℕ) (i : ℕ) (h : i < length s) where
  pub unescaped-zero : get_or s i 0 ≡ 0 → unescaped room (drop i s) ≡ stop (drop (i + 1) s)
  unfolding unescaping
  unescaped-zero e = ap (unescaped room) (here s i h) ∙ rw (eq-eqb (get_or s i 0) 0 e)

  pub unescaped-full : (get_or s i 0 ≡ 0 → ⊥) → room ≡ 0 → unescaped room (drop i s) ≡ stop (drop i s)
  unfolding unescaping
  unescaped-full z e = ap (unescaped room) (here s i h) ∙ rw (ne_eqb (get_or s i 0) 0 z, eq-eqb room 0 e) (ap stop (sym (here s i h)))

  module _ (r : 0 < room) (e : get_or s i 0 ≡ 255) where
    unescaped_escape : unescaped room (drop i s) ≡ unescaping true room (drop (i + 1) s)
    unfolding unescaping
    unescaped_escape = ap (unescaped room) (here s i h) ∙ rw (e, ne_eqb room 0 (λ (z : room ≡ 0). omega arith))

    pub unescaped-cut : length s ≤ i + 1 → unescaped room (drop i s) ≡ stop []
    unfolding unescaping
    unescaped-cut k = unescaped_escape ∙ ap (unescaping true room) (drop_of_length-le s k)

    unescaped-pair : i + 1 < length s → unescaped room (drop i s) ≡ keeps (get_or s (i + 1) 0 ∷ []) (unescaped (room - 1) (drop (i + 2) s))
    unfolding unescaping
    unescaped-pair k =
        let m : i + 1 + 1 ≡ i + 2 = omega arith in
        unescaped_escape ∙ ap (unescaping true room) (here s (i + 1) k ∙ ap (λ (n : ℕ). get_or s (i + 1) 0 ∷ drop n s) m)

-- k plain bytes
unescaped_plains : (room : ℕ) (s : List ℕ) (i k : ℕ) → k ≤ run (drop i s) → k ≤ room → unescaped room (drop i s) ≡ keeps (take k (drop i s)) (unescaped (room - k) (drop (i + k) s))
unescaped_plains room s i k h f = unescaped-run k room (drop i s) h f ∙ ap (λ (l : List ℕ). keeps (take k (drop i s)) (unescaped (room - k) l)) (drop-drop k i s)

-- the loop of `store_judged_text`: the text from i on, put from n on, makes t of the output, which is free from `last` on then, and leaves `rest`
pub record Going (s t rest : List ℕ) (last : ℕ) (d : List ℕ) (i n : ℕ) : Type 0 where
  pub makes : splice d n (unescaped (length d - n) (drop i s)).text ≡ t
  pub free : n + length (unescaped (length d - n) (drop i s)).text ≡ last
  pub leaves : (unescaped (length d - n) (drop i s)).rest ≡ rest

module _ {s t rest : List ℕ} {last : ℕ} {d : List ℕ} {i n : ℕ} (g : Going s t rest last d i n) where
  -- there is no more text
  going_stop : {r : List ℕ} → unescaped (length d - n) (drop i s) ≡ stop r → (d ≡ t) × (n ≡ last) × (r ≡ rest)
  going_stop {r} e =
      let z = g.free in
      let l = ap (λ (x : Unescaped). length x.text) e in
      (sym (splice-none d n) ∙ ap (λ (x : Unescaped). splice d n x.text) (sym e) ∙ g.makes, omega arith, sym (ap (λ (x : Unescaped). x.rest) e) ∙ g.leaves)

  -- x was put, and it goes on at j
  going_on : (x : List ℕ) (j : ℕ) {c : List ℕ} {k : ℕ} → unescaped (length d - n) (drop i s) ≡ keeps x (unescaped (length d - n - length x) (drop j s))
      → n + length x ≤ length d → c ≡ splice d n x → k ≡ n + length x → Going s t rest last c j k
  going_on x j {c} {k} e f p q =
      let l : length c ≡ length d = ap length p ∙ length-splice d n x f in
      let m : length c - k ≡ length d - n - length x = omega arith in
      let y : List ℕ = (unescaped (length d - n - length x) (drop j s)).text in
      let z = unescaped-fits (length d - n - length x) (drop j s) in
      let w = ap (λ (o : Unescaped). length o.text) e ∙ length-append x y in
      let v = g.free in
      let a = ap (λ (o : ℕ). length (unescaped o (drop j s)).text) m in
      record {
        makes =
            ap (λ (o : ℕ). splice c k (unescaped o (drop j s)).text) m
            ∙ ap (λ (o : List ℕ). splice o k y) p ∙ ap (λ (o : ℕ). splice (splice d n x) o y) q ∙ splice-splice d n x y (omega arith) ∙ ap (λ (o : Unescaped). splice d n o.text) (sym e) ∙ g.makes;
        free = omega arith;
        leaves = ap (λ (o : ℕ). (unescaped o (drop j s)).rest) m ∙ ap (λ (o : Unescaped). o.rest) (sym e) ∙ g.leaves;
      }

  -- an FF and the byte behind it
  pub going_pair : i + 1 < length s → get_or s i 0 ≡ 255 → n < length d → Going s t rest last (set d n (get_or s (i + 1) 0)) (i + 2) (n + 1)
  going_pair h e f =
      going_on (get_or s (i + 1) 0 ∷ []) (i + 2) (unescaped-pair (length d - n) s i (omega arith) (omega arith) e h) (omega arith) (splice-sets d n (get_or s (i + 1) 0 ∷ []) (omega arith)) refl

  -- k plain bytes
  pub going_run : (k : ℕ) {c : List ℕ} → k ≤ run (drop i s) → n + k ≤ length d → c ≡ splice d n (take k (drop i s)) → Going s t rest last c (i + k) (n + k)
  going_run k h f p =
      let x : List ℕ = take k (drop i s) in
      let l : length x ≡ k = length-take-le k (drop i s) (let w = run-within (drop i s) in omega arith) in
      going_on x (i + k) (unescaped_plains (length d - n) s i k h (omega arith) ∙ ap (λ (o : ℕ). keeps x (unescaped (length d - n - o) (drop (i + k) s))) (sym l)) (omega arith) p (omega arith)

-- at the start, and at the end: what `store_judged_text` answers
module _ (s d : List ℕ) (at to : ℕ) where
  abbrev pub Unescaping : List ℕ → ℕ → ℕ → Type 0
  Unescaping = Going s (splice d to (unescaped (length d - to) (drop at s)).text) (unescaped (length d - to) (drop at s)).rest (to + length (unescaped (length d - to) (drop at s)).text)

  pub going_start : Unescaping d at to
  going_start = record { makes = refl; free = refl; leaves = refl }

  pub going_end : {c : List ℕ} {i n : ℕ} (j : ℕ) {r : List ℕ} → Unescaping c i n → unescaped (length c - n) (drop i s) ≡ stop r → j ≡ at + (length s - at - length r)
      → Gives (ended at (length s - at) to (unescaped (length d - to) (drop at s))) (splice d to (unescaped (length d - to) (drop at s)).text) (record { next = j; to = n }) c
  going_end {c} {i} {n} j {r} g e q =
      let z = going_stop g e in
      let w : j ≡ at + (length s - at - length (unescaped (length d - to) (drop at s)).rest) = q ∙ ap (λ (o : List ℕ). at + (length s - at - length o)) z.2 in
      let k : ℕ = at + (length s - at - length (unescaped (length d - to) (drop at s)).rest) in
      record { answers = ap (λ (o : ℕ). record { next = o; to = n }) w ∙ ap (λ (o : ℕ). record { next = k; to = o }) z.1; leaves = z.0 }

-- r is what s ends with
abbrev Tail : List ℕ → List ℕ → Type 0
Tail r s = (length r ≤ length s) × (drop (length s - length r) s ≡ r)

tail_all : (s : List ℕ) → Tail s s
tail_all s = let z : length s - length s ≡ 0 = omega arith in (omega arith, rw z)

tail_more : (b : ℕ) (r s : List ℕ) → Tail r s → Tail r (b ∷ s)
tail_more b r s t =
    let h = t.0 in
    let z : suc (length s) - length r ≡ suc (length s - length r) = omega arith in
    (omega arith, ap (λ (n : ℕ). drop n (b ∷ s)) z ∙ t.1)

both_tail : (s : List ℕ) (room : ℕ) → Tail (unescaped room s).rest s × Tail (unescaping true room s).rest s
unfolding unescaping
both_tail [] room = (tail_all [], tail_all [])
both_tail (b ∷ s) room = (by (eqb b 0) (eqb room 0) (eqb b 255) (both_tail s room).1 (both_tail s (room - 1)).0, tail_more b _ s (both_tail s (room - 1)).0)
  where
    by : (z r f : Bool) → Tail (unescaping true room s).rest s → Tail (unescaped (room - 1) s).rest s
        → Tail (if z (stop s) (if r (stop (b ∷ s)) (if f (unescaping true room s) (keep b (unescaped (room - 1) s))))).rest (b ∷ s)
    by true r f i j = tail_more b s s (tail_all s)
    by false true f i j = tail_all (b ∷ s)
    by false false true i j = tail_more b _ s i
    by false false false i j = tail_more b _ s j

-- what is left of the bytes from `at` on stands where it is said to start
pub unescaped-left : (room : ℕ) (s : List ℕ) (at : ℕ) → drop (at + (length s - at - length (unescaped room (drop at s)).rest)) s ≡ (unescaped room (drop at s)).rest
unescaped-left room s at =
    let r : List ℕ = (unescaped room (drop at s)).rest in
    let l = length-drop at s in
    sym (drop-drop (length s - at - length r) at s) ∙ ap (λ (n : ℕ). drop (n - length r) (drop at s)) (sym l) ∙ (both_tail (drop at s) room).0.1

-- a byte as it stands in a string
unescaped-escaped : (room b : ℕ) (s : List ℕ) → 0 < room → unescaped room (escaped b s) ≡ keep b (unescaped (room - 1) s)
unfolding unescaping
unescaped-escaped room b s h = by (eqb b 0) refl (eqb b 255) refl
  where
    r : eqb room 0 ≡ false
    r = ne_eqb room 0 (λ (z : room ≡ 0). omega arith)

    by : (z : Bool) → eqb b 0 ≡ z → (f : Bool) → eqb b 255 ≡ f → unescaped room (escaped b s) ≡ keep b (unescaped (room - 1) s)
    by true p f q = simp (p, r)
    by false p true q = simp (p, q, r)
    by false p false q = simp (p, q, r)

unescaped-written : (room : ℕ) (t rest : List ℕ) → length t ≤ room → unescaped room (string t ++ rest) ≡ record { text = t; rest = rest }
unfolding string unescaping
unescaped-written room [] rest h = refl
unescaped-written room (b ∷ t) rest h =
    ap (unescaped room) (escaped-append b (string t) rest) ∙ unescaped-escaped room b (string t ++ rest) (omega arith) ∙ ap (keep b) (unescaped-written (room - 1) t rest (omega arith))

-- of a string that reads well and fits there is the text, and its rest is left
pub unescaped-read : (room : ℕ) (s t rest : List ℕ) → reading s ≡ Got.got t rest → length t ≤ room → unescaped room s ≡ record { text = t; rest = rest }
unescaped-read room s t rest e h = ap (unescaped room) (exact s t rest e) ∙ unescaped-written room t rest h
