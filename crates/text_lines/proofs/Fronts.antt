-- Answers about the front of an output, and fronts put one behind the other.
use Rattle.std.specs.Prelude.{Option, Some, None}
use mathlib.Core.Path.{◌≡◌, refl, sym, ap, subst, ◌∙◌}
use mathlib.Core.List.{List, [], ◌∷◌, ◌++◌}
use Prim.Native.Nat.{ℕ, ◌+◌, ◌-◌, ◌≤◌, ◌<◌}
use native.Mathlib.Omega.{arith}
use lib.ListN.{length, take, drop, take-append-drop}
use lib.Seq.{length-take-le, take-append_seam, drop-append-add, drop-drop}
use borrow.Author.Tests.{lt-ltb, le-ltb}
use Rattle.wire.specs.Bytes.{splice}
use Rattle.wire.specs.Call.{put_at}
use Rattle.wire.proofs.Splices.{splice-splice, length-splice, put_at-fits}
use Rattle.text_lines.specs.Spelling.{first_of, that_fit, Fronted, Spells}

pub refuses : {d : List ℕ} {n : ℕ} {x : Option (List ℕ)} {e : List ℕ} → x ≡ None → Spells d n x None e
refuses {d} {n} {x} {e} p = subst (λ (y : Option (List ℕ)). Spells d n y None e) (sym p) (record { answers = refl; leaves = tt })

pub answers : {d : List ℕ} {n : ℕ} {x : Option (List ℕ)} {e : List ℕ} {m : ℕ} (t : List ℕ) → x ≡ Some t → m ≡ length t → Fronted d n t e → Spells d n x (Some m) e
answers {d} {n} {x} {e} {m} t p q f =
    subst (λ (y : Option (List ℕ)). Spells d n y (Some m) e) (sym p) (record { answers = ap Some q; leaves = f })

-- the front that an answer counts
pub record Found (d : List ℕ) (n : ℕ) (x : Option (List ℕ)) (m : ℕ) (e : List ℕ) : Type 0 where
  pub t : List ℕ
  pub is : x ≡ Some t
  pub long : m ≡ length t
  pub fronted : Fronted d n t e

pub found : {d : List ℕ} {n : ℕ} (x : Option (List ℕ)) {r : Option ℕ} {e : List ℕ} {m : ℕ} → Spells d n x r e → r ≡ Some m → Found d n x m e
found None {r} {e} {m} s p =
    let q : r ≡ None = s.answers in
    let z : ◌≡◌ {A = ℕ} 0 1 = cc in
    absurd (omega arith)
found (Some t) {r} {e} {m} s p =
    let q : r ≡ Some (length t) = s.answers in
    let l : m ≡ length t = cc in
    record { t = t; is = refl; long = l; fronted = s.leaves }

pub lost : {d : List ℕ} {n : ℕ} (x : Option (List ℕ)) {r : Option ℕ} {e : List ℕ} → Spells d n x r e → r ≡ None → x ≡ None
lost None s p = refl
lost (Some t) {r} s p =
    let q : r ≡ Some (length t) = s.answers in
    cc

pub first_short : (d : List ℕ) (n : ℕ) → length d < n → first_of d n ≡ None
first_short d n h = simp (lt-ltb _ _ h)

pub first-whole : (d : List ℕ) (n : ℕ) → n ≤ length d → first_of d n ≡ Some (take n d)
first-whole d n h = simp (le-ltb _ _ h)

pub room-none : (room : ℕ) (t : List ℕ) → room < length t → that_fit room (Some t) ≡ None
room-none room t h = simp (lt-ltb _ _ h)

pub room-some : (room : ℕ) (t : List ℕ) → length t ≤ room → that_fit room (Some t) ≡ Some t
room-some room t h = simp (le-ltb _ _ h)

-- the front that is there already
pub over_first : (d : List ℕ) (n : ℕ) → n ≤ length d → d ≡ splice d 0 (take n d)
unfolding splice
over_first d n h =
    let l : 0 + length (take n d) ≡ n = omega (arith, length-take-le n d h) in
    rw l (sym (take-append-drop n d))

pub take-over : (d t : List ℕ) → take (length t) (splice d 0 t) ≡ t
unfolding splice
take-over d t = take-append_seam t (drop (0 + length t) d)

-- one more byte behind the front
pub front-byte : (d t : List ℕ) (b k : ℕ) → k ≡ length t → length t < length d → put_at (splice d 0 t) k (b ∷ []) ≡ splice d 0 (t ++ (b ∷ []))
front-byte d t b k q h =
    let l = length-splice d 0 t (omega arith) in
    let f : k ≡ 0 + length t = omega arith in
    put_at-fits (splice d 0 t) k (b ∷ []) (omega arith) ∙ ap (λ (i : ℕ). splice (splice d 0 t) i (b ∷ [])) f ∙ splice-splice d 0 t (b ∷ []) (omega arith)

-- a longer front over a front
over_longer : (d t u : List ℕ) → length t ≤ length u → splice (splice d 0 t) 0 u ≡ splice d 0 u
unfolding splice
over_longer d t u h =
    let k : 0 + length u ≡ length t + (length u - length t) = omega arith in
    let j : 0 + length t + (length u - length t) ≡ 0 + length u = omega arith in
    ap (λ (l : List ℕ). u ++ l) (ap (λ (i : ℕ). drop i (t ++ drop (0 + length t) d)) k ∙ drop-append-add t (drop (0 + length t) d) (length u - length t) ∙ drop-drop
    (length u - length t) (0 + length t) d ∙ ap (λ (i : ℕ). drop i d) j)

fronted-on : {d : List ℕ} {n m : ℕ} {t u c e : List ℕ} → Fronted d n t c → m ≡ length t → Fronted c m u e → Fronted d n u e
fronted-on {d} {n} {m} {t} {u} {c} {e} f q g =
    let a : length t ≤ length d = f.fits in
    let k : length c ≡ length d = ap length f.makes ∙ length-splice d 0 t (omega arith) in
    let b : n ≤ length t = f.grows in
    let i : m ≤ length u = g.grows in
    let j : length u ≤ length c = g.fits in
    record { makes = g.makes ∙ ap (λ (l : List ℕ). splice l 0 u) f.makes ∙ over_longer d t u (omega arith); grows = omega arith; fits = omega arith }

-- an answer about an output that has a front already
pub spells-on : {d : List ℕ} {n m : ℕ} {t c e : List ℕ} (x : Option (List ℕ)) {r : Option ℕ} → Fronted d n t c → m ≡ length t → Spells c m x r e → Spells d n x r e
spells-on None f q s = record { answers = s.answers; leaves = tt }
spells-on (Some u) f q s = record { answers = s.answers; leaves = fronted-on f q s.leaves }

pub found-on : {d : List ℕ} {n m k : ℕ} {t c e : List ℕ} {x : Option (List ℕ)} → Fronted d n t c → m ≡ length t → (g : Found c m x k e) → Fronted d n g.t e
found-on f q g = fronted-on f q g.fronted

-- the front that stands there is read back
pub first-front : {d : List ℕ} {n m : ℕ} {t c : List ℕ} → Fronted d n t c → m ≡ length t → (length c ≡ length d) × (first_of c m ≡ Some t)
first-front {d} {n} {m} {t} {c} f q =
    let a : length t ≤ length d = f.fits in
    let k : length c ≡ length d = ap length f.makes ∙ length-splice d 0 t (omega arith) in
    (k, first-whole c m (omega arith) ∙ ap Some (ap (λ (i : ℕ). take i c) q ∙ ap (take (length t)) f.makes ∙ take-over d t))
