-- Options given as three lists: one at a time.
use Rattle.std.specs.Prelude.{Result, Ok}
use Rattle.wire.specs.declared.Refusal.{Refusal}
use mathlib.Core.Path.{◌≡◌, refl, sym, ◌∙◌}
use mathlib.Core.List.{List, [], ◌∷◌, ◌++◌, flat_map}
use mathlib.Core.Bool.{Bool, true, false}
use Prim.Native.Nat.{ℕ, ◌+◌, ◌*◌, ◌-◌, ◌≤◌, ◌<◌, min}
use native.Mathlib.Numerals.{add-one}
use native.Mathlib.Omega.{arith}
use lib.Dec.{eqb}
use lib.ListN.{length, take, drop, get_or, length-append, length-drop, drop_of_length-le}
use lib.Seq.{drop-cons, drop-drop, length-take-le}
use borrow.Author.Tests.{eq-eqb, ne_eqb, eqb-true, eqb-false}
use Rattle.wire.specs.Bytes.{if, int}
use Rattle.wire.specs.Call.{put_at}
use Rattle.wire.proofs.Splices.{Ahead, step, splice-none}
use Rattle.sedna.specs.declared.Shape.TheVariants as shape
use Rattle.sedna.specs.Encode.{pair_bytes, pairs_bytes, string}
use Rattle.sedna.specs.Message.{Pair}
use Rattle.sedna_write.specs.Pairs.{sum, given, pairs_of}
use Rattle.sedna_write.specs.inner.Begin.{Begins, PairsFit}
use Rattle.sedna_write.proofs.Puts.{int-length, string-length, counted, begun}

eqb_comm : (a b : ℕ) → eqb a b ≡ eqb b a
eqb_comm a b = by (eqb b a) refl
  where
    by : (t : Bool) → eqb b a ≡ t → eqb a b ≡ t
    by true e = eq-eqb a b (sym (eqb-true b a e))
    by false e = ne_eqb a b (λ p. eqb-false b a e (sym p))

pub given_uneven : (ids lengths values : List ℕ) → (length ids ≡ length lengths → ⊥) → given ids lengths values ≡ false
unfolding given
given_uneven ids lengths values h = rw (ne_eqb _ _ h)

pub given-start : (ids lengths values : List ℕ) → length ids ≡ length lengths → given ids lengths values ≡ eqb (length values) (sum (drop 0 lengths))
unfolding given
given-start ids lengths values h = rw (eq-eqb _ _ h) (eqb_comm (sum lengths) (length values))

-- the sum from place k on
pub sum-next : (lengths : List ℕ) (k : ℕ) → k < length lengths → sum (drop k lengths) ≡ get_or lengths k 0 + sum (drop (k + 1) lengths)
unfolding sum
sum-next lengths k h = rw (add-one k, drop-cons lengths k 0 h)

pub sum-end : (lengths : List ℕ) (k : ℕ) → length lengths ≤ k → sum (drop k lengths) ≡ 0
unfolding sum
sum-end lengths k h = rw (drop_of_length-le lengths h)

module _ (lengths : List ℕ) (k rest : ℕ) (h : k < length lengths) where
  pub given-short : rest < get_or lengths k 0 → eqb rest (sum (drop k lengths)) ≡ false
  given-short s = ne_eqb rest (sum (drop k lengths)) (λ e. omega (arith, sum-next lengths k h))

  pub given-next : get_or lengths k 0 ≤ rest → eqb rest (sum (drop k lengths)) ≡ eqb (rest - get_or lengths k 0) (sum (drop (k + 1) lengths))
  given-next s = by (eqb (rest - get_or lengths k 0) (sum (drop (k + 1) lengths))) refl
    where
      by : (t : Bool) → eqb (rest - get_or lengths k 0) (sum (drop (k + 1) lengths)) ≡ t → eqb rest (sum (drop k lengths)) ≡ t
      by true e =
          let q : rest - get_or lengths k 0 ≡ sum (drop (k + 1) lengths) = eqb-true _ _ e in
          eq-eqb rest (sum (drop k lengths)) (omega (arith, sum-next lengths k h))
      by false e =
          let q : rest - get_or lengths k 0 ≡ sum (drop (k + 1) lengths) → ⊥ = eqb-false _ _ e in
          ne_eqb rest (sum (drop k lengths)) (λ p. q (omega (arith, sum-next lengths k h)))

pub given-split : (ids lengths values : List ℕ) → given ids lengths values ≡ true → (length ids ≡ length lengths) × (sum lengths ≡ length values)
unfolding given
given-split ids lengths values h = by (eqb (length ids) (length lengths)) refl h
  where
    by : (t : Bool) → eqb (length ids) (length lengths) ≡ t → if t (eqb (sum lengths) (length values)) false ≡ true → (length ids ≡ length lengths) × (sum lengths ≡ length values)
    by true e p = (eqb-true _ _ e, eqb-true _ _ p)
    by false e p = let z : ◌≡◌ {A = ℕ} 0 1 = cc in absurd (omega arith)

pub pair-length : (p : Pair) → length (pair_bytes p) ≡ length p.value + 9
unfolding pair_bytes
pair-length p = omega (arith, length-append (int p.id) (string p.value), int-length p.id, string-length p.value)

pub pairs-counted : (ids lengths values : List ℕ) → length ids ≡ length lengths → sum lengths ≡ length values → length (pairs_bytes (pairs_of ids lengths values)) ≡ length ids * 9 + length values
unfolding flat_map pairs_of sum
pairs-counted [] [] values e s = omega arith
pairs-counted [] (n ∷ lengths) values e s = absurd (omega arith)
pairs-counted (i ∷ ids) [] values e s = absurd (omega arith)
pairs-counted (i ∷ ids) (n ∷ lengths) values e s =
    let p : Pair = record { id = i; value = take n values } in
    let l : length (take n values) ≡ n = length-take-le n values (omega arith) in
    let d : length (drop n values) ≡ length values - n = length-drop n values in
    let r : length (pairs_bytes (pairs_of ids lengths (drop n values))) ≡ length ids * 9 + length (drop n values) = pairs-counted ids lengths (drop n values) (omega arith) (omega arith) in
    omega (arith, length-append (pair_bytes p) (pairs_bytes (pairs_of ids lengths (drop n values))), pair-length p)

-- of options that are ahead, their values from `from` on, the first: it fits, and once written the next is ahead, behind it
module _ (id n : ℕ) (ids lengths values : List ℕ) (from : ℕ) (f : from + n ≤ length values) {t d : List ℕ} {at : ℕ}
    (a : Ahead t d at (pairs_bytes (pairs_of (id ∷ ids) (n ∷ lengths) (drop from values)))) where
  abbrev first : Pair
  first = record { id = id; value = take n (drop from values) }

  abbrev behind : List ℕ
  behind = pairs_bytes (pairs_of ids lengths (drop (from + n) values))

  in-two : Ahead t d at (pair_bytes first ++ behind)
  unfolding pairs_of flat_map
  in-two = rw (← drop-drop n from values) a

  long : length (pair_bytes first) ≡ 9 + n
  long =
      let d : length (drop from values) ≡ length values - from = length-drop from values in
      let l : length (take n (drop from values)) ≡ n = length-take-le n (drop from values) (omega arith) in
      omega (arith, pair-length first)

  pub next_fits : at + 9 + n ≤ length d
  next_fits = omega (arith, in-two.fits, length-append (pair_bytes first) behind, long)

  pub ahead-next : {e : List ℕ} → e ≡ put_at d at (pair_bytes (record { id = id; value = take (from + n - from) (drop from values) })) → Ahead t e (at + (9 + n)) behind
  ahead-next {e} p =
      let c : from + n - from ≡ n = omega arith in
      let w : e ≡ put_at d at (pair_bytes first) = rw c at p in
      step (pair_bytes first) (at + (9 + n)) in-two w (omega (arith, long))

-- all options were written
pub ahead-end : {t d : List ℕ} {at : ℕ} (ids lengths values : List ℕ) → length ids ≡ 0 → Ahead t d at (pairs_bytes (pairs_of ids lengths values)) → d ≡ t
unfolding pairs_of flat_map
ahead-end {t} {d} {at} [] lengths values h a = sym (splice-none d at) ∙ a.makes
ahead-end (x ∷ ids) lengths values h a = absurd (omega arith)

-- the head of options: the writer's bound on the body's length serves as the length
module _ (ids lengths values : List ℕ) where
  pub options_head : {d e : List ℕ} {i a b : ℕ} {ok : Bool} {w : Result ℕ Refusal} → ok ≡ given ids lengths values → a ≡ min 10241 (length ids + 0) → b ≡ min 10241 (length values + 0)
      → Begins d i shape.Options ok (a * 9 + b) w e → Begins d i shape.Options (given ids lengths values) (length (pairs_bytes (pairs_of ids lengths values))) w e
  options_head {ok = ok} o ha hb h =
      begun h _ _ o λ (t : ok ≡ true).
      let s = given-split ids lengths values (sym o ∙ t) in
      omega (arith, pairs-counted ids lengths values s.0 s.1)

  -- what was counted can be written behind it
  pub options_fit : {d e f : List ℕ} {i k : ℕ} {w : Result ℕ Refusal} → Begins d i shape.Options (given ids lengths values) (length (pairs_bytes (pairs_of ids lengths values))) w e
      → w ≡ Ok k → length f ≡ length d → PairsFit f ids lengths values
  options_fit h q l =
      let c = counted h q in
      let s = given-split ids lengths values c.allowed in
      let n = pairs-counted ids lengths values s.0 s.1 in
      record { even = s.0; whole = s.1; short = omega arith; room = omega arith }
