-- What stands at the front of a transcript from a place on.
use Rattle.std.specs.Prelude.{Option, Some, None}
use Rattle.records.specs.Record.{head_there}
use mathlib.Core.Bool.{Bool, true, false}
use mathlib.Core.Path.{◌≡◌, refl, sym, ap, subst, subst₂, ◌∙◌}
use mathlib.Core.List.{List, [], ◌∷◌}
use Prim.Native.Nat.{ℕ, ◌+◌, ◌-◌, ◌≤◌, ◌<◌}
use native.Mathlib.Omega.{arith}
use lib.Dec.{ltb}
use lib.ListN.{length, take, drop, length-drop, drop_of_length-le}
use lib.Seq.{take_all, length-take-le, drop-drop}
use borrow.Author.Tests.{lt-ltb, le-ltb, ltb-true, ltb-false}
use Rattle.wire.specs.Bytes.{if}
use Rattle.wire.specs.declared.Place.{Place}
use Rattle.sedna.specs.declared.Side.{Side}
use Rattle.wire.proofs.Branches.{apart, either}
use Rattle.records.specs.declared.Head.{Head}
use Rattle.records.specs.declared.Next.TheVariants as next
use Rattle.records.specs.Record.{head_of, record_of, Front, behind, front}
use Rattle.records.specs.Places.{located, Bounded}

pub front-none : (s : List ℕ) (at : ℕ) → length s ≤ at → front (drop at s) ≡ Front.end
unfolding front
front-none s at h = ap front (drop_of_length-le s h)

front-some : (s : List ℕ) → 0 < length s → front s ≡ behind (drop 6 s) (head_of s)
unfolding front
front-some [] h = absurd (omega arith)
front-some (b ∷ s) h = refl

-- all of s from `at` on, as a part of it
rest_part : (s : List ℕ) (at : ℕ) → take (length s - at) (drop at s) ≡ drop at s
rest_part s at = take_all (length s - at) (drop at s) (omega (arith, length-drop at s))

module _ (s : List ℕ) (at : ℕ) (h : at < length s) where
  front_judged : {x : Option Head} → head_of (take (length s - at) (drop at s)) ≡ x → front (drop at s) ≡ behind (drop 6 (drop at s)) x
  front_judged e = front-some (drop at s) (omega (arith, length-drop at s)) ∙ ap (behind (drop 6 (drop at s))) (ap head_of (sym (rest_part s at)) ∙ e)

  behind-length : length (drop 6 (drop at s)) ≡ length s - (at + 6)
  behind-length = ap length (drop-drop 6 at s) ∙ length-drop (at + 6) s

  pub next-bad : head_of (take (length s - at) (drop at s)) ≡ None → next.Damaged ≡ located at (front (drop at s))
  next-bad e = sym (ap (located at) (front_judged e))

  pub next-cut : {side : Side} {n : ℕ} → head_of (take (length s - at) (drop at s)) ≡ head_there side n → length s - (at + 6) < n → next.Damaged ≡ located at (front (drop at s))
  next-cut {side} {n} e k = rw (front_judged e, lt-ltb (length (drop 6 (drop at s))) n (omega (arith, behind-length)))

  pub next-whole : {side : Side} {n : ℕ} → head_of (take (length s - at) (drop at s)) ≡ head_there side n → n ≤ length s - (at + 6)
      → next.Record side (record { start = at + 6; len = n }) ≡ located at (front (drop at s))
  next-whole {side} {n} e k =
      let l : n ≤ length (drop 6 (drop at s)) = omega (arith, behind-length) in
      rw (front_judged e, le-ltb (length (drop 6 (drop at s))) n l) (ap (λ (m : ℕ). next.Record side (record { start = at + 6; len = m })) (sym (length-take-le n (drop 6 (drop at s)) l)))

-- a payload has its bound
pub payload_bound : (room : ℕ) {h : Option Head} {side : Side} {n : ℕ} → Bounded room h → h ≡ head_there side n → n ≤ 10248
payload_bound room b e = (subst (Bounded room) e b).1

-- a head has six bytes
head_long : (s : List ℕ) {side : Side} {n : ℕ} → head_of s ≡ head_there side n → 6 ≤ length s
unfolding head_of
head_long s e = either (ltb (length s) 6) _ _ e (λ short p. apart (cc)) (λ long p. ltb-false (length s) 6 long)

-- a record that was found: it stands behind six bytes, its payload lies in s, and behind the payload the transcript goes on
pub record Found (s : List ℕ) (at : ℕ) (side : Side) (p : Place) : Type 0 where
  pub start : p.start ≡ at + 6
  pub within : p.start + p.len ≤ length s
  pub stands : front (drop at s) ≡ Front.sound (record_of side (take p.len (drop p.start s))) (drop (p.start + p.len) s)

module _ (s : List ℕ) (at : ℕ) where
  pub next-end : located at (front (drop at s)) ≡ next.End → front (drop at s) ≡ Front.end
  next-end = by (front (drop at s))
    where
      by : (f : Front) → located at f ≡ next.End → f ≡ Front.end
      by Front.end e = refl
      by Front.damaged e = apart (cc)
      by (Front.sound r rest) e = apart (cc)

  pub next-damaged : located at (front (drop at s)) ≡ next.Damaged → front (drop at s) ≡ Front.damaged
  next-damaged = by (front (drop at s))
    where
      by : (f : Front) → located at f ≡ next.Damaged → f ≡ Front.damaged
      by Front.end e = apart (cc)
      by Front.damaged e = refl
      by (Front.sound r rest) e = apart (cc)

  -- the payload of n bytes behind a head
  found : (side : Side) (n : ℕ) → at + 6 ≤ length s → n ≤ length (drop 6 (drop at s)) → front (drop at s) ≡ Front.sound (record_of side (take n (drop 6 (drop at s)))) (drop n (drop 6 (drop at s)))
      → Found s at side (record { start = at + 6; len = n })
  found side n h k e = record {
    start = refl;
    within = omega (arith, length-drop 6 (drop at s), length-drop at s);
    stands = e ∙ ap (λ (w : List ℕ). Front.sound (record_of side (take n w)) (drop n w)) (drop-drop 6 at s) ∙ ap (Front.sound (record_of side (take n (drop (at + 6) s)))) (drop-drop n (at + 6) s);
  }

  pub next-found : {side : Side} {p : Place} → located at (front (drop at s)) ≡ next.Record side p → Found s at side p
  next-found {side} {p} e = by (ltb at (length s)) refl
    where
      cut : (own : Side) (n : ℕ) → at + 6 ≤ length s → (t : Bool) → ltb (length (drop 6 (drop at s))) n ≡ t
          → front (drop at s) ≡ if t Front.damaged (Front.sound (record_of own (take n (drop 6 (drop at s)))) (drop n (drop 6 (drop at s)))) → Found s at side p
      cut own n l true q f = let z = ap (located at) f in apart (cc)
      cut own n l false q f =
          let k : n ≤ length (drop 6 (drop at s)) = ltb-false (length (drop 6 (drop at s))) n q in
          let z : next.Record own (record { start = at + 6; len = n }) ≡ next.Record side p =
          ap (λ (m : ℕ). next.Record own (record { start = at + 6; len = m })) (sym (length-take-le n (drop 6 (drop at s)) k)) ∙ sym (ap (located at) f) ∙ e in
          let a : own ≡ side = cc in
          let b : record { start = at + 6; len = n } ≡ p = cc in
          subst₂ (Found s at) a b (found own n l k f)

      headed : at < length s → (x : Option Head) → head_of (take (length s - at) (drop at s)) ≡ x → Found s at side p
      headed h None q = let z = next-bad s at h q in apart (cc)
      headed h (Some m) q =
          let l = head_long (drop at s) (ap head_of (sym (rest_part s at)) ∙ q) in
          cut m.side m.len (omega (arith, length-drop at s)) (ltb (length (drop 6 (drop at s))) m.len) refl (front_judged s at h q)

      by : (t : Bool) → ltb at (length s) ≡ t → Found s at side p
      by true q = headed (ltb-true at (length s) q) (head_of (take (length s - at) (drop at s))) refl
      by false q = let z = ap (located at) (front-none s at (ltb-false at (length s) q)) in apart (cc)
