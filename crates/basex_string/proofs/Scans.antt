-- One step of reading a string: what stands at a place, and what is read of what follows.
use Rattle.std.specs.Prelude.{Result, Ok, Err}
use mathlib.Core.Path.{◌≡◌, refl, subst, sym, ap, ◌∙◌}
use mathlib.Core.List.{List, [], ◌∷◌}
use mathlib.Core.Bool.{Bool, true, false, not}
use Prim.Native.Nat.{ℕ, suc, ◌+◌, ◌-◌, ◌≤◌, ◌<◌}
use native.Mathlib.Omega.{arith}
use lib.Dec.{eqb, ltb}
use lib.ListN.{length, drop, get_or, drop_of_length-le, length-drop}
use borrow.Author.Tests.{lt-ltb, le-ltb, eq-eqb, ltb-true, ltb-false}
use Rattle.wire.specs.Bytes.{if, splice}
use Rattle.wire.specs.Call.{in_room, Gives}
use Rattle.wire.specs.declared.Refusal.{Refusal}
use Rattle.wire.specs.declared.Refusal.TheVariants.{MoreBytes, BadEscape}
use Rattle.wire.proofs.Call.{refused-short, counted-there}
use Rattle.wire.proofs.Splices.{put_at-fits, put_at_not}
use Rattle.basex_string.specs.Strings.{special}
use Rattle.wire.specs.Fields.{Got}
use Rattle.basex_string.specs.Scan.{push, scan, reading}
use Rattle.basex_string.specs.Answers.{string_there, located, decoded, output_read}
use Rattle.basex_string.specs.inner.Storing.{text_read}
use Rattle.basex_string.specs.declared.StringAt.{StringAt}
use Rattle.basex_string.proofs.Handed.{ok-same}
use Rattle.basex_string.proofs.Steps.{here}

-- the answer when len bytes of the string were read before
abbrev pub seen : ℕ → ℕ → Got (List ℕ) → Result StringAt Refusal
seen n len (Got.refused r) = Err r
seen n len (Got.got s rest) = string_there (len + length s) (n - length rest)

pub seen_none : (n : ℕ) (x : Got (List ℕ)) → located n x ≡ seen n 0 x
seen_none n (Got.refused r) = refl
seen_none n (Got.got s rest) = let e : length s ≡ 0 + length s = omega arith in ap (λ (m : ℕ). string_there m (n - length rest)) e

pub seen_push : (n len b : ℕ) (x : Got (List ℕ)) → seen n len (push b x) ≡ seen n (len + 1) x
seen_push n len b (Got.refused r) = refl
seen_push n len b (Got.got s rest) = let e : len + suc (length s) ≡ len + 1 + length s = omega arith in ap (λ (m : ℕ). string_there m (n - length rest)) e

-- the place behind the 00 at i
pub seen_at : (s : List ℕ) (len i : ℕ) → i < length s → seen (length s) len (Got.got [] (drop (i + 1) s)) ≡ string_there len (i + 1)
seen_at s len i h =
    let e : len + 0 ≡ len = omega arith in
    let l = length-drop (i + 1) s in
    let m : length s - length (drop (i + 1) s) ≡ i + 1 = omega arith in
    rw (e, m)

pub reading-end : (s : List ℕ) (i : ℕ) → length s ≤ i → reading (drop i s) ≡ Got.refused MoreBytes
unfolding scan
reading-end s i h = ap reading (drop_of_length-le s h)

module _ (s : List ℕ) (i : ℕ) (h : i < length s) where
  pub reading-zero : get_or s i 0 ≡ 0 → reading (drop i s) ≡ Got.got [] (drop (i + 1) s)
  unfolding scan
  reading-zero e = ap reading (here s i h) ∙ rw (eq-eqb (get_or s i 0) 0 e)

  pub escape : get_or s i 0 ≡ 255 → reading (drop i s) ≡ scan true (drop (i + 1) s)
  unfolding scan
  escape e = ap reading (here s i h) ∙ rw e

  pub reading-cut : get_or s i 0 ≡ 255 → length s ≤ i + 1 → reading (drop i s) ≡ Got.refused MoreBytes
  unfolding scan
  reading-cut e k = escape e ∙ ap (scan true) (drop_of_length-le s k)

  module _ (e : get_or s i 0 ≡ 255) (k : i + 1 < length s) where
    two : drop (i + 1) s ≡ get_or s (i + 1) 0 ∷ drop (i + 2) s
    two = let m : i + 1 + 1 ≡ i + 2 = omega arith in here s (i + 1) k ∙ ap (λ (n : ℕ). get_or s (i + 1) 0 ∷ drop n s) m

    reading-pair : special (get_or s (i + 1) 0) ≡ true → reading (drop i s) ≡ push (get_or s (i + 1) 0) (reading (drop (i + 2) s))
    unfolding scan
    reading-pair g = escape e ∙ ap (scan true) two ∙ rw g

    pub reading-bad : special (get_or s (i + 1) 0) ≡ false → reading (drop i s) ≡ Got.refused BadEscape
    unfolding scan
    reading-bad g = escape e ∙ ap (scan true) two ∙ rw g

text-push : (b : ℕ) (x : Got (List ℕ)) → 0 < length (text_read (push b x)) → text_read (push b x) ≡ b ∷ text_read x
text-push b (Got.refused r) h = absurd (omega arith)
text-push b (Got.got s rest) h = refl

-- whether b is an FF that escapes the next byte
abbrev pub opening : ℕ → Bool → Bool
opening b e = if (eqb b 255) (not e) false

-- a byte that is none stands in the text
text_cons : (e : Bool) (b : ℕ) (l : List ℕ) → 0 < length (text_read (scan e (b ∷ l))) → opening b e ≡ false → text_read (scan e (b ∷ l)) ≡ b ∷ text_read (reading l)
unfolding scan
text_cons true b l = by (special b)
  where
    by : (t : Bool) → 0 < length (text_read (if t (push b (reading l)) (Got.refused BadEscape))) → opening b true ≡ false
        → text_read (if t (push b (reading l)) (Got.refused BadEscape)) ≡ b ∷ text_read (reading l)
    by true h o = text-push b (reading l) h
    by false h o = absurd (omega arith)
text_cons false b l = by (eqb b 0) (eqb b 255)
  where
    at : Bool → Bool → Got (List ℕ)
    at z f = if z (Got.got [] l) (if f (scan true l) (push b (reading l)))

    by : (z f : Bool) → 0 < length (text_read (at z f)) → if f true false ≡ false → text_read (at z f) ≡ b ∷ text_read (reading l)
    by true f h o = absurd (omega arith)
    by false true h o = let w : true ≡ false = o in cc
    by false false h o = text-push b (reading l) h

module _ (e : Bool) (s : List ℕ) (i : ℕ) (h : 0 < length (text_read (scan e (drop i s)))) where
  pub text-left : i < length s
  unfolding scan
  text-left = by (ltb i (length s)) refl
    where
      by : (t : Bool) → ltb i (length s) ≡ t → i < length s
      by true p = ltb-true _ _ p
      by false p = let z = ap (λ (l : List ℕ). length (text_read (scan e l))) (drop_of_length-le s (ltb-false _ _ p)) in omega arith

  pub text-byte : opening (get_or s i 0) e ≡ false → text_read (scan e (drop i s)) ≡ get_or s i 0 ∷ text_read (reading (drop (i + 1) s))
  text-byte o =
      let q = here s i text-left in
      ap (λ (l : List ℕ). text_read (scan e l)) q ∙ text_cons e (get_or s i 0) (drop (i + 1) s) (subst (λ (l : List ℕ). 0 < length (text_read (scan e l))) q h) o

-- where text is left, a byte of it stands at i, or an FF and the byte that it escapes
module _ (s : List ℕ) (i : ℕ) (h : 0 < length (text_read (reading (drop i s)))) where
  pub text_here : i < length s
  text_here = text-left false s i h

  module _ (f : get_or s i 0 ≡ 255) where
    pub text-two : i + 1 < length s
    text-two = by (ltb (i + 1) (length s)) refl
      where
        by : (t : Bool) → ltb (i + 1) (length s) ≡ t → i + 1 < length s
        by true e = ltb-true _ _ e
        by false e = let z = ap (λ (x : Got (List ℕ)). length (text_read x)) (reading-cut s i text_here f (ltb-false _ _ e)) in omega arith

    pub text-pair : text_read (reading (drop i s)) ≡ get_or s (i + 1) 0 ∷ text_read (reading (drop (i + 2) s))
    text-pair = by (special (get_or s (i + 1) 0)) refl
      where
        by : (t : Bool) → special (get_or s (i + 1) 0) ≡ t → text_read (reading (drop i s)) ≡ get_or s (i + 1) 0 ∷ text_read (reading (drop (i + 2) s))
        by true e =
            let r = reading-pair s i text_here f text-two e in
            ap text_read r ∙ text-push (get_or s (i + 1) 0) (reading (drop (i + 2) s)) (subst (λ (x : Got (List ℕ)). 0 < length (text_read x)) r h)
        by false e = let z = ap (λ (x : Got (List ℕ)). length (text_read x)) (reading-bad s i text_here f text-two e) in absurd (omega arith)

-- what judging a string answered decides what decoding it answers and leaves
module _ (n to : ℕ) (out : List ℕ) where
  -- a contract of decoding
  abbrev pub Decodes : Got (List ℕ) → Result StringAt Refusal → List ℕ → Type 0
  Decodes x = Gives (decoded n (length out) to x) (output_read (λ s. s) out to x)

  pub refused-decoded : {r : Refusal} (x : Got (List ℕ)) → located n x ≡ Err r → Decodes x (Err r) out
  refused-decoded (Got.refused q) e = record { answers = sym e; leaves = refl }
  refused-decoded (Got.got s rest) e = let z : ◌≡◌ {A = ℕ} 0 1 = cc in absurd (omega arith)

  pub cramped_decoded : {found : StringAt} {r : Refusal} (x : Got (List ℕ)) → located n x ≡ Ok found → in_room (length out) to found.len ≡ Err r
      → Decodes x (Err r) out
  cramped_decoded (Got.refused q) e h = let z : ◌≡◌ {A = ℕ} 0 1 = cc in absurd (omega arith)
  cramped_decoded {found} {r} (Got.got s rest) e h =
      let a : length s ≡ found.len = ap (λ (p : StringAt). p.len) (ok-same e) in
      let z = refused-short (length out) to found.len r h in
      let l = z.1 in
      record { answers = rw (lt-ltb (length out) (to + length s) (omega arith)) (ap Err z.0); leaves = sym (put_at_not out to s (omega arith)) }

  pub stored-decoded : {found : StringAt} {m : ℕ} {after : List ℕ} (x : Got (List ℕ)) → located n x ≡ Ok found → in_room (length out) to found.len ≡ Ok m
      → after ≡ splice out to (text_read x) → Decodes x (Ok found) after
  stored-decoded (Got.refused q) e h p = let z : ◌≡◌ {A = ℕ} 0 1 = cc in absurd (omega arith)
  stored-decoded {found} {m} (Got.got s rest) e h p =
      let a : length s ≡ found.len = ap (λ (p : StringAt). p.len) (ok-same e) in
      let l = (counted-there (length out) to found.len m h).1 in
      record { answers = rw (le-ltb (length out) (to + length s) (omega arith)) (sym e); leaves = p ∙ sym (put_at-fits out to s (omega arith)) }

pub located-length : (n : ℕ) {found : StringAt} (x : Got (List ℕ)) → located n x ≡ Ok found → found.len ≡ length (text_read x)
located-length n (Got.refused q) e = cc
located-length n (Got.got s rest) e = ap (λ (p : StringAt). p.len) (sym (ok-same e))
