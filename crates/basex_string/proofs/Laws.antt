-- Strings have one encoding, and reading takes exactly it.
use Rattle.std.specs.Prelude.{Ok}
use mathlib.Core.Path.{◌≡◌, refl, subst, sym, ap, ◌∙◌}
use mathlib.Core.List.{List, [], ◌∷◌, ◌++◌, append_assoc}
use mathlib.Core.Bool.{Bool, true, false}
use mathlib.Core.Logic.{◌⊎◌, inl, inr}
use Prim.Native.Nat.{ℕ, ◌+◌, ◌-◌, ◌≤◌, ◌<◌}
use native.Mathlib.Omega.{arith}
use lib.Dec.{eqb}
use lib.ListN.{length, take, drop, length-append, length-drop}
use lib.Seq.{take_at, drop-drop, drop-append_seam}
use borrow.Author.Tests.{eqb-true}
use Rattle.wire.specs.Bytes.{if}
use Rattle.wire.specs.declared.Refusal.{Refusal}
use Rattle.wire.specs.declared.Refusal.TheVariants.{MoreBytes, BadEscape}
use Rattle.basex_string.specs.Strings.{special, escaped, string}
use Rattle.wire.specs.Fields.{Got}
use Rattle.basex_string.specs.Scan.{push, scan, reading}
use Rattle.basex_string.specs.Answers.{located}
use Rattle.basex_string.specs.inner.Storing.{text_read}
use Rattle.basex_string.specs.declared.StringAt.{StringAt}
use Rattle.basex_string.proofs.Handed.{ok-same}
use Rattle.basex_string.proofs.Steps.{string-length, string_clean}

-- a byte as it stands in a string, read ahead of anything
reading-escaped : (b : ℕ) (s : List ℕ) → reading (escaped b s) ≡ push b (reading s)
unfolding scan
reading-escaped b s = by (eqb b 0) refl (eqb b 255) refl
  where
    by : (z : Bool) → eqb b 0 ≡ z → (f : Bool) → eqb b 255 ≡ f → reading (escaped b s) ≡ push b (reading s)
    by true p f q = simp p
    by false p true q = simp (p, q)
    by false p false q = simp (p, q)

pub escaped-append : (b : ℕ) (s rest : List ℕ) → escaped b s ++ rest ≡ escaped b (s ++ rest)
escaped-append b s rest = by (special b)
  where
    by : (t : Bool) → if t (255 ∷ b ∷ s) (b ∷ s) ++ rest ≡ if t (255 ∷ b ∷ (s ++ rest)) (b ∷ (s ++ rest))
    by true = refl
    by false = refl

-- what was written is read, whatever follows
pub read_written : (s rest : List ℕ) → reading (string s ++ rest) ≡ Got.got s rest
unfolding string scan
read_written [] rest = refl
read_written (b ∷ s) rest = ap reading (escaped-append b (string s) rest) ∙ reading-escaped b (string s ++ rest) ∙ ap (push b) (read_written s rest)

-- the bytes of s as they stand in a string, ahead of what follows
abbrev pub begun : List ℕ → List ℕ → List ℕ
begun [] rest = rest
begun (b ∷ s) rest = escaped b (begun s rest)

pub string-begun : (s rest : List ℕ) → string s ++ rest ≡ begun s (0 ∷ rest)
unfolding string
string-begun [] rest = refl
string-begun (b ∷ s) rest = escaped-append b (string s) rest ∙ ap (escaped b) (string-begun s rest)

-- the ways in which bytes are refused: no end, an FF last, or an FF ahead of another byte
pub data Why : List ℕ → Refusal → Type 0 where
  endless : {b : List ℕ} (s : List ℕ) → b ≡ begun s [] → Why b MoreBytes
  half : {b : List ℕ} (s : List ℕ) → b ≡ begun s (255 ∷ []) → Why b MoreBytes
  bad : {b : List ℕ} (s : List ℕ) (c : ℕ) (rest : List ℕ) → special c ≡ false → b ≡ begun s (255 ∷ c ∷ rest) → Why b BadEscape

abbrev Told : List ℕ → Got (List ℕ) → Type 0
Told b (Got.got s rest) = b ≡ begun s (0 ∷ rest)
Told b (Got.refused r) = Why b r

told_push : (x : ℕ) (b : List ℕ) (o : Got (List ℕ)) → Told b o → Told (escaped x b) (push x o)
told_push x b (Got.got s rest) e = ap (escaped x) e
told_push x b (Got.refused r) (Why.endless s e) = Why.endless (x ∷ s) (ap (escaped x) e)
told_push x b (Got.refused r) (Why.half s e) = Why.half (x ∷ s) (ap (escaped x) e)
told_push x b (Got.refused r) (Why.bad s c rest o e) = Why.bad (x ∷ s) c rest o (ap (escaped x) e)

-- what reading answers tells how the bytes go, and so behind an FF
told : (b : List ℕ) → Told b (reading b) × Told (255 ∷ b) (scan true b)
unfolding scan
told [] = (Why.endless [] refl, Why.half [] refl)
told (x ∷ b) = (first (eqb x 0) refl (eqb x 255) refl (told b), second (special x) refl (told b).0)
  where
    first : (z : Bool) → eqb x 0 ≡ z → (f : Bool) → eqb x 255 ≡ f → Told b (reading b) × Told (255 ∷ b) (scan true b) → Told (x ∷ b) (reading (x ∷ b))
    first true p f q t = rw p (ap (λ (y : ℕ). y ∷ b) (eqb-true x 0 p))
    first false p true q t = rw (p, q) (subst (λ (y : ℕ). Told (y ∷ b) (scan true b)) (sym (eqb-true x 255 q)) t.1)
    first false p false q t = rw (p, q) (rw (p, q) at (told_push x b (reading b) t.0))

    second : (f : Bool) → special x ≡ f → Told b (reading b) → Told (255 ∷ x ∷ b) (scan true (x ∷ b))
    second true q t = rw q (rw q at (told_push x b (reading b) t))
    second false q t = rw q (Why.bad [] x b q refl)

-- why bytes are refused
pub why : (b : List ℕ) (r : Refusal) → reading b ≡ Got.refused r → Why b r
why b r e = subst (Told b) e (told b).0

-- what was read is what a writer writes
pub exact : (b s rest : List ℕ) → reading b ≡ Got.got s rest → b ≡ string s ++ rest
exact b s rest e = subst (Told b) e (told b).0 ∙ sym (string-begun s rest)

-- where a string that was read at `at` ends: behind its bytes, where the rest starts
pub next_field : (b : List ℕ) (at : ℕ) (s rest : List ℕ) → reading (drop at b) ≡ Got.got s rest → (length b - length rest ≡ at + length (string s)) × (drop (length b - length rest) b ≡ rest)
next_field b at s rest e =
    let x = exact (drop at b) s rest e in
    let n = string-length s in
    let l = sym (length-drop at b) ∙ ap length x ∙ length-append (string s) rest in
    let k : length b - length rest ≡ at + length (string s) = omega arith in
    (k, ap (λ (m : ℕ). drop m b) k ∙ sym (drop-drop (length (string s)) at b) ∙ ap (drop (length (string s))) x ∙ drop-append_seam (string s) rest)

-- a string that was judged: where its bytes end, and its text where nothing is escaped
module _ (b : List ℕ) (at : ℕ) (found : StringAt) where
  located-got : (x : Got (List ℕ)) → reading (drop at b) ≡ x → located (length b) x ≡ Ok found
      → (at < found.next) × (found.next ≤ length b) × (found.next - 1 - at ≡ found.len → take found.len (drop at b) ≡ text_read x)
  located-got (Got.refused r) e p = let z : ◌≡◌ {A = ℕ} 0 1 = cc in absurd (omega arith)
  located-got (Got.got s rest) e p =
      let n : length b - length rest ≡ found.next = ap (λ (a : StringAt). a.next) (ok-same p) in
      let l : length s ≡ found.len = ap (λ (a : StringAt). a.len) (ok-same p) in
      let f = (next_field b at s rest e).0 in
      let z = string-length s in (
        omega arith,
        omega arith,
        (λ (q : found.next - 1 - at ≡ found.len). ap (take found.len)
            (exact (drop at b) s rest e ∙ ap (λ (m : List ℕ). m ++ rest) (string_clean s (omega arith)) ∙ append_assoc s (0 ∷ []) rest) ∙ take_at s (0 ∷ rest) found.len l),
      )

  module _ (p : located (length b) (reading (drop at b)) ≡ Ok found) where
    pub located-next : (at < found.next) × (found.next ≤ length b)
    located-next = let g = located-got (reading (drop at b)) refl p in (g.0, g.1)

    pub located-plain : found.next - 1 - at ≡ found.len → take (found.next - 1 - at) (drop at b) ≡ text_read (reading (drop at b))
    located-plain q = rw q ((located-got (reading (drop at b)) refl p).2 q)

-- one encoding for each string, and no string's is the start of another's
pub one_encoding : (s t r q : List ℕ) → string s ++ r ≡ string t ++ q → (s ≡ t) × (r ≡ q)
one_encoding s t r q e = let g : Got.got s r ≡ Got.got t q = sym (read_written s r) ∙ ap reading e ∙ read_written t q in ((cc), (cc))

-- 1 and 13 alone
pub refuses : (b : List ℕ) (r : Refusal) → reading b ≡ Got.refused r → (r ≡ MoreBytes) ⊎ (r ≡ BadEscape)
refuses b r e = by (why b r e)
  where
    by : {q : Refusal} → Why b q → (q ≡ MoreBytes) ⊎ (q ≡ BadEscape)
    by (Why.endless s p) = inl refl
    by (Why.half s p) = inl refl
    by (Why.bad s c rest o p) = inr refl

-- an FF ahead of a byte other than 00 and FF, with no end before it
pub record Escape (b : List ℕ) : Type 0 where
  pub text : List ℕ
  pub byte : ℕ
  pub rest : List ℕ
  pub other : special byte ≡ false
  pub stands : b ≡ begun text (255 ∷ byte ∷ rest)

-- 13 exactly there
pub bad_escape : (b : List ℕ) → reading b ≡ Got.refused BadEscape → Escape b
bad_escape b e = by (why b BadEscape e) refl
  where
    by : {q : Refusal} → Why b q → q ≡ BadEscape → Escape b
    by (Why.endless s p) h = let z : ◌≡◌ {A = ℕ} 0 1 = cc in absurd (omega arith)
    by (Why.half s p) h = let z : ◌≡◌ {A = ℕ} 0 1 = cc in absurd (omega arith)
    by (Why.bad s c rest o p) h = record { text = s; byte = c; rest = rest; other = o; stands = p }

reading-begun : (s b : List ℕ) → reading b ≡ Got.refused BadEscape → reading (begun s b) ≡ Got.refused BadEscape
reading-begun [] b e = e
reading-begun (x ∷ s) b e = reading-escaped x (begun s b) ∙ ap (push x) (reading-begun s b e)

pub escape_bad : (b : List ℕ) → Escape b → reading b ≡ Got.refused BadEscape
unfolding scan
escape_bad b e = ap reading e.stands ∙ reading-begun e.text _ (rw e.other)

begun-append : (s rest more : List ℕ) → begun s rest ++ more ≡ begun s (rest ++ more)
begun-append [] rest more = refl
begun-append (b ∷ s) rest more = escaped-append b (begun s rest) more ∙ ap (escaped b) (begun-append s rest more)

-- 13 stands whatever follows
pub bad-behind : (b more : List ℕ) → reading b ≡ Got.refused BadEscape → reading (b ++ more) ≡ Got.refused BadEscape
bad-behind b more e =
    let x = bad_escape b e in
    escape_bad (b ++ more) (record {
      text = x.text;
      byte = x.byte;
      rest = x.rest ++ more;
      other = x.other;
      stands = ap (λ (l : List ℕ). l ++ more) x.stands ∙ begun-append x.text (255 ∷ x.byte ∷ x.rest) more;
    })
