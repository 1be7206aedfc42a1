-- Strings one behind the other: reading takes exactly what is written, and storing puts their texts one behind the other.
use mathlib.Core.Path.{◌≡◌, refl, sym, ap, ◌∙◌}
use mathlib.Core.List.{List, [], ◌∷◌, ◌++◌, flatten, append_assoc, flat_map}
use mathlib.Core.Logic.{◌⊎◌}
use Prim.Native.Nat.{ℕ, zero, suc, ◌+◌, ◌-◌, ◌≤◌}
use native.Mathlib.Omega.{arith}
use lib.ListN.{length, length-append}
use Rattle.wire.specs.Bytes.{splice}
use Rattle.wire.specs.Fields.{Got, go_on, give}
use Rattle.wire.specs.declared.Refusal.{Refusal}
use Rattle.wire.specs.declared.Refusal.TheVariants.{MoreBytes, BadEscape}
use Rattle.wire.proofs.Splices.{length-splice, splice-splice, splice-none}
use Rattle.basex_string.specs.Scan.{reading}
use Rattle.basex_string.specs.Strings.{string}
use Rattle.basex_string.specs.Unescaping.{Unescaped}
use Rattle.basex_string.proofs.Laws.{exact, read_written, refuses}
use Rattle.basex_string.proofs.Unescaping.{unescaped-read}
use Rattle.basex.specs.Texts.{strings, texts, texts_stored}

-- the texts of strings that were read, behind one that was read first
abbrev with : List ℕ → Got (List (List ℕ)) → Got (List (List ℕ))
with t x = go_on x (λ ts. give (t ∷ ts))

pub texts-none : (s : List ℕ) → texts 0 s ≡ Got.got [] s
unfolding texts
texts-none s = refl

pub texts-more : (n : ℕ) (s t rest : List ℕ) → reading s ≡ Got.got t rest → texts (suc n) s ≡ with t (texts n rest)
unfolding texts
texts-more n s t rest e = rw e refl

pub texts-refused : (n : ℕ) (s : List ℕ) (r : Refusal) → reading s ≡ Got.refused r → texts (suc n) s ≡ Got.refused r
unfolding texts
texts-refused n s r e = rw e refl

-- n + 1 strings were read: the first, and n behind it
record Read (n : ℕ) (s : List ℕ) (ts : List (List ℕ)) (rest : List ℕ) : Type 0 where
  first : List ℕ
  behind : List ℕ
  others : List (List ℕ)
  got : reading s ≡ Got.got first behind
  goes : texts n behind ≡ Got.got others rest
  all : first ∷ others ≡ ts

read_more : (n : ℕ) (s : List ℕ) (ts : List (List ℕ)) (rest : List ℕ) → texts (suc n) s ≡ Got.got ts rest → Read n s ts rest
read_more n s ts rest e = by (reading s) refl
  where
    by : (x : Got (List ℕ)) → reading s ≡ x → Read n s ts rest
    by (Got.refused r) p = let z : Got.refused r ≡ Got.got ts rest = sym (texts-refused n s r p) ∙ e in let y : ◌≡◌ {A = ℕ} 0 1 = cc in absurd (omega arith)
    by (Got.got t more) p = then (texts n more) refl (sym (texts-more n s t more p) ∙ e)
      where
        then : (x : Got (List (List ℕ))) → texts n more ≡ x → with t x ≡ Got.got ts rest → Read n s ts rest
        then (Got.refused r) q g = let y : ◌≡◌ {A = ℕ} 0 1 = cc in absurd (omega arith)
        then (Got.got us last) q g =
            let u : t ∷ us ≡ ts = cc in
            let l : last ≡ rest = cc in
            record { first = t; behind = more; others = us; got = p; goes = q ∙ ap (Got.got us) l; all = u }

read_none : (s : List ℕ) (ts : List (List ℕ)) (rest : List ℕ) → texts 0 s ≡ Got.got ts rest → ([] ≡ ts) × (s ≡ rest)
read_none s ts rest e = let g : Got.got [] s ≡ Got.got ts rest = sym (texts-none s) ∙ e in ((cc), (cc))

-- what n strings were read is what a writer writes
pub texts_exact : (n : ℕ) (s : List ℕ) (ts : List (List ℕ)) (rest : List ℕ) → texts n s ≡ Got.got ts rest → (length ts ≡ n) × (s ≡ strings ts ++ rest)
unfolding flat_map
texts_exact zero s ts rest e =
    let g = read_none s ts rest e in
    (ap length (sym g.0), rw (sym g.0) g.1)
texts_exact (suc n) s ts rest e =
    let g = read_more n s ts rest e in
    let i = texts_exact n g.behind g.others rest g.goes in (
      ap length (sym g.all) ∙ ap suc i.0,
      exact s g.first g.behind g.got ∙ ap (λ (m : List ℕ). string g.first ++ m) i.1
          ∙ sym (append_assoc (string g.first) (strings g.others) rest) ∙ ap (λ (m : List (List ℕ)). strings m ++ rest) g.all,
    )

-- what was written is read, whatever follows
pub texts-written : (ts : List (List ℕ)) (rest : List ℕ) → texts (length ts) (strings ts ++ rest) ≡ Got.got ts rest
unfolding flat_map
texts-written [] rest = texts-none rest
texts-written (t ∷ ts) rest =
    let e = ap reading (append_assoc (string t) (strings ts) rest) ∙ read_written t (strings ts ++ rest) in
    texts-more (length ts) _ t (strings ts ++ rest) e ∙ ap (with t) (texts-written ts rest)

-- 1 and 13 alone
pub texts_refuses : (n : ℕ) (s : List ℕ) (r : Refusal) → texts n s ≡ Got.refused r → (r ≡ MoreBytes) ⊎ (r ≡ BadEscape)
texts_refuses zero s r e = let z : Got.got [] s ≡ Got.refused r = sym (texts-none s) ∙ e in let y : ◌≡◌ {A = ℕ} 0 1 = cc in absurd (omega arith)
texts_refuses (suc n) s r e = by (λ (more : List ℕ). texts_refuses n more r) (reading s) refl
  where
    by : ((more : List ℕ) → texts n more ≡ Got.refused r → (r ≡ MoreBytes) ⊎ (r ≡ BadEscape)) → (x : Got (List ℕ)) → reading s ≡ x → (r ≡ MoreBytes) ⊎ (r ≡ BadEscape)
    by i (Got.refused q) p = let g : Got.refused q ≡ Got.refused r = sym (texts-refused n s q p) ∙ e in let z : q ≡ r = cc in refuses s r (p ∙ ap Got.refused z)
    by i (Got.got t more) p = then (texts n more) refl (sym (texts-more n s t more p) ∙ e)
      where
        then : (x : Got (List (List ℕ))) → texts n more ≡ x → with t x ≡ Got.refused r → (r ≡ MoreBytes) ⊎ (r ≡ BadEscape)
        then (Got.refused q) h g = let z : q ≡ r = cc in i more (h ∙ ap Got.refused z)
        then (Got.got us last) h g = let y : ◌≡◌ {A = ℕ} 0 1 = cc in absurd (omega arith)

-- strings that read well and fit are all stored
pub texts-stored : (n : ℕ) (out : List ℕ) (to : ℕ) (s : List ℕ) (ts : List (List ℕ)) (rest : List ℕ) → texts n s ≡ Got.got ts rest → to + length (flatten ts) ≤ length out
    → texts_stored n out to s ≡ record { out = splice out to (flatten ts); to = to + length (flatten ts); rest = rest }
unfolding texts_stored flatten
texts-stored zero out to s ts rest e h =
    let g = read_none s ts rest e in
    let z : to ≡ to + 0 = omega arith in
    rw (sym g.0) (rw (splice-none out to, sym z, g.1) refl)
texts-stored (suc n) out to s ts rest e h =
    let g = read_more n s ts rest e in
    let t = g.first in
    let us = g.others in
    let l : length (flatten ts) ≡ length t + length (flatten us) = ap (λ (m : List (List ℕ)). length (flatten m)) (sym g.all) ∙ length-append t (flatten us) in
    let o = length-splice out to t (omega arith) in
    let i = texts-stored n (splice out to t) (to + length t) g.behind us rest g.goes (omega arith) in
    let v = splice-splice out to t (flatten us) (omega arith) in
    let k : to + length t + length (flatten us) ≡ to + length (flatten ts) = omega arith in
    let w = v ∙ ap (λ (m : List (List ℕ)). splice out to (flatten m)) g.all in
    ap (λ (x : Unescaped). texts_stored n (splice out to x.text) (to + length x.text) x.rest) (unescaped-read (length out - to) s t g.behind g.got (omega arith))
    ∙ i ∙ ap (λ (m : List ℕ). record { out = m; to = to + length t + length (flatten us); rest = rest }) w ∙ ap (λ (m : ℕ). record { out = splice out to (flatten ts); to = m; rest = rest }) k
