-- Strings where they stand in a slice: each starts where the one before it ends.
use Rattle.basex.specs.Texts.{two_there, texts, two_at, texts_stored}
use Rattle.std.specs.Prelude.{Ok, Err}
use mathlib.Core.Path.{◌≡◌, refl, sym, ap, subst, ◌∙◌}
use mathlib.Core.List.{List}
use Prim.Native.Nat.{ℕ, suc, ◌+◌, ◌-◌, ◌≤◌}
use native.Mathlib.Omega.{arith}
use lib.ListN.{length, drop, length-drop}
use Rattle.wire.specs.Bytes.{splice}
use Rattle.wire.specs.Fields.{Got}
use Rattle.wire.specs.declared.Refusal.{Refusal}
use Rattle.basex_string.specs.declared.Ends.{Ends}
use Rattle.basex_string.specs.declared.StringAt.{StringAt}
use Rattle.basex_string.proofs.Handed.{ok-same}
use Rattle.basex_string.specs.Answers.{located}
use Rattle.basex_string.specs.Scan.{reading}
use Rattle.basex_string.specs.Strings.{string}
use Rattle.basex_string.specs.Unescaping.{Unescaped, unescaped, ended}
use Rattle.basex_string.proofs.Laws.{next_field}
use Rattle.basex_string.proofs.Unescaping.{unescaped-left}

-- a string was read at `at`: its text, what stands behind it, and where that starts
pub record Here (b : List ℕ) (at len next : ℕ) : Type 0 where
  pub text : List ℕ
  pub rest : List ℕ
  pub got : reading (drop at b) ≡ Got.got text rest
  pub long : len ≡ length text
  pub behind : drop next b ≡ rest
  pub ends : next ≡ at + length (string text)
  pub sum : next + length rest ≡ length b

read_here : (b : List ℕ) (at : ℕ) (t rest : List ℕ) → reading (drop at b) ≡ Got.got t rest → Here b at (length t) (length b - length rest)
read_here b at t rest e =
    let n = next_field b at t rest e in
    let l = sym (length-drop (length b - length rest) b) ∙ ap length n.1 in
    record { text = t; rest = rest; got = e; long = refl; behind = n.1; ends = n.0; sum = omega arith }

module _ (b : List ℕ) (at : ℕ) where
  pub here : (found : StringAt) → located (length b) (reading (drop at b)) ≡ Ok found → Here b at found.len found.next
  here found e = by (reading (drop at b)) refl e
    where
      by : (x : Got (List ℕ)) → reading (drop at b) ≡ x → located (length b) x ≡ Ok found → Here b at found.len found.next
      by (Got.refused r) p q = let z : ◌≡◌ {A = ℕ} 0 1 = cc in absurd (omega arith)
      by (Got.got t rest) p q = subst (λ (k : StringAt). Here b at k.len k.next) (ok-same q) (read_here b at t rest p)

  pub not_here : (r : Refusal) → located (length b) (reading (drop at b)) ≡ Err r → reading (drop at b) ≡ Got.refused r
  not_here r e = by (reading (drop at b)) e
    where
      by : (x : Got (List ℕ)) → located (length b) x ≡ Err r → x ≡ Got.refused r
      by (Got.refused q) p = let z : q ≡ r = cc in ap Got.refused z
      by (Got.got t rest) p = let z : ◌≡◌ {A = ℕ} 0 1 = cc in absurd (omega arith)

-- up to two strings, as they are told
module _ (b : List ℕ) (at : ℕ) where
  pub none_told : two_there 0 0 at ≡ two_at at (length b - at) (texts 0 (drop at b))
  unfolding texts
  none_told = let l = length-drop at b in ap (two_there 0 0) (omega arith)

  pub refused-told : (r : Refusal) (n : ℕ) → reading (drop at b) ≡ Got.refused r → Err r ≡ two_at at (length b - at) (texts (suc n) (drop at b))
  unfolding texts
  refused-told r n e = simp e

  pub one_told : (len next : ℕ) → Here b at len next → two_there len 0 next ≡ two_at at (length b - at) (texts 1 (drop at b))
  unfolding texts
  one_told len next h =
      let n : next ≡ at + (length b - at - length h.rest) = let e = h.ends in let s = h.sum in omega arith in
      rw h.got (rw h.long (ap (two_there (length h.text) 0) n))

  module _ (len next : ℕ) (h : Here b at len next) where
    pub second-refused : (r : Refusal) → reading (drop next b) ≡ Got.refused r → Err r ≡ two_at at (length b - at) (texts 2 (drop at b))
    unfolding texts
    second-refused r e = let q : reading h.rest ≡ Got.refused r = ap reading (sym h.behind) ∙ e in rw h.got (rw q refl)

    pub two-told : (second last : ℕ) → Here b next second last → two_there len second last ≡ two_at at (length b - at) (texts 2 (drop at b))
    unfolding texts
    two-told second last g =
        let q : reading h.rest ≡ Got.got g.text g.rest = ap reading (sym h.behind) ∙ g.got in
        let n : last ≡ at + (length b - at - length g.rest) = let d = h.ends in let e = g.ends in let s = g.sum in omega arith in
        rw h.got (rw q (rw (h.long, g.long) (ap (two_there (length h.text) (length g.text)) n)))

-- one more text is stored
pub one_more : (b out : List ℕ) (from to k : ℕ) (r : Ends) → r ≡ ended from (length b - from) to (unescaped (length out - to) (drop from b))
    → (from ≤ r.next) × (r.next ≤ from + (length b - from))
    × (texts_stored (suc k) out to (drop from b) ≡ texts_stored k (splice out to (unescaped (length out - to) (drop from b)).text) r.to (drop r.next b))
unfolding texts_stored
one_more b out from to k r e =
    let x : Unescaped = unescaped (length out - to) (drop from b) in
    let n : r.next ≡ from + (length b - from - length x.rest) = ap (λ (m : Ends). m.next) e in
    let t : r.to ≡ to + length x.text = ap (λ (m : Ends). m.to) e in
    let d : drop r.next b ≡ x.rest = ap (λ (m : ℕ). drop m b) n ∙ unescaped-left (length out - to) b from in
    (omega arith, omega arith, ap (λ (m : ℕ). texts_stored k (splice out to x.text) m x.rest) (sym t) ∙ ap (texts_stored k (splice out to x.text) r.to) (sym d))
