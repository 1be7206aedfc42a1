-- A request judged where it stands: its strings two by two, and what its first byte makes of them.
use Rattle.std.specs.Prelude.{Ok, Err, Some, None}
use mathlib.Core.Path.{◌≡◌, refl, sym, ap, ◌∙◌}
use mathlib.Core.List.{List, [], ◌∷◌, ◌++◌}
use mathlib.Core.Bool.{true, false}
use Prim.Native.Nat.{ℕ, zero, suc, ◌+◌, ◌-◌, ◌≤◌, ◌<◌, min}
use native.Mathlib.Nat.{suc-add}
use native.Mathlib.Omega.{arith}
use lib.ListN.{length, get_or, drop, length-append, length-drop}
use lib.Seq.{drop-drop, drop-append_seam}
use Rattle.wire.specs.Fields.{Got, go_on, give}
use Rattle.wire.specs.declared.Refusal.{Refusal}
use Rattle.wire.specs.declared.Refusal.TheVariants.{MoreBytes, UnknownInstruction}
use Rattle.basex_string.specs.Scan as scan
use Rattle.basex_string.proofs.Handed.{ok-same}
use Rattle.basex.specs.declared.Reply.{Reply}
use Rattle.basex.specs.declared.TwoAt.{TwoAt}
use Rattle.basex.specs.Kinds.{find_of, is_command}
use Rattle.basex.specs.Request.{Request}
use Rattle.basex.specs.Texts.{strings, texts, length_at, two_at}
use Rattle.basex.proofs.Texts.{texts-none, texts-more, texts-refused, texts_exact}
use Rattle.basex_request.specs.inner.Places.{found_request, strings_from, request_at}
use Rattle.basex_request.specs.Reading.{fields_of, reading}
use Rattle.basex_request.proofs.Table.{command-one}

-- strings that were read, behind others
abbrev behind : List (List ℕ) → Got (List (List ℕ)) → Got (List (List ℕ))
behind ts x = go_on x (λ us. give (ts ++ us))

-- m strings, and n behind them
pub texts-split : (m n : ℕ) (s : List ℕ) → texts (m + n) s ≡ go_on (texts m s) (λ ts more. behind ts (texts n more))
unfolding texts
texts-split zero n s = let z : 0 + n ≡ n = omega arith in rw z (by (texts n s))
  where
    by : (x : Got (List (List ℕ))) → x ≡ behind [] x
    by (Got.refused r) = refl
    by (Got.got ts rest) = refl
texts-split (suc m) n s = rw (suc-add m n) (by (texts-split m n) (scan.reading s))
  where
    then : (t : List ℕ) (x : Got (List (List ℕ))) → go_on (go_on x (λ ts more. behind ts (texts n more))) (λ ts. give (t ∷ ts)) ≡ go_on (go_on x (λ ts. give (t ∷ ts)))
        (λ ts more. behind ts (texts n more))
    then t (Got.refused r) = refl
    then t (Got.got ts more) = last (texts n more)
      where
        last : (x : Got (List (List ℕ))) → go_on (behind ts x) (λ us. give (t ∷ us)) ≡ behind (t ∷ ts) x
        last (Got.refused r) = refl
        last (Got.got us rest) = refl

    by : ((more : List ℕ) → texts (m + n) more ≡ go_on (texts m more) (λ ts last. behind ts (texts n last))) → (x : Got (List ℕ))
        → go_on x (λ t more. go_on (texts (m + n) more) (λ ts. give (t ∷ ts))) ≡ go_on (go_on x (λ t more. go_on (texts m more) (λ ts. give (t ∷ ts)))) (λ ts more. behind ts (texts n more))
    by i (Got.refused r) = refl
    by i (Got.got t more) = ap (λ (x : Got (List (List ℕ))). go_on x (λ ts. give (t ∷ ts))) (i more) ∙ then t (texts m more)

-- m strings were read at `at`: their texts, what stands behind them, and where that starts
pub record Two (b : List ℕ) (at m : ℕ) (found : TwoAt) : Type 0 where
  pub ts : List (List ℕ)
  pub rest : List ℕ
  pub got : texts m (drop at b) ≡ Got.got ts rest
  pub count : length ts ≡ m
  pub one : found.first ≡ length_at ts 0
  pub two : found.second ≡ length_at ts 1
  pub ends : found.next ≡ at + length (strings ts)
  pub sum : length b - at ≡ length (strings ts) + length rest
  pub there : drop found.next b ≡ rest

module _ (b : List ℕ) (at m : ℕ) where
  pub not_two : (r : Refusal) → Err r ≡ two_at at (length b - at) (texts m (drop at b)) → texts m (drop at b) ≡ Got.refused r
  not_two r e = by (texts m (drop at b)) e
    where
      by : (x : Got (List (List ℕ))) → Err r ≡ two_at at (length b - at) x → x ≡ Got.refused r
      by (Got.refused q) p = let z : q ≡ r = cc in ap Got.refused z
      by (Got.got ts rest) p = let z : ◌≡◌ {A = ℕ} 0 1 = cc in absurd (omega arith)

  pub two : (found : TwoAt) → Ok found ≡ two_at at (length b - at) (texts m (drop at b)) → Two b at m found
  two found e = by (texts m (drop at b)) refl e
    where
      by : (x : Got (List (List ℕ))) → texts m (drop at b) ≡ x → Ok found ≡ two_at at (length b - at) x → Two b at m found
      by (Got.refused q) p g = let z : ◌≡◌ {A = ℕ} 0 1 = cc in absurd (omega arith)
      by (Got.got ts rest) p g =
          let x = texts_exact m (drop at b) ts rest p in
          let l = sym (length-drop at b) ∙ ap length x.1 ∙ length-append (strings ts) rest in
          let y = ok-same g in
          let n : found.next ≡ at + (length b - at - length rest) = ap (λ (t : TwoAt). t.next) y in
          let k : found.next ≡ at + length (strings ts) = omega arith in
          record {
            ts = ts;
            rest = rest;
            got = p;
            count = x.0;
            one = ap (λ (t : TwoAt). t.first) y;
            two = ap (λ (t : TwoAt). t.second) y;
            ends = k;
            sum = l;
            there = ap (λ (i : ℕ). drop i b) k ∙ sym (drop-drop (length (strings ts)) at b) ∙ ap (drop (length (strings ts))) x.1 ∙ drop-append_seam (strings ts) rest;
          }

-- how long each of up to four texts is, told two by two
lengths-joined : (kind from n read : ℕ) (ts us : List (List ℕ)) → length ts ≤ 2 → (length ts < 2 → length us ≡ 0)
    → found_request kind from n (length_at ts 0) (length_at ts 1) (length_at us 0) (length_at us 1) read ≡ found_request kind from n (length_at (ts ++ us) 0) (length_at (ts ++ us) 1)
    (length_at (ts ++ us) 2) (length_at (ts ++ us) 3) read
lengths-joined kind from n read [] [] h k = refl
lengths-joined kind from n read [] (u ∷ us) h k = let z : length (u ∷ us) ≡ 0 = k (omega arith) in absurd (omega arith)
lengths-joined kind from n read (t ∷ []) [] h k = refl
lengths-joined kind from n read (t ∷ []) (u ∷ us) h k = let z : length (u ∷ us) ≡ 0 = k (omega arith) in absurd (omega arith)
lengths-joined kind from n read (t ∷ (v ∷ [])) us h k = refl
lengths-joined kind from n read (t ∷ (v ∷ (w ∷ ts))) us h k = absurd (omega arith)

module _ (b : List ℕ) (kind from n : ℕ) (h : n ≤ 4) where
  split : texts n (drop from b) ≡ go_on (texts (min n 2) (drop from b)) (λ ts more. behind ts (texts (min (n - 2) 2) more))
  split = let e : n ≡ min n 2 + min (n - 2) 2 = omega arith in ap (λ (m : ℕ). texts m (drop from b)) e ∙ texts-split (min n 2) (min (n - 2) 2) (drop from b)

  pub strings-refused : (r : Refusal) → Err r ≡ two_at from (length b - from) (texts (min n 2) (drop from b)) → Err r ≡ strings_from kind from (length b - from) (texts n (drop from b))
  strings-refused r e = let q = not_two b from (min n 2) r e in rw split (rw q refl)

  module _ (one : TwoAt) (f : Two b from (min n 2) one) where
    pub others_refused : (r : Refusal) → Err r ≡ two_at one.next (length b - one.next) (texts (min (n - 2) 2) (drop one.next b))
        → Err r ≡ strings_from kind from (length b - from) (texts n (drop from b))
    others_refused r e =
        let q : texts (min (n - 2) 2) f.rest ≡ Got.refused r = ap (texts (min (n - 2) 2)) (sym f.there) ∙ not_two b one.next (min (n - 2) 2) r e in
        rw split (rw f.got (rw q refl))

    pub strings-well : (two : TwoAt) → Two b one.next (min (n - 2) 2) two
        → found_request kind from n one.first one.second two.first two.second two.next ≡ strings_from kind from (length b - from) (texts n (drop from b))
    strings-well two g =
        let q : texts (min (n - 2) 2) f.rest ≡ Got.got g.ts g.rest = ap (texts (min (n - 2) 2)) (sym f.there) ∙ g.got in
        let c : length (f.ts ++ g.ts) ≡ n = let x = f.count in let y = g.count in length-append f.ts g.ts ∙ omega arith in
        let l = sym (length-drop one.next b) ∙ ap length f.there in
        let e : two.next ≡ from + (length b - from - length g.rest) = let x = f.ends in let y = f.sum in let z = g.ends in let w = g.sum in omega arith in
        let j = lengths-joined kind from n two.next f.ts g.ts (let x = f.count in omega arith) (λ k. let x = f.count in let y = g.count in omega arith) in
        rw split (rw f.got (rw q (rw (c, sym e, f.one, f.two, g.one, g.two) j)))

pub none_judged : (s : List ℕ) → length s ≡ 0 → Err MoreBytes ≡ request_at (length s) (reading s)
unfolding reading
none_judged [] h = refl
none_judged (b ∷ s) h = absurd (omega arith)

-- the first byte, and what the table says of it
module _ (s : List ℕ) (h : length s ≡ 0 → ⊥) where
  front : reading s ≡ fields_of (get_or s 0 0) (find_of (get_or s 0 0)) (drop 1 s)
  unfolding reading
  front = by s h
    where
      by : (s : List ℕ) → (length s ≡ 0 → ⊥) → reading s ≡ fields_of (get_or s 0 0) (find_of (get_or s 0 0)) (drop 1 s)
      by [] h = absurd (h refl)
      by (b ∷ s) h = refl

  whole : get_or s 0 0 ∷ drop 1 s ≡ s
  whole = by s h
    where
      by : (s : List ℕ) → (length s ≡ 0 → ⊥) → get_or s 0 0 ∷ drop 1 s ≡ s
      by [] h = absurd (h refl)
      by (b ∷ s) h = refl

  pub unknown_judged : find_of (get_or s 0 0) ≡ None → Err UnknownInstruction ≡ request_at (length s) (reading s)
  unknown_judged f = rw front (rw f refl)

  module _ (n : ℕ) (reply : Reply) (f : find_of (get_or s 0 0) ≡ Some (n, reply)) where
    pub command_judged : is_command reply ≡ true → strings_from 0x20 0 (length s - 0) (texts n (drop 0 s)) ≡ request_at (length s) (reading s)
    command_judged c = rw front (rw f (rw (c, whole, command-one (get_or s 0 0) n reply f c) (by (scan.reading s) refl)))
      where
        by : (x : Got (List ℕ)) → scan.reading s ≡ x → strings_from 0x20 0 (length s - 0) (texts 1 s) ≡ request_at (length s) (go_on x (λ t. give (Request.command t)))
        by (Got.refused r) p = rw (texts-refused 0 s r p) refl
        by (Got.got t rest) p =
            let e : 0 + (length s - 0 - length rest) ≡ length s - length rest = omega arith in
            rw (texts-more 0 s t rest p) (rw (texts-none rest) (ap (found_request 0x20 0 1 (length t) 0 0 0) e))

    pub coded_judged : is_command reply ≡ false → strings_from (get_or s 0 0) 1 (length s - 1) (texts n (drop 1 s)) ≡ request_at (length s) (reading s)
    coded_judged c = rw front (rw f (rw c (by (texts n (drop 1 s)) refl)))
      where
        by : (x : Got (List (List ℕ))) → texts n (drop 1 s) ≡ x → strings_from (get_or s 0 0) 1 (length s - 1) x ≡ request_at (length s) (go_on x (λ ts. give (Request.coded (get_or s 0 0) ts)))
        by (Got.refused r) p = refl
        by (Got.got ts rest) p =
            let x = texts_exact n (drop 1 s) ts rest p in
            let l = sym (length-drop 1 s) ∙ ap length x.1 ∙ length-append (strings ts) rest in
            let e : 1 + (length s - 1 - length rest) ≡ length s - length rest = let z = ap length whole in omega arith in
            ap (found_request (get_or s 0 0) 1 (length ts) (length_at ts 0) (length_at ts 1) (length_at ts 2) (length_at ts 3)) e
