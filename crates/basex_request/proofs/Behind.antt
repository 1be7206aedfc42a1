-- A refusal other than 1 stands whatever follows: "13 as soon as the pair is there".
use Rattle.std.specs.Prelude.{Option, Some, None}
use mathlib.Core.Path.{◌≡◌, refl, sym, ap, ◌∙◌}
use mathlib.Core.List.{List, [], ◌∷◌, ◌++◌, append_assoc}
use mathlib.Core.Bool.{Bool, true, false}
use mathlib.Core.Logic.{◌⊎◌, inl, inr}
use Prim.Native.Nat.{ℕ, zero, suc}
use native.Mathlib.Omega.{arith}
use Rattle.wire.specs.Bytes.{if}
use Rattle.wire.specs.Fields.{Got, go_on, give}
use Rattle.wire.specs.declared.Refusal.{Refusal}
use Rattle.wire.specs.declared.Refusal.TheVariants.{MoreBytes, BadEscape}
use Rattle.basex_string.specs.Strings.{string}
use Rattle.basex_string.specs.Scan as strings
use Rattle.basex_string.proofs.Laws.{exact, read_written, refuses, bad-behind}
use Rattle.basex.specs.declared.Reply.{Reply}
use Rattle.basex.specs.Kinds.{find_of, is_command}
use Rattle.basex.specs.Request.{Request}
use Rattle.basex.specs.Texts.{texts}
use Rattle.basex.proofs.Texts.{texts-none, texts-more, texts-refused, texts_refuses}
use Rattle.basex_request.specs.Reading.{fields_of, reading}
use Rattle.basex_request.proofs.Refusals.{refused-before}

texts-behind : (n : ℕ) (s more : List ℕ) → texts n s ≡ Got.refused BadEscape → texts n (s ++ more) ≡ Got.refused BadEscape
texts-behind zero s more e = let z : Got.got [] s ≡ Got.refused BadEscape = sym (texts-none s) ∙ e in let y : ◌≡◌ {A = ℕ} 0 1 = cc in absurd (omega arith)
texts-behind (suc n) s more e = by (λ (l : List ℕ). texts-behind n l more) (strings.reading s) refl
  where
    by : ((l : List ℕ) → texts n l ≡ Got.refused BadEscape → texts n (l ++ more) ≡ Got.refused BadEscape) → (x : Got (List ℕ)) → strings.reading s ≡ x
        → texts (suc n) (s ++ more) ≡ Got.refused BadEscape
    by i (Got.refused q) p =
        let g : Got.refused q ≡ Got.refused BadEscape = sym (texts-refused n s q p) ∙ e in
        let z : q ≡ BadEscape = cc in
        texts-refused n (s ++ more) BadEscape (bad-behind s more (p ∙ ap Got.refused z))
    by i (Got.got t rest) p =
        let f = ap strings.reading (ap (λ (l : List ℕ). l ++ more) (exact s t rest p) ∙ append_assoc (string t) rest more) ∙ read_written t (rest ++ more) in
        then (texts n rest) refl (sym (texts-more n s t rest p) ∙ e) f
      where
        then : (x : Got (List (List ℕ))) → texts n rest ≡ x → go_on x (λ ts. give (t ∷ ts)) ≡ Got.refused BadEscape → strings.reading (s ++ more) ≡ Got.got t (rest ++ more)
            → texts (suc n) (s ++ more) ≡ Got.refused BadEscape
        then (Got.refused q) h g f =
            let z : q ≡ BadEscape = cc in
            texts-more n (s ++ more) t (rest ++ more) f ∙ rw (i rest (h ∙ ap Got.refused z)) refl
        then (Got.got us last) h g f = let y : ◌≡◌ {A = ℕ} 0 1 = cc in absurd (omega arith)

pub refused-behind : (s more : List ℕ) (r : Refusal) → (r ≡ MoreBytes → ⊥) → reading s ≡ Got.refused r → reading (s ++ more) ≡ Got.refused r
unfolding reading
refused-behind [] more r h e = let z : r ≡ MoreBytes = cc in absurd (h z)
refused-behind (b ∷ s) more r h e = by (find_of b) e
  where
    bad : (r ≡ MoreBytes) ⊎ (r ≡ BadEscape) → r ≡ BadEscape
    bad (inl p) = absurd (h p)
    bad (inr p) = p

    by : (f : Option (ℕ × Reply)) → fields_of b f s ≡ Got.refused r → fields_of b f (s ++ more) ≡ Got.refused r
    by None p = p
    by (Some (n, reply)) p = which (is_command reply) p
      where
        which : (c : Bool) → if c (go_on (strings.reading (b ∷ s)) (λ t. give (Request.command t))) (go_on (texts n s) (λ ts. give (Request.coded b ts))) ≡ Got.refused r
            → if c (go_on (strings.reading (b ∷ (s ++ more))) (λ t. give (Request.command t))) (go_on (texts n (s ++ more)) (λ ts. give (Request.coded b ts))) ≡ Got.refused r
        which true g =
            let q = refused-before r (strings.reading (b ∷ s)) Request.command g in
            let z = bad (refuses (b ∷ s) r q) in
            rw (bad-behind (b ∷ s) more (q ∙ ap Got.refused z)) (ap Got.refused (sym z))
        which false g =
            let q = refused-before r (texts n s) (Request.coded b) g in
            let z = bad (texts_refuses n s r q) in
            rw (texts-behind n s more (q ∙ ap Got.refused z)) (ap Got.refused (sym z))
