-- A refusal other than 1 is given at the first byte with which the bytes begin no encoding, from what is known of 1 and of what is read.
use mathlib.Core.Path.{◌≡◌, refl, sym, ap, subst, ◌∙◌}
use mathlib.Core.List.{List, [], ◌∷◌, ◌++◌, append_assoc, append-nil, append_cancel_left}
use mathlib.Core.Logic.{◌↔◌, ◌≢◌, ◌⊎◌, inl, inr}
use Prim.Native.Nat.{ℕ}
use native.Mathlib.Omega.{arith}
use lib.ListN.{length, length-append}
use lib.Seq.{append_snoc}
use Rattle.wire.specs.Fields.{Got, Field}
use Rattle.wire.specs.Refusals.{number_of}
use Rattle.wire.specs.declared.Refusal.{Refusal}
use Rattle.wire.specs.declared.Refusal.TheVariants.{MoreBytes, UnknownInstruction, OtherSide, BodyTooLong, FieldCut, StringFormat, BytesLeftOver, ValueNotAllowed, OutOfOrder, NoRoom, NoEncoding, BufferOverrun, BadEscape, NoSuchPart, NotOfForm, OutOfRange}
use Rattle.basex_laws.specs.Moments.{Encoded, Begun, Broken, Otherwise}
use Rattle.basex_laws.proofs.Moments.Order.{Parting, part}

-- by its number, a refusal is 1 or another
one? : (r : Refusal) → (r ≡ MoreBytes) ⊎ (r ≢ MoreBytes)
one? r = by r (λ k p. k (ap number_of p))
  where
    by : (r : Refusal) → (number_of r ≢ 1 → r ≢ MoreBytes) → (r ≡ MoreBytes) ⊎ (r ≢ MoreBytes)
    by MoreBytes f = inl refl
    by UnknownInstruction f = inr (f (omega arith))
    by OtherSide f = inr (f (omega arith))
    by BodyTooLong f = inr (f (omega arith))
    by FieldCut f = inr (f (omega arith))
    by StringFormat f = inr (f (omega arith))
    by BytesLeftOver f = inr (f (omega arith))
    by ValueNotAllowed f = inr (f (omega arith))
    by OutOfOrder f = inr (f (omega arith))
    by NoRoom f = inr (f (omega arith))
    by NoEncoding f = inr (f (omega arith))
    by BufferOverrun f = inr (f (omega arith))
    by BadEscape f = inr (f (omega arith))
    by NoSuchPart f = inr (f (omega arith))
    by NotOfForm f = inr (f (omega arith))
    by OutOfRange f = inr (f (omega arith))

module _ {A : Type 0} (field : Field A) (Good : A → Type 0) (bytes : A → List ℕ)
    (exact : (s : List ℕ) (a : A) (rest : List ℕ) → (field s ≡ Got.got a rest) ↔ (Good a × (s ≡ bytes a ++ rest)))
    (more : (s : List ℕ) → (field s ≡ Got.refused MoreBytes) ↔ Begun (Encoded Good bytes) s) where
  whole-got : (s : List ℕ) → Encoded Good bytes s → (a : A) × (field s ≡ Got.got a [])
  whole-got s w = (w.0, (exact s w.0 []).1 (w.1, sym w.2 ∙ sym (append-nil (bytes w.0))))

  -- behind a beginning p, up to the first byte that is refused otherwise
  walk : (s p : List ℕ) → field p ≡ Got.refused MoreBytes → (r : Refusal) → r ≢ MoreBytes → field (p ++ s) ≡ Got.refused r → Broken (Encoded Good bytes) (p ++ s)
  walk [] p h r o e = let d : Got.refused MoreBytes ≡ Got.refused r = sym h ∙ ap field (sym (append-nil p)) ∙ e in let z : r ≡ MoreBytes = cc in absurd (o z)
  walk (b ∷ s) p h r o e = by (field (p ++ (b ∷ []))) refl (λ (k : field (p ++ (b ∷ [])) ≡ Got.refused MoreBytes). walk s (p ++ (b ∷ [])) k r o (ap field (append_snoc p b s) ∙ e))
    where
      by : (x : Got A) → field (p ++ (b ∷ [])) ≡ x → (field (p ++ (b ∷ [])) ≡ Got.refused MoreBytes → Broken (Encoded Good bytes) (p ++ (b ∷ []) ++ s)) → Broken (Encoded Good bytes) (p ++ (b ∷ s))
      by (Got.got a rest) k later =
          let g = (exact (p ++ (b ∷ [])) a rest).0 k in
          let f = (exact (p ++ (b ∷ s)) a (rest ++ s)).1 (g.0, sym (append_snoc p b s) ∙ ap (λ (l : List ℕ). l ++ s) g.1 ∙ append_assoc (bytes a) rest s) in
          let d : Got.got a (rest ++ s) ≡ Got.refused r = sym f ∙ e in
          let z : ◌≡◌ {A = ℕ} 0 1 = cc in
          absurd (omega arith)
      by (Got.refused q) k later = or (one? q)
        where
          or : (q ≡ MoreBytes) ⊎ (q ≢ MoreBytes) → Broken (Encoded Good bytes) (p ++ (b ∷ s))
          or (inl z) = subst (Broken (Encoded Good bytes)) (append_snoc p b s) (later (k ∙ ap Got.refused z))
          or (inr n) = record {
            front = p;
            byte = b;
            rest = s;
            stands = refl;
            begun = (more p).0 h;
            not_begun = λ x. let d : Got.refused q ≡ Got.refused MoreBytes = sym k ∙ (more (p ++ (b ∷ []))).1 x in let z : q ≡ MoreBytes = cc in n z;
            not_whole = λ w. let g = whole-got (p ++ (b ∷ [])) w in let d : Got.refused q ≡ Got.got g.0 [] = sym k ∙ g.1 in let z : ◌≡◌ {A = ℕ} 0 1 = cc in omega arith;
          }

  -- nothing is read where the bytes are broken, nor are more wanted
  broken : (s : List ℕ) → Broken (Encoded Good bytes) s → Otherwise (field s)
  broken s h = by (field s) refl
    where
      front : List ℕ
      front = h.front

      here : List ℕ
      here = front ++ (h.byte ∷ [])

      is : s ≡ here ++ h.rest
      is = h.stands ∙ sym (append_snoc front h.byte h.rest)

      -- an encoding that ends by this byte would end ahead of it, where more is wanted, or here
      ended : (a : A) (z : List ℕ) → Good a → here ≡ bytes a ++ z → Parting (bytes a) z front (h.byte ∷ []) → ⊥
      ended a z g p (Parting.past w q t) = let d : Got.got a w ≡ Got.refused MoreBytes = sym ((exact front a w).1 (g, q)) ∙ (more front).1 h.begun in let o : ◌≡◌ {A = ℕ} 0 1 = cc in omega arith
      ended a [] g p (Parting.inside w k q) = h.not_whole (a, g, sym (append-nil (bytes a)) ∙ sym p)
      ended a (c ∷ z) g p (Parting.inside w k q) =
          let e = append_cancel_left front (h.byte ∷ []) (w ++ (c ∷ z)) (p ∙ ap (λ (l : List ℕ). l ++ (c ∷ z)) q ∙ append_assoc front w (c ∷ z)) in
          omega (arith, ap length e, length-append w (c ∷ z))

      read : (a : A) (rest : List ℕ) → Good a → Parting (bytes a) rest here h.rest → ⊥
      read a rest g (Parting.inside z k p) = h.not_begun (record { missing = z; some = k; whole = (a, g, p) })
      read a rest g (Parting.past z p q) = ended a z g p (part (bytes a) z front (h.byte ∷ []) p)

      by : (x : Got A) → field s ≡ x → Otherwise x
      by (Got.got a rest) e = let g = (exact s a rest).0 e in absurd (read a rest g.0 (part (bytes a) rest here h.rest (sym is ∙ g.1)))
      by (Got.refused q) e = or (one? q)
        where
          or : (q ≡ MoreBytes) ⊎ (q ≢ MoreBytes) → Otherwise {A = A} (Got.refused q)
          or (inr n) = (q, n, refl)
          or (inl z) =
              let b = (more s).0 (e ∙ ap Got.refused z) in
              let l = length-append h.rest b.missing in
              let k = b.some in
              absurd (h.not_begun (record {
                missing = h.rest ++ b.missing;
                some = omega arith;
                whole = subst (Encoded Good bytes) (ap (λ (l : List ℕ). l ++ b.missing) is ∙ append_assoc here h.rest b.missing) b.whole;
              }))

  pub breaking : field [] ≡ Got.refused MoreBytes → (s : List ℕ) → Otherwise (field s) ↔ Broken (Encoded Good bytes) s
  breaking none s = (λ h. walk s [] none h.0 h.1 h.2, broken s)
