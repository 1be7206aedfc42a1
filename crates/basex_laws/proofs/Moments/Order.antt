-- Fields left to right: where two fields one behind the other are refused, and of what bytes are a beginning.
use mathlib.Core.Path.{◌≡◌, refl, sym, ap, subst, ◌∙◌}
use mathlib.Core.List.{List, [], ◌∷◌, ◌++◌, append_assoc, append-nil}
use mathlib.Core.Logic.{◌↔◌, ◌⊎◌, inl, inr}
use Prim.Native.Nat.{ℕ, ◌<◌}
use native.Mathlib.Omega.{arith}
use lib.ListN.{length, length-append}
use Rattle.wire.specs.Fields.{Got, Field, go_on, give}
use Rattle.wire.specs.declared.Refusal.{Refusal}
use Rattle.wire.specs.declared.Refusal.TheVariants.{MoreBytes}
use Rattle.wire.proofs.Fields.{Split, stopped}
use Rattle.basex_laws.specs.Moments.{Encoded, Begun}
use Rattle.basex_laws.proofs.Listed.{same}

-- the encoding of a value in front, and what is said of it and of the bytes left behind it
pub record Joined {A : Type 0} (Good : A → Type 0) (bytes : A → List ℕ) (Then : A → List ℕ → Type 0) (s : List ℕ) : Type 0 where
  pub value : A
  pub left : List ℕ
  pub good : Good value
  pub stands : s ≡ bytes value ++ left
  pub then : Then value left

-- bytes that begin x and y one behind the other end inside x, or have all of x and begin y
pub data Parting (x y s more : List ℕ) : Type 0 where
  inside : (z : List ℕ) → 0 < length z → x ≡ s ++ z → Parting x y s more
  past : (z : List ℕ) → s ≡ x ++ z → y ≡ z ++ more → Parting x y s more

pub part : (x y s more : List ℕ) → s ++ more ≡ x ++ y → Parting x y s more
part [] y s more e = Parting.past s refl (sym e)
part (b ∷ x) y [] more e = Parting.inside (b ∷ x) (omega arith) refl
part (b ∷ x) y (c ∷ s) more e = by (part x y s more (cc))
  where
    by : Parting x y s more → Parting (b ∷ x) y (c ∷ s) more
    by (Parting.inside z h p) = Parting.inside z h (cc)
    by (Parting.past z p q) = Parting.past z (cc) q

pub begun-map : {This That : List ℕ → Type 0} {s : List ℕ} → ((e : List ℕ) → This e → That e) → Begun This s → Begun That s
begun-map f h = record { missing = h.missing; some = h.some; whole = f _ h.whole }

-- a beginning of two encodings one behind the other ends in the first, which some second completes, or in the second
module _ {A : Type 0} (Good : A → Type 0) (bytes : A → List ℕ) (Then : A → List ℕ → Type 0) (s : List ℕ) where
  pub begun-joined : ((a : A) → Good a → (y : List ℕ) × Then a y) → (Begun (Encoded Good bytes) s ⊎ Joined Good bytes (λ a. Begun (Then a)) s) ↔ Begun (Joined Good bytes Then) s
  begun-joined some = (forth, back)
    where
      forth : Begun (Encoded Good bytes) s ⊎ Joined Good bytes (λ a. Begun (Then a)) s → Begun (Joined Good bytes Then) s
      forth (inl h) =
          let a = h.whole.0 in
          let m = some a h.whole.1 in
          let l = length-append h.missing m.0 in
          let k = h.some in
          record {
            missing = h.missing ++ m.0;
            some = omega arith;
            whole = record { value = a; left = m.0; good = h.whole.1; stands = sym (append_assoc s h.missing m.0) ∙ ap (λ (l : List ℕ). l ++ m.0) (sym h.whole.2); then = m.1 };
          }
      forth (inr j) =
          let h = j.then in
          record {
            missing = h.missing;
            some = h.some;
            whole = record {
              value = j.value;
              left = j.left ++ h.missing;
              good = j.good;
              stands = ap (λ (l : List ℕ). l ++ h.missing) j.stands
                  ∙ append_assoc (bytes j.value) j.left h.missing;
              then = h.whole;
            };
          }

      back : Begun (Joined Good bytes Then) s → Begun (Encoded Good bytes) s ⊎ Joined Good bytes (λ a. Begun (Then a)) s
      back h = by (part (bytes h.whole.value) h.whole.left s h.missing h.whole.stands)
        where
          by : Parting (bytes h.whole.value) h.whole.left s h.missing → Begun (Encoded Good bytes) s ⊎ Joined Good bytes (λ a. Begun (Then a)) s
          by (Parting.inside z k p) = inl (record { missing = z; some = k; whole = (h.whole.value, h.whole.good, p) })
          by (Parting.past z p q) = inr (record {
            value = h.whole.value;
            left = z;
            good = h.whole.good;
            stands = p;
            then = record { missing = h.missing; some = h.some; whole = subst (Then h.whole.value) q h.whole.then };
          })

-- a field that was read exactly, and what follows it: refused at the first, or at the next behind the encoding of a value
module _ {A B : Type 0} (Good : A → Type 0) (bytes : A → List ℕ) (s : List ℕ) (x : Got A) (next : A → Field B)
    (exact : (a : A) (rest : List ℕ) → (x ≡ Got.got a rest) ↔ (Good a × (s ≡ bytes a ++ rest))) (r : Refusal) where
  pub stops : (First : Type 0) (Then : A → List ℕ → Type 0) → (x ≡ Got.refused r) ↔ First → ((a : A) (rest : List ℕ) → x ≡ Got.got a rest → (next a rest ≡ Got.refused r) ↔ Then a rest)
      → (go_on x next ≡ Got.refused r) ↔ (First ⊎ Joined Good bytes Then s)
  stops First Then first later = (λ e. forth (stopped x next r e), back)
    where
      forth : (x ≡ Got.refused r) ⊎ Split x next (Got.refused r) → First ⊎ Joined Good bytes Then s
      forth (inl p) = inl (first.0 p)
      forth (inr d) =
          let k = (exact d.value d.behind).0 d.got in
          inr (record { value = d.value; left = d.behind; good = k.0; stands = k.1; then = (later d.value d.behind d.got).0 d.goes })

      back : First ⊎ Joined Good bytes Then s → go_on x next ≡ Got.refused r
      back (inl f) = ap (λ (y : Got A). go_on y next) (first.1 f)
      back (inr j) =
          let g = (exact j.value j.left).1 (j.good, j.stands) in
          ap (λ (y : Got A). go_on y next) g ∙ (later j.value j.left g).1 j.then

-- a value made of what was read is refused exactly where nothing was
pub made : {A B : Type 0} (x : Got A) (value : A → B) (r : Refusal) → (go_on x (λ a. give (value a)) ≡ Got.refused r) ↔ (x ≡ Got.refused r)
made x value r = (by x, ap (λ (y : Got _). go_on y (λ a. give (value a))))
  where
    by : (x : Got _) → go_on x (λ a. give (value a)) ≡ Got.refused r → x ≡ Got.refused r
    by (Got.refused q) e = let z : q ≡ r = cc in ap Got.refused z
    by (Got.got a rest) e = let z : ◌≡◌ {A = ℕ} 0 1 = cc in absurd (omega arith)

-- where a refusal other than 1 stands whatever follows, a beginning is refused with 1: its whole is read
module _ {A : Type 0} (field : Field A) (Good : A → Type 0) (bytes : A → List ℕ) (exact : (s : List ℕ) (a : A) (rest : List ℕ) → (field s ≡ Got.got a rest) ↔ (Good a × (s ≡ bytes a ++ rest))) where
  pub begun-short : ((s : List ℕ) (r : Refusal) → field s ≡ Got.refused r → (r ≡ MoreBytes) ⊎ ((more : List ℕ) → field (s ++ more) ≡ Got.refused r)) → (s : List ℕ)
      → Begun (Encoded Good bytes) s → field s ≡ Got.refused MoreBytes
  begun-short stays s h = by (field s) refl
    where
      whole : field (s ++ h.missing) ≡ Got.got h.whole.0 []
      whole = (exact (s ++ h.missing) h.whole.0 []).1 (h.whole.1, sym h.whole.2 ∙ sym (append-nil (bytes h.whole.0)))

      by : (x : Got A) → field s ≡ x → x ≡ Got.refused MoreBytes
      by (Got.got b rest) e =
          let k = (exact s b rest).0 e in
          let f = (exact (s ++ h.missing) b (rest ++ h.missing)).1 (k.0, ap (λ (l : List ℕ). l ++ h.missing) k.1 ∙ append_assoc (bytes b) rest h.missing) in
          let l = ap length (same (sym f ∙ whole)).1 in
          let n = length-append rest h.missing in
          let m = h.some in
          absurd (omega arith)
      by (Got.refused r) e = or (stays s r e)
        where
          or : (r ≡ MoreBytes) ⊎ ((more : List ℕ) → field (s ++ more) ≡ Got.refused r) → ◌≡◌ {A = Got A} (Got.refused r) (Got.refused MoreBytes)
          or (inl p) = ap Got.refused p
          or (inr f) =
              let d : Got.refused r ≡ Got.got h.whole.0 [] = sym (f h.missing) ∙ whole in
              let z : ◌≡◌ {A = ℕ} 0 1 = cc in
              absurd (omega arith)
