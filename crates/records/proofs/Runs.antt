-- The records of an input are its first one, and those of the input behind it.
use Rattle.std.specs.Prelude.{Option, Some, None}
use mathlib.Core.List.{List, [], ◌∷◌}
use mathlib.Core.Path.{◌≡◌, refl, ap, ◌∙◌}
use Prim.Native.Nat.{ℕ, zero, suc, ◌≤◌, ◌<◌}
use native.Mathlib.Omega.{arith}
use lib.Dec.{ltb}
use lib.ListN.{length, drop, length-drop}
use Rattle.wire.proofs.Branches.{apart, either}
use Rattle.records.specs.declared.Head.{Head}
use Rattle.records.specs.Record.{Record, head_of, Front, behind, front, Records, from_front, records_up_to, records}

-- behind a record less is left
pub shorter : (s : List ℕ) (r : Record) (rest : List ℕ) → front s ≡ Front.sound r rest → length rest < length s
unfolding front
shorter [] r rest e = apart (cc)
shorter (b ∷ s) r rest e = by (head_of (b ∷ s)) e
  where
    by : (h : Option Head) → behind (drop 6 (b ∷ s)) h ≡ Front.sound r rest → length rest < length (b ∷ s)
    by None e = apart (cc)
    by (Some m) e =
        let n = m.len in
        either (ltb (length (drop 6 (b ∷ s))) n) _ _ e (λ cut p. apart (cc)) λ whole p.
        let q : drop n (drop 6 (b ∷ s)) ≡ rest = cc in
        omega (arith, ap length q, length-drop n (drop 6 (b ∷ s)), length-drop 6 (b ∷ s))

-- a larger bound on the records changes nothing
enough : (a b : ℕ) (s : List ℕ) → length s ≤ a → length s ≤ b → records_up_to a s ≡ records_up_to b s
unfolding records_up_to front
enough zero zero s h k = refl
enough zero (suc b) [] h k = refl
enough zero (suc b) (x ∷ s) h k = absurd (omega arith)
enough (suc a) zero [] h k = refl
enough (suc a) zero (x ∷ s) h k = absurd (omega arith)
enough (suc a) (suc b) s h k = by (front s) refl (λ rest p q. enough a b rest p q)
  where
    by : (f : Front) → front s ≡ f → ((rest : List ℕ) → length rest ≤ a → length rest ≤ b → records_up_to a rest ≡ records_up_to b rest)
        → from_front (records_up_to a) f ≡ from_front (records_up_to b) f
    by Front.end e more = refl
    by Front.damaged e more = refl
    by (Front.sound r rest) e more =
        let l = shorter s r rest e in
        ap (λ (m : Records). record { sound = r ∷ m.sound; damaged = m.damaged }) (more rest (omega arith) (omega arith))

-- the records of an input are its first one, and those of the input behind it
pub records-front : (s : List ℕ) → records s ≡ from_front records (front s)
unfolding records_up_to
records-front s = enough (length s) (suc (length s)) s (omega arith) (omega arith) ∙ by (front s) refl
  where
    by : (f : Front) → front s ≡ f → from_front (records_up_to (length s)) f ≡ from_front records f
    by Front.end e = refl
    by Front.damaged e = refl
    by (Front.sound r rest) e =
        let l = shorter s r rest e in
        ap (λ (m : Records). record { sound = r ∷ m.sound; damaged = m.damaged }) (enough (length s) (length rest) rest (omega arith) (omega arith))
