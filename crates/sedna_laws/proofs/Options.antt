-- Handing out the options of a SetOptions message.
use Rattle.sedna_read.specs.declared.OptionPlace.{OptionPlace}
use Rattle.sedna_read.specs.Places.{option_there}
use mathlib.Core.Path.{◌≡◌, refl, ◌∙◌, ap, subst}
use mathlib.Core.List.{List, [], ◌∷◌, ◌++◌, append_assoc, flat_map}
use Prim.Native.Nat.{ℕ, zero, suc, ◌+◌, ◌-◌, ◌≤◌}
use native.Mathlib.Omega.{arith}
use lib.ListN.{length, take, drop, get_elem?, length-append}
use lib.Seq.{take-append_seam}
use Rattle.wire.specs.Bytes.{IsBytes, int}
use Rattle.wire.specs.declared.Place.{Place}
use Rattle.wire.specs.Fields.{Got}
use Rattle.sedna.specs.declared.Side.{Side}
use Rattle.sedna.specs.Message.{Pair, Body}
use Rattle.sedna.specs.Encode.{string, pair_bytes, pairs_bytes, body_bytes}
use Rattle.sedna_read.specs.Fields.{int_field}
use Rattle.sedna_read.specs.Reading.{Answer, reading, pair_field}
use Rattle.sedna_read.specs.Places.{place, option_place, option_after, option_at}
use Rattle.sedna_read.specs.Meaning.{option_in}
use Rattle.wire.proofs.Branches.{apart}
use Rattle.sedna_laws.proofs.Bytes.{bytes-behind}
use Rattle.sedna_laws.proofs.Pairs.{pair_forth, pair_back}
use Rattle.sedna_laws.proofs.Parts.{stands-behind, string-behind, body-stands}

-- of the pairs that stand behind `at` bytes, the option number k that is found there is their number k
option-there : (s : List ℕ) (k : ℕ) (ps : List Pair) (at : ℕ) (rest : List ℕ) → IsBytes (pairs_bytes ps) → drop at s ≡ pairs_bytes ps ++ rest → option_in s (option_at k at (pairs_bytes ps)) ≡ get_elem? ps k
unfolding option_at flat_map pair_bytes pair_field int_field string int
option-there s zero [] at rest h e = refl
option-there s (suc k) [] at rest h e = refl
option-there s zero (p ∷ ps) at rest h e =
    rw (pair_forth p (pairs_bytes ps) h, string-behind s at (int p.id) p.value (pairs_bytes ps ++ rest) (at + 9) (rw append_assoc at e) (omega arith))
option-there s (suc k) (p ∷ ps) at rest h e =
    let next : ℕ = at + 9 + length p.value in
    let left : drop next s ≡ pairs_bytes ps ++ rest = stands-behind s at (pair_bytes p) (pairs_bytes ps ++ rest) 0 next (rw append_assoc at e) (omega arith) in
    rw (pair_forth p (pairs_bytes ps) h) (option-there s k ps next rest (bytes-behind (pair_bytes p) (pairs_bytes ps) h) left)

pair-length : (p : Pair) → length (pair_bytes p) ≡ 9 + length p.value
unfolding pair_bytes string int
pair-length p = omega arith

-- where an option is found, its value lies in what was looked at
pub option_inside : (k at : ℕ) (w : List ℕ) → IsBytes w → (id : ℕ) (v : Place) → option_at k at w ≡ option_there id v → v.start + v.len ≤ at + length w
unfolding option_at
option_inside zero at w h id v e = by (pair_field w) refl e
  where
    by : (g : Got Pair) → pair_field w ≡ g → option_place at g ≡ option_there id v → v.start + v.len ≤ at + length w
    by (Got.refused r) q e = apart (cc)
    by (Got.got p rest) q e =
        let o : ◌≡◌ {A = OptionPlace} (record { id = p.id; value = place (at + 9) (length p.value) }) (record { id = id; value = v }) = cc in
        let z : place (at + 9) (length p.value) ≡ v = ap (λ (x : OptionPlace). x.value) o in
        let l = ap length (pair_back w p rest h q) ∙ length-append (pair_bytes p) rest in
        subst (λ (v : Place). v.start + v.len ≤ at + length w) z (omega (arith, l, pair-length p))
option_inside (suc k) at w h id v e = by (pair_field w) refl e (option_inside k)
  where
    by : (g : Got Pair) → pair_field w ≡ g → option_after (option_at k) at g ≡ option_there id v
        → ((at : ℕ) (w : List ℕ) → IsBytes w → (id : ℕ) (v : Place) → option_at k at w ≡ option_there id v → v.start + v.len ≤ at + length w)
        → v.start + v.len ≤ at + length w
    by (Got.refused r) q e again = apart (cc)
    by (Got.got p rest) q e again =
        let split = pair_back w p rest h q in
        let l = ap length split ∙ length-append (pair_bytes p) rest in
        omega (arith, l, pair-length p, again (at + 9 + length p.value) rest (bytes-behind (pair_bytes p) rest (rw split at h)) id v e)

-- the option number k that is handed out is the message's option number k, and there is none beyond
pub option_exact : (side : Side) (s : List ℕ) → IsBytes s → (i n : ℕ) (ps : List Pair) → reading side s ≡ Answer.accepted (record { instruction = i; body = Body.options ps }) n
    → (k : ℕ) → option_in s (option_at k 8 (take (n - 8) (drop 8 s))) ≡ get_elem? ps k
unfolding body_bytes
option_exact side s h i n ps e k =
    let there = body-stands side s h (record { instruction = i; body = Body.options ps }) n e in
    rw (there.size, there.split, take-append_seam (pairs_bytes ps) (drop n s))
    (option-there s k ps 8 (drop n s) there.bytes there.split)
