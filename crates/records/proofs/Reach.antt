-- What is read of an input for its first record tells what stands in front.
use Rattle.std.specs.Prelude.{Option, Some, None}
use Rattle.records.specs.Record.{head_there}
use mathlib.Core.Bool.{Bool, true, false}
use mathlib.Core.List.{List, [], ◌∷◌}
use mathlib.Core.Path.{◌≡◌, refl, sym, ◌∙◌}
use Prim.Native.Nat.{ℕ, suc, ◌+◌}
use native.Mathlib.Omega.{arith}
use lib.Dec.{ltb}
use lib.ListN.{length, take, drop}
use lib.Seq.{take_all, length-take-le}
use borrow.Author.Tests.{le-ltb, ltb-true, ltb-false}
use Rattle.wire.specs.Bytes.{if}
use Rattle.sedna.specs.declared.Side.{Side}
use Rattle.records.specs.declared.Head.{Head}
use Rattle.records.specs.Places.{reach, reads, unread}
use Rattle.records.specs.Record.{head_of, record_of, Front, behind, front}
use Rattle.records.proofs.Formats.{head_six}

-- what stands in front of a part, with what the input has behind that part
abbrev pub onto : List ℕ → Front → Front
onto left Front.end = Front.end
onto left Front.damaged = Front.damaged
onto left (Front.sound r rest) = Front.sound r left

payload-onto : (side : Side) (n : ℕ) (s : List ℕ) → behind s (head_there side n) ≡ onto (drop n s) (behind (take n s) (head_there side n))
payload-onto side n s = by (ltb (length s) n) refl
  where
    by : (t : Bool) → ltb (length s) n ≡ t → if t Front.damaged (Front.sound (record_of side (take n s)) (drop n s)) ≡ onto (drop n s) (behind (take n s) (head_there side n))
    by true q = rw (take_all n s (omega (arith, ltb-true (length s) n q)), q)
    by false q =
        let l = length-take-le n s (ltb-false (length s) n q) in
        rw (le-ltb (length (take n s)) n (omega arith), take_all n (take n s) (omega arith))

-- six bytes, judged, and what is behind them
six_onto : (a b c d e f : ℕ) (s : List ℕ) (h : Option Head) → ((t : List ℕ) → head_of (a ∷ b ∷ c ∷ d ∷ e ∷ f ∷ t) ≡ h)
    → front (a ∷ b ∷ c ∷ d ∷ e ∷ f ∷ s) ≡ onto (drop (reach h) (a ∷ b ∷ c ∷ d ∷ e ∷ f ∷ s)) (front (take (reach h) (a ∷ b ∷ c ∷ d ∷ e ∷ f ∷ s)))
unfolding front
six_onto a b c d e f s None q = rw (q [], q s)
six_onto a b c d e f s (Some m) q =
    let k : 6 + m.len ≡ suc (suc (suc (suc (suc (suc m.len))))) = omega arith in
    rw (k, q (take m.len s), q s) (payload-onto m.side m.len s)

-- what is read for a record is all that it is judged by
pub front-onto : (s : List ℕ) → front s ≡ onto (unread s) (front (reads s))
unfolding front head_of
front-onto [] = refl
front-onto (a ∷ []) = refl
front-onto (a ∷ b ∷ []) = refl
front-onto (a ∷ b ∷ c ∷ []) = refl
front-onto (a ∷ b ∷ c ∷ d ∷ []) = refl
front-onto (a ∷ b ∷ c ∷ d ∷ e ∷ []) = refl
front-onto (a ∷ b ∷ c ∷ d ∷ e ∷ f ∷ s) = six_onto a b c d e f s (head_of (a ∷ b ∷ c ∷ d ∷ e ∷ f ∷ [])) (λ t. head_six a b c d e f t ∙ sym (head_six a b c d e f []))
