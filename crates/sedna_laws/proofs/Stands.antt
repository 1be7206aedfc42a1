-- A refusal other than 1 stands, whatever bytes follow: "Bytes after the message are not touched."
use mathlib.Core.List.{List, ◌++◌}
use mathlib.Core.Path.{◌≡◌, refl, sym, subst, ◌∙◌}
use Prim.Native.Nat.{ℕ, ◌+◌, ◌≤◌}
use native.Mathlib.Omega.{arith}
use lib.ListN.{length, take, drop, length-append, length-drop, get_or-append}
use lib.Seq.{take-append-le, drop-append-le}
use Rattle.wire.specs.Bytes.{IsBytes, int_at}
use Rattle.wire.specs.declared.Refusal.{Refusal}
use Rattle.wire.specs.declared.Refusal.TheVariants.{MoreBytes}
use Rattle.wire.proofs.Ints.{int_at-there}
use Rattle.sedna.specs.declared.Shape.{Shape}
use Rattle.sedna.specs.declared.Side.{Side}
use Rattle.sedna_read.specs.Reading.{Answer, reading}
use Rattle.sedna_laws.specs.Due.{InBody, Head, Due}
use Rattle.sedna_laws.proofs.Bytes.{bytes-front}
use Rattle.sedna_laws.proofs.Due.{refused_exact}

module _ (side : Side) (s t : List ℕ) where
  int-stands : (at : ℕ) → at + 4 ≤ length s → int_at (s ++ t) at ≡ int_at s at
  int-stands at l =
      int_at-there (s ++ t) at (omega (arith, length-append s t))
      ∙ rw (
        get_or-append s t 0 at (omega arith),
        get_or-append s t 0 (at + 1) (omega arith),
        get_or-append s t 0 (at + 2) (omega arith),
        get_or-append s t 0 (at + 3)
            (omega arith),
      ) (sym (int_at-there s at l))

  longer : 8 ≤ length s → 8 ≤ length (s ++ t)
  longer l = omega (arith, length-append s t)

  head_stands : {shape : Shape} {n : ℕ} → Head side s shape n → Head side (s ++ t) shape n
  head_stands h =
      let l : 8 ≤ length s = h.long in
      record { long = longer l; listed = rw (int-stands 0 (omega arith)) h.listed; size = h.size ∙ sym (int-stands 4 (omega arith)); short = h.short }

  due-stands : {r : Refusal} → ¬ (r ≡ MoreBytes) → Due side s r → Due side (s ++ t) r
  due-stands c (Due.no_head l) = absurd (c refl)
  due-stands c (Due.unknown l none) = Due.unknown (longer l) (rw (int-stands 0 (omega arith)) none)
  due-stands c (Due.other_side l sender shape listed differ) = Due.other_side (longer l) sender shape (rw (int-stands 0 (omega arith)) listed) differ
  due-stands c (Due.too_long l shape listed more) = Due.too_long (longer l) shape (rw (int-stands 0 (omega arith)) listed) (rw (int-stands 4 (omega arith)) more)
  due-stands c (Due.no_body shape n h l) = absurd (c refl)
  due-stands c (Due.in_body r shape n h l e) =
      let long : 8 ≤ length s = h.long in
      let body : take n (drop 8 (s ++ t)) ≡ take n (drop 8 s) = rw (drop-append-le 8 s t long, take-append-le n (drop 8 s) t (omega (arith, length-drop 8 s))) in
      Due.in_body r shape n (head_stands h) (omega (arith, length-append s t)) (subst (λ (b : List ℕ). InBody shape b r) (sym body) e)

pub refusal_stands : (side : Side) (s t : List ℕ) → IsBytes (s ++ t) → (r : Refusal) → ¬ (r ≡ MoreBytes) → reading side s ≡ Answer.refused r → reading side (s ++ t) ≡ Answer.refused r
refusal_stands side s t h r c e = (refused_exact side (s ++ t) h r).1 (due-stands side s t c ((refused_exact side s (bytes-front s t h) r).0 e))
