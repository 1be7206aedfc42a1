-- Whole numbers as they are read.
use Rattle.std.specs.Prelude.{ℕ, Result, Ok, Err, Option, Some, None}
use Rattle.wire.specs.declared.Refusal.{Refusal}
use mathlib.Core.{Bool.Bool, List.List}
use lib.{Dec.eqb, Dec.leb, Dec.ltb, IntN.ℤ, IntN.pos, IntN.negsuc, Signed.lt_z, ListN.length, ListN.get_or}
use Rattle.wire.specs.{Bytes.if, Bytes.between, declared.Refusal.TheVariants.NotOfForm, declared.Refusal.TheVariants.OutOfRange}
use Rattle.sedna_value.specs.{declared.Value.Value, declared.Value.TheVariants.Whole}
use Rattle.sedna_digits.specs.{declared.Run.Run, Digits.digits_at, Digits.behind_sign}
use Rattle.sedna_digits.specs.Numbers as numbers

-- the least number of a type in 64 bits with a sign, and the greatest
abbrev pub least_of : ℕ → ℤ
least_of type =
    if (eqb type 24) (negsuc 9223372036854775807)
    (if (between 50 52 type) (negsuc 9223372036854775807)
    (if (eqb type 53) (negsuc 2147483647) (if (eqb type 54) (negsuc 32767) (if (eqb type 55) (negsuc 127) (if (eqb type 61) (pos 1) (pos 0))))))

abbrev pub greatest_of : ℕ → ℤ
greatest_of type =
    if (eqb type 50) (pos 0)
    (if (eqb type 51) (negsuc 0)
    (if (eqb type 53) (pos 2147483647)
    (if (eqb type 54) (pos 32767)
    (if (eqb type 55) (pos 127)
    (if (eqb type 58) (pos 4294967295) (if (eqb type 59) (pos 65535) (if (eqb type 60) (pos 255) (pos 9223372036854775807))))))))

-- in 64 bits with a sign: up to 2^63 - 1 either way, and -2^63
unfoldable pub signed_of : Bool → ℕ → Option ℤ
signed_of minus n =
    if (leb n 9223372036854775807) (Some (numbers.signed minus n))
    (if (eqb n 9223372036854775808) (if minus (Some (negsuc 9223372036854775807)) None) None)

abbrev pub ranged_of : ℕ → Option ℤ → Result Value Refusal
ranged_of type (Some i) =
    if (lt_z i (least_of type)) (Err OutOfRange) (if (lt_z (greatest_of type) i) (Err OutOfRange) (Ok (Whole i)))
ranged_of type None = Err OutOfRange

-- the digits from `at` on are all that is there, and there is one
abbrev pub whole_by : ℕ → List ℕ → ℕ → Run → Result Value Refusal
whole_by type s at r =
    if (eqb r.end at) (Err NotOfForm)
    (if (ltb r.end (length s)) (Err NotOfForm) (ranged_of type (signed_of (eqb (get_or s 0 0) 45) r.number)))

unfoldable pub whole_of : ℕ → List ℕ → Result Value Refusal
whole_of type s = whole_by type s (behind_sign s 0) (digits_at s (behind_sign s 0))
