-- Answers turned back.
use mathlib.Core.Path.{◌≡◌}
use Prim.Native.Nat.{ℕ, ◌<◌}
use native.Mathlib.Omega.{arith}
use Rattle.std.proofs.lemmas.Bool.Decides.{nat_tests}
use Rattle.wire.specs.declared.Refusal.{Refusal}
use Rattle.wire.specs.Refusals.{number_of}
use Rattle.answer_c.specs.Codes.{refusal_code}
use Rattle.demands.specs.Answered.{Answered, REFUSED, answered}

pub counted : (n : ℕ) → n < REFUSED → answered n ≡ Answered.count n
counted n h = grind (arith, nat_tests)

-- by what it counts
pub counts_as : (n m : ℕ) → n ≡ m → m < REFUSED → answered n ≡ Answered.count m
counts_as n m e h = grind (arith, nat_tests)

pub refused : (r : Refusal) → answered (refusal_code r) ≡ Answered.refusal (number_of r)
refused r = grind (arith, nat_tests)
