-- Which of two instants is earlier, as a number.
use Rattle.std.specs.Prelude.{ℕ, ℤ, pos, negsuc}
use Rattle.std.specs.declared.cmp.Ordering.{Ordering}
use Rattle.sedna_instant.specs.{declared.Instant.Instant, Orders.ordered}

-- -1 earlier, 0 the same, 1 later
abbrev pub order_number : Ordering → ℤ
order_number Ordering.Less = negsuc 0
order_number Ordering.Equal = pos 0
order_number Ordering.Greater = pos 1

abbrev pub instant : ℤ → ℕ → Instant
instant seconds nanos = record { seconds = seconds; nanos = nanos }

abbrev pub compared : ℤ → ℕ → ℤ → ℕ → ℤ
compared a a-nanos b b-nanos = order_number (ordered (instant a a-nanos) (instant b b-nanos))
