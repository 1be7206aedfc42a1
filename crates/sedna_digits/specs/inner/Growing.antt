-- A number that grows digit by digit, by what is kept of it.
use Rattle.std.specs.Prelude.{ℕ, ◌+◌, ◌*◌, ◌%◌, leb}
use Rattle.wire.specs.Bytes.{if}

-- what is kept of a number with one more digit behind it
unfoldable pub grown : ℕ → ℕ → ℕ
grown n d = if (leb (n * 10 + d) 9223372036854775808) (n * 10 + d) (9223372036854776000 + (n % 400 * 10 + d) % 400)
