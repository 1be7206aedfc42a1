-- Document 02, request 1: "Instants are ordered by these alone."
use Rattle.std.specs.Prelude.{ℕ, ◌<◌, Ok}
use mathlib.Core.{List.List, Logic.◌↔◌, Logic.◌⊎◌, Path.◌≡◌}
use lib.{IntN.ℤ, IntN.pos, IntN.◌+ℤ◌, IntN.◌*ℤ◌, Signed.◌<ℤ◌}
use Rattle.sedna_instant.specs.declared.Instant.{Instant}
use Rattle.std.specs.declared.cmp.Ordering.TheVariants.{Less, Equal, Greater}
use Rattle.sedna_instant.specs.Orders.{ordered}
use Rattle.sedna_value.specs.{declared.Value.TheVariants.At, Values.value_of}

-- a point in time: nanoseconds from 1970-01-01T00:00:00Z
abbrev pub point : Instant → ℤ
point i = i.seconds *ℤ pos 1000000000 +ℤ pos i.nanos

-- by the seconds, then by the nanoseconds
abbrev pub Before : Instant → Instant → Type 0
Before a b = (a.seconds <ℤ b.seconds) ⊎ ((a.seconds ≡ b.seconds) × (a.nanos < b.nanos))

-- "0 to 999,999,999 nanoseconds on top"
abbrev pub Proper : Instant → Type 0
Proper i = i.nanos < 1000000000

-- the order of two instants is that of the points in time
pub record Ordered (a b : Instant) : Type 0 where
  pub earlier : Proper a → Proper b → (ordered a b ≡ Less) ↔ (point a <ℤ point b)
  pub same : Proper a → Proper b → (ordered a b ≡ Equal) ↔ (point a ≡ point b)
  pub later : Proper a → Proper b → (ordered a b ≡ Greater) ↔ (point b <ℤ point a)
  -- two are the same exactly when both numbers are
  pub both : (ordered a b ≡ Equal) ↔ (a ≡ b)
  -- and seen from the other it is the other way round
  pub turned : (ordered a b ≡ Less) ↔ (ordered b a ≡ Greater)

-- nothing is earlier than itself, one of two that differ is earlier, and what is earlier than an earlier one is earlier
pub record Strict : Type 0 where
  pub irreflexive : (a : Instant) → ¬ (ordered a a ≡ Less)
  pub total : (a b : Instant) → ¬ (a ≡ b) → (ordered a b ≡ Less) ⊎ (ordered b a ≡ Less)
  pub transitive : (a b c : Instant) → ordered a b ≡ Less → ordered b c ≡ Less → ordered a c ≡ Less

-- every instant that is handed over has its nanoseconds below a second
abbrev pub HandedProper : Type 0
HandedProper = (class type : ℕ) (s : List ℕ) (i : Instant) → value_of class type s ≡ Ok (At i) → Proper i
