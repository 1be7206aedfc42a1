-- Document 02, request 1, "Read the expiry as an instant": what is promised.
use Rattle.std.specs.Prelude.{List, ℕ}
use Rattle.sedna_instant.specs.declared.Instant.{Instant}
use Rattle.sedna_value_laws.specs.{Counting.Counting, Division.Division, Examples.Examples, Exactly.Valuing, Incident.Incident}
use Rattle.sedna_value_laws.specs.Order.{Ordered, Strict, HandedProper}
use Rattle.demands.specs.ValueCalls.{ValueCalls}

pub record Request1 : Type 0 where
  -- "return one typed answer": of any class, type and text, what it is exactly, or which refusal
  pub exactly : (class type : ℕ) (s : List ℕ) → Valuing class type s
  -- the days of an instant are counted right
  pub counting : Counting
  -- "with 0 to 999,999,999 nanoseconds on top"
  pub proper : HandedProper
  -- "Instants are ordered by these alone."
  pub in_order : (a b : Instant) → Ordered a b
  pub strict : Strict
  -- what the old program got wrong
  pub incident : Incident
  -- "the one rounded division", "both exact", "so -0 is negative zero"
  pub division : Division
  -- texts and their answers
  pub examples : Examples
  -- what the exported calls tell
  pub calls : ValueCalls
