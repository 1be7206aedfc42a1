-- From the message at k, or none, to what the writing of part k answers and leaves.
use Rattle.std.specs.Prelude.{Result, Ok, Err}
use Rattle.wire.specs.declared.Refusal.{Refusal}
use mathlib.Core.Path.{◌≡◌, refl}
use mathlib.Core.Bool.{Bool, true, false}
use mathlib.Core.List.{List}
use mathlib.Core.Option.{Option, none}
use Prim.Native.Nat.{ℕ}
use lib.ListN.{length, get_elem?}
use Rattle.wire.specs.Bytes.{if}
use Rattle.wire.specs.Call.{Writes}
use Rattle.wire.specs.declared.Refusal.TheVariants.{ValueNotAllowed, NoEncoding, NoSuchPart}
use Rattle.sedna.specs.Message.{Message}
use Rattle.parts_cut.specs.Part.{written_of, part_bytes, cut_part, WritesPart}

abbrev pub Answers : List ℕ → Option Message → Result ℕ Refusal → List ℕ → Type 0
Answers out o = Writes (written_of (length out) o) out 0 (part_bytes o)

pub missing : (out : List ℕ) → Answers out none (Err NoSuchPart) out
missing out = record { answers = refl; leaves = refl }

-- the same of an option that is known to be this one
pub found : (out : List ℕ) {o o' : Option Message} (r : Result ℕ Refusal) (after : List ℕ) → o ≡ o' → Answers out o' r after → Answers out o r after
found out r after e w = rw e w

module _ (allowed encodable : Bool) (cut : List Message) (k : ℕ) (out : List ℕ) where
  abbrev pub Settles : Result ℕ Refusal → List ℕ → Type 0
  Settles = WritesPart (cut_part allowed encodable cut k) out

  pub settles : {o : Option Message} (r : Result ℕ Refusal) (after : List ℕ) → allowed ≡ true → encodable ≡ true → get_elem? cut k ≡ o → Answers out o r after → Settles r after
  settles r after a b e w = rw (a, b) (found out r after e w)

  pub not_allowed : allowed ≡ false → Settles (Err ValueNotAllowed) out
  not_allowed a = rw a (record { answers = refl; leaves = refl })

  pub no_encoding : allowed ≡ true → encodable ≡ false → Settles (Err NoEncoding) out
  no_encoding a b = rw (a, b) (record { answers = refl; leaves = refl })

-- what a test that answers a refusal says of its answer
pub tested : (b : Bool) (n : ℕ) {m : ℕ} (r : Refusal) → if b (Ok n) (Err r) ≡ Ok m → (b ≡ true) × (m ≡ n)
tested true n r e = (refl, cc)
tested false n r e = cc

pub tested_not : (b : Bool) (n : ℕ) (r : Refusal) {s : Refusal} → if b (Ok n) (Err r) ≡ Err s → (b ≡ false) × (s ≡ r)
tested_not true n r e = cc
tested_not false n r e = (refl, cc)
