-- What the table of kinds says of every kind, as one computed test.
use Rattle.std.specs.Prelude.{Some}
use mathlib.Core.Path.{◌≡◌, refl, sym, ap, ◌∙◌}
use mathlib.Core.List.{List, [], ◌∷◌}
use mathlib.Core.Bool.{Bool, true, false}
use Prim.Native.Nat.{ℕ, ◌≤◌}
use native.Mathlib.Omega.{arith}
use lib.Dec.{eqb, leb}
use borrow.Author.Tests.{eqb-true, leb-true}
use Rattle.wire.specs.Bytes.{if}
use Rattle.basex.specs.declared.Kind.{Kind}
use Rattle.basex.specs.declared.Reply.{Reply}
use Rattle.basex.specs.declared.Reply.TheVariants.{Command}
use Rattle.basex.specs.Kinds.{kinds, starts_command, row_byte, search as scan, find_of, is_command}

-- a test holds of every row
abbrev each : (Kind → Bool) → List Kind → Bool
each test [] = true
each test (k ∷ ks) = if (test k) (each test ks) false

both : (a b : Bool) → if a b false ≡ true → (a ≡ true) × (b ≡ true)
both true b e = (refl, e)
both false b e = let z : ◌≡◌ {A = ℕ} 0 1 = cc in absurd (omega arith)

some-same : {A : Type 0} {a b : A} → Some a ≡ Some b → a ≡ b
some-same e = cc

-- .. and so of what is found
found_row : (test : Kind → Bool) (b : ℕ) (ks : List Kind) (n : ℕ) (reply : Reply) → each test ks ≡ true → scan b ks ≡ Some (n, reply) → test (b, n, reply) ≡ true
unfolding scan
found_row test b [] n reply h e = let z : ◌≡◌ {A = ℕ} 0 1 = cc in absurd (omega arith)
found_row test b (k ∷ ks) n reply h e =
    let t = both (test k) (each test ks) h in
    by (found_row test b ks n reply t.1) (eqb k.0 b) refl e
  where
    by : (scan b ks ≡ Some (n, reply) → test (b, n, reply) ≡ true) → (f : Bool) → eqb k.0 b ≡ f → if f (Some (k.1, k.2)) (scan b ks) ≡ Some (n, reply) → test (b, n, reply) ≡ true
    by later true p q =
        let x : k.0 ≡ b = eqb-true k.0 b p in
        let f = some-same q in
        let y : k.1 ≡ n = ap (λ (r : ℕ × Reply). r.0) f in
        let z : k.2 ≡ reply = ap (λ (r : ℕ × Reply). r.1) f in
        let same : ◌≡◌ {A = Kind} k (b, n, reply) = λ i. (x i, y i, z i) in
        ap test (sym same) ∙ (both (test k) (each test ks) h).0
    by later false p q = later q

-- at most four strings; and a COMMAND has one, and the byte of its row
abbrev row : Kind → Bool
row k = if (leb k.1 4) (if (is_command k.2) (if (eqb k.1 1) (eqb k.0 0x20) false) true) false

each_row : each row kinds ≡ true
unfolding kinds
each_row = refl

module _ (b n : ℕ) (reply : Reply) (found : find_of b ≡ Some (n, reply)) where
  here : row (row_byte b, n, reply) ≡ true
  unfolding find_of
  here = found_row row (row_byte b) kinds n reply each_row found

  pub at_most_four : n ≤ 4
  at_most_four = leb-true n 4 (both (leb n 4) _ here).0

  command_row : is_command reply ≡ true → (eqb n 1 ≡ true) × (eqb (row_byte b) 0x20 ≡ true)
  command_row c = both (eqb n 1) _ (rw c at (both (leb n 4) _ here).1)

  pub command-one : is_command reply ≡ true → n ≡ 1
  command-one c = eqb-true n 1 (command_row c).0

  -- only a byte that starts one is found to be a COMMAND's
  pub command_starts : is_command reply ≡ true → starts_command b ≡ true
  command_starts c = by (starts_command b) refl (eqb-true (row_byte b) 0x20 (command_row c).1)
    where
      by : (s : Bool) → starts_command b ≡ s → if s 0x20 b ≡ 0x20 → s ≡ true
      by true p e = refl
      by false p e = sym p ∙ ap starts_command e

-- .. and every such byte is
pub starts_command_lem : (b : ℕ) → starts_command b ≡ true → find_of b ≡ Some (1, Command)
unfolding find_of scan kinds
starts_command_lem b s = rw s refl

-- a kind that is no COMMAND has its own byte in its row
pub coded_row : (b n : ℕ) (reply : Reply) → find_of b ≡ Some (n, reply) → is_command reply ≡ false → b ≡ row_byte b
coded_row b n reply f c = by (starts_command b) refl
  where
    by : (s : Bool) → starts_command b ≡ s → b ≡ if s 0x20 b
    by true p =
        let k : Some (1, Command) ≡ Some (n, reply) = sym (starts_command_lem b p) ∙ f in
        let r : Command ≡ reply = ap (λ (r : ℕ × Reply). r.1) (some-same k) in
        let t : true ≡ false = ap is_command r ∙ c in
        let z : ◌≡◌ {A = ℕ} 0 1 = cc in
        absurd (omega arith)
    by false p = refl
