-- Reading takes exactly the published requests, each by its one encoding.
use Rattle.std.specs.Prelude.{Option, Some, None}
use mathlib.Core.Path.{◌≡◌, refl, sym, ap, subst, ◌∙◌}
use mathlib.Core.List.{List, [], ◌∷◌, ◌++◌}
use mathlib.Core.Bool.{Bool, true, false}
use mathlib.Core.Logic.{◌↔◌}
use Prim.Native.Nat.{ℕ}
use native.Mathlib.Omega.{arith}
use lib.Dec.{eqb}
use borrow.Author.Tests.{eqb-true}
use Rattle.wire.specs.Bytes.{if}
use Rattle.wire.specs.Fields.{Got, go_on, give}
use Rattle.basex_string.specs.Strings.{special, string}
use Rattle.basex_string.specs.Scan as strings
use Rattle.basex_string.proofs.Laws as string-laws
use Rattle.basex.specs.declared.Reply.{Reply}
use Rattle.basex.specs.Kinds.{starts_command, find_of, is_command}
use Rattle.basex.specs.Request.{Request, encode, opens, Published}
use Rattle.basex.specs.Texts.{texts, strings as strings_of}
use Rattle.basex.proofs.Texts.{texts_exact, texts-written}
use Rattle.basex_request.specs.Reading.{fields_of, reading}
use Rattle.basex_request.proofs.Table.{command_starts, starts_command_lem}

-- a byte that starts a COMMAND needs no FF ahead of it
not_special : (b : ℕ) → starts_command b ≡ true → special b ≡ false
not_special b h = by (special b) refl
  where
    none : (c : ℕ) → b ≡ c → starts_command c ≡ false → true ≡ false
    none c e f = sym h ∙ ap starts_command e ∙ f

    by : (f : Bool) → special b ≡ f → f ≡ false
    by false e = refl
    by true e = or (eqb b 0) refl (eqb b 255) refl e
      where
        or : (z : Bool) → eqb b 0 ≡ z → (f : Bool) → eqb b 255 ≡ f → if z true f ≡ true → true ≡ false
        or true p f q r = none 0 (eqb-true b 0 p) refl
        or false p true q r = none 255 (eqb-true b 255 q) refl
        or false p false q r = sym r

-- a text that opens a COMMAND starts with the byte that its string starts with
pub opening : (t rest : List ℕ) → opens t ≡ true → (b : ℕ) × (s : List ℕ) × (string t ++ rest ≡ b ∷ s) × (starts_command b ≡ true)
unfolding string
opening [] rest h = let z : ◌≡◌ {A = ℕ} 0 1 = cc in absurd (omega arith)
opening (b ∷ t) rest h = (b, string t ++ rest, rw (not_special b h) refl, h)

-- .. and so the other way round
pub opened : (t rest s : List ℕ) (b : ℕ) → b ∷ s ≡ string t ++ rest → starts_command b ≡ true → opens t ≡ true
unfolding string
opened [] rest s b e h = let x : b ≡ 0 = cc in sym (ap starts_command x) ∙ h
opened (x ∷ t) rest s b e h = by (special x) refl
  where
    by : (f : Bool) → special x ≡ f → starts_command x ≡ true
    by true p = let q : b ∷ s ≡ 255 ∷ x ∷ (string t ++ rest) = rw p at e in let y : b ≡ 255 = cc in let z : false ≡ true = sym (ap starts_command y) ∙ h in
        let o : ◌≡◌ {A = ℕ} 0 1 = cc in absurd (omega arith)
    by false p = let q : b ∷ s ≡ x ∷ (string t ++ rest) = rw p at e in let y : b ≡ x = cc in sym (ap starts_command y) ∙ h

abbrev Exactly : List ℕ → Request → List ℕ → Type 0
Exactly s q rest = Published q × (s ≡ encode q ++ rest)

read-published : (s : List ℕ) (q : Request) (rest : List ℕ) → reading s ≡ Got.got q rest → Exactly s q rest
unfolding reading encode
read-published [] q rest e = let z : ◌≡◌ {A = ℕ} 0 1 = cc in absurd (omega arith)
read-published (b ∷ s) q rest e = by (find_of b) refl e
  where
    command : (n : ℕ) (reply : Reply) → find_of b ≡ Some (n, reply) → is_command reply ≡ true → (x : Got (List ℕ)) → strings.reading (b ∷ s) ≡ x
        → go_on x (λ t. give (Request.command t)) ≡ Got.got q rest → Exactly (b ∷ s) q rest
    command n reply f c (Got.refused r) p g = let z : ◌≡◌ {A = ℕ} 0 1 = cc in absurd (omega arith)
    command n reply f c (Got.got t more) p g =
        let x = string-laws.exact (b ∷ s) t more p in
        let k : Request.command t ≡ q = cc in
        let l : more ≡ rest = cc in
        subst (λ (r : Request). Exactly (b ∷ s) r rest) k (opened t more s b x (command_starts b n reply f c), x ∙ ap (λ (m : List ℕ). string t ++ m) l)

    coded : (n : ℕ) (reply : Reply) → find_of b ≡ Some (n, reply) → is_command reply ≡ false → (x : Got (List (List ℕ))) → texts n s ≡ x
        → go_on x (λ ts. give (Request.coded b ts)) ≡ Got.got q rest → Exactly (b ∷ s) q rest
    coded n reply f c (Got.refused r) p g = let z : ◌≡◌ {A = ℕ} 0 1 = cc in absurd (omega arith)
    coded n reply f c (Got.got ts more) p g =
        let x = texts_exact n s ts more p in
        let k : Request.coded b ts ≡ q = cc in
        let l : more ≡ rest = cc in
        subst (λ (r : Request). Exactly (b ∷ s) r rest) k ((reply, f ∙ ap (λ (m : ℕ). Some (m, reply)) (sym x.0), c), ap (λ (m : List ℕ). b ∷ m) (x.1 ∙ ap (λ (m : List ℕ). strings_of ts ++ m) l))

    by : (f : Option (ℕ × Reply)) → find_of b ≡ f → fields_of b f s ≡ Got.got q rest → Exactly (b ∷ s) q rest
    by None p g = let z : ◌≡◌ {A = ℕ} 0 1 = cc in absurd (omega arith)
    by (Some (n, reply)) p g = which (is_command reply) refl g
      where
        which : (c : Bool) → is_command reply ≡ c → if c (go_on (strings.reading (b ∷ s)) (λ t. give (Request.command t))) (go_on (texts n s) (λ ts. give (Request.coded b ts)))
            ≡ Got.got q rest → Exactly (b ∷ s) q rest
        which true c g = command n reply p c (strings.reading (b ∷ s)) refl g
        which false c g = coded n reply p c (texts n s) refl g

published-read : (q : Request) (rest : List ℕ) → Published q → reading (encode q ++ rest) ≡ Got.got q rest
unfolding reading encode
published-read (Request.command t) rest h =
    let o = opening t rest h in
    let f = starts_command_lem o.0 o.3 in
    let r = ap strings.reading (sym o.2) ∙ string-laws.read_written t rest in
    ap reading o.2 ∙ rw f (rw r refl)
published-read (Request.coded b ts) rest h = rw h.1 (rw h.2 (rw (texts-written ts rest) refl))

-- what is read is a published request, and its bytes are its encoding; and every one is read so, whatever stands behind it
pub reading_exact : (s : List ℕ) (q : Request) (rest : List ℕ) → (reading s ≡ Got.got q rest) ↔ (Published q × (s ≡ encode q ++ rest))
reading_exact s q rest = (read-published s q rest, λ p. ap reading p.1 ∙ published-read q rest p.0)
