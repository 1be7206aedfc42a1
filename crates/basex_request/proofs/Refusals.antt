-- What reading and writing refuse, and that a refused call leaves the output as it was.
use Rattle.basex_request.specs.Reading.{read_as_request}
use Rattle.std.specs.Prelude.{Option, Some, None, Err}
use mathlib.Core.Path.{◌≡◌, refl, sym, ap, ◌∙◌}
use mathlib.Core.List.{List, [], ◌∷◌, flatten}
use mathlib.Core.Bool.{Bool, true, false}
use mathlib.Core.Logic.{◌⊎◌, inl, inr}
use Prim.Native.Nat.{ℕ, ◌+◌, ◌-◌, ◌<◌}
use native.Mathlib.Omega.{arith}
use lib.Dec.{ltb}
use lib.ListN.{length}
use borrow.Author.Tests.{ltb-true}
use Rattle.wire.specs.Bytes.{if}
use Rattle.wire.specs.Call.{in_room}
use Rattle.wire.specs.Fields.{Got, go_on, give}
use Rattle.wire.specs.declared.Refusal.{Refusal}
use Rattle.wire.specs.declared.Refusal.TheVariants.{MoreBytes, UnknownInstruction, ValueNotAllowed, NoRoom, NoEncoding, BadEscape}
use Rattle.wire.proofs.Call.{refused-short}
use Rattle.wire.proofs.Splices.{put_at_not}
use Rattle.basex_string.specs.Answers.{output_read}
use Rattle.basex_string.specs.Scan as strings
use Rattle.basex_string.proofs.Laws as string-laws
use Rattle.basex.specs.declared.Reply.{Reply}
use Rattle.basex.specs.Kinds.{find_of, is_command}
use Rattle.basex.specs.Request.{Request, encode}
use Rattle.basex.specs.Texts.{texts, unused, length_at}
use Rattle.basex.proofs.Texts.{texts_refuses}
use Rattle.basex_request.specs.Reading as read
use Rattle.basex_request.specs.Writing as write

-- 1, 2 or 13
abbrev pub InReading : Refusal → Type 0
InReading r = (r ≡ MoreBytes) ⊎ ((r ≡ UnknownInstruction) ⊎ (r ≡ BadEscape))

-- a value that is made of what was read is refused only where nothing was
pub refused-before : {A : Type 0} (r : Refusal) (x : Got A) (next : A → Request) → go_on x (λ a. give (next a)) ≡ Got.refused r → x ≡ Got.refused r
refused-before r (Got.refused q) next p = let z : q ≡ r = cc in ap Got.refused z
refused-before r (Got.got a rest) next p = let z : ◌≡◌ {A = ℕ} 0 1 = cc in absurd (omega arith)

pub reading_refuses : (s : List ℕ) (r : Refusal) → read.reading s ≡ Got.refused r → InReading r
unfolding read.reading
reading_refuses [] r e = let z : MoreBytes ≡ r = cc in inl (sym z)
reading_refuses (b ∷ s) r e = by (find_of b) e
  where
    string : (r ≡ MoreBytes) ⊎ (r ≡ BadEscape) → InReading r
    string (inl p) = inl p
    string (inr p) = inr (inr p)

    by : (f : Option (ℕ × Reply)) → read.fields_of b f s ≡ Got.refused r → InReading r
    by None p = let z : UnknownInstruction ≡ r = cc in inr (inl (sym z))
    by (Some (n, reply)) p = which (is_command reply) p
      where
        which : (c : Bool) → if c (go_on (strings.reading (b ∷ s)) (λ t. give (Request.command t))) (go_on (texts n s) (λ ts. give (Request.coded b ts))) ≡ Got.refused r → InReading r
        which true g = string (string-laws.refuses (b ∷ s) r (refused-before r (strings.reading (b ∷ s)) Request.command g))
        which false g = string (texts_refuses n s r (refused-before r (texts n s) (Request.coded b) g))

-- .. or 10
pub read_refuses : (s out : List ℕ) (r : Refusal) → read.requested (length s) (length out) (read.reading s) ≡ Err r → (InReading r ⊎ (r ≡ NoRoom))
    × (output_read read.text_bytes out 0 (read.reading s) ≡ out)
read_refuses s out r e = by (read.reading s) refl e
  where
    by : (x : Got Request) → read.reading s ≡ x → read.requested (length s) (length out) x ≡ Err r → (InReading r ⊎ (r ≡ NoRoom)) × (output_read read.text_bytes out 0 x ≡ out)
    by (Got.refused q) p g = let z : q ≡ r = cc in (inl (reading_refuses s r (p ∙ ap Got.refused z)), refl)
    by (Got.got q rest) p g = room (ltb (length out) (length (flatten (read.texts_of q)))) refl (read.kind_of q) (length_at (read.texts_of q) 0) (length_at (read.texts_of q) 1)
        (length_at (read.texts_of q) 2) (length_at (read.texts_of q) 3) (length s - length rest) g
      where
        room : (f : Bool) → ltb (length out) (length (flatten (read.texts_of q))) ≡ f → (kind a b c d n : ℕ)
            → if f (Err NoRoom) (read_as_request kind a b c d n) ≡ Err r → (InReading r ⊎ (r ≡ NoRoom)) × (output_read read.text_bytes out 0 (Got.got q rest) ≡ out)
        room true f kind a b c d n g =
            let z : NoRoom ≡ r = cc in
            let y = ltb-true (length out) (length (flatten (read.texts_of q))) f in
            let x : length out < 0 + length (flatten (read.texts_of q)) = omega arith in
            (inr (sym z), put_at_not out 0 (flatten (read.texts_of q)) x)
        room false f kind a b c d n g = let z : ◌≡◌ {A = ℕ} 0 1 = cc in absurd (omega arith)

-- 2, 8, 11 or 10
abbrev pub InWriting : Refusal → Type 0
InWriting r = (r ≡ UnknownInstruction) ⊎ ((r ≡ ValueNotAllowed) ⊎ ((r ≡ NoEncoding) ⊎ (r ≡ NoRoom)))

pub write_refuses : (room kind : ℕ) (ts : List (List ℕ)) (r : Refusal) → write.written room kind ts ≡ Err r → InWriting r
unfolding write.written
write_refuses room kind ts r e = by (find_of kind) e
  where
    opens : (f : Bool) (n : ℕ) → if f (in_room room 0 n) (Err NoEncoding) ≡ Err r → InWriting r
    opens true n p = inr (inr (inr (refused-short room 0 n r p).0))
    opens false n p = let z : NoEncoding ≡ r = cc in inr (inr (inl (sym z)))

    takes : (f : Bool) (q : Request) → if f (write.request_written room q) (Err ValueNotAllowed) ≡ Err r → InWriting r
    takes true q p = opens (write.encodable q) (length (encode q)) p
    takes false q p = let z : ValueNotAllowed ≡ r = cc in inr (inl (sym z))

    by : (f : Option (ℕ × Reply)) → write.written_as room kind f ts ≡ Err r → InWriting r
    by None p = let z : UnknownInstruction ≡ r = cc in inl (sym z)
    by (Some (n, reply)) p = takes (unused n ts) (write.request_of kind n reply ts) p
