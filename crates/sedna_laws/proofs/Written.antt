-- A message is written exactly when a side sends it and there is room, and what was written is its encoding.
use Rattle.std.specs.Prelude.{Option, Some, None, Ok, Err}
use mathlib.Core.Path.{◌≡◌, refl, sym, ap, subst, ◌∙◌}
use mathlib.Core.List.{List, [], ◌∷◌, ◌++◌}
use mathlib.Core.Bool.{true}
use mathlib.Core.Logic.{◌↔◌}
use Prim.Native.Nat.{ℕ, ◌+◌, ◌≤◌}
use native.Mathlib.Omega.{arith}
use lib.ListN.{length, take, drop, get_or}
use lib.Seq.{take_at}
use borrow.Author.Tests.{le-ltb, eqb-true, eq-eqb}
use Rattle.wire.specs.Bytes.{IsBytes, int, splice}
use Rattle.sedna.specs.declared.Side.{Side}
use Rattle.sedna.specs.declared.Shape.{Shape}
use Rattle.sedna.specs.declared.Shape.TheVariants.{Empty, Session, Text, Statement, Coded, Options, Item}
use Rattle.wire.specs.declared.Refusal.TheVariants.{ValueNotAllowed}
use Rattle.sedna.specs.Allowed.{allowed}
use Rattle.sedna.specs.Encode.{body_bytes, encode}
use Rattle.sedna.specs.Kinds.{shape_number, same_shape}
use Rattle.sedna.specs.Message.{Message, shape_of}
use Rattle.sedna.specs.Published.{Published, Front, Writable}
use Rattle.sedna.specs.Table.{InTable, find_of, fit_of}
use Rattle.sedna_read.specs.Reading.{Answer, reading}
use Rattle.sedna_write.specs.Writing.{judgement, written}
use Rattle.sedna_write.proofs.Judgement.{counts}
use Rattle.sedna_laws.specs.Pieces.{Bounded}
use Rattle.wire.proofs.Branches.{apart, either}
use Rattle.wire.proofs.Call.{room-there}
use Rattle.sedna_laws.proofs.Bounds.{bounds}
use Rattle.sedna_laws.proofs.Exact.{exact, published-accepted}
use Rattle.sedna_laws.proofs.Table.{find_listed, listed_find}

-- the shape of a number: shapes with one number are one
shaped : ℕ → Shape
shaped n = get_or (Empty ∷ Session ∷ Text ∷ Statement ∷ Coded ∷ Options ∷ Item ∷ []) n Empty

shaped_back : (a : Shape) → shaped (shape_number a) ≡ a
unfolding shaped
shaped_back Empty = refl
shaped_back Session = refl
shaped_back Text = refl
shaped_back Statement = refl
shaped_back Coded = refl
shaped_back Options = refl
shaped_back Item = refl

pub same_shape_lem : (a b : Shape) → same_shape a b ≡ true → a ≡ b
same_shape_lem a b e = sym (shaped_back a) ∙ ap shaped (eqb-true _ _ e) ∙ shaped_back b

pub encode-length : (m : Message) → length (encode m) ≡ 8 + length (body_bytes m.body)
unfolding encode int
encode-length m = omega arith

-- the table has the instruction with that shape
fitted : (i : ℕ) (sh : Shape) → fit_of (find_of i) sh ≡ Ok tt → (side : Side) × InTable (i, side, sh)
fitted i sh = by (find_of i) refl
  where
    by : (f : Option (Side × Shape)) → find_of i ≡ f → fit_of f sh ≡ Ok tt → (side : Side) × InTable (i, side, sh)
    by None found e = apart (cc)
    by (Some (sender, own)) found e =
        either (same_shape own sh) (Ok tt) (Err ValueNotAllowed) e
        (λ same _. (sender, subst (λ (x : Shape). InTable (i, sender, x)) (same_shape_lem own sh same) (listed_find i sender own found)))
        (λ _ q. apart (cc))

written_back : (room : ℕ) (m : Message) → Bounded m.body → (n : ℕ) → written room m ≡ Ok n → Writable room m n
written_back room m h n e =
    let k : ℕ = length (body_bytes m.body) in
    let c = counts m.instruction (shape_of m.body) (allowed m.body) k room n e in
    let f = fitted m.instruction (shape_of m.body) c.same in
    record {
      side = f.0;
      published = record { listed = f.1; values = c.allowed; short = c.short; bytes = (bounds m.body c.short).1 h };
      count = c.count ∙ sym (encode-length m);
      fits = omega arith;
    }

pub written_forth : (room : ℕ) (m : Message) (n : ℕ) → Writable room m n → written room m ≡ Ok n
unfolding judgement
written_forth room m n w =
    let k : ℕ = length (body_bytes m.body) in
    let found = find_listed (m.instruction, w.side, shape_of m.body) w.published.listed in
    let l : length (encode m) ≡ 8 + k = encode-length m in
    let c : n ≡ 8 + k = w.count ∙ l in
    rw (found, eq-eqb (shape_number (shape_of m.body)) _ refl, w.published.values, le-ltb 10240 k w.published.short)
    (room-there room 0 (8 + k) (omega (arith, w.fits)) ∙ ap Ok (sym c))

-- demand 2, writing: n bytes are written exactly when a side sends m, its encoding has n bytes and they fit
pub written_exact : (room : ℕ) (m : Message) → Bounded m.body → (n : ℕ) → (written room m ≡ Ok n) ↔ Writable room m n
written_exact room m h n = (written_back room m h n, written_forth room m n)

-- bytes put over the front of an output
pub splice_front : (d x : List ℕ) (n : ℕ) → n ≡ length x → splice d 0 x ≡ x ++ drop n d
unfolding splice
splice_front d x n e = let f : 0 + length x ≡ n = omega arith in rw f

-- what was written stands in front of what was there behind it ..
pub front-written : (side : Side) (out : List ℕ) (m : Message) (n : ℕ) → Published side m → written (length out) m ≡ Ok n → Front (splice out 0 (encode m)) m n
front-written side out m n p e =
    let count : n ≡ length (encode m) = (written_back (length out) m ((bounds m.body p.short).0 p.bytes) n e).count in
    record { count = count; bytes = ap (take n) (splice_front out (encode m) n count) ∙ take_at (encode m) (drop n out) n (sym count) }

-- .. and is read again as the same message
pub read_written : (side : Side) (out : List ℕ) (m : Message) (n : ℕ) → Published side m → written (length out) m ≡ Ok n → reading side (splice out 0 (encode m)) ≡ Answer.accepted m n
read_written side out m n p e = published-accepted side (splice out 0 (encode m)) m n p (front-written side out m n p e)

-- what was read is written as the bytes that were read
pub write_read : (side : Side) (s : List ℕ) → IsBytes s → (m : Message) (n : ℕ) → reading side s ≡ Answer.accepted m n → (out : List ℕ) → n ≤ length out
    → (written (length out) m ≡ Ok n) × (splice out 0 (encode m) ≡ take n s ++ drop n out)
write_read side s h m n e out f =
    let p = (exact side s h m n).0 e in (
      written_forth (length out) m n (record { side = side; published = p.0; count = p.1.count; fits = f }),
      splice_front out (encode m) n p.1.count ∙ ap (λ (l : List ℕ). l ++ drop n out) (sym p.1.bytes),
    )
