-- What was encoded is accepted, and what is accepted is published and stands there encoded.
use mathlib.Core.Path.{◌≡◌, refl, sym, ap, subst, subst₂, ◌∙◌}
use mathlib.Core.List.{List, [], ◌++◌, append-nil}
use Prim.Native.Nat.{ℕ, ◌+◌, ◌≤◌}
use native.Mathlib.Omega.{arith}
use lib.Dec.{ltb}
use lib.ListN.{length, take, drop, length-append, length-drop, take-append-drop}
use lib.Seq.{take-append_seam, take_at, length-take-le}
use borrow.Author.Tests.{le-ltb, ltb-false}
use Rattle.wire.specs.Bytes.{IsBytes, int, int_at}
use Rattle.sedna.specs.declared.Side.{Side}
use Rattle.sedna.specs.declared.Shape.{Shape}
use Rattle.sedna.specs.Message.{Body, Message, shape_of, message}
use Rattle.sedna.specs.Encode.{body_bytes, encode}
use Rattle.sedna.specs.Published.{Published, Front}
use Rattle.wire.specs.Fields.{Got}
use Rattle.sedna_read.specs.Reading.{Heading, Answer, body_field, heading, answered, after_head, reading}
use Rattle.sedna_laws.specs.Due.{Head}
use Rattle.wire.proofs.Branches.{apart, either}
use Rattle.sedna_laws.proofs.Bytes.{bytes-part, int-written}
use Rattle.sedna_laws.proofs.Bodies.{Read, body_forth, body_back}
use Rattle.sedna_laws.proofs.Heads.{head_forth, head_back, head_bytes}
use Rattle.sedna_laws.proofs.Table.{listed_small}

module _ (side : Side) (m : Message) (rest : List ℕ) (p : Published side m) where
  encoded-instruction : int_at (encode m ++ rest) 0 ≡ m.instruction
  unfolding encode int
  encoded-instruction =
      let behind : List ℕ = int (length (body_bytes m.body)) ++ (body_bytes m.body ++ rest) in
      int-written [] m.instruction behind (omega (arith, listed_small (m.instruction, side, shape_of m.body) p.listed))

  encoded_head : Head side (encode m ++ rest) (shape_of m.body) (length (body_bytes m.body))
  unfolding encode int
  encoded_head =
      let k : ℕ = length (body_bytes m.body) in
      record {
        long = omega arith;
        listed = rw encoded-instruction p.listed;
        size = sym (int-written (int m.instruction) k (body_bytes m.body ++ rest) (omega (arith, p.short)));
        short = p.short;
      }

  -- a message that was encoded is read again, whatever stands behind it
  pub read-encoded : reading side (encode m ++ rest) ≡ Answer.accepted m (length (encode m))
  unfolding encode int reading heading
  read-encoded =
      let s : List ℕ = encode m ++ rest in
      let body : List ℕ = body_bytes m.body in
      let k : ℕ = length body in
      let long : length (body ++ rest) ≡ k + length rest = length-append body rest in
      let count : 8 + k ≡ length (encode m) = omega arith in
      ap (after_head s) (head_forth side s (shape_of m.body) k encoded_head)
      ∙ rw (le-ltb (length s) (8 + k) (omega arith), encoded-instruction, take-append_seam body rest, body_forth m.body p.values p.bytes, count)

-- a head was taken, and a body after it
module _ (side : Side) (s : List ℕ) (h : IsBytes s) (shape : Shape) (k : ℕ) (head : Head side s shape k) (fits : 8 + k ≤ length s) (b : Body) (body : Read shape (take k (drop 8 s)) b []) where
  body-there : take k (drop 8 s) ≡ body_bytes b
  body-there = body.split ∙ append-nil (body_bytes b)

  body-length : length (body_bytes b) ≡ k
  body-length = ap length (sym body-there) ∙ length-take-le k (drop 8 s) (omega (arith, length-drop 8 s))

  stands : s ≡ encode (message (int_at s 0) b) ++ drop k (drop 8 s)
  unfolding encode int
  stands =
      let rest : List ℕ = drop k (drop 8 s) in
      head_bytes h head
      ∙ ap (λ (l : List ℕ). int (int_at s 0) ++ (int k ++ l)) (sym (take-append-drop k (drop 8 s)) ∙ ap (λ (l : List ℕ). l ++ rest) body-there)
      ∙ ap (λ (n : ℕ). int (int_at s 0) ++ (int n ++ (body_bytes b ++ rest))) (sym body-length)

  published : Published side (message (int_at s 0) b) × Front s (message (int_at s 0) b) (8 + k)
  unfolding encode int
  published =
      let m : Message = message (int_at s 0) b in
      let count : 8 + k ≡ length (encode m) = omega (arith, body-length) in (
        record { listed = rw body.shaped head.listed; values = body.values; short = omega (arith, body-length, head.short); bytes = subst IsBytes body-there (bytes-part s 8 k h) },
        record { count = count; bytes = ap (take (8 + k)) stands ∙ take_at (encode m) (drop k (drop 8 s)) (8 + k) (sym count) },
      )

pub accepted-published : (side : Side) (s : List ℕ) → IsBytes s → (m : Message) (n : ℕ) → reading side s ≡ Answer.accepted m n → Published side m × Front s m n
unfolding reading heading
accepted-published side s h m n = after_head_lem (heading side s) refl
  where
    after-body : (shape : Shape) (k : ℕ) → Head side s shape k → 8 + k ≤ length s
        → (g : Got Body) → body_field shape (take k (drop 8 s)) ≡ g → answered (int_at s 0) (8 + k) g ≡ Answer.accepted m n → Published side m × Front s m n
    after-body shape k head fits (Got.refused r) q p = apart (cc)
    after-body shape k head fits (Got.got b rest) q p =
        let m' : message (int_at s 0) b ≡ m = cc in
        let n' : 8 + k ≡ n = cc in
        let body = body_back shape (take k (drop 8 s)) b rest (bytes-part s 8 k h) q in
        subst₂ (λ (m : Message) (n : ℕ). Published side m × Front s m n) m' n' (published side s h shape k head fits b body)

    after_head_lem : (g : Heading) → heading side s ≡ g → after_head s g ≡ Answer.accepted m n → Published side m × Front s m n
    after_head_lem (Heading.refused r) q p = apart (cc)
    after_head_lem (Heading.headed shape k) q p =
        either (ltb (length s) (8 + k)) _ _ p (λ cut p₁. apart (cc)) λ fits p₁.
        after-body shape k (head_back side s shape k q) (ltb-false (length s) (8 + k) fits) (body_field shape (take k (drop 8 s))) refl p₁
