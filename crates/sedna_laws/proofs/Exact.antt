-- Reading accepts exactly the published messages, each by its one encoding.
use mathlib.Core.Path.{◌≡◌, sym, ap, ◌∙◌}
use mathlib.Core.List.{List, ◌++◌}
use mathlib.Core.Logic.{◌↔◌}
use Prim.Native.Nat.{ℕ}
use lib.ListN.{take, drop, take-append-drop}
use Rattle.wire.specs.Bytes.{IsBytes}
use Rattle.sedna.specs.declared.Side.{Side}
use Rattle.sedna.specs.Message.{Message}
use Rattle.sedna.specs.Encode.{encode}
use Rattle.sedna.specs.Published.{Published, Front}
use Rattle.sedna_read.specs.Reading.{Answer, reading}
use Rattle.sedna_laws.proofs.Accepted.{read-encoded, accepted-published}

-- s is m's encoding, with what stands behind it
pub front-split : {s : List ℕ} {m : Message} {n : ℕ} → Front s m n → s ≡ encode m ++ drop n s
front-split {s} {n} f = sym (take-append-drop n s) ∙ ap (λ (l : List ℕ). l ++ drop n s) f.bytes

-- a published message that stands in front is accepted, whatever stands behind it
pub published-accepted : (side : Side) (s : List ℕ) (m : Message) (n : ℕ) → Published side m → Front s m n → reading side s ≡ Answer.accepted m n
published-accepted side s m n p f =
    let split : s ≡ encode m ++ drop n s = front-split f in
    ap (reading side) split ∙ read-encoded side m (drop n s) p ∙ ap (Answer.accepted m) (sym f.count)

-- demand 2, reading: m with n bytes is accepted exactly when the side sends it and the first n bytes are its encoding
pub exact : (side : Side) (s : List ℕ) → IsBytes s → (m : Message) (n : ℕ) → (reading side s ≡ Answer.accepted m n) ↔ (Published side m × Front s m n)
exact side s h m n = (accepted-published side s h m n, λ p. published-accepted side s m n p.0 p.1)

-- one message per byte string
pub one_message : (side : Side) (s : List ℕ) (m m' : Message) (n n' : ℕ) → Published side m × Front s m n → Published side m' × Front s m' n' → (m ≡ m') × (n ≡ n')
one_message side s m m' n n' p p' =
    let e : Answer.accepted m n ≡ Answer.accepted m' n' = sym (published-accepted side s m n p.0 p.1) ∙ published-accepted side s m' n' p'.0 p'.1 in
    (cc, cc)

-- one encoding per message: whatever is read as m has m's one encoding in front
pub one_encoding : (side : Side) (s s' : List ℕ) → IsBytes s → IsBytes s' → (m : Message) (n n' : ℕ) → reading side s ≡ Answer.accepted m n → reading side s' ≡ Answer.accepted m n'
    → (n ≡ n') × (take n s ≡ take n s')
one_encoding side s s' h h' m n n' e e' =
    let f = ((exact side s h m n).0 e).1 in
    let f' = ((exact side s' h' m n').0 e').1 in
    let same : n ≡ n' = f.count ∙ sym f'.count in
    (same, f.bytes ∙ sym f'.bytes ∙ ap (λ (k : ℕ). take k s') (sym same))

-- what stands behind the message does not matter
pub behind : (side : Side) (s s' : List ℕ) → IsBytes s → (m : Message) (n : ℕ) → reading side s ≡ Answer.accepted m n → take n s' ≡ take n s → reading side s' ≡ Answer.accepted m n
behind side s s' h m n e same =
    let p = (exact side s h m n).0 e in
    published-accepted side s' m n p.0 (record { count = p.1.count; bytes = same ∙ p.1.bytes })
