-- What the grammar lays out can be sent: each of its messages passes the test, and the test's bytes are bytes.
use mathlib.Core.Bool.{Bool, true, false}
use mathlib.Core.List.{List, [], ◌∷◌, ◌++◌}
use mathlib.Core.Path.{◌≡◌, refl, sym, subst, ◌∙◌}
use Prim.Native.Nat.{ℕ, zero, suc}
use native.Mathlib.Omega.{arith}
use lib.Dec.{T, leb, ltb}
use lib.ListN.{length}
use borrow.Author.Tests.{lt-ltb, ltb-true}
use Rattle.wire.specs.Bytes.{IsBytes, if}
use Rattle.wire.specs.Every.{Every}
use Rattle.sedna.specs.Allowed.{allowed}
use Rattle.sedna.specs.Encode.{body_bytes}
use Rattle.sedna.specs.Message.{Body, Message}
use Rattle.sedna.specs.Table.{find_of, shaped}
use Rattle.grammar.specs.Conversation.{Whole, Begins}
use Rattle.grammar.specs.Sent.{Version, all_bytes, can_send}
use Rattle.grammar.proofs.Arrow.{Rest, lay}
use Rattle.grammar.proofs.Back.{to, laid_to}
use Rattle.grammar.proofs.Phase.{Phase, start_up}
use Rattle.grammar.proofs.Takes.{Look, take, at-end, split}
use Rattle.grammar.proofs.Unique.{head_of, nothing_left, no_cons, heads, tails}

pub true_T : {t : Bool} → t ≡ true → T t
true_T e = subst (λ (t : Bool). T t) (sym e) tt

pub T_true : (t : Bool) → T t → t ≡ true
T_true true g = refl
T_true false g = absurd g

-- a test made only where another holds
T_both : (s t : Bool) → T (if s t false) → T s × T t
T_both true t g = (tt, g)
T_both false t g = absurd g

-- the test of bytes is `IsBytes`
pub bytes-all : (s : List ℕ) → IsBytes s → all_bytes s ≡ true
unfolding all_bytes
bytes-all [] h = refl
bytes-all (x ∷ s) h = rw (lt-ltb x 256 (h 0)) (bytes-all s (λ i. h (suc i)))

all-bytes : (s : List ℕ) → T (all_bytes s) → IsBytes s
unfolding all_bytes
all-bytes [] g i = omega arith
all-bytes (x ∷ s) g zero = ltb-true x 256 (T_true (ltb x 256) (T_both (ltb x 256) (all_bytes s) g).0)
all-bytes (x ∷ s) g (suc i) = all-bytes s (T_both (ltb x 256) (all_bytes s) g).1 i

-- a body that passes the test of what is sent is bytes
pub sent-bytes : (k : ℕ) (b : Body) → T (can_send k b) → IsBytes (body_bytes b)
unfolding can_send
sent-bytes k b g =
    let short : Bool = leb (length (body_bytes b)) 10240 in
    let shape = T_both (shaped (find_of k) b) (if (allowed b) (if short (all_bytes (body_bytes b)) false) false) g in
    let values = T_both (allowed b) (if short (all_bytes (body_bytes b)) false) shape.1 in
    all-bytes (body_bytes b) (T_both short (all_bytes (body_bytes b)) values.1).1

-- the message passes the test of what is sent
abbrev pub Sendable : Message → Type 0
Sendable m = T (can_send m.instruction m.body)

-- every message of what is left at a phase does
left-sendable : (l : List Message) (p : Phase) (v : Version) (t : Rest p v) → lay p v t ≡ l → Every Sendable l
left-sendable [] p v t e = tt
left-sendable (m ∷ l) p v t e = by (take p v t) (left-sendable l)
  where
    by : Look p v t → ((q : Phase) (w : Version) (u : Rest q w) → lay q w u ≡ l → Every Sendable l) → Every Sendable (m ∷ l)
    by (at-end c) again = absurd (no_cons (sym e ∙ nothing_left p v c t))
    by (split s) again =
        let h = sym (head_of p v t s) ∙ e in
        (subst Sendable (heads h) s.body.sent, again s.arrow.to _ s.tail (tails h))

front_of : (k l : List Message) → Every Sendable (k ++ l) → Every Sendable k
front_of [] l h = tt
front_of (x ∷ k) l h = (h.0, front_of k l h.1)

-- and so does every message of a list that begins a conversation
pub begun-sendable : (l : List Message) → Begins l → Every Sendable l
unfolding Begins Whole
begun-sendable l (rest, w) = front_of l rest (left-sendable (l ++ rest) start_up 0 (to w.0) (laid_to w.0 ∙ w.1))
