-- What the grammar lets be sent is what the codec publishes.
use Rattle.std.specs.Prelude.{Option, Some, None}
use mathlib.Core.Bool.{true, false}
use mathlib.Core.Logic.{◌↔◌}
use mathlib.Core.Path.{◌≡◌, refl, ◌∙◌, ap}
use mathlib.Core.List.{List, [], ◌∷◌}
use Prim.Native.Nat.{ℕ, ◌≤◌}
use lib.Dec.{T}
use lib.ListN.{length}
use borrow.Author.Tests.{le-leb, leb-true, eq-eqb}
use Rattle.wire.specs.Bytes.{IsBytes}
use Rattle.wire.specs.Every.{Every}
use Rattle.sedna.specs.declared.Side.{Side}
use Rattle.sedna.specs.declared.Shape.{Shape}
use Rattle.sedna.specs.Allowed.{allowed}
use Rattle.sedna.specs.Encode.{body_bytes}
use Rattle.sedna.specs.Kinds.{shape_number}
use Rattle.sedna.specs.Message.{Body, Message, shape_of, message}
use Rattle.sedna.specs.Published.{Published}
use Rattle.sedna.specs.Table.{find_of, shaped}
use Rattle.wire.proofs.Branches.{both}
use Rattle.sedna_laws.proofs.Table.{find_listed, listed_find}
use Rattle.sedna_laws.proofs.Written.{same_shape_lem}
use Rattle.grammar.specs.Conversation.{Begins}
use Rattle.grammar.specs.Sent.{can_send}
use Rattle.grammar.proofs.Sendable.{true_T, T_true, bytes-all, sent-bytes, Sendable, begun-sendable}

pub published-sent : {side : Side} {k : ℕ} {b : Body} → Published side (message k b) → T (can_send k b)
unfolding can_send
published-sent {side} {k} {b} p =
    let shape : shaped (find_of k) b ≡ true = ap (λ (f : Option (Side × Shape)). shaped f b) (find_listed (k, side, shape_of b) p.listed) ∙ eq-eqb (shape_number (shape_of b)) (shape_number (shape_of b)) refl in
    true_T ((both _ _).1 (shape, (both _ _).1 (p.values, (both _ _).1 (le-leb (length (body_bytes b)) 10240 p.short, bytes-all (body_bytes b) p.bytes))))

sent-published : (k : ℕ) (b : Body) → T (can_send k b) → (side : Side) × Published side (message k b)
unfolding can_send
sent-published k b g =
    let outer = (both _ _).0 (T_true _ g) in
    let inner = (both _ _).0 outer.1 in
    let size = (both _ _).0 inner.1 in
    by (find_of k) refl outer.0 inner.0 (leb-true (length (body_bytes b)) 10240 size.0) (sent-bytes k b g)
  where
    by : (f : Option (Side × Shape)) → find_of k ≡ f → shaped f b ≡ true → allowed b ≡ true → length (body_bytes b) ≤ 10240 → IsBytes (body_bytes b) → (side : Side) × Published side (message k b)
    by None e s v l h = absurd (true_T {t = false} s)
    by (Some (side, shape)) e s v l h = (side, record { listed = listed_find k side (shape_of b) (e ∙ ap (λ (x : Shape). Some (side, x)) (same_shape_lem shape (shape_of b) s)); values = v; short = l; bytes = h })

-- a body can be sent with an instruction exactly when some side publishes the message
pub published_exact : (k : ℕ) (b : Body) → T (can_send k b) ↔ ((side : Side) × Published side (message k b))
published_exact k b = (sent-published k b, λ p. published-sent p.1)

-- every message of a list that begins a conversation is one that some side sends
pub begun-published : (l : List Message) → Begins l → Every (λ (m : Message). (side : Side) × Published side m) l
begun-published l g = each l (begun-sendable l g)
  where
    each : (l : List Message) → Every Sendable l → Every (λ (m : Message). (side : Side) × Published side m) l
    each [] h = tt
    each (m ∷ l) h = (sent-published m.instruction m.body h.0, each l h.1)
