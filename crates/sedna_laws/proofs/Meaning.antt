-- The places that the reader answers hold the message's fields.
use mathlib.Core.Path.{◌≡◌, refl}
use mathlib.Core.List.{List, [], ◌∷◌, ◌++◌, append_assoc}
use Prim.Native.Nat.{ℕ, ◌+◌}
use native.Mathlib.Omega.{arith}
use lib.ListN.{length, drop}
use lib.Seq.{take-append_seam}
use Rattle.wire.specs.Bytes.{IsBytes, int}
use Rattle.sedna.specs.declared.Side.{Side}
use Rattle.sedna.specs.Message.{Url, Body, Message}
use Rattle.sedna.specs.Published.{Published, Front}
use Rattle.sedna.specs.Encode.{string, url_bytes, pairs_bytes, body_bytes}
use Rattle.sedna_read.specs.Reading.{Answer, reading}
use Rattle.sedna_read.specs.Places.{places_of, located}
use Rattle.sedna_read.specs.Meaning.{body_in, meaning}
use Rattle.sedna_laws.proofs.Exact.{exact}
use Rattle.sedna_laws.proofs.Pairs.{pairs_forth}
use Rattle.sedna_laws.proofs.Parts.{string-behind, body-front}

-- a body that stands behind `at` bytes is what its places hold
body-places : (s : List ℕ) (at : ℕ) (b : Body) (rest : List ℕ) → IsBytes (body_bytes b) → drop at s ≡ body_bytes b ++ rest → body_in s (places_of at (length (body_bytes b)) b) ≡ b
unfolding body_bytes url_bytes string int
body-places s at Body.empty rest h e = refl
body-places s at (Body.session major minor user database) rest h e =
    rw (
      string-behind s at (major ∷ minor ∷ []) user (string database ++ rest) (at + 7) (rw append_assoc at e) (omega arith),
      string-behind s at (major ∷ minor ∷ string user) database rest (at + 12 + length user) (rw append_assoc at e) (omega arith),
    )
body-places s at (Body.text t) rest h e = rw (string-behind s at [] t rest (at + 5) e (omega arith))
body-places s at (Body.statement format t) rest h e = rw (string-behind s at (format ∷ []) t rest (at + 6) e (omega arith))
body-places s at (Body.coded code t) rest h e = rw (string-behind s at (int code) t rest (at + 9) e (omega arith))
body-places s at (Body.options pairs) rest h e = rw (e, take-append_seam (pairs_bytes pairs) rest, pairs_forth pairs (length pairs) (omega arith) h)
body-places s at (Body.item class kind Url.absent part) rest h e =
    rw (string-behind s at (class ∷ kind ∷ 0 ∷ []) part rest (at + 2 + 1 + 5) e (omega arith))
body-places s at (Body.item class kind (Url.present url) part) rest h e =
    rw (
      string-behind s at (class ∷ kind ∷ 1 ∷ []) url (string part ++ rest) (at + 2 + 6) (rw append_assoc at e) (omega arith),
      string-behind s at (class ∷ kind ∷ 1 ∷ string url) part rest (at + 2 + 6 + length url + 5) (rw append_assoc at e) (omega arith),
    )

-- where a published message stands in front, its places mean it, whatever stands behind it
pub accepted-means : (side : Side) (s : List ℕ) (m : Message) (n : ℕ) → Published side m → Front s m n → meaning s (located (Answer.accepted m n)) ≡ Answer.accepted m n
accepted-means side s m n p f =
    let there = body-front side s m n p f in
    rw (there.size, body-places s 8 m.body (drop n s) there.bytes there.split)

-- the reader's answer, by its places, means what reading answers
pub meaning-located : (side : Side) (s : List ℕ) → IsBytes s → meaning s (located (reading side s)) ≡ reading side s
meaning-located side s h = by (reading side s) refl
  where
    by : (a : Answer) → reading side s ≡ a → meaning s (located a) ≡ a
    by (Answer.refused r) e = refl
    by (Answer.accepted m n) e = let p = (exact side s h m n).0 e in accepted-means side s m n p.0 p.1
