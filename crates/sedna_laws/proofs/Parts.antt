-- Where the parts of a message stand in the bytes that it was read from.
use mathlib.Core.Path.{◌≡◌, ap}
use mathlib.Core.List.{List, ◌++◌}
use Prim.Native.Nat.{ℕ, ◌+◌, ◌-◌}
use native.Mathlib.Omega.{arith}
use lib.ListN.{length, take, drop}
use lib.Seq.{take-append_seam, drop-append-add, drop-drop}
use Rattle.wire.specs.Bytes.{IsBytes, int}
use Rattle.sedna.specs.declared.Side.{Side}
use Rattle.sedna.specs.Published.{Published, Front}
use Rattle.sedna.specs.Message.{Message}
use Rattle.sedna.specs.Encode.{string, body_bytes, encode}
use Rattle.sedna_read.specs.Reading.{Answer, reading}
use Rattle.sedna_laws.proofs.Exact.{exact, front-split}

-- where u and v stand behind `at` bytes, v without its first j bytes stands behind u and j more
pub stands-behind : (s : List ℕ) (at : ℕ) (u v : List ℕ) (j k : ℕ) → drop at s ≡ u ++ v → k ≡ at + (length u + j) → drop k s ≡ drop j v
stands-behind s at u v j k e l = rw (l, ← drop-drop (length u + j) at s, e, drop-append-add u v j)

-- where u and a string stand behind `at` bytes, the string's own bytes stand behind u and five more
pub string-behind : (s : List ℕ) (at : ℕ) (u t rest : List ℕ) (k : ℕ) → drop at s ≡ u ++ (string t ++ rest) → k ≡ at + (length u + 5) → take (length t) (drop k s) ≡ t
unfolding string int
string-behind s at u t rest k e l = rw (stands-behind s at u (string t ++ rest) 5 k e l, take-append_seam t rest)

-- m's body stands in s behind the head's eight bytes, and ends with the first n bytes
pub record BodyStands (s : List ℕ) (m : Message) (n : ℕ) : Type 0 where
  pub split : drop 8 s ≡ body_bytes m.body ++ drop n s
  pub size : n - 8 ≡ length (body_bytes m.body)
  pub bytes : IsBytes (body_bytes m.body)

pub body-front : (side : Side) (s : List ℕ) (m : Message) (n : ℕ) → Published side m → Front s m n → BodyStands s m n
unfolding encode int
body-front side s m n p f = record { split = ap (drop 8) (front-split f); size = omega (arith, f.count); bytes = p.bytes }

pub body-stands : (side : Side) (s : List ℕ) → IsBytes s → (m : Message) (n : ℕ) → reading side s ≡ Answer.accepted m n → BodyStands s m n
body-stands side s h m n e = let p = (exact side s h m n).0 e in body-front side s m n p.0 p.1
