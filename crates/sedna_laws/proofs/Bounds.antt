-- Bounds: what makes an encoding bytes, field by field.
use mathlib.Core.List.{List, [], ◌∷◌, ◌++◌, flat_map}
use mathlib.Core.Logic.{◌↔◌}
use Prim.Native.Nat.{ℕ, zero, suc, ◌≤◌, ◌<◌}
use native.Mathlib.Omega.{arith}
use lib.ListN.{length, length-append}
use Rattle.wire.specs.Bytes.{IsBytes, int}
use Rattle.wire.specs.Every.{Every}
use Rattle.sedna.specs.Encode.{string, body_bytes}
use Rattle.sedna.specs.Message.{Body}
use Rattle.sedna_laws.specs.Pieces.{Piece, piece_bytes, pieces_bytes, pieces_of, InBounds, Bounded}
use Rattle.sedna_laws.proofs.Bytes.{bytes-front, bytes-behind}
use Rattle.sedna_laws.proofs.Pieces.{pieces-bytes}

bytes-append : (u v : List ℕ) → IsBytes u → IsBytes v → IsBytes (u ++ v)
bytes-append [] v f g i = g i
bytes-append (x ∷ u) v f g zero = f 0
bytes-append (x ∷ u) v f g (suc i) = bytes-append u v (λ j. f (suc j)) g i

bytes_cons : (x : ℕ) (s : List ℕ) → x < 256 → IsBytes s → IsBytes (x ∷ s)
bytes_cons x s l h zero = l
bytes_cons x s l h (suc i) = h i

pub bytes-none : IsBytes []
bytes-none i = omega arith

int-bytes : (n : ℕ) → n ≤ 4294967295 → IsBytes (int n)
unfolding int
int-bytes n h zero = omega arith
int-bytes n h (suc zero) = omega arith
int-bytes n h (suc (suc zero)) = omega arith
int-bytes n h (suc (suc (suc zero))) = omega arith
int-bytes n h (suc (suc (suc (suc i)))) = omega arith

string_bytes : (t : List ℕ) → length t ≤ 4294967295 → IsBytes t → IsBytes (string t)
unfolding string
string_bytes t l h = bytes_cons 0 (int (length t) ++ t) (omega arith) (bytes-append (int (length t)) t (int-bytes (length t) l) h)

piece_bytes_lem : (p : Piece) → length (piece_bytes p) ≤ 10240 → InBounds p → IsBytes (piece_bytes p)
unfolding string int
piece_bytes_lem (Piece.byte x) l h = bytes_cons x [] h bytes-none
piece_bytes_lem (Piece.version major minor) l h = bytes_cons major (minor ∷ []) h.0 (bytes_cons minor [] h.1 bytes-none)
piece_bytes_lem (Piece.number n) l h = int-bytes n h
piece_bytes_lem (Piece.text t) l h = string_bytes t (omega arith) h

piece_bounds : (p : Piece) → IsBytes (piece_bytes p) → InBounds p
unfolding string int
piece_bounds (Piece.byte x) h = h 0
piece_bounds (Piece.version major minor) h = (h 0, h 1)
piece_bounds (Piece.number n) h = omega (arith, h 0)
piece_bounds (Piece.text t) h = bytes-behind (0 ∷ int (length t)) t h

all-bytes : (ps : List Piece) → length (pieces_bytes ps) ≤ 10240 → Every InBounds ps → IsBytes (pieces_bytes ps)
unfolding flat_map
all-bytes [] l h = bytes-none
all-bytes (p ∷ ps) l h =
    let long = length-append (piece_bytes p) (pieces_bytes ps) in
    bytes-append (piece_bytes p) (pieces_bytes ps) (piece_bytes_lem p (omega (arith, l, long)) h.0) (all-bytes ps (omega (arith, l, long)) h.1)

all-bounds : (ps : List Piece) → IsBytes (pieces_bytes ps) → Every InBounds ps
unfolding flat_map
all-bounds [] h = tt
all-bounds (p ∷ ps) h = (piece_bounds p (bytes-front (piece_bytes p) (pieces_bytes ps) h), all-bounds ps (bytes-behind (piece_bytes p) (pieces_bytes ps) h))

-- of a body that is short enough: its encoding is bytes exactly when each field is in bounds
pub bounds : (b : Body) → length (body_bytes b) ≤ 10240 → IsBytes (body_bytes b) ↔ Bounded b
bounds b short = (
  λ h. all-bounds (pieces_of b) (rw (pieces-bytes b) h),
  λ h. rw (pieces-bytes b) at (all-bytes (pieces_of b) (rw (pieces-bytes b) short) h),
)
