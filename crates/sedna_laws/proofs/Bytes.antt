-- Parts of bytes are bytes, and an int in bytes is its number.
use mathlib.Core.Path.{◌≡◌, ◌∙◌}
use mathlib.Core.List.{List, [], ◌∷◌, ◌++◌}
use Prim.Native.Nat.{ℕ, zero, suc, ◌+◌, ◌≤◌, ◌<◌, ◌^◌}
use native.Mathlib.Numerals.{towards_suc}
use native.Mathlib.Omega.{arith}
use lib.ListN.{length, take, drop, get_or, length-append, take-append-drop}
use lib.Seq.{drop-cons, get_or-append_seam, get_or-append-add, get_or-drop}
use Rattle.wire.specs.Bytes.{IsBytes, int, int_at}
use Rattle.wire.proofs.Ints.{join-int, int-join, int_at-there}

pub bytes-behind : (u v : List ℕ) → IsBytes (u ++ v) → IsBytes v
bytes-behind u v h i = rw (get_or-append-add u v i 0) at (h (length u + i))

pub bytes-front : (u v : List ℕ) → IsBytes (u ++ v) → IsBytes u
bytes-front [] v h i = omega arith
bytes-front (x ∷ u) v h zero = h 0
bytes-front (x ∷ u) v h (suc i) = bytes-front u v (λ j. h (suc j)) i

pub bytes-part : (s : List ℕ) (start count : ℕ) → IsBytes s → IsBytes (take count (drop start s))
bytes-part s start count h =
    let t : List ℕ = drop start s in
    bytes-front (take count t) (drop count t) (rw (take-append-drop count t) (λ i. rw (get_or-drop start s i 0) (h (start + i))))

-- a number whose four bytes are bytes has no more than four
pub int_small : (n : ℕ) (v : List ℕ) → IsBytes (int n ++ v) → n < 2 ^ 32
unfolding int
int_small n v h = omega (arith, h 0)

-- an int written behind u is read there
pub int-written : (u : List ℕ) (n : ℕ) (v : List ℕ) → n < 2 ^ 32 → int_at (u ++ (int n ++ v)) (length u) ≡ n
unfolding int
int-written u n v h =
    int_at-there (u ++ (int n ++ v)) (length u) (omega (arith, length-append u (int n ++ v)))
    ∙ simp (get_or-append_seam, get_or-append-add) (join-int n h)

-- bytes go on with the int that is read there
pub int-read : (s : List ℕ) (at : ℕ) → IsBytes s → at + 4 ≤ length s → drop at s ≡ int (int_at s at) ++ drop (at + 4) s
int-read s at h l =
    let byte : ℕ → ℕ = λ i. get_or s (at + i) 0 in
    rw
    (int_at-there s at l, int-join (get_or s at 0) (byte 1) (byte 2) (byte 3) (h at) (h (at + 1)) (h (at + 2)) (h (at + 3)))
    (simp towards_suc (rw (drop-cons s at 0 (omega arith), drop-cons s (suc at) 0 (omega arith), drop-cons s (suc (suc at)) 0 (omega arith), drop-cons s (suc (suc (suc at))) 0 (omega arith))))
