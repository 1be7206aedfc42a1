use mathlib.Core.Path.{◌≡◌, refl}
use mathlib.Core.List.{List, [], ◌∷◌, ◌++◌}
use Prim.Native.Nat.{ℕ, ◌+◌, ◌≤◌}
use native.Mathlib.Omega.{arith}
use lib.Dec.{ltb}
use lib.ListN.{length, take}
use Rattle.wire.specs.Call.{put_at, Gives}
use Rattle.wire.proofs.Splices.{Ahead, step, last}
use Rattle.basex.specs.Texts.{string_if}
use Rattle.basex.specs.Request.{Request, encode}
use Rattle.basex.proofs.Puts.{first_fits, put-fits}
use Rattle.basex_request.proofs.Puts.{coded-ahead, coded-length}
use Rattle.basex_request.specs.Calls.{four}
use Rattle.basex_request.proofs.coding.put_coded.Goals as goal

-- the whole request, and the output with it
abbrev bytes : (a b c d : List ℕ) (kind n : ℕ) → List ℕ
bytes a b c d kind n = encode (Request.coded kind (take n (four a b c d)))

-- the call's arguments, the bytes fitting; the output after the first byte
module _ (a b c d : List ℕ) (kind n : ℕ) (out : List ℕ) (fits : length (bytes a b c d kind n) ≤ length out) {o : List ℕ} (f : o ≡ put_at out 0 (kind ∷ [])) where
  -- what a string's writing gives, where the one before it gave k and left o
  abbrev Given : (k : ℕ) (o s : List ℕ) (l : ℕ) (p : List ℕ) → Type 0
  Given k o s l p = Gives (k + length s) (put_at o k s) l p

  -- what is ahead before each string
  ahead : Ahead (put_at out 0 (bytes a b c d kind n)) o 1
      (string_if (ltb 0 n) a ++ (string_if (ltb 1 n) b ++ (string_if (ltb 2 n) c ++ string_if (ltb 3 n) d)))
  ahead = step (kind ∷ []) 1 (coded-ahead a b c d kind n out fits) f refl

  module _ {k : ℕ} {p : List ℕ} (g : Given 1 o (string_if (ltb 0 n) a) k p) where
    ahead-2 : Ahead (put_at out 0 (bytes a b c d kind n)) p k (string_if (ltb 1 n) b ++ (string_if (ltb 2 n) c ++ string_if (ltb 3 n) d))
    ahead-2 = step (string_if (ltb 0 n) a) k ahead g.leaves g.answers

    module _ {l : ℕ} {q : List ℕ} (h : Given k p (string_if (ltb 1 n) b) l q) where
      ahead-3 : Ahead (put_at out 0 (bytes a b c d kind n)) q l (string_if (ltb 2 n) c ++ string_if (ltb 3 n) d)
      ahead-3 = step (string_if (ltb 1 n) b) l ahead-2 h.leaves h.answers

      ahead-4 : {m : ℕ} {r : List ℕ} → Given l q (string_if (ltb 2 n) c) m r → Ahead (put_at out 0 (bytes a b c d kind n)) r m (string_if (ltb 3 n) d)
      ahead-4 {m} i = step (string_if (ltb 2 n) c) m ahead-3 i.leaves i.answers

pub returns : goal.returns
returns c =
    let a = c.args in
    let m = coded-length a.first.now a.second.now a.third.now a.fourth.now a.kind a.n in
    let w = ahead a.first.now a.second.now a.third.now a.fourth.now a.kind a.n a.out.now c.requires c.put_byte.ensures in
    let p = put-fits _ _ _ c.put_string_if-b.ensures.answers c.put_string_if-b.ensures.leaves (first_fits _ _ w) in
    let x = ahead-2 a.first.now a.second.now a.third.now a.fourth.now a.kind a.n a.out.now c.requires c.put_byte.ensures p in
    let q = put-fits _ _ _ c.put_string_if-c.ensures.answers c.put_string_if-c.ensures.leaves (first_fits _ _ x) in
    let y = ahead-3 a.first.now a.second.now a.third.now a.fourth.now a.kind a.n a.out.now c.requires c.put_byte.ensures p q in
    let r = put-fits _ _ _ c.put_string_if-d.ensures.answers c.put_string_if-d.ensures.leaves (first_fits _ _ y) in
    let z = ahead-4 a.first.now a.second.now a.third.now a.fourth.now a.kind a.n a.out.now c.requires c.put_byte.ensures p q r in
    let s = put-fits _ _ _ c.put_string_if.ensures.answers c.put_string_if.ensures.leaves z.fits in
    record { answers = omega (arith, p.answers, q.answers, r.answers, s.answers); leaves = last z s.leaves }
