use Rattle.std.specs.Prelude.{Ok}
use mathlib.Core.Path.{◌≡◌, sym, ◌∙◌}
use mathlib.Core.List.{List}
use Prim.Native.Nat.{ℕ, ◌+◌, ◌≤◌}
use native.Mathlib.Omega.{arith}
use lib.Dec.{ltb}
use lib.ListN.{length, take}
use Rattle.wire.specs.Call.{in_room}
use Rattle.wire.proofs.Call.{counted-there}
use Rattle.basex_string.proofs.Handed.{handed}
use Rattle.basex.specs.Texts.{string_if}
use Rattle.basex.specs.Request.{Request, encode}
use Rattle.basex_request.proofs.Puts.{coded-length, coded_not, coded-put}
use Rattle.basex_request.specs.Calls.{four}
use Rattle.basex_request.proofs.coding.write_coded.Goals as goal

-- how many bytes the strings have, and that they fit
module _ (a b c d : List ℕ) (kind n : ℕ) {i j k l : ℕ} (p : i ≡ length (string_if (ltb 0 n) a)) (q : j ≡ length (string_if (ltb 1 n) b))
    (r : k ≡ length (string_if (ltb 2 n) c)) (s : l ≡ length (string_if (ltb 3 n) d)) where
  sized : length (encode (Request.coded kind (take n (four a b c d)))) ≡ 1 + (i + j + k + l)
  sized = let t = coded-length a b c d kind n in omega arith

  fits : {room m : ℕ} → in_room room 1 (i + j + k + l) ≡ Ok m → length (encode (Request.coded kind (take n (four a b c d)))) ≤ room
  fits {room} {m} e =
      let t = sized in
      let f = (counted-there room 1 (i + j + k + l) m e).1 in
      omega arith

pub put_coded-requires : goal.put_coded-requires
put_coded-requires c =
    let a = c.args in
    fits a.first.now a.second.now a.third.now a.fourth.now a.kind a.n c.size_if-a.ensures c.size_if-b.ensures c.size_if-c.ensures c.size_if-d.ensures
    (sym c.parts_in_room.ensures ∙ c.in_ok-parts_in_room.was)

pub returns-in_err-parts_in_room : goal.returns-in_err-parts_in_room
returns-in_err-parts_in_room c =
    let a = c.args in
    rw (handed _ c.from_residual.ensures.1) (coded_not a.first.now a.second.now a.third.now a.fourth.now a.kind a.n a.out.now _
    (sized a.first.now a.second.now a.third.now a.fourth.now a.kind a.n c.size_if-a.ensures c.size_if-b.ensures c.size_if-c.ensures c.size_if-d.ensures)
    (sym c.parts_in_room.ensures ∙ c.in_err-parts_in_room.was))

pub returns : goal.returns
returns c =
    let a = c.args in
    coded-put a.first.now a.second.now a.third.now a.fourth.now a.kind a.n a.out.now
    (fits a.first.now a.second.now a.third.now a.fourth.now a.kind a.n c.size_if-a.ensures c.size_if-b.ensures c.size_if-c.ensures c.size_if-d.ensures
    (sym c.parts_in_room.ensures ∙ c.in_ok-parts_in_room.was))
    c.put_coded.ensures
