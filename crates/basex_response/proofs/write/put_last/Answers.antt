use mathlib.Core.Path.{◌≡◌, refl, sym, ◌∙◌}
use mathlib.Core.Bool.{Bool}
use mathlib.Core.List.{List, [], ◌∷◌}
use Prim.Native.Nat.{ℕ, ◌+◌, ◌≤◌}
use native.Mathlib.Omega.{arith}
use lib.Dec.{ltb}
use lib.ListN.{length}
use Rattle.wire.specs.Bytes.{splice}
use Rattle.wire.specs.Call.{put_at, Gives}
use Rattle.wire.proofs.Splices.{Ahead, start, step, last, put_at-fits}
use Rattle.basex.specs.Texts.{string_if}
use Rattle.basex_response.specs.inner.Spelling.{zero_if, last_parts}
use Rattle.basex_response.proofs.Ends.{last-size}
use Rattle.basex_response.proofs.write.put_last.Goals as goal

-- the status is put, and the error is ahead
status-put : (out : List ℕ) (at : ℕ) (list : Bool) (status n : ℕ) (error : List ℕ) → at + length (last_parts list status n error) ≤ length out
    → {k : ℕ} {d e : List ℕ} → Gives (at + length (zero_if list)) (put_at out at (zero_if list)) k d → e ≡ put_at d k (status ∷ [])
    → Ahead (splice out at (last_parts list status n error)) e (k + 1) (string_if (ltb 0 n) error)
status-put out at list status n error f {k} z s =
    step (status ∷ []) (k + 1) (step (zero_if list) k (start out at (last_parts list status n error) f) z.leaves z.answers) s refl

pub put_zero-next-requires : goal.put_zero-next-requires
put_zero-next-requires c =
    let a = c.args in omega (arith, last-size a.list a.status a.n a.error.now)

pub overflow_add-next : goal.overflow_add-next
overflow_add-next c =
    let a = c.args in
    let f = (status-put a.out.now a.at a.list a.status a.n a.error.now c.requires c.put_zero-next.ensures c.put_byte.ensures).fits in
    omega arith

pub returns : goal.returns
returns c =
    let a = c.args in
    let w = status-put a.out.now a.at a.list a.status a.n a.error.now c.requires c.put_zero-next.ensures c.put_byte.ensures in
    last w c.put_string_if.ensures.leaves ∙ sym (put_at-fits a.out.now a.at (last_parts a.list a.status a.n a.error.now) c.requires)
