use mathlib.Core.Path.{◌≡◌, ◌∙◌}
use Prim.Native.Nat.{ℕ, ◌+◌, ◌-◌, ◌≤◌, min}
use native.Mathlib.Omega.{arith}
use lib.ListN.{drop, length-drop}
use Rattle.basex_string.proofs.Runs.{run-within, run-start}
use Rattle.basex_string.proofs.Copies.{copied_over}
use Rattle.basex_string.proofs.put.put_run.Goals as goal

-- of a run of n bytes, all within `here`, k were put, and then m of those that are left
counted : (here room most n left k m : ℕ) → most ≡ min here room → n ≤ here → k ≤ most → n ≡ k + left → m ≡ min (most - k) left → k + m ≡ min room n
counted here room most n left k m a b d e f = omega arith

pub returns : goal.returns
returns c =
    let a = c.args in
    let k = c.put_plain-blocks in
    let m = c.put_singles in
    let w = run-within (drop a.from a.bytes.now) in
    let d = length-drop a.from a.bytes.now in
    let s = run-start a.bytes.now a.from (a.from + k.result) (omega arith) (omega (arith, k.ensures.1)) in
    record {
      answers = counted _ _ _ _ _ _ _ c.min-most.ensures (omega (arith, w, d)) k.ensures.0
          (omega (arith, s)) m.ensures.answers;
      leaves = m.ensures.leaves ∙ copied_over a.bytes.now a.out.now a.from a.to k.result m.result k.ensures.2 (omega arith) (omega arith);
    }
