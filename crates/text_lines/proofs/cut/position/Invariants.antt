use mathlib.Core.Path.{◌≡◌}
use Prim.Native.Nat.{◌+◌, ◌≤◌}
use lib.ListN.{length}
use Rattle.text_lines.specs.Cuts.{space, words_of, ahead_of}
use Rattle.text_lines.proofs.cut.position.Given as goal

abbrev pub invariant-loop-one : goal.invariant-loop-one
invariant-loop-one l = record {
  bounds : l.k + length l.one-iterator.rest.now ≤ length l.words;
  ends : l.one-iterator.end ≡ space;
  counts : ahead_of l.word (words_of l.words) ≡ l.k + ahead_of l.word (words_of l.one-iterator.rest.now);
}
