use lib.ListN.{length}
use Rattle.sedna_read.proofs.Pairs.{Gathered}
use Rattle.sedna_read.proofs.Fields.options.Given as goal

abbrev pub invariant-loop-self : goal.invariant-loop-self
invariant-loop-self l = Gathered l.fn.self.bytes l.count l.self.bytes

abbrev pub decreases-loop-self : goal.decreases-loop-self
decreases-loop-self l = length l.self.bytes
