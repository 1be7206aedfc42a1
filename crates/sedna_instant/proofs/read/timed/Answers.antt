use native.Mathlib.Omega.{arith}
use Rattle.sedna_instant.specs.DateTimes.{year_was, fraction_was}
use Rattle.sedna_instant.proofs.Seconds.{formed_fit}
use Rattle.sedna_instant.proofs.read.timed.Goals as goal

pub seconds-requires : goal.seconds-requires
seconds-requires c =
    formed_fit (year_was c.args.y) c.args.c (fraction_was c.args.f) c.args.shift c.requires.formed (omega arith) (omega arith) c.requires.shift_136800
