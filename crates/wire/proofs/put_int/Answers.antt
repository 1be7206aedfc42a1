use Rattle.std.proofs.Common.{◌≡◌, ◌∙◌, sym, ap, ◌/◌, ◌%◌, ℕ, List}
use native.Mathlib.Omega.{arith}
use Rattle.wire.specs.Call.{put_at}
use Rattle.wire.proofs.Ints.{int-bytes}
use Rattle.wire.proofs.put_int.Goals as goal

pub returns : goal.returns
returns c = c.put_bytes.ensures ∙ ap (put_at c.args.out.now c.args.at) (c.to_be_bytes.ensures ∙ int-bytes c.args.n c.ranges.n.fits)
