-- The guarantees hold: each is what a demand says.
use Rattle.demands.specs.Main.{Guarantees}
use Rattle.demands.proofs.BaseXCalls.{basex_calls}
use Rattle.demands.proofs.Demand1.{demand_1}
use Rattle.demands.proofs.Demand2.{demand_2}
use Rattle.demands.proofs.Demand3.{demand_3}
use Rattle.demands.proofs.Exports.{demand_3_exports}
use Rattle.demands.proofs.JoinCalls.{join_calls}
use Rattle.demands.proofs.PartsCalls.{parts-calls}
use Rattle.demands.proofs.Request1.{request_1}
use Rattle.demands.proofs.Request2.{request_2}
use Rattle.demands.proofs.SednaCalls.{sedna-calls}
use Rattle.demands.proofs.Transcript.{demand_3_transcript}

pub guarantees : Guarantees
guarantees = record {
  messages = demand_2.sedna;
  basex = demand_2.basex;
  session = demand_3;
  disk_error = request_2;
  joining = demand_1.parts;
  cutting = demand_2.parts;
  values = request_1;
  refusals = demand_1;
  codec_calls = sedna-calls;
  basex_calls = basex_calls;
  step_calls = demand_3_exports;
  part_calls = parts-calls;
  join_calls = join_calls;
  transcript = demand_3_transcript;
}
