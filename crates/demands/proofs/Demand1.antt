-- Demand 1 holds: of messages and the session, of cutting and joining, and of BaseX.
use Rattle.sedna_laws.proofs.Due.{refused_exact}
use Rattle.sedna_laws.proofs.Lists.{lists_together, lists_refused, lists_unwritten}
use Rattle.sedna_laws.proofs.Pieces.{pieces-bytes}
use Rattle.sedna_laws.proofs.Stands.{refusal_stands}
use Rattle.sedna_laws.proofs.Unwritten.{unwritten_exact}
use Rattle.wire.proofs.Call.{refused-leaves}
use Rattle.session_laws.proofs.Refused.{step_refused}
use Rattle.parts_laws.proofs.PartDue.{part_due}
use Rattle.parts_join.proofs.Offered.{offered}
use Rattle.parts_join.proofs.Refusals.{refusal-leaves}
use Rattle.demands.specs.Demand1.{Sedna, Parts, Demand1}
use Rattle.demands.proofs.Refused.{basex}

sedna : Sedna
sedna = record {
  reading_refused = refused_exact;
  fields_encoded = pieces-bytes;
  refusal_stands = refusal_stands;
  writing_refused = unwritten_exact;
  lists_together = lists_together;
  lists_refused = lists_refused;
  lists_unwritten = lists_unwritten;
  step_refused = step_refused;
  lent_refused = step_refused;
}

parts : Parts
parts = record {
  part_due = part_due;
  offered = offered;
  join_refused = refusal-leaves;
}

pub demand_1 : Demand1
demand_1 = record { sedna = sedna; parts = parts; basex = basex; writing_leaves = λ x r e out at bytes. refused-leaves x r out at bytes e }
