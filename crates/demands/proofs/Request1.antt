-- Document 02, request 1, is met.
use Rattle.sedna_value_laws.proofs.Counting.{counting}
use Rattle.sedna_value_laws.proofs.Division.{division}
use Rattle.sedna_value_laws.proofs.Examples.{examples}
use Rattle.sedna_value_laws.proofs.Order.{in_order, strict}
use Rattle.sedna_value_laws.proofs.Valuing.{valuing, proper, the_incident}
use Rattle.demands.specs.Request1.{Request1}
use Rattle.demands.proofs.ValueCalls.{value-calls}

pub request_1 : Request1
request_1 = record {
  exactly = valuing;
  counting = counting;
  proper = proper;
  in_order = in_order;
  strict = strict;
  incident = the_incident;
  division = division;
  examples = examples;
  calls = value-calls;
}
