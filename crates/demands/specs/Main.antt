-- What the library guarantees: README's list as one record. Each field cites what says it; the names in brackets are the fields of that to read first.
-- docs/NOTATION.md tells how to read them.
use Rattle.demands.specs.Demand1 as demand_1
use Rattle.demands.specs.Demand2 as demand_2
use Rattle.demands.specs.{BaseXCalls.BaseXCalls, Demand3.Demand3, Exports.Demand3Exports, JoinCalls.JoinCalls, PartsCalls.PartsCalls}
use Rattle.demands.specs.{Request1.Request1, Request2.Request2, SednaCalls.SednaCalls, Transcript.Demand3Transcript}

pub record Guarantees : Type 1 where
  -- 1, 2. Reading accepts exactly what is published and stands in front (`reading_exact`). What was written reads as the same message (`read_written`), and
  -- what was read is written as the same bytes (`write_read`)
  pub messages : demand_2.Sedna
  -- .. and so with BaseX's strings, requests and responses (`string_exact`, `request_exact`, `response_exact`)
  pub basex : demand_2.BaseX
  -- 3, 4. Whatever is offered to a session: what is accepted begins a conversation, 9 exactly when none goes on so, closed exactly when whole
  -- (`after_any_list`). One layout only (`one_layout`)
  pub session : Demand3
  -- .. and a disk error half way through a file: BulkLoadError is taken after any number of portions (`taken`), behind it only BulkLoadFailed or
  -- ErrorResponse (`behind_error`)
  pub disk_error : Request2
  -- 5. Whatever messages are joined: 8, 9, 12 or the text, by the cuttings alone (`offered`) ..
  pub joining : demand_1.Parts
  -- .. and the library's own cut, written, read back and joined, is the text (`returned`)
  pub cutting : demand_2.Parts
  -- 6. Typed values: accepted, 15 and 16 exactly when (`exactly`); instants as points in time (`in_order`, `incident`)
  pub values : Request1
  -- 7. A refusal has the number that is listed, at the moment that is listed and never otherwise (`reading_refused`, `writing_refused`, `.._moments`), and
  -- leaves the record and every lent byte
  pub refusals : demand_1.Demand1
  -- The same of what programs in C and Rust call, whatever they pass, one call or any list of them; and of what the transcript program prints
  pub codec_calls : SednaCalls
  pub basex_calls : BaseXCalls
  pub step_calls : Demand3Exports
  pub part_calls : PartsCalls
  pub join_calls : JoinCalls
  pub transcript : Demand3Transcript
