-- The examples of the transcript program print what they say.
use mathlib.Core.Path.{refl}
use Rattle.wire.specs.Bytes.{int_at}
use Rattle.sedna.specs.Table.{rows, search, find_of}
use Rattle.sedna_read.specs.Fields.{int_field, bytes_field, string_field}
use Rattle.sedna_read.specs.Reading.{coded_fields, body_field, heading, reading}
use Rattle.session.specs.Machine.{client_move, server_move, next}
use Rattle.session.specs.Step.{stepped, closed_of}
use Rattle.records_printed.specs.Example.{table, ExamplesHold}
use Rattle.records.specs.Record.{head_of, front, records_up_to}
use Rattle.records_printed.specs.Answer.{answered}
use Rattle.records_printed.specs.Line.{decimal_up_to, line}
use Rattle.records_printed.specs.Transcript.{printed}

pub examples : ExamplesHold
unfolding table printed records_up_to front head_of answered reading heading find_of rows search int_at body_field coded_fields string_field int_field bytes_field stepped next client_move server_move closed_of line decimal_up_to
examples = refl
