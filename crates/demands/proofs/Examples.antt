-- Each of document 01's marked examples is answered as it says.
use mathlib.Core.Path.{refl}
use Rattle.wire.specs.Bytes.{int_at, splice}
use Rattle.wire.specs.Call.{put_at}
use Rattle.sedna.specs.Allowed.{format_allowed}
use Rattle.sedna.specs.Table.{rows, search, find_of}
use Rattle.sedna_read.specs.Fields.{int_field, bytes_field, string_field}
use Rattle.sedna_read.specs.Reading.{statement_fields, body_field, heading, reading}
use Rattle.basex_string.specs.Scan.{scan}
use Rattle.basex_string.specs.Strings.{string}
use Rattle.demands.specs.Examples.{table, MarkedExamples}

pub examples : MarkedExamples
unfolding table reading heading find_of rows search int_at body_field statement_fields string_field int_field bytes_field format_allowed splice put_at string scan
examples = refl
