-- Demand 2 holds: of messages, of cutting and joining, and of BaseX.
use mathlib.Core.List.{List, ◌++◌}
use mathlib.Core.Logic.{◌↔◌}
use mathlib.Core.Path.{◌≡◌, ap, ◌∙◌}
use Prim.Native.Nat.{ℕ}
use Rattle.wire.specs.Fields.{Got}
use Rattle.sedna_read.specs.Places.{located}
use Rattle.sedna_laws.proofs.Bounds.{bounds}
use Rattle.sedna_laws.proofs.Exact.{exact, one_message, one_encoding, behind}
use Rattle.sedna_laws.proofs.Lists.{options-written, options_are, options_given}
use Rattle.sedna_laws.proofs.Meaning.{meaning-located}
use Rattle.sedna_laws.proofs.Options.{option_exact}
use Rattle.sedna_laws.proofs.Table.{once}
use Rattle.sedna_laws.proofs.Written.{written_exact, read_written, write_read}
use Rattle.parts_cut.proofs.Counts.{statement_counted, statements_counted, item_counted, typed_item-counted}
use Rattle.parts_join.proofs.Cuttings.{joins}
use Rattle.parts_handing.proofs.Handed.{hands_over}
use Rattle.parts_laws.proofs.Cuts.{statement-cut-published, statement-cut-request, item-cut-published, item-cut-item, typed_item-cut-published, typed_item-cut-item}
use Rattle.parts_laws.proofs.Filled.{statement_filled, item_filled, typed_filled, url_fits, url_counted}
use Rattle.parts_laws.proofs.Joins.{statement_rejoined, item_rejoined, typed_item-rejoined}
use Rattle.parts_laws.proofs.Parts.{part_read}
use Rattle.parts_laws.proofs.ThroughBytes.{returned, room_enough}
use Rattle.basex_string.specs.Scan.{reading}
use Rattle.basex_string.specs.Strings.{string}
use Rattle.basex_string.proofs.Laws as strings
use Rattle.basex_request.proofs.Laws as requests
use Rattle.basex_laws.proofs.Exactly.{written_exactly, told_exactly, input_suffices, errors_exactly}
use Rattle.basex_laws.proofs.Laws as responses
use Rattle.basex_laws.proofs.Responses.{response_exact, one_response}
use Rattle.basex_laws.proofs.Wrote.{response_written}
use Rattle.demands.specs.Demand2.{Sedna, Parts, BaseX, Demand2}

sedna : Sedna
sedna =
    record {
      reading_exact = exact;
      one_message = one_message;
      one_encoding = one_encoding;
      behind = behind;
      places_hold = meaning-located;
      options_hold = option_exact;
      options_counted = λ side s i n ps e. ap located e;
      writing_exact = written_exact;
      options-written = options-written;
      options_are = options_are;
      options_given = options_given;
      read_written = read_written;
      write_read = write_read;
      bounds = bounds;
      once = once;
    }

parts : Parts
parts = record {
  joins = joins;
  hands_over = hands_over;
  statement_published = statement-cut-published;
  statement_laid_out = statement-cut-request;
  statement_counted = statement_counted;
  statement_edges = statements_counted;
  statement_filled = statement_filled;
  statement_rejoined = statement_rejoined;
  item_published = item-cut-published;
  item_laid_out = item-cut-item;
  item_counted = item_counted;
  item_filled = item_filled;
  item_rejoined = item_rejoined;
  typed_published = typed_item-cut-published;
  typed_laid_out = typed_item-cut-item;
  typed_counted = typed_item-counted;
  typed_filled = typed_filled;
  url_fits = url_fits;
  url_counted = url_counted;
  typed_rejoined = typed_item-rejoined;
  part_read = part_read;
  returned = returned;
  room_enough = room_enough;
}

string_exact : (s t rest : List ℕ) → (reading s ≡ Got.got t rest) ↔ (s ≡ string t ++ rest)
string_exact s t rest = (strings.exact s t rest, λ (e : s ≡ string t ++ rest). ap reading e ∙ strings.read_written t rest)

basex : BaseX
basex =
    record {
      written_exactly = written_exactly;
      told_exactly = told_exactly;
      string_exact = string_exact;
      one_string = λ s t rest more. strings.one_encoding s t rest more;
      request_exact = requests.reading_exact;
      one_request = requests.one_encoding;
      request_behind = requests.behind;
      request_read_written = requests.read_written;
      request_write_read = requests.rewritten;
      response_exact = response_exact;
      one_response = one_response;
      response_behind = responses.behind_free;
      response_written = response_written;
      response_read_written = responses.read_written;
      response_write_read = responses.write_read;
      items_handed = responses.items-all;
      input_suffices = input_suffices;
      errors_exactly = errors_exactly;
    }

pub demand_2 : Demand2
demand_2 = record { sedna = sedna; parts = parts; basex = basex }
