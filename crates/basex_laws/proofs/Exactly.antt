-- The theorems of specs/Exactly.antt.
use Rattle.basex_response.specs.Reading.{read_as_response}
use Rattle.basex_request.specs.Reading.{read_as_request}
use Rattle.basex_string.specs.Answers.{string_there}
use Rattle.std.specs.Prelude.{Ok, Err}
use Rattle.basex_response.specs.declared.ItemAt.TheVariants as item-at
use Rattle.basex_laws.specs.Exactly.{WrittenExactly, ToldExactly, InputSuffices, ErrorsExactly}
use Rattle.basex_laws.proofs.Due.{string-exactly, request-exactly, request_there}
use Rattle.basex_laws.proofs.DueParts.{item-exactly, item_there, end-exactly, end_there}
use Rattle.basex_laws.proofs.Errors.{error_one, error_none}
use Rattle.basex_laws.proofs.ToldStrings.{string_located, string_decoded, string_no_room, item-told}
use Rattle.basex_laws.proofs.ToldMessages.{request-told, request_no_room, response-told, response_no_room, string_short, request_short, response_short}

pub written_exactly : WrittenExactly
written_exactly =
    record {
      string_written = λ room at text n. string-exactly room at text (Ok n);
      string_unwritten = λ room at text r. string-exactly room at text (Err r);
      request-written = λ room kind a b c d n. request-exactly room kind a b c d (Ok n);
      request_unwritten = λ room kind a b c d r. request-exactly room kind a b c d (Err r);
      request_there = request_there;
      item-written = λ room at kind id uri text n. item-exactly room at kind id uri text (Ok n);
      item_unwritten = λ room at kind id uri text r. item-exactly room at kind id uri text (Err r);
      item_there = item_there;
      end-written = λ room at kind first second status error n. end-exactly room at kind first second status error (Ok n);
      end_unwritten = λ room at kind first second status error r. end-exactly room at kind first second status error (Err r);
      end_there = end_there;
    }

pub told_exactly : ToldExactly
told_exactly =
    record {
      string_located = λ b at len next. string_located b at (string_there len next);
      string_unlocated = λ b at r. string_located b at (Err r);
      string_decoded = λ b at out to len next. string_decoded b at out to (string_there len next);
      string_undecoded = λ b at out to r. string_decoded b at out to (Err r);
      string_no_room = string_no_room;
      request-told = λ s out kind a b c d n. request-told s out (read_as_request kind a b c d n);
      request_refused = λ s out r. request-told s out (Err r);
      request_no_room = request_no_room;
      response-told = λ kind s out first second items listed status error n. response-told kind s out (read_as_response first second items listed status error n);
      response_refused = λ kind s out r. response-told kind s out (Err r);
      response_no_room = response_no_room;
      item-told = λ full s at id uri text next. item-told full s at (Ok (item-at.Item id uri text next));
      item-end = λ full s at next. item-told full s at (Ok (item-at.End next));
      item_refused = λ full s at r. item-told full s at (Err r);
    }

pub input_suffices : InputSuffices
input_suffices = record { string_short = string_short; request_short = request_short; response_short = response_short }

pub errors_exactly : ErrorsExactly
errors_exactly = record { error_one = error_one; error_none = error_none }
