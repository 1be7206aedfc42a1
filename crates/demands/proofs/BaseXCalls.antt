-- Every call of BaseX comes out right (specs/BaseXCalls.antt).
pub mod Answers
pub mod Reading
pub mod Writing
pub mod Errors
pub mod Items
pub mod Walked
pub mod Suffices
pub mod Taken
pub mod Streamed
use mathlib.Core.Path.{refl}
use native.Mathlib.Omega.{arith}
use lib.ListN.{length}
use Rattle.basex_string.specs.Strings.{string}
use Rattle.basex_string.proofs.Steps.{string-length, specials-within}
use Rattle.demands.specs.BaseXCalls.{BaseXCalls}
use Rattle.demands.proofs.Answered.{counted}
use Rattle.demands.proofs.BaseXCalls.Reading.{string_at, decode, read_request, read_response}
use Rattle.demands.proofs.BaseXCalls.Writing.{write_string, write_request, write_item, write_end}
use Rattle.demands.proofs.BaseXCalls.Errors.{error_due, error, error-told}
use Rattle.demands.proofs.BaseXCalls.Items.{item_due, item}
use Rattle.demands.proofs.BaseXCalls.Walked.{items_walked}
use Rattle.demands.proofs.BaseXCalls.Suffices.{response-read, decode_suffices, request_suffices, response_suffices}
use Rattle.demands.proofs.BaseXCalls.Taken.{item_taken, item_none, item_decoded}
use Rattle.demands.proofs.BaseXCalls.Streamed.{item_first, items_streamed}

pub basex_calls : BaseXCalls
basex_calls =
    record {
      string_len = λ text h. counted (length (string text)) (omega (arith, string-length text, specials-within text));
      write_string = write_string;
      string_at = string_at;
      decode = λ s short at out to told. decode s short at told out to;
      read_request = read_request;
      command_told = λ text. (refl, refl);
      coded_told = λ first texts. (refl, refl);
      write_request = write_request;
      read_response = read_response;
      response-read = response-read;
      decode_suffices = decode_suffices;
      request_suffices = request_suffices;
      response_suffices = response_suffices;
      error = error;
      error_due = error_due;
      error-told = error-told;
      item = λ kind s short at told. item kind s at told short;
      item_due = item_due;
      items_walked = items_walked;
      item_taken = λ kind full lists s short at. item_taken kind s at full lists short;
      item_none = λ kind full lists s at. item_none kind s at full lists;
      item_decoded = item_decoded;
      item_first = item_first;
      items_streamed = items_streamed;
      write_item = write_item;
      write_end = write_end;
    }
