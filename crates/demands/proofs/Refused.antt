-- Demand 1 of BaseX: when reading refuses, which numbers each call refuses with, and that it then leaves every lent byte.
use mathlib.Core.List.{List, [], ◌∷◌}
use mathlib.Core.Path.{◌≡◌}
use Prim.Native.Nat.{ℕ}
use native.Mathlib.Omega.{arith}
use lib.ListN.{length, drop}
use Rattle.std.specs.Prelude.{Err}
use Rattle.std.proofs.lemmas.Bool.Decides.{nat_tests}
use Rattle.wire.specs.Call.{put_at, in_room}
use Rattle.wire.specs.Every.{OneOf}
use Rattle.wire.specs.declared.Refusal.{Refusal}
use Rattle.wire.specs.Refusals.{number_of}
use Rattle.basex_string.specs.Answers.{decoded, output_read}
use Rattle.basex_string.specs.Scan as scan
use Rattle.basex_string.specs.Strings.{string}
use Rattle.basex_string.proofs.Laws.{refuses}
use Rattle.basex_request.specs.Reading as requests
use Rattle.basex_request.specs.Writing as requesting
use Rattle.basex_request.proofs.Laws.{read_refuses, write_refuses}
use Rattle.basex_response.specs.Reading as responses
use Rattle.basex_response.specs.Writing.{item_written, end_written}
use Rattle.basex_laws.proofs.Laws.{refused-left}
use Rattle.basex_laws.proofs.Moments.{string_moments, request_moments, item_moments, response_moments}
use Rattle.basex_laws.proofs.Refusals.{reading_refuses}
use Rattle.demands.specs.Demand1.{BaseX}

string_refused : (b : List ℕ) (at : ℕ) (out : List ℕ) (to : ℕ) (r : Refusal) → decoded (length b) (length out) to (scan.reading (drop at b)) ≡ Err r
    → OneOf (1 ∷ 10 ∷ 13 ∷ []) (number_of r) × (output_read (λ s. s) out to (scan.reading (drop at b)) ≡ out)
unfolding put_at
string_refused b at out to r e = (grind (arith, nat_tests, refuses (drop at b) r), grind (arith, nat_tests))

string_unwritten : (room at : ℕ) (text : List ℕ) (r : Refusal) → in_room room at (length (string text)) ≡ Err r → OneOf (10 ∷ []) (number_of r)
string_unwritten room at text r e = grind (arith, nat_tests)

request_refused : (s out : List ℕ) (r : Refusal) → requests.requested (length s) (length out) (requests.reading s) ≡ Err r
    → OneOf (1 ∷ 2 ∷ 10 ∷ 13 ∷ []) (number_of r) × (output_read requests.text_bytes out 0 (requests.reading s) ≡ out)
request_refused s out r e = let x = read_refuses s out r e in (grind arith, x.1)

request_unwritten : (room kind : ℕ) (texts : List (List ℕ)) (r : Refusal) → requesting.written room kind texts ≡ Err r
    → OneOf (2 ∷ 8 ∷ 10 ∷ 11 ∷ []) (number_of r)
request_unwritten room kind texts r e = grind (arith, write_refuses room kind texts r e)

response_refused : (kind : ℕ) (s out : List ℕ) (r : Refusal) → responses.answered (length s) (length out) (responses.reading kind s) ≡ Err r
    → OneOf (1 ∷ 2 ∷ 8 ∷ 10 ∷ 13 ∷ []) (number_of r) × (output_read responses.text_bytes out 0 (responses.reading kind s) ≡ out)
response_refused kind s out r e = (grind (arith, nat_tests, reading_refuses kind s r), refused-left kind s out r e)

item_unwritten : (room at kind id : ℕ) (uri text : List ℕ) (r : Refusal) → item_written room at kind id uri text ≡ Err r
    → OneOf (2 ∷ 8 ∷ 10 ∷ []) (number_of r)
unfolding item_written
item_unwritten room at kind id uri text r e = grind (arith, nat_tests)

end_unwritten : (room at kind : ℕ) (first second : List ℕ) (status : ℕ) (error : List ℕ) (r : Refusal)
    → end_written room at kind first second status error ≡ Err r → OneOf (2 ∷ 8 ∷ 10 ∷ []) (number_of r)
unfolding end_written
end_unwritten room at kind first second status error r e = grind (arith, nat_tests)

pub basex : BaseX
basex =
    record {
      string_moments = string_moments;
      request_moments = request_moments;
      item_moments = item_moments;
      response_moments = response_moments;
      string_refused = string_refused;
      string_unwritten = string_unwritten;
      request_refused = request_refused;
      request_unwritten = request_unwritten;
      response_refused = response_refused;
      item_unwritten = item_unwritten;
      end_unwritten = end_unwritten;
    }
