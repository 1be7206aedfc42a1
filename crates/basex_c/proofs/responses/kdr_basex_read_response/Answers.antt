use Rattle.std.specs.Prelude.{Err}
use mathlib.Core.List.{flatten}
use mathlib.Core.Path.{refl, sym}
use Prim.Native.Nat.{ℕ}
use native.Mathlib.Omega.{arith}
use lib.Seq.{length-take-le}
use lib.ListN.{length}
use Rattle.wire.specs.Fields.{Got}
use Rattle.basex_string.specs.Answers.{output_read}
use Rattle.wire.specs.declared.Refusal.TheVariants.{NoRoom}
use Rattle.basex.specs.Response.{Response}
use Rattle.basex_response.specs.Reading.{reading, all_texts, text_bytes, answered}
use Rattle.basex_c.specs.Told.{response_told, bytes_read}
use Rattle.basex_c.proofs.Stored.{Judged, exported}
use Rattle.basex_c.proofs.responses.kdr_basex_read_response.Goals as goal

judged : (n : ℕ) (g : Got Response) → Judged 6 response_told (λ room. answered n room g) (λ d. output_read text_bytes d 0 g) 0 (bytes_read text_bytes g)
judged n (Got.refused r) = Judged.never (λ _. refl) (λ _. refl)
judged n (Got.got p rest) = Judged.fits (Err NoRoom) _ (length (flatten (all_texts p))) refl refl refl (omega arith) (λ _. refl) (λ _. refl)

pub slice_bounds-read_response-end : goal.slice_bounds-read_response-end
slice_bounds-read_response-end c =
    c.usable-room.ensures.1

pub slice_bounds-read_response-end-2 : goal.slice_bounds-read_response-end-2
slice_bounds-read_response-end-2 c =
    sym (length-take-le c.usable-room.result c.args.out.now c.usable-room.ensures.1)

pub returns : goal.returns
returns c =
    let a = c.args in
    exported a.out.now a.told.now (judged (length a.bytes.now) (reading a.kind a.bytes.now))
    c.usable-room.ensures.0 c.read_response.ensures.answers
    c.read_response.ensures.leaves c.tell.ensures
