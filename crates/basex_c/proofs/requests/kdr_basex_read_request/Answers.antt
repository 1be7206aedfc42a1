use Rattle.std.specs.Prelude.{Err}
use mathlib.Core.List.{flatten}
use mathlib.Core.Path.{refl, sym}
use Prim.Native.Nat.{ℕ}
use native.Mathlib.Omega.{arith}
use lib.Seq.{length-take-le}
use lib.ListN.{length}
use Rattle.wire.specs.Fields.{Got}
use Rattle.basex_string.specs.Answers.{output_read}
use Rattle.wire.specs.declared.Refusal.TheVariants.{NoRoom}
use Rattle.basex.specs.Request.{Request}
use Rattle.basex_request.specs.Reading.{reading, texts_of, text_bytes, requested}
use Rattle.basex_c.specs.Told.{request_told, bytes_read}
use Rattle.basex_c.proofs.Stored.{Judged, exported}
use Rattle.basex_c.proofs.requests.kdr_basex_read_request.Goals as goal

judged : (n : ℕ) (g : Got Request) → Judged 5 request_told (λ room. requested n room g) (λ d. output_read text_bytes d 0 g) 0 (bytes_read text_bytes g)
judged n (Got.refused r) = Judged.never (λ _. refl) (λ _. refl)
judged n (Got.got q rest) = Judged.fits (Err NoRoom) _ (length (flatten (texts_of q))) refl refl refl (omega arith) (λ _. refl) (λ _. refl)

pub slice_bounds-read_request-end : goal.slice_bounds-read_request-end
slice_bounds-read_request-end c =
    c.usable-room.ensures.1

pub slice_bounds-read_request-end-2 : goal.slice_bounds-read_request-end-2
slice_bounds-read_request-end-2 c =
    sym (length-take-le c.usable-room.result c.args.out.now c.usable-room.ensures.1)

pub returns : goal.returns
returns c =
    let a = c.args in
    exported a.out.now a.told.now (judged (length a.bytes.now) (reading a.bytes.now))
    c.usable-room.ensures.0 c.read_request.ensures.answers
    c.read_request.ensures.leaves c.tell.ensures
