use Rattle.std.specs.Prelude.{Err}
use Rattle.basex_string.specs.Answers.{string_there, decoded, output_read}
use mathlib.Core.List.{List}
use mathlib.Core.Path.{refl, sym}
use Prim.Native.Nat.{ℕ, ◌-◌, ◌+◌}
use lib.Seq.{length-take-le}
use lib.ListN.{length, drop}
use Rattle.wire.specs.Fields.{Got}
use Rattle.wire.specs.declared.Refusal.TheVariants.{NoRoom}
use Rattle.basex_string.specs.Scan.{reading}
use Rattle.basex_c.specs.Told.{string_told, bytes_read}
use Rattle.basex_c.proofs.Stored.{Judged, exported}
use Rattle.basex_c.proofs.strings.kdr_basex_decode.Goals as goal

judged : (at n to : ℕ) (g : Got (List ℕ)) → Judged 1 (string_told at) (λ room. decoded n room to g) (λ d. output_read (λ s. s) d to g) to (bytes_read (λ s. s) g)
judged at n to (Got.refused r) = Judged.never (λ _. refl) (λ _. refl)
judged at n to (Got.got s rest) = Judged.fits (Err NoRoom) (string_there (length s) (n - length rest)) (to + length s) refl refl refl refl (λ _. refl) (λ _. refl)

pub slice_bounds-decode-end : goal.slice_bounds-decode-end
slice_bounds-decode-end c =
    c.usable-room.ensures.1

pub slice_bounds-decode-end-2 : goal.slice_bounds-decode-end-2
slice_bounds-decode-end-2 c =
    sym (length-take-le c.usable-room.result c.args.out.now c.usable-room.ensures.1)

pub returns : goal.returns
returns c =
    let a = c.args in
    exported a.out.now a.told.now (judged a.at (length a.bytes.now) a.to (reading (drop a.at a.bytes.now)))
    c.usable-room.ensures.0 c.decode.ensures.answers
    c.decode.ensures.leaves c.tell.ensures
