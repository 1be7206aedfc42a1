-- The calls that write come out right.
use mathlib.Core.List.{List, [], ◌∷◌}
use mathlib.Core.Path.{◌≡◌, refl, ap}
use Prim.Native.Nat.{ℕ, ◌+◌, ◌<◌}
use native.Mathlib.Omega.{arith}
use lib.ListN.{length}
use Rattle.std.specs.Prelude.{Result, Ok, Err}
use Rattle.wire.specs.Bytes.{splice}
use Rattle.wire.specs.Call.{in_room, output_after}
use Rattle.wire.specs.declared.Refusal.{Refusal}
use Rattle.wire.specs.declared.Refusal.TheVariants.{NoRoom}
use Rattle.answer_c.specs.Codes.{counted_code}
use Rattle.basex_string.specs.Strings.{string}
use Rattle.basex.specs.Kinds.{find_of}
use Rattle.basex.specs.Request as request
use Rattle.basex.specs.Response as response
use Rattle.basex.specs.Response.{item_bytes}
use Rattle.basex_request.specs.Writing as requesting
use Rattle.basex_response.specs.Writing.{item_of, full_of, item_written, end_written, end_bytes}
use Rattle.basex_laws.specs.Exactly as exact
use Rattle.basex_laws.proofs.Exactly.{written_exactly}
use Rattle.demands.specs.BaseXCalls as calls
use Rattle.demands.specs.Answered.{Answered}
use Rattle.demands.specs.BaseXCalls.{Lendable, ComesOutRight, Written}
use Rattle.demands.proofs.Answered.{counts_as, refused}

-- what was written, of so many bytes that are counted
record Wrote (Is : List ℕ → Type 0) (out : List ℕ) (at n : ℕ) (after : List ℕ) : Type 0 where
  pub bytes : List ℕ
  pub is : Is bytes
  pub fits : exact.Fits (length out) at bytes n
  pub there : after ≡ splice out at bytes

-- a call of writing, by what the library answers and leaves
module _ {Due : Refusal → Type 0} {Is : List ℕ → Type 0} (out : List ℕ) (short : Lendable out) (at : ℕ) where
  comes : (w : Result ℕ Refusal) (bytes : List ℕ) → ((r : Refusal) → w ≡ Err r → Due r) → ((n : ℕ) → w ≡ Ok n → Wrote Is out at n (output_after w out at bytes))
      → ComesOutRight Due (Written Is out at) out [] (calls.writing (counted_code w) (output_after w out at bytes))
  comes (Err r) bytes due wrote = ComesOutRight.refused r (due r refl) (ap (λ (a : Answered). record { answer = a; out = out; told = [] }) (refused r))
  comes (Ok n) bytes due wrote =
      let w = wrote n refl in
      let c = w.fits.count in
      let l = w.fits.within in
      ComesOutRight.accepted (record { bytes = w.bytes; is = w.is; counted = counts_as n (length w.bytes) c (omega arith); fits = omega arith; there = w.there })

module _ (out : List ℕ) (short : Lendable out) where
  pub write_string : (at : ℕ) (text : List ℕ)
      → ComesOutRight (λ r. (r ≡ NoRoom) × (length out < at + length (string text))) (Written (λ e. e ≡ string text) out at) out [] (calls.write_string_called out at text)
  write_string at text =
      comes out short at (in_room (length out) at (length (string text))) (string text) (λ r. (written_exactly.string_unwritten (length out) at text r).0) λ n e.
      let f = (written_exactly.string_written (length out) at text n).0 e in
      record { bytes = string text; is = refl; fits = f; there = ap (λ (w : Result ℕ Refusal). output_after w out at (string text)) e }

  pub write_request : (kind : ℕ) (a b c d : List ℕ)
      → ComesOutRight (exact.Unwritten (length out) kind (a ∷ b ∷ c ∷ d ∷ []))
      (Written (calls.RequestBytes kind (a ∷ b ∷ c ∷ d ∷ [])) out 0)
      out [] (calls.write_request_called out kind (a ∷ b ∷ c ∷ d ∷ []))
  write_request kind a b c d =
      comes out short 0 (requesting.written (length out) kind (a ∷ b ∷ c ∷ d ∷ [])) (requesting.bytes_of kind (a ∷ b ∷ c ∷ d ∷ []))
      (λ r. (written_exactly.request_unwritten (length out) kind a b c d r).0) λ n e.
      let f = (written_exactly.request-written (length out) kind a b c d n).0 e in
      let l = f.3.within in
      record { bytes = request.encode f.0; is = (f.0, f.1, f.2, refl); fits = f.3; there = written_exactly.request_there out kind (a ∷ b ∷ c ∷ d ∷ []) f.0 f.1 f.2 (omega arith) }

  pub write_item : (at kind id : ℕ) (uri text : List ℕ)
      → ComesOutRight (exact.ItemUnwritten (length out) at kind id uri text) (Written (calls.ItemBytes kind id uri text) out at)
      out [] (calls.write_item_called out at kind id uri text)
  write_item at kind id uri text =
      comes out short at (item_written (length out) at kind id uri text) (item_bytes (item_of (full_of (find_of kind)) id uri text))
      (λ r. (written_exactly.item_unwritten (length out) at kind id uri text r).0) λ n e.
      let f = (written_exactly.item-written (length out) at kind id uri text n).0 e in
      let l = f.2.within in
      record { bytes = item_bytes f.0; is = (f.0, f.1, refl); fits = f.2; there = written_exactly.item_there out at kind id uri text f.0 f.1 (omega arith) }

  pub write_end : (at kind : ℕ) (first second : List ℕ) (status : ℕ) (error : List ℕ)
      → ComesOutRight (exact.EndUnwritten (length out) at kind first second status error)
      (Written (calls.EndBytes kind first second status error) out at)
      out [] (calls.write_end_called out at kind first second status error)
  write_end at kind first second status error =
      comes out short at (end_written (length out) at kind first second status error) (end_bytes (find_of kind) first second status error)
      (λ r. (written_exactly.end_unwritten (length out) at kind first second status error r).0) λ n e.
      let f = (written_exactly.end-written (length out) at kind first second status error n).0 e in
      let l = f.3.within in
      record {
        bytes = response.encode f.0 f.1;
        is = (f.0, f.1, f.2, refl);
        fits = f.3;
        there = written_exactly.end_there out at kind first second status error f.0 f.1 f.2 (omega arith);
      }
