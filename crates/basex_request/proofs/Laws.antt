-- Requests have one encoding: reading takes exactly it, and writing gives it.
use Rattle.std.specs.Prelude.{Result, Ok, Err}
use Rattle.wire.specs.declared.Refusal.{Refusal}
use mathlib.Core.Path.{◌≡◌, refl, sym, ap, ◌∙◌}
use mathlib.Core.List.{List, ◌++◌, flatten}
use mathlib.Core.Bool.{Bool, true, false}
use Prim.Native.Nat.{ℕ, ◌+◌, ◌-◌, ◌≤◌}
use native.Mathlib.Omega.{arith}
use lib.Dec.{ltb}
use lib.ListN.{length, take, drop, length-append}
use lib.Seq.{take-append_seam}
use borrow.Author.Tests.{ltb-false}
use Rattle.wire.specs.Bytes.{if, splice}
use Rattle.wire.specs.Call.{output_after}
use Rattle.wire.specs.Fields.{Got}
use Rattle.wire.specs.declared.Refusal.TheVariants.{NoRoom}
use Rattle.wire.proofs.Call.{room-there}
use Rattle.wire.proofs.Splices.{put_at-fits}
use Rattle.basex_string.specs.Answers.{output_read}
use Rattle.basex_string.proofs.Handed.{ok-same}
use Rattle.basex.specs.Request.{Request, encode, Published}
use Rattle.basex.specs.Texts.{length_at}
use Rattle.basex_request.specs.Reading.{read_as_request, reading, kind_of, texts_of, text_bytes, requested}
use Rattle.basex_request.specs.declared.Requested.{Requested}
use Rattle.basex_request.specs.Calls.{padded, cut}
use Rattle.basex_request.specs.Writing.{written, bytes_of}
use Rattle.basex_request.proofs.Parts.{cut-flatten}
pub use Rattle.basex_request.proofs.Behind.{refused-behind}
pub use Rattle.basex_request.proofs.Exact.{reading_exact}
pub use Rattle.basex_request.proofs.Refusals.{InReading, reading_refuses, read_refuses, InWriting, write_refuses}
pub use Rattle.basex_request.proofs.Written.{published-written, published-bytes, Wrote, writing_exact, wrote-bytes}

-- one encoding for each request, and no request's is the start of another's
pub one_encoding : (q p : Request) (r t : List ℕ) → Published q → Published p → encode q ++ r ≡ encode p ++ t → (q ≡ p) × (r ≡ t)
one_encoding q p r t h k e =
    let g : Got.got q r ≡ Got.got p t = sym ((reading_exact (encode q ++ r) q r).1 (h, refl)) ∙ (reading_exact (encode q ++ r) p t).1 (k, e) in
    ((cc), (cc))

-- the bytes that were read are the request's encoding
pub bytes_read : (s : List ℕ) (q : Request) (rest : List ℕ) → reading s ≡ Got.got q rest → (length s - length rest ≡ length (encode q)) × (take (length s - length rest) s ≡ encode q)
bytes_read s q rest e =
    let x = ((reading_exact s q rest).0 e).1 in
    let l = ap length x ∙ length-append (encode q) rest in
    let n : length s - length rest ≡ length (encode q) = omega arith in
    (n, ap (λ (k : ℕ). take k s) n ∙ ap (take (length (encode q))) x ∙ take-append_seam (encode q) rest)

-- what stands behind them does not matter
pub behind : (s : List ℕ) (q : Request) (rest other : List ℕ) → reading s ≡ Got.got q rest → reading (take (length s - length rest) s ++ other) ≡ Got.got q other
behind s q rest other e = (reading_exact _ q other).1 (((reading_exact s q rest).0 e).0, ap (λ (l : List ℕ). l ++ other) (bytes_read s q rest e).1)

over-front : (out x : List ℕ) → splice out 0 x ≡ x ++ drop (length x) out
unfolding splice
over-front out x = let z : 0 + length x ≡ length x = omega arith in rw z refl

-- a request that was written into an output with room
module _ (q : Request) (p : Published q) (out : List ℕ) (room : length (encode q) ≤ length out) where
  fits-written : written (length out) (kind_of q) (padded (texts_of q)) ≡ Ok (length (encode q))
  fits-written = published-written q p (length out) ∙ room-there (length out) 0 (length (encode q)) (omega arith)

  fits-left : output_after (written (length out) (kind_of q) (padded (texts_of q))) out 0 (bytes_of (kind_of q) (padded (texts_of q))) ≡ splice out 0 (encode q)
  fits-left =
      ap (λ (c : Result ℕ Refusal). output_after c out 0 (bytes_of (kind_of q) (padded (texts_of q)))) fits-written ∙ ap (splice out 0) (published-bytes q p)

  -- it reads back as it was
  pub read_written : (written (length out) (kind_of q) (padded (texts_of q)) ≡ Ok (length (encode q)))
      × (reading (output_after (written (length out) (kind_of q) (padded (texts_of q))) out 0 (bytes_of (kind_of q) (padded (texts_of q)))) ≡ Got.got q (drop (length (encode q)) out))
  read_written = (fits-written, (reading_exact _ q _).1 (p, fits-left ∙ over-front out (encode q)))

-- what was read is written as the same bytes
pub write_read : (s : List ℕ) (q : Request) (rest : List ℕ) → reading s ≡ Got.got q rest → (out : List ℕ) → length s - length rest ≤ length out
    → (written (length out) (kind_of q) (padded (texts_of q)) ≡ Ok (length s - length rest))
    × (output_after (written (length out) (kind_of q) (padded (texts_of q))) out 0 (bytes_of (kind_of q) (padded (texts_of q))) ≡ splice out 0 (take (length s - length rest) s))
write_read s q rest e out room =
    let p = ((reading_exact s q rest).0 e).0 in
    let b = bytes_read s q rest e in
    let h : length (encode q) ≤ length out = let n = b.0 in omega arith in
    (fits-written q p out h ∙ ap Ok (sym b.0), fits-left q p out h ∙ ap (splice out 0) (sym b.1))

-- a call of reading that accepts: the request that was read, its texts in the output, its bytes
pub record Accepted (s out : List ℕ) (kind a b c d n : ℕ) : Type 0 where
  pub request : Request
  pub rest : List ℕ
  pub got : reading s ≡ Got.got request rest
  pub named : kind ≡ kind_of request
  pub count : n ≡ length s - length rest
  pub handed : cut (output_read text_bytes out 0 (reading s)) a b c d ≡ padded (texts_of request)

pub accepted : (s out : List ℕ) (kind a b c d n : ℕ) → requested (length s) (length out) (reading s) ≡ read_as_request kind a b c d n → Accepted s out kind a b c d n
accepted s out kind a b c d n e = by (reading s) refl e
  where
    by : (x : Got Request) → reading s ≡ x → requested (length s) (length out) x ≡ read_as_request kind a b c d n → Accepted s out kind a b c d n
    by (Got.refused r) p g = let z : ◌≡◌ {A = ℕ} 0 1 = cc in absurd (omega arith)
    by (Got.got q rest) p g = room (ltb (length out) (length (flatten (texts_of q)))) refl g
      where
        room : (f : Bool) → ltb (length out) (length (flatten (texts_of q))) ≡ f
            → if f (Err NoRoom) (read_as_request (kind_of q) (length_at (texts_of q) 0) (length_at (texts_of q) 1) (length_at (texts_of q) 2) (length_at (texts_of q) 3)
            (length s - length rest)) ≡ read_as_request kind a b c d n → Accepted s out kind a b c d n
        room true f g = let z : ◌≡◌ {A = ℕ} 0 1 = cc in absurd (omega arith)
        room false f g =
            let h = ltb-false (length out) (length (flatten (texts_of q))) f in
            let z : 0 + length (flatten (texts_of q)) ≤ length out = omega arith in
            let l = put_at-fits out 0 (flatten (texts_of q)) z ∙ over-front out (flatten (texts_of q)) in
            let y = ok-same g in
            let i : length_at (texts_of q) 0 ≡ a = ap (λ (t : Requested). t.first) y in
            let j : length_at (texts_of q) 1 ≡ b = ap (λ (t : Requested). t.second) y in
            let k : length_at (texts_of q) 2 ≡ c = ap (λ (t : Requested). t.third) y in
            let m : length_at (texts_of q) 3 ≡ d = ap (λ (t : Requested). t.fourth) y in
            record {
              request = q;
              rest = rest;
              got = p;
              named = ap (λ (t : Requested). t.kind) (sym y);
              count = ap (λ (t : Requested). t.read) (sym y);
              handed = rw (p, sym i, sym j, sym k, sym m) (ap
                  (λ (o : List ℕ). cut o (length_at (texts_of q) 0) (length_at (texts_of q) 1) (length_at (texts_of q) 2) (length_at (texts_of q) 3)) l
                  ∙ cut-flatten (texts_of q) (drop (length (flatten (texts_of q))) out));
            }

-- what a call of reading handed over is written as the bytes that it read
pub rewritten : (s out : List ℕ) (kind a b c d n : ℕ) → requested (length s) (length out) (reading s) ≡ read_as_request kind a b c d n → (to : List ℕ) → n ≤ length to
    → (written (length to) kind (cut (output_read text_bytes out 0 (reading s)) a b c d) ≡ Ok n)
    × (output_after (written (length to) kind (cut (output_read text_bytes out 0 (reading s)) a b c d)) to 0 (bytes_of kind (cut (output_read text_bytes out 0 (reading s)) a b c d))
    ≡ splice to 0 (take n s))
rewritten s out kind a b c d n e to h = let x = accepted s out kind a b c d n e in by x.request x.rest x.got _ x.handed x.named x.count
  where
    by : (q : Request) (rest : List ℕ) → reading s ≡ Got.got q rest → (ts : List (List ℕ)) → ts ≡ padded (texts_of q) → kind ≡ kind_of q → n ≡ length s - length rest
        → (written (length to) kind ts ≡ Ok n) × (output_after (written (length to) kind ts) to 0 (bytes_of kind ts) ≡ splice to 0 (take n s))
    by q rest g ts t k m = rw (t, k, m) (write_read s q rest g to (omega arith))
