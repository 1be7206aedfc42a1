-- A request that reads well, its texts stored one behind the other.
use Rattle.std.specs.Prelude.{Result, Ok, Err}
use mathlib.Core.Path.{◌≡◌, refl, sym, ap, ◌∙◌}
use mathlib.Core.List.{List, [], ◌∷◌, ◌++◌, flatten, flat_map}
use Prim.Native.Nat.{ℕ, ◌+◌, ◌-◌, ◌≤◌, ◌<◌}
use native.Mathlib.Omega.{arith}
use lib.ListN.{length, drop, length-append}
use borrow.Author.Tests.{lt-ltb, le-ltb}
use Rattle.wire.specs.Call.{Gives}
use Rattle.wire.specs.Fields.{Got}
use Rattle.wire.specs.declared.Refusal.{Refusal}
use Rattle.wire.specs.declared.Refusal.TheVariants.{NoRoom}
use Rattle.wire.proofs.Splices.{put_at-fits, put_at_not}
use Rattle.basex_string.specs.Answers.{output_read}
use Rattle.basex_string.specs.Strings.{string}
use Rattle.basex_string.proofs.Laws.{read_written}
use Rattle.basex_string.proofs.Steps.{string-length}
use Rattle.basex.specs.Request.{Request, encode, Published}
use Rattle.basex.specs.Texts.{strings, texts, length_at, TextsStored, texts_stored}
use Rattle.basex.proofs.Texts.{texts-none, texts-more, texts-written, texts-stored}
use Rattle.basex_string.proofs.Handed.{ok-same}
use Rattle.basex_request.specs.declared.Requested.{Requested}
use Rattle.basex_request.specs.declared.RequestAt.{RequestAt}
use Rattle.basex_request.specs.inner.Places.{from_of, request_at}
use Rattle.basex_request.specs.Reading.{reading, kind_of, texts_of, text_bytes, requested}
use Rattle.basex_request.proofs.Exact.{reading_exact}
use Rattle.basex_request.proofs.Table.{at_most_four}

pub four-texts : (q : Request) → Published q → length (texts_of q) ≤ 4
four-texts (Request.command t) p = omega arith
four-texts (Request.coded b ts) p = at_most_four b (length ts) p.0 p.1

-- a request's strings stand behind its first byte, which is the first of them in a COMMAND
strings_stand : (q : Request) (rest : List ℕ) → texts (length (texts_of q)) (drop (from_of q) (encode q ++ rest)) ≡ Got.got (texts_of q) rest
unfolding encode
strings_stand (Request.command t) rest = rw (texts-more 0 (string t ++ rest) t rest (read_written t rest)) (rw (texts-none rest) refl)
strings_stand (Request.coded b ts) rest = texts-written ts rest

-- texts are shorter than their strings
texts-short : (ts : List (List ℕ)) → length (flatten ts) ≤ length (strings ts)
unfolding flatten flat_map
texts-short [] = omega arith
texts-short (t ∷ ts) =
    let i = texts-short ts in
    omega (arith, length-append t (flatten ts), length-append (string t) (strings ts), string-length t)

request_short : (q : Request) → length (flatten (texts_of q)) ≤ length (encode q)
unfolding encode flatten
request_short (Request.command t) = omega (arith, length-append t [], string-length t)
request_short (Request.coded b ts) = let i = texts-short ts in omega arith

four-lengths : (ts : List (List ℕ)) → length ts ≤ 4 → length_at ts 0 + length_at ts 1 + length_at ts 2 + length_at ts 3 ≡ length (flatten ts)
unfolding flatten
four-lengths [] h = refl
four-lengths (a ∷ []) h = omega (arith, length-append a [])
four-lengths (a ∷ (b ∷ [])) h = omega (arith, length-append a (b ++ []), length-append b [])
four-lengths (a ∷ (b ∷ (c ∷ []))) h = omega (arith, length-append a (b ++ (c ++ [])), length-append b (c ++ []), length-append c [])
four-lengths (a ∷ (b ∷ (c ∷ (d ∷ [])))) h = omega (arith, length-append a (b ++ (c ++ (d ++ []))), length-append b (c ++ (d ++ [])), length-append c (d ++ []), length-append d [])
four-lengths (a ∷ (b ∷ (c ∷ (d ∷ (e ∷ ts))))) h = absurd (omega arith)

-- what a call tells of a request that was read of n bytes
abbrev told_of : ℕ → Request → List ℕ → Requested
told_of n q rest = record {
  kind = kind_of q;
  first = length_at (texts_of q) 0;
  second = length_at (texts_of q) 1;
  third = length_at (texts_of q) 2;
  fourth = length_at (texts_of q) 3;
  read = n - length rest;
}

-- what was judged: the request, and what stands behind it
pub record Whole (s : List ℕ) (found : RequestAt) : Type 0 where
  pub request : Request
  pub rest : List ℕ
  pub got : reading s ≡ Got.got request rest
  pub told : Ok found ≡ request_at (length s) (Got.got request rest)
  pub sum : found.told.first + found.told.second + found.told.third + found.told.fourth ≡ length (flatten (texts_of request))
  pub short : found.told.first + found.told.second + found.told.third + found.told.fourth ≤ length s
  pub stands : texts found.n (drop found.from s) ≡ Got.got (texts_of request) rest

module _ (s : List ℕ) where
  pub not_whole : (r : Refusal) → Err r ≡ request_at (length s) (reading s) → reading s ≡ Got.refused r
  not_whole r e = by (reading s) e
    where
      by : (x : Got Request) → Err r ≡ request_at (length s) x → x ≡ Got.refused r
      by (Got.refused q) p = let z : q ≡ r = cc in ap Got.refused z
      by (Got.got q rest) p = let z : ◌≡◌ {A = ℕ} 0 1 = cc in absurd (omega arith)

  pub whole : (found : RequestAt) → Ok found ≡ request_at (length s) (reading s) → Whole s found
  whole found e = by (reading s) refl e
    where
      by : (x : Got Request) → reading s ≡ x → Ok found ≡ request_at (length s) x → Whole s found
      by (Got.refused r) p g = let z : ◌≡◌ {A = ℕ} 0 1 = cc in absurd (omega arith)
      by (Got.got q rest) p g =
          let x = (reading_exact s q rest).0 p in
          let f = four-lengths (texts_of q) (four-texts q x.0) in
          let y = ok-same g in
          let i : found.from ≡ from_of q = ap (λ (a : RequestAt). a.from) y in
          let k : found.n ≡ length (texts_of q) = ap (λ (a : RequestAt). a.n) y in
          let t : found.told ≡ told_of (length s) q rest = ap (λ (a : RequestAt). a.told) y in
          let u : found.told.first ≡ length_at (texts_of q) 0 = ap (λ (a : Requested). a.first) t in
          let v : found.told.second ≡ length_at (texts_of q) 1 = ap (λ (a : Requested). a.second) t in
          let w : found.told.third ≡ length_at (texts_of q) 2 = ap (λ (a : Requested). a.third) t in
          let y : found.told.fourth ≡ length_at (texts_of q) 3 = ap (λ (a : Requested). a.fourth) t in
          let l = ap length x.1 ∙ length-append (encode q) rest in
          let m = request_short q in
          record {
            request = q;
            rest = rest;
            got = p;
            told = g;
            sum = omega arith;
            short = omega arith;
            stands = rw (i, k) (ap (λ (z : List ℕ). texts (length (texts_of q)) (drop (from_of q) z)) x.1 ∙ strings_stand q rest);
          }

module _ (s out : List ℕ) (found : RequestAt) (w : Whole s found) where
  -- a contract of reading
  abbrev Reads : Result Requested Refusal → List ℕ → Type 0
  Reads = Gives (requested (length s) (length out) (reading s)) (output_read text_bytes out 0 (reading s))

  pub whole_not : length out < found.told.first + found.told.second + found.told.third + found.told.fourth → Reads (Err NoRoom) out
  whole_not h =
      let e = w.sum in
      let o : length out < length (flatten (texts_of w.request)) = omega arith in
      let z : length out < 0 + length (flatten (texts_of w.request)) = omega arith in
      record { answers = rw w.got (rw (lt-ltb _ _ o) refl); leaves = rw w.got (sym (put_at_not out 0 _ z)) }

  pub whole-read : found.told.first + found.told.second + found.told.third + found.told.fourth ≤ length out
      → Reads (Ok found.told) (texts_stored found.n out 0 (drop found.from s)).out
  whole-read h =
      let e = w.sum in
      let o : length (flatten (texts_of w.request)) ≤ length out = omega arith in
      let z : 0 + length (flatten (texts_of w.request)) ≤ length out = omega arith in
      let t : found.told ≡ told_of (length s) w.request w.rest = ap (λ (a : RequestAt). a.told) (ok-same w.told) in
      let u = texts-stored found.n out 0 (drop found.from s) (texts_of w.request) w.rest w.stands z in
      record {
        answers = rw w.got (rw (le-ltb _ _ o) (ap Ok t));
        leaves = rw w.got (ap (λ (m : TextsStored). m.out) u ∙ sym (put_at-fits out 0 _ z));
      }
