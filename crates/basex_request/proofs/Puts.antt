-- What writing answers, and what it leaves in the output.
use Rattle.std.specs.Prelude.{Some, None, Result, Ok, Err}
use mathlib.Core.Path.{◌≡◌, refl, sym, ap, subst, ◌∙◌}
use mathlib.Core.List.{List, [], ◌∷◌, ◌++◌}
use mathlib.Core.Bool.{true, false}
use Prim.Native.Nat.{ℕ, suc, ◌+◌, ◌≤◌}
use native.Mathlib.Omega.{arith}
use lib.Dec.{ltb}
use lib.ListN.{length, get_or, take, length-append}
use Rattle.wire.specs.Call.{in_room, put_at, Gives, Writes}
use Rattle.wire.specs.declared.Refusal.{Refusal}
use Rattle.wire.specs.declared.Refusal.TheVariants.{UnknownInstruction, ValueNotAllowed, NoEncoding}
use Rattle.wire.proofs.Call.{room-there, room-short, refused-short}
use Rattle.wire.proofs.Splices.{Ahead, start, put_at-fits}
use Rattle.basex_string.proofs.Room.{writes_not, writes_all}
use Rattle.basex_string.specs.Strings.{string}
use Rattle.basex.specs.declared.Reply.{Reply}
use Rattle.basex.specs.Kinds.{starts_command, find_of, is_command}
use Rattle.basex.specs.Request.{Request, encode, opens}
use Rattle.basex.specs.Texts.{string_if, unused}
use Rattle.basex_request.specs.Writing.{first_of, request_of, request_written, written, bytes_of}
use Rattle.basex_request.specs.Calls.{four}
use Rattle.basex_request.proofs.Taken.{taken-strings}

pub none-opens : (t : List ℕ) → length t ≡ 0 → false ≡ opens t
none-opens [] h = refl
none-opens (b ∷ t) h = absurd (omega arith)

pub first-opens : (t : List ℕ) → (length t ≡ 0 → ⊥) → starts_command (get_or t 0 0) ≡ opens t
first-opens [] h = absurd (h refl)
first-opens (b ∷ t) h = refl

-- a COMMAND's string, and what is refused with 11
module _ (out t : List ℕ) where
  abbrev WritesCommand : Result ℕ Refusal → List ℕ → Type 0
  WritesCommand = Writes (request_written (length out) (Request.command t)) out 0 (encode (Request.command t))

  pub command-put : {r : Result ℕ Refusal} {after : List ℕ} → opens t ≡ true → Writes (in_room (length out) 0 (length (string t))) out 0 (string t) r after → WritesCommand r after
  unfolding encode
  command-put o w = rw o w

  pub command_not : opens t ≡ false → WritesCommand (Err NoEncoding) out
  command_not o = rw o (record { answers = refl; leaves = refl })

-- a kind's first byte and strings
module _ (a b c d : List ℕ) (kind n : ℕ) where
  abbrev request : Request
  request = Request.coded kind (take n (four a b c d))

  pub coded-length : length (encode request) ≡ suc (length (string_if (ltb 0 n) a) + (length (string_if (ltb 1 n) b) + (length (string_if (ltb 2 n) c) + length (string_if (ltb 3 n) d))))
  unfolding encode
  coded-length = ap suc (ap length (taken-strings a b c d n) ∙ simp length-append)

  abbrev WritesCoded : List ℕ → Result ℕ Refusal → List ℕ → Type 0
  WritesCoded out = Writes (request_written (length out) request) out 0 (encode request)

  pub coded_not : (out : List ℕ) (k : ℕ) {r : Refusal} → length (encode request) ≡ 1 + k → in_room (length out) 1 k ≡ Err r → WritesCoded out (Err r) out
  coded_not out k {r} e f =
      let h = refused-short (length out) 1 k r f in
      let l = h.1 in
      writes_not out 0 (encode request) refl (room-short (length out) 0 (length (encode request)) (omega arith) ∙ ap Err (sym h.0))

  pub coded-put : (out : List ℕ) {k : ℕ} {after : List ℕ} → length (encode request) ≤ length out
      → Gives (length (encode request)) (put_at out 0 (encode request)) k after → WritesCoded out (Ok k) after
  coded-put out h g =
      let f : 0 + length (encode request) ≤ length out = omega arith in
      writes_all out 0 (encode request) refl (room-there (length out) 0 (length (encode request)) f ∙ ap Ok (sym g.answers)) (g.leaves ∙ put_at-fits out 0 (encode request) f)

  -- nothing was written yet: the first byte is ahead, and the strings that are taken
  pub coded-ahead : (out : List ℕ) → length (encode request) ≤ length out
      → Ahead (put_at out 0 (encode request)) out 0 ((kind ∷ []) ++ (string_if (ltb 0 n) a ++ (string_if (ltb 1 n) b ++ (string_if (ltb 2 n) c ++ string_if (ltb 3 n) d))))
  unfolding encode
  coded-ahead out h =
      let z : 0 + length (encode request) ≤ length out = omega arith in
      let x : encode request ≡ kind ∷ (string_if (ltb 0 n) a ++ (string_if (ltb 1 n) b ++ (string_if (ltb 2 n) c ++ string_if (ltb 3 n) d))) = ap (λ (m : List ℕ). kind ∷ m) (taken-strings a b c d n) in
      subst (Ahead (put_at out 0 (encode request)) out 0) x (subst (λ (m : List ℕ). Ahead m out 0 (encode request)) (sym (put_at-fits out 0 (encode request) z)) (start out 0 (encode request) z))

-- what the table makes of a kind
module _ (kind : ℕ) (ts : List (List ℕ)) where
  -- the contract of writing
  abbrev WritesRequest : List ℕ → Result ℕ Refusal → List ℕ → Type 0
  WritesRequest out = Writes (written (length out) kind ts) out 0 (bytes_of kind ts)

  pub unknown-written : (out : List ℕ) → find_of kind ≡ None → WritesRequest out (Err UnknownInstruction) out
  unfolding written
  unknown-written out f = rw f (record { answers = refl; leaves = refl })

  module _ (n : ℕ) (reply : Reply) (f : find_of kind ≡ Some (n, reply)) where
    pub unused-written : (out : List ℕ) → unused n ts ≡ false → WritesRequest out (Err ValueNotAllowed) out
    unfolding written
    unused-written out u = rw f (rw u (record { answers = refl; leaves = refl }))

    -- the request that they are, answered and put
    pub known_written : (out : List ℕ) (q : Request) {r : Result ℕ Refusal} {after : List ℕ} → unused n ts ≡ true → q ≡ request_of kind n reply ts
        → Writes (request_written (length out) q) out 0 (encode q) r after → WritesRequest out r after
    unfolding written
    known_written out q u e w = rw f (rw u (rw (sym e) w))

    pub command-request : is_command reply ≡ true → Request.command (first_of ts) ≡ request_of kind n reply ts
    command-request c = rw c refl

    pub coded-request : is_command reply ≡ false → Request.coded kind (take n ts) ≡ request_of kind n reply ts
    coded-request c = rw c refl
