-- Writing: only published values are written, each as its encoding, and every other call gets the refusal that is due.
use Rattle.std.specs.Prelude.{Option, Some, None, Result, Ok, Err}
use Rattle.wire.specs.declared.Refusal.{Refusal}
use mathlib.Core.Path.{◌≡◌, refl, sym, ap, ap₂, ◌∙◌}
use mathlib.Core.List.{List, [], ◌∷◌, flatten}
use mathlib.Core.Bool.{Bool, true, false}
use mathlib.Core.Logic.{◌↔◌}
use Prim.Native.Nat.{ℕ, ◌+◌, ◌≤◌, ◌<◌}
use native.Mathlib.Omega.{arith}
use lib.Dec.{ltb}
use lib.ListN.{length, take}
use borrow.Author.Tests.{ltb-true, ltb-false}
use Rattle.wire.specs.Bytes.{if, splice}
use Rattle.wire.specs.Call.{in_room, output_after}
use Rattle.wire.specs.declared.Refusal.TheVariants.{NoEncoding, NoRoom}
use Rattle.wire.proofs.Call.{room-there}
use Rattle.basex_string.specs.Strings.{string}
use Rattle.basex.specs.declared.Reply.{Reply}
use Rattle.basex.specs.Kinds.{find_of, is_command}
use Rattle.basex.specs.Request as request
use Rattle.basex.specs.Request.{Request}
use Rattle.basex.specs.Texts.{unused}
use Rattle.basex_request.specs.Calls.{padded}
use Rattle.basex_request.specs.Reading.{kind_of, texts_of}
use Rattle.basex_request.specs.Writing.{request_of, encodable, request_written, written_as, written, bytes_of}
use Rattle.basex_request.proofs.Laws.{published-written, writing_exact, wrote-bytes}
use Rattle.basex_request.proofs.Table.{command-one, command_starts, starts_command_lem}
use Rattle.basex_request.proofs.Written.{row_written}
use Rattle.basex_laws.specs.Exactly.{Fits, Means, Unwritten}
use Rattle.wire.proofs.Branches.{apart}
use Rattle.basex_laws.proofs.Chosen.{chosen, exactly, roomed, room_back, no-room_back}
use Rattle.basex_laws.proofs.Spare.{spare-found, spare-unused, none-spare}

module _ (room at : ℕ) (text : List ℕ) where
  abbrev StringDue : Result ℕ Refusal → Type 0
  StringDue (Ok n) = Fits room at (string text) n
  StringDue (Err r) = (r ≡ NoRoom) × (room < at + length (string text))

  string_back : (y : Result ℕ Refusal) → StringDue y → in_room room at (length (string text)) ≡ y
  string_back (Ok n) f = room_back (in_room room at (length (string text))) room at (string text) refl n f
  string_back (Err r) p = no-room_back (in_room room at (length (string text))) room at (string text) refl p.1 ∙ ap Err (sym p.0)

  pub string-exactly : (y : Result ℕ Refusal) → (in_room room at (length (string text)) ≡ y) ↔ StringDue y
  string-exactly y = exactly StringDue (in_room room at (length (string text))) (roomed StringDue room at (string text) (λ n f. f) (λ h. (refl, h))) y (string_back y)

module _ (room kind : ℕ) (ts : List (List ℕ)) where
  -- the request that is meant is written as one of its own kind and texts
  meant : (q : Request) → Means kind ts q → written room kind ts ≡ written room (kind_of q) (padded (texts_of q))
  meant q m = row_written kind ts room ∙ ap₂ (written room) (sym m.named) (sym m.given)

  request-means : (q : Request) → Means kind ts q → request.Published q → written room kind ts ≡ in_room room 0 (length (request.encode q))
  request-means q m p = meant q m ∙ published-written q p room

  abbrev Due : Result ℕ Refusal → Type 0
  Due (Ok n) = (q : Request) × Means kind ts q × request.Published q × Fits room 0 (request.encode q) n
  Due (Err r) = Unwritten room kind ts r

  request_back : (y : Result ℕ Refusal) → Due y → written room kind ts ≡ y
  unfolding written flatten
  request_back (Ok n) w = room_back (written room kind ts) room 0 (request.encode w.0) (request-means w.0 w.1 w.2) n w.3
  request_back (Err r) (Unwritten.unknown f) = rw f refl
  request_back (Err r) (Unwritten.spare n reply f s) = rw f (rw (spare-unused ts n s) refl)
  request_back (Err r) (Unwritten.command t m o) = meant (Request.command t) m ∙ rw (starts_command_lem 0x20 refl) (rw o refl)
  request_back (Err r) (Unwritten.no_room q m p h) = no-room_back (written room kind ts) room 0 (request.encode q) (request-means q m p) (omega arith)

module _ (room kind : ℕ) (a b c d : List ℕ) where
  abbrev ts : List (List ℕ)
  ts = a ∷ b ∷ c ∷ d ∷ []

  module _ (m : ℕ) (reply : Reply) (found : find_of kind ≡ Some (m, reply)) (u : unused m (a ∷ b ∷ c ∷ d ∷ []) ≡ true) where
    -- only a COMMAND can have no encoding
    no_encoding : (f : Bool) → is_command reply ≡ f → encodable (if f (Request.command a) (Request.coded kind (take m ts))) ≡ false → Unwritten room kind ts NoEncoding
    no_encoding false h o = apart (cc)
    no_encoding true h o =
        let s = command_starts kind m reply found h in
        let one = command-one kind m reply found h in
        let x = none-spare ts m 1 u (omega arith) in
        let y = none-spare ts m 2 u (omega arith) in
        let z = none-spare ts m 3 u (omega arith) in
        Unwritten.command a (record { named = rw s refl; given = λ i. a ∷ sym x i ∷ sym y i ∷ sym z i ∷ [] }) o

    -- the request that is meant, from what is written with room enough
    request-due : Due room kind ts (request_written room (request_of kind m reply ts))
    unfolding written
    request-due = chosen (Due room kind ts) (encodable (request_of kind m reply ts)) fits (no_encoding (is_command reply) refl)
      where
        fits : encodable (request_of kind m reply ts) ≡ true → Due room kind ts (in_room room 0 (length (request.encode (request_of kind m reply ts))))
        fits o =
            let n = length (request.encode (request_of kind m reply ts)) in
            let e : written n kind ts ≡ Ok n = rw found (rw u (rw o (room-there n 0 n (omega arith)))) in
            let w = (writing_exact n kind a b c d n).0 e in
            let l = w.4 in
            let means : Means kind ts w.0 = record { named = w.2; given = w.3 } in
            chosen (Due room kind ts) (ltb room (0 + n)) (λ t. Unwritten.no_room w.0 means w.1 (let h = ltb-true room (0 + n) t in omega arith))
            (λ t. (w.0, means, w.1, record { count = sym l; within = let h = ltb-false room (0 + n) t in omega arith }))

  due : Due room kind ts (written room kind ts)
  unfolding written
  due = by (find_of kind) refl
    where
      by : (f : Option (ℕ × Reply)) → find_of kind ≡ f → Due room kind ts (written_as room kind f ts)
      by None p = Unwritten.unknown p
      by (Some (m, reply)) p = chosen (Due room kind ts) (unused m ts) (request-due m reply p) (λ u. Unwritten.spare m reply p (spare-found ts m u))

  pub request-exactly : (y : Result ℕ Refusal) → (written room kind (a ∷ b ∷ c ∷ d ∷ []) ≡ y) ↔ Due room kind (a ∷ b ∷ c ∷ d ∷ []) y
  request-exactly y = exactly (Due room kind ts) (written room kind ts) due y (request_back room kind ts y)

-- .. and its encoding stands in the output then
pub request_there : (out : List ℕ) (kind : ℕ) (ts : List (List ℕ)) (q : Request) → Means kind ts q → request.Published q → length (request.encode q) ≤ length out
    → output_after (written (length out) kind ts) out 0 (bytes_of kind ts) ≡ splice out 0 (request.encode q)
request_there out kind ts q m p h =
    let n = length (request.encode q) in
    let f : Fits (length out) 0 (request.encode q) n = record { count = refl; within = omega arith } in
    ap (λ (c : Result ℕ Refusal). output_after c out 0 (bytes_of kind ts)) (request_back (length out) kind ts (Ok n) (q, m, p, f))
    ∙ ap (splice out 0) (wrote-bytes (length out) kind n ts (q, p, m.named, m.given, refl, h))
