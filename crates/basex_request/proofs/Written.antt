-- Writing gives exactly the published requests.
use Rattle.std.specs.Prelude.{Option, Some, None, Ok, Err}
use mathlib.Core.Path.{◌≡◌, refl, sym, ap, subst, ◌∙◌}
use mathlib.Core.List.{List, [], ◌∷◌, flatten}
use mathlib.Core.Bool.{Bool, true, false}
use mathlib.Core.Logic.{◌↔◌}
use Prim.Native.Nat.{ℕ, ◌+◌, ◌≤◌}
use native.Mathlib.Omega.{arith}
use lib.Dec.{ltb}
use lib.ListN.{length, get_or, take, drop, length-take, get_or-eq_default}
use lib.Seq.{get_or-take, length-take-le}
use borrow.Author.Tests.{ltb-true, ltb-false, eqb-true}
use Rattle.wire.specs.Bytes.{if}
use Rattle.wire.specs.Call.{in_room}
use Rattle.wire.specs.declared.Refusal.TheVariants.{ValueNotAllowed, NoEncoding}
use Rattle.wire.proofs.Call.{room-there, counted-there}
use Rattle.basex.specs.declared.Reply.{Reply}
use Rattle.basex.specs.declared.Reply.TheVariants.{Command}
use Rattle.basex.specs.Kinds.{starts_command, row_byte, find_of, is_command}
use Rattle.basex.specs.Request.{Request, encode, Published}
use Rattle.basex.specs.Texts.{unused}
use Rattle.basex_request.specs.Reading.{kind_of, texts_of}
use Rattle.basex_request.specs.Writing.{request_of, encodable, request_written, written_as, written, bytes_of}
use Rattle.basex_request.specs.Calls.{four, padded}
use Rattle.basex_request.proofs.Storing.{four-texts}
use Rattle.basex_request.proofs.Table.{at_most_four, command-one, command_starts, starts_command_lem, coded_row}
use Rattle.basex_request.proofs.Taken.{beyond}

-- as many as are given are taken, and they are those
padded-taken : (ts : List (List ℕ)) → length ts ≤ 4 → (unused (length ts) (padded ts) ≡ true) × (take (length ts) (padded ts) ≡ ts)
unfolding flatten
padded-taken [] h = (refl, refl)
padded-taken (a ∷ []) h = (refl, refl)
padded-taken (a ∷ (b ∷ [])) h = (refl, refl)
padded-taken (a ∷ (b ∷ (c ∷ []))) h = (refl, refl)
padded-taken (a ∷ (b ∷ (c ∷ (d ∷ [])))) h = (refl, refl)
padded-taken (a ∷ (b ∷ (c ∷ (d ∷ (e ∷ ts))))) h = absurd (omega arith)

-- a request as it is given to be written: what the table says of its kind, and that it is meant
record Given (q : Request) : Type 0 where
  n : ℕ
  reply : Reply
  found : find_of (kind_of q) ≡ Some (n, reply)
  rest : unused n (padded (texts_of q)) ≡ true
  meant : request_of (kind_of q) n reply (padded (texts_of q)) ≡ q
  opens : encodable q ≡ true

given : (q : Request) → Published q → Given q
unfolding flatten
given (Request.command t) p = record { n = 1; reply = Command; found = starts_command_lem 0x20 refl; rest = refl; meant = refl; opens = p }
given (Request.coded b ts) p =
    let h = padded-taken ts (four-texts (Request.coded b ts) p) in
    record {
      n = length ts;
      reply = p.0;
      found = p.1;
      rest = h.0;
      meant = rw p.2 (ap (Request.coded b) h.1);
      opens = refl;
    }

-- every published request can be given so: it is written, or refused with 10 alone
pub published-written : (q : Request) → Published q → (room : ℕ) → written room (kind_of q) (padded (texts_of q)) ≡ in_room room 0 (length (encode q))
unfolding written
published-written q p room = let g = given q p in rw g.found (rw g.rest (rw g.meant (rw g.opens refl)))

pub published-bytes : (q : Request) → Published q → bytes_of (kind_of q) (padded (texts_of q)) ≡ encode q
published-bytes q p = let g = given q p in rw g.found (rw g.meant refl)

-- every byte from 20 to FE stands for COMMAND
module _ (kind : ℕ) (ts : List (List ℕ)) where
  pub row_written : (room : ℕ) → written room kind ts ≡ written room (row_byte kind) ts
  unfolding written
  row_written room = by (starts_command kind) refl
    where
      by : (f : Bool) → starts_command kind ≡ f → written_as room kind (find_of kind) ts ≡ written_as room (if f 0x20 kind) (find_of (if f 0x20 kind)) ts
      by true e = rw (starts_command_lem kind e, starts_command_lem 0x20 refl) refl
      by false e = refl

  row_bytes : bytes_of kind ts ≡ bytes_of (row_byte kind) ts
  row_bytes = by (starts_command kind) refl
    where
      by : (f : Bool) → starts_command kind ≡ f → bytes_of kind ts ≡ bytes_of (if f 0x20 kind) ts
      by true e = rw (starts_command_lem kind e, starts_command_lem 0x20 refl) refl
      by false e = refl

-- a text that is taken is there, and one that is not is empty
pub taken_or_empty : (ts : List (List ℕ)) (n k : ℕ) → unused n ts ≡ true → get_or (take n ts) k [] ≡ get_or ts k []
taken_or_empty ts n k u = by (ltb k n) refl
  where
    empty : (l : List ℕ) → length l ≡ 0 → l ≡ []
    empty [] e = refl
    empty (x ∷ l) e = absurd (omega arith)

    by : (f : Bool) → ltb k n ≡ f → get_or (take n ts) k [] ≡ get_or ts k []
    by true e = get_or-take n ts k [] (ltb-true k n e)
    by false e =
        let h = ltb-false k n e in
        let z = eqb-true (length (flatten (drop n ts))) 0 u in
        let b = beyond ts n k h in
        let l = length-take n ts in
        get_or-eq_default (take n ts) [] (omega arith) ∙ sym (empty (get_or ts k []) (omega arith))

written-size : (room : ℕ) (q : Request) (n : ℕ) → request_written room q ≡ Ok n → (encodable q ≡ true) × (length (encode q) ≡ n) × (n ≤ room)
written-size room q n e = by (encodable q) refl e
  where
    by : (o : Bool) → encodable q ≡ o → if o (in_room room 0 (length (encode q))) (Err NoEncoding) ≡ Ok n → (encodable q ≡ true) × (length (encode q) ≡ n) × (n ≤ room)
    by true o p =
        let h = counted-there room 0 (length (encode q)) n p in
        let r = h.1 in
        let l = h.0 in
        (o, sym l, omega arith)
    by false o p = let z : ◌≡◌ {A = ℕ} 0 1 = cc in absurd (omega arith)

-- of a kind and four texts: the request that they are, and its bytes, for which there is room
abbrev pub Wrote : ℕ → ℕ → List (List ℕ) → ℕ → Type 0
Wrote room kind ts n = (q : Request) × Published q × (kind_of q ≡ row_byte kind) × (padded (texts_of q) ≡ ts) × (length (encode q) ≡ n) × (n ≤ room)

module _ (room kind : ℕ) (a b c d : List ℕ) (n : ℕ) where
  abbrev ts : List (List ℕ)
  ts = four a b c d

  module _ (m : ℕ) (reply : Reply) (found : find_of kind ≡ Some (m, reply)) (u : unused m (four a b c d) ≡ true) where
    others_empty : padded (take m ts) ≡ ts
    others_empty =
        let w = taken_or_empty ts m 0 u in
        let x = taken_or_empty ts m 1 u in
        let y = taken_or_empty ts m 2 u in
        let z = taken_or_empty ts m 3 u in
        λ i. w i ∷ x i ∷ y i ∷ z i ∷ []

    wrote : (f : Bool) → is_command reply ≡ f → encodable (if f (Request.command a) (Request.coded kind (take m ts))) ≡ true
        → length (encode (if f (Request.command a) (Request.coded kind (take m ts)))) ≡ n → n ≤ room → Wrote room kind ts n
    wrote true h o l r =
        let s = command_starts kind m reply found h in
        (Request.command a, o, rw s refl, subst (λ (k : ℕ). padded (take k ts) ≡ ts) (command-one kind m reply found h) others_empty, l, r)
    wrote false h o l r =
        let t = length-take-le m ts (at_most_four kind m reply found) in
        (Request.coded kind (take m ts), (reply, found ∙ ap (λ (k : ℕ). Some (k, reply)) (sym t), h), coded_row kind m reply found h, others_empty, l, r)

  writing : written room kind ts ≡ Ok n → Wrote room kind ts n
  unfolding written
  writing e = by (find_of kind) refl e
    where
      by : (f : Option (ℕ × Reply)) → find_of kind ≡ f → written_as room kind f (four a b c d) ≡ Ok n → Wrote room kind (four a b c d) n
      by None p e = let z : ◌≡◌ {A = ℕ} 0 1 = cc in absurd (omega arith)
      by (Some (m, reply)) p e = takes (unused m (four a b c d)) refl e
        where
          takes : (f : Bool) → unused m (four a b c d) ≡ f → if f (request_written room (request_of kind m reply (four a b c d))) (Err ValueNotAllowed) ≡ Ok n → Wrote room kind (four a b c d) n
          takes true u e = let x = written-size room (request_of kind m reply (four a b c d)) n e in wrote m reply p u (is_command reply) refl x.0 x.1 x.2
          takes false u e = let z : ◌≡◌ {A = ℕ} 0 1 = cc in absurd (omega arith)

  written_so : Wrote room kind ts n → written room kind ts ≡ Ok n
  written_so w =
      let p = published-written w.0 w.1 room in
      let h : 0 + length (encode w.0) ≤ room = let l = w.4 in let r = w.5 in omega arith in
      row_written kind ts room ∙ ap (λ (k : ℕ). written room k ts) (sym w.2) ∙ ap (written room (kind_of w.0)) (sym w.3) ∙ p ∙ room-there room 0 (length (encode w.0)) h ∙ ap Ok w.4

  -- a kind and four texts are written exactly if they are a published request's, for which there is room
  pub writing_exact : (written room kind (four a b c d) ≡ Ok n) ↔ Wrote room kind (four a b c d) n
  writing_exact = (writing, written_so)

-- .. and what is written is its encoding
pub wrote-bytes : (room kind n : ℕ) (ts : List (List ℕ)) (w : Wrote room kind ts n) → bytes_of kind ts ≡ encode w.0
wrote-bytes room kind n ts w = row_bytes kind ts ∙ ap (λ (k : ℕ). bytes_of k ts) (sym w.2) ∙ ap (bytes_of (kind_of w.0)) (sym w.3) ∙ published-bytes w.0 w.1
