-- The call for the error of a response comes out right, and tells where it stands in the output that reading the response left.
use mathlib.Core.Bool.{Bool, true, false}
use mathlib.Core.List.{List, [], ◌∷◌, ◌++◌, append_assoc, append-nil, flatten}
use mathlib.Core.Logic.{inl, inr}
use mathlib.Core.Path.{◌≡◌, refl, sym, ap, subst, ◌∙◌}
use Prim.Native.Nat.{ℕ, zero, suc, ◌+◌, ◌≤◌, ◌<◌}
use native.Mathlib.Omega.{arith}
use lib.Dec.{ltb}
use lib.ListN.{length, take, drop, get_or, length-append}
use lib.Seq.{take-append_seam, drop-append_seam}
use borrow.Author.Tests.{leb-true, lt-ltb, le-ltb, ltb-true, ltb-false}
use Rattle.std.specs.Prelude.{Option, Some, None, Result, Ok}
use Rattle.std.proofs.lemmas.Bool.Decides.{nat_tests}
use Rattle.wire.specs.Bytes.{splice}
use Rattle.wire.specs.declared.Place.{Place}
use Rattle.wire.specs.declared.Refusal.{Refusal}
use Rattle.wire.specs.declared.Refusal.TheVariants.{UnknownInstruction, ValueNotAllowed, NoRoom}
use Rattle.wire.proofs.Splices.{length-splice}
use Rattle.basex.specs.declared.Reply.{Reply}
use Rattle.basex.specs.Kinds.{find_of}
use Rattle.basex.specs.Response.{Response, Stands, error_of}
use Rattle.basex.specs.Texts.{length_at}
use Rattle.basex_response.specs.Errors.{error_at}
use Rattle.basex_response.specs.Items.{item_texts}
use Rattle.basex_response.specs.Reading.{all_texts}
use Rattle.basex_laws.proofs.Exactly.{errors_exactly}
use Rattle.basex_response.proofs.Sizes.{flatten-append}
use Rattle.basex_laws.proofs.Responses.{response_exact}
use Rattle.basex_c.specs.Codes.{lent}
use Rattle.basex_c.specs.Told.{error_told, error_in}
use Rattle.demands.specs.Answered.{Answered}
use Rattle.demands.specs.BaseXCalls as calls
use Rattle.demands.specs.BaseXCalls.{Called, telling, refused_with, ComesOutRight, response_numbers, error_numbers, ErrorDue, NoError, SomeError, ErrorAsked, ErrorTold}
use Rattle.demands.proofs.Answered.{refused}
use Rattle.demands.proofs.BaseXCalls.Answers.{refused_as, in_front}

module _ (kind : ℕ) (numbers place : List ℕ) where
  abbrev status : ℕ
  status = (response_numbers numbers).status

  abbrev error_place : Reply → Place
  error_place reply = error_at reply (get_or numbers 0 0) (get_or numbers 1 0) (get_or numbers 3 0) (get_or numbers 5 0)

  -- what the call makes of what is asked
  abbrev comes : Result (Option Place) Refusal → Called
  comes y = telling [] 0 [] place (lent (length place) (error_told y))

  module _ (six : 6 ≤ length numbers) (n : ℕ) (reply : Reply) (known : find_of kind ≡ Some (n, reply)) where
    asks_none : status ≡ 0 → error_in kind numbers ≡ Ok None
    asks_none s = rw (le-ltb (length numbers) 6 six, known, s)

    asks-place : status ≡ 1 → error_in kind numbers ≡ Ok (Some (error_place reply))
    asks-place s = rw (le-ltb (length numbers) 6 six, known, s)

    none_is : status ≡ 0 → calls.error_called kind numbers place ≡ record { answer = Answered.count 0; out = splice [] 0 []; told = place }
    none_is s = ap comes (asks_none s) ∙ rw (le-ltb (length place) 0 (omega arith))

    pub no-error : status ≡ 0 → NoError place (calls.error_called kind numbers place)
    no-error s = subst (NoError place) (sym (none_is s)) (record { counted = refl; untold = refl })

    pub error_unlent : status ≡ 1 → length place < 2 → calls.error_called kind numbers place ≡ refused_with NoRoom [] place
    error_unlent s h = ap comes (asks-place s) ∙ rw (lt-ltb (length place) 2 h) (refused_as [] 0 [] place NoRoom)

    -- the two numbers told
    pub error-is : status ≡ 1 → 2 ≤ length place
        → calls.error_called kind numbers place ≡ record { answer = Answered.count 1; out = splice [] 0 []; told = ((error_place reply).start ∷ (error_place reply).len ∷ []) ++ drop 2 place }
    error-is s h = ap comes (asks-place s) ∙ rw (le-ltb (length place) 2 h)

    pub some-error : status ≡ 1 → 2 ≤ length place → SomeError place (calls.error_called kind numbers place)
    some-error s h =
        subst (SomeError place) (sym (error-is s h)) (record { counted = refl; fields = in_front ((error_place reply).start ∷ (error_place reply).len ∷ []) place h })

  pub error_due : (r : Refusal) → ErrorDue kind numbers (length place) r → calls.error_called kind numbers place ≡ refused_with r [] place
  error_due r (ErrorDue.too_few h) = grind (arith, nat_tests, refused)
  error_due r (ErrorDue.unknown h k) = grind (arith, nat_tests, refused)
  error_due r (ErrorDue.bad_status h n reply k s) = grind (arith, nat_tests, refused)
  error_due r (ErrorDue.no_room h n reply k s l) = error_unlent h n reply k s l

  abbrev Rightly : Type 0
  Rightly = ComesOutRight (ErrorDue kind numbers (length place)) (ErrorAsked numbers place) [] place (calls.error_called kind numbers place)

  is-due : (r : Refusal) → ErrorDue kind numbers (length place) r → Rightly
  is-due r d = ComesOutRight.refused r d (error_due r d)

  pub error : Rightly
  error = given (ltb (length numbers) 6) refl
    where
      failed : (h : 6 ≤ length numbers) (n : ℕ) (reply : Reply) → find_of kind ≡ Some (n, reply) → status ≡ 1 → (b : Bool) → ltb (length place) 2 ≡ b → Rightly
      failed h n reply k s true l = is-due NoRoom (ErrorDue.no_room h n reply k s (ltb-true (length place) 2 l))
      failed h n reply k s false l = ComesOutRight.accepted (inr (s, some-error h n reply k s (ltb-false (length place) 2 l)))

      known : (h : 6 ≤ length numbers) (n : ℕ) (reply : Reply) → find_of kind ≡ Some (n, reply) → (m : ℕ) → status ≡ m → Rightly
      known h n reply k zero s = ComesOutRight.accepted (inl (s, no-error h n reply k s))
      known h n reply k (suc zero) s = failed h n reply k s (ltb (length place) 2) refl
      known h n reply k (suc (suc m)) s = is-due ValueNotAllowed (ErrorDue.bad_status h n reply k (omega (arith, s)))

      found : 6 ≤ length numbers → (f : Option (ℕ × Reply)) → find_of kind ≡ f → Rightly
      found h None k = is-due UnknownInstruction (ErrorDue.unknown h k)
      found h (Some (n, reply)) k = known h n reply k status refl

      given : (b : Bool) → ltb (length numbers) 6 ≡ b → Rightly
      given true e = is-due NoRoom (ErrorDue.too_few (ltb-true (length numbers) 6 e))
      given false e = found (ltb-false (length numbers) 6 e) (find_of kind) refl

flat-last : (texts front : List (List ℕ)) (t : List ℕ) → texts ≡ front ++ (t ∷ []) → flatten texts ≡ flatten front ++ t
unfolding flatten
flat-last texts front t e = ap flatten e ∙ flatten-append front (t ∷ []) ∙ ap (λ (m : List ℕ). flatten front ++ m) (append-nil t)

-- a text stands there in an output
abbrev There : List ℕ → List ℕ → ℕ → ℕ → Type 0
There out t start len = (start + len ≤ length out) × (take len (drop start out) ≡ t)

-- the last of the texts put in front of an output
last-there : (out front t : List ℕ) → length (front ++ t) ≤ length out → There (splice out 0 (front ++ t)) t (length front) (length t)
unfolding splice
last-there out front t h =
    let z = drop (0 + length (front ++ t)) out in
    let l = length-append front t in
    let k = length-splice out 0 (front ++ t) (omega arith) in
    (omega arith, ap (λ (m : List ℕ). take (length t) (drop (length front) m)) (append_assoc front t z) ∙ ap (take (length t)) (drop-append_seam front (t ++ z)) ∙ take-append_seam t z)

module _ (kind : ℕ) (s : List ℕ) (r : Response) (rest out told place : List ℕ) (h : Stands kind r s rest) (fits : length (flatten (all_texts r)) ≤ length out) (six : 6 ≤ length told) where
  -- the six numbers told
  abbrev numbers : List ℕ
  numbers = length_at r.texts 0 ∷ length_at r.texts 1 ∷ length r.items ∷ length (flatten (item_texts r.items)) ∷ r.status ∷ length_at r.error 0 ∷ []

  told_is : (calls.read_response_called kind s out told).told ≡ numbers ++ drop 6 told
  told_is = rw ((response_exact kind s r rest).1 h, le-ltb (length out) (length (flatten (all_texts r))) fits, le-ltb (length told) 6 six)

  out-is : (calls.read_response_called kind s out told).out ≡ splice out 0 (flatten (all_texts r))
  out-is = rw ((response_exact kind s r rest).1 h, le-ltb (length out) (length (flatten (all_texts r))) fits, le-ltb (length told) 6 six)

  abbrev Told : List ℕ → List ℕ → Type 0
  Told o t = ErrorTold (error_of h.reply r) o place (calls.error_called kind t place)

  pub error-told : Told (calls.read_response_called kind s out told).out (calls.read_response_called kind s out told).told
  error-told = rw (out-is, told_is) (by r.status refl)
    where
      long : 6 ≤ length (numbers ++ drop 6 told)
      long = omega arith

      failed : r.status ≡ 1 → (b : Bool) → ltb (length place) 2 ≡ b → Told (splice out 0 (flatten (all_texts r))) (numbers ++ drop 6 told)
      failed e true l =
          let o = errors_exactly.error_one h.reply r h.published e in
          ErrorTold.no_room o.error o.one (ltb-true (length place) 2 l) (error_unlent kind (numbers ++ drop 6 told) place long h.strings h.reply h.known e (ltb-true (length place) 2 l))
      failed e false l =
          let o = errors_exactly.error_one h.reply r h.published e in
          let two = ltb-false (length place) 2 l in
          let f = flat-last (all_texts r) o.front o.error o.last in
          let w = last-there out (flatten o.front) o.error (subst (λ (m : List ℕ). length m ≤ length out) f fits) in
          let c = error-is kind (numbers ++ drop 6 told) place long h.strings h.reply h.known e two in
          let after = splice out 0 (flatten (all_texts r)) in
          let p = subst (λ (m : List ℕ). There (splice out 0 m) o.error (length (flatten o.front)) (length o.error)) (sym f) w in
          let q = subst (λ (x : Place). There after o.error x.start x.len) (sym o.place) p in
          let z = subst (λ (x : Called). There after o.error (error_numbers x.told).start (error_numbers x.told).len) (sym c) q in
          ErrorTold.one o.error o.one (some-error kind (numbers ++ drop 6 told) place long h.strings h.reply h.known e two) z.0 z.1

      by : (m : ℕ) → r.status ≡ m → Told (splice out 0 (flatten (all_texts r))) (numbers ++ drop 6 told)
      by zero e =
          ErrorTold.none (errors_exactly.error_none h.reply r e) (no-error kind (numbers ++ drop 6 told) place long h.strings h.reply h.known e)
      by (suc zero) e = failed e (ltb (length place) 2) refl
      by (suc (suc m)) e = absurd (omega (arith, e, leb-true r.status 1 h.published.ended))
