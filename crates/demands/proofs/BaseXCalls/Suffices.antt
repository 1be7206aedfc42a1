-- A string or a response that stands there is read, and an output as long as the input has room for all texts.
use mathlib.Core.List.{List, ◌++◌, flatten}
use mathlib.Core.Path.{◌≡◌, sym, ap, subst, ◌∙◌}
use Prim.Native.Nat.{ℕ, ◌+◌, ◌≤◌}
use native.Mathlib.Omega.{arith}
use lib.ListN.{length, drop, length-drop}
use Rattle.wire.specs.Fields.{Got}
use Rattle.wire.specs.declared.Refusal.{Refusal}
use Rattle.wire.specs.Refusals.{number_of}
use Rattle.basex_string.specs.Scan as strings
use Rattle.basex_string.specs.Strings.{string}
use Rattle.basex_string.proofs.Laws as string-laws
use Rattle.basex.specs.Request.{Request}
use Rattle.basex.specs.Response.{Response, Stands}
use Rattle.basex_request.specs.Reading as requests
use Rattle.basex_request.specs.Reading.{texts_of}
use Rattle.basex_request.proofs.Laws as request-laws
use Rattle.basex_response.specs.Reading as responses
use Rattle.basex_response.specs.Reading.{all_texts}
use Rattle.basex_laws.proofs.Exactly.{input_suffices}
use Rattle.basex_laws.proofs.Listed.{same}
use Rattle.basex_laws.proofs.Refusals.{reading_refuses}
use Rattle.basex_laws.proofs.Responses.{response_exact, one_response}
use Rattle.demands.specs.Answered.{Answered}
use Rattle.demands.specs.BaseXCalls.{Lendable, Called, ComesOutRight, Unread, NoPlace, Decoded, ResponseRead, decode_called, read_request_called, read_response_called}
use Rattle.demands.proofs.BaseXCalls.Reading.{decode, read_request, read_response}

-- what is read has a place where the output and the numbers lent have room
placed : (out told : List ℕ) {need count : ℕ} → need ≤ length out → count ≤ length told → ¬ NoPlace out need told count
placed out told room enough p = grind arith

module _ {A : Type 0} {x : Got A} {No : A → Type 0} {Accepted : Called → Type 0} {out told : List ℕ} {c : Called} where
  -- a call of reading that came out right accepts what it reads, where that has a place
  accepted : {a : A} {rest : List ℕ} → x ≡ Got.got a rest → ¬ No a → ComesOutRight (Unread x No) Accepted out told c → Accepted c
  accepted e fits (ComesOutRight.accepted right) = right
  accepted {a} {rest} e fits (ComesOutRight.refused q d z) = due d
    where
      due : {q : Refusal} → Unread x No q → Accepted c
      due (Unread.unread r p) = cc
      due (Unread.no_room b left p n) = absurd (fits (subst No (same (sym p ∙ e)).0 n))

  -- and does not answer 10 where it has
  never_ten : ((r : Refusal) → x ≡ Got.refused r → ¬ (number_of r ≡ 10)) → ((a : A) (rest : List ℕ) → x ≡ Got.got a rest → ¬ No a) → (Accepted c → (n : ℕ) × (c.answer ≡ Answered.count n))
      → ComesOutRight (Unread x No) Accepted out told c → ¬ (c.answer ≡ Answered.refusal 10)
  never_ten refuses place counted (ComesOutRight.accepted a) e = let k = (counted a).1 in cc
  never_ten refuses place counted (ComesOutRight.refused r d q) e = due r d (let k = ap (λ (z : Called). z.answer) q in cc)
    where
      due : (r : Refusal) → Unread x No r → ¬ (number_of r ≡ 10)
      due r (Unread.unread q d) n = refuses q d n
      due r (Unread.no_room a rest d p) n = place a rest d p

pub response-read : (kind : ℕ) (s : List ℕ) → Lendable s → (r : Response) (rest out told : List ℕ) → Stands kind r s rest → length (flatten (all_texts r)) ≤ length out → 6 ≤ length told
    → (a : ResponseRead kind s out told (read_response_called kind s out told)) × (a.value ≡ r) × (a.rest ≡ rest)
response-read kind s short r rest out told h fits six =
    let a = accepted ((response_exact kind s r rest).1 h) (placed out told fits six) (read_response kind s short out told) in
    let o = one_response kind s a.value r a.rest rest a.stands h in
    (a, o.0, o.1)

pub decode-read : (s : List ℕ) → Lendable s → (at : ℕ) (t rest : List ℕ) → drop at s ≡ string t ++ rest → (out : List ℕ) (to : ℕ) (told : List ℕ) → to + length t ≤ length out → 1 ≤ length told
    → (a : Decoded s at out to told (decode_called s at out to told)) × (a.read.text ≡ t)
decode-read s short at t rest h out to told fits one =
    let a = accepted (ap strings.reading h ∙ string-laws.read_written t rest) (placed out told fits one) (decode s short at told out to) in
    (a, (string-laws.one_encoding a.read.text t a.read.rest rest (sym a.read.stands ∙ h)).0)

pub decode_suffices : (s : List ℕ) → Lendable s → (at : ℕ) (out : List ℕ) (to : ℕ) (told : List ℕ) → to + length s ≤ length out → 1 ≤ length told
    → ¬ ((decode_called s at out to told).answer ≡ Answered.refusal 10)
decode_suffices s short at out to told h one =
    never_ten refuses place (λ a. (_, a.read.counted)) (decode s short at told out to)
  where
    refuses : (r : Refusal) → strings.reading (drop at s) ≡ Got.refused r → ¬ (number_of r ≡ 10)
    refuses r e n = grind (arith, string-laws.refuses (drop at s) r e)

    place : (t rest : List ℕ) → strings.reading (drop at s) ≡ Got.got t rest → ¬ NoPlace out (to + length t) told 1
    place t rest e = let a = input_suffices.string_short (drop at s) t rest e in let b = length-drop at s in placed out told (omega (arith, h, a, b)) one

pub request_suffices : (s : List ℕ) → Lendable s → (out told : List ℕ) → length s ≤ length out → 5 ≤ length told
    → ¬ ((read_request_called s out told).answer ≡ Answered.refusal 10)
request_suffices s short out told h five = never_ten refuses place (λ a. (_, a.counted)) (read_request s short out told)
  where
    refuses : (r : Refusal) → requests.reading s ≡ Got.refused r → ¬ (number_of r ≡ 10)
    refuses r e n = grind (arith, request-laws.reading_refuses s r e)

    place : (q : Request) (rest : List ℕ) → requests.reading s ≡ Got.got q rest → ¬ NoPlace out (length (flatten (texts_of q))) told 5
    place q rest e = let a = input_suffices.request_short s q rest e in placed out told (omega (arith, h, a)) five

pub response_suffices : (kind : ℕ) (s : List ℕ) → Lendable s → (out told : List ℕ) → length s ≤ length out → 6 ≤ length told
    → ¬ ((read_response_called kind s out told).answer ≡ Answered.refusal 10)
response_suffices kind s short out told h six =
    never_ten refuses place (λ a. (_, a.counted)) (read_response kind s short out told)
  where
    refuses : (r : Refusal) → responses.reading kind s ≡ Got.refused r → ¬ (number_of r ≡ 10)
    refuses r e n = grind (arith, reading_refuses kind s r e)

    place : (p : Response) (rest : List ℕ) → responses.reading kind s ≡ Got.got p rest → ¬ NoPlace out (length (flatten (all_texts p))) told 6
    place p rest e = let a = input_suffices.response_short kind s p rest e in placed out told (omega (arith, h, a)) six
