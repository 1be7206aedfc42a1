-- What is told of a request and of a response, and that an output as long as the input has room for their texts.
use Rattle.basex_response.specs.Reading.{read_as_response, fields_of, all_texts, judgement, answered}
use Rattle.std.specs.Prelude.{Result, Ok, Err}
use Rattle.wire.specs.declared.Refusal.{Refusal}
use Rattle.basex_request.specs.Reading.{read_as_request, kind_of, texts_of, requested}
use mathlib.Core.Path.{◌≡◌, refl, sym, ap, ap₂, subst, ◌∙◌}
use mathlib.Core.List.{List, [], ◌∷◌, ◌++◌, append_assoc, append-nil, flatten}
use mathlib.Core.Logic.{◌↔◌, ◌⊎◌, inl, inr}
use Prim.Native.Nat.{ℕ, ◌-◌, ◌≤◌}
use native.Mathlib.Omega.{arith}
use lib.ListN.{length, drop, get_or, length-append}
use borrow.Author.Tests.{leb-true}
use Rattle.wire.specs.Fields.{Got}
use Rattle.wire.specs.declared.Refusal.TheVariants.{UnknownInstruction, NoRoom}
use Rattle.wire.proofs.Splices.{put_at-fits}
use Rattle.basex_string.specs.Scan as strings
use Rattle.basex_string.specs.Strings.{string}
use Rattle.basex_string.proofs.Laws as string-laws
use Rattle.basex_string.proofs.Steps.{string-length}
use Rattle.basex.specs.Request as request
use Rattle.basex.specs.Request.{Request}
use Rattle.basex.specs.Response.{Response, encode}
use Rattle.basex.specs.Texts.{length_at}
use Rattle.basex_request.specs.declared.Requested.{Requested}
use Rattle.basex_request.specs.Reading as requests
use Rattle.basex_request.proofs.Laws as request-laws
use Rattle.basex_request.proofs.Laws.{InReading}
use Rattle.basex_response.specs.declared.Replied.{Replied}
use Rattle.basex_response.specs.Items.{item_texts}
use Rattle.basex_response.specs.Reading as responses
use Rattle.basex_response.proofs.Fields.{ahead-few, behind-few}
use Rattle.basex_response.proofs.Sizes.{texts_shorter, flatten-append}
use Rattle.basex_response.proofs.Whole.{told}
use Rattle.basex_laws.specs.Exactly.{Reads, TooLong, Unread, RequestTold, parts_of, ResponseTold}
use Rattle.basex_laws.proofs.Listed.{same, OfFields}
use Rattle.basex_laws.proofs.Refusals.{reading_refuses}
use Rattle.basex_laws.proofs.Responses.{response_exact, reading-known}
use Rattle.wire.proofs.Branches.{apart}
use Rattle.basex_laws.proofs.Chosen.{exactly}
use Rattle.basex_laws.proofs.Told.{behind-there, answer, tells, unread_back, reads_back, ten, cut-there}

module _ (s out : List ℕ) where
  abbrev request_tell : Request → ℕ → Result Requested Refusal
  request_tell q n = read_as_request (kind_of q) (length_at (texts_of q) 0) (length_at (texts_of q) 1) (length_at (texts_of q) 2) (length_at (texts_of q) 3) n

  abbrev request_need : Request → ℕ
  request_need q = length (flatten (texts_of q))

  requested-is : (y : Got Request) → requested (length s) (length out) y ≡ answer Err request_tell request_need (length out) s y
  requested-is (Got.refused r) = refl
  requested-is (Got.got q rest) = refl

  request-ends : (q : Request) (rest : List ℕ) → requests.reading s ≡ Got.got q rest → drop (length s - length rest) s ≡ rest
  request-ends q rest e = behind-there s (request.encode q) rest ((request-laws.reading_exact s q rest).0 e).1

  abbrev Requests : Result Requested Refusal → Type 0
  Requests (Ok m) = RequestTold s out m.kind m.first m.second m.third m.fourth m.read
  Requests (Err r) = Unread (requests.reading s) (λ q. length (flatten (texts_of q))) (length out) r

  request-tells : Requests (requested (length s) (length out) (requests.reading s))
  request-tells = subst Requests (sym (requested-is (requests.reading s)))
      (tells Err request_tell request_need (length out) s Requests (requests.reading s) request-ends (λ r u. u) read)
    where
      read : (q : Request) (n : ℕ) → Reads (requests.reading s) s n q → length (flatten (texts_of q)) ≤ length out → Requests (request_tell q n)
      read q n r h = record {
        request = q;
        reads = r;
        named = refl;
        fits = h;
        stored = rw r.read (put_at-fits out 0 (flatten (texts_of q)) (omega arith));
        texts = rw r.read (cut-there (texts_of q) (flatten (texts_of q)) out refl h);
      }

  request_back : (y : Result Requested Refusal) → Requests y → requested (length s) (length out) (requests.reading s) ≡ y
  request_back (Err r) u = requested-is (requests.reading s) ∙ unread_back Err request_tell request_need (length out) s (requests.reading s) r u
  request_back (Ok m) t =
      let l = t.texts.lengths in
      let k = t.named in
      let e : request_tell t.request m.read ≡ read_as_request m.kind m.first m.second m.third m.fourth m.read = cc in
      requested-is (requests.reading s) ∙ reads_back Err request_tell request_need (length out) s (requests.reading s) m.read t.request t.reads t.fits ∙ e

  pub request-told : (y : Result Requested Refusal) → (requested (length s) (length out) (requests.reading s) ≡ y) ↔ Requests y
  request-told y = exactly Requests (requested (length s) (length out) (requests.reading s)) request-tells y (request_back y)

  pub request_no_room : (requested (length s) (length out) (requests.reading s) ≡ Err NoRoom) ↔ TooLong (requests.reading s) (λ q. length (flatten (texts_of q))) (length out)
  request_no_room = (
    λ e. ten (requests.reading s) request_need (length out) never NoRoom refl ((request-told (Err NoRoom)).0 e),
    λ t. (request-told
        (Err NoRoom)).1 (Unread.no_room t),
  )
    where
      neither : InReading NoRoom → ⊥
      neither (inl e) = apart (cc)
      neither (inr (inl e)) = apart (cc)
      neither (inr (inr e)) = apart (cc)

      never : requests.reading s ≡ Got.refused NoRoom → ⊥
      never e = neither (request-laws.reading_refuses s NoRoom e)

-- up to two texts, and up to one, one behind the other
two-flat : (ts : List (List ℕ)) → length ts ≤ 2 → flatten ts ≡ get_or ts 0 [] ++ get_or ts 1 []
unfolding flatten
two-flat [] h = refl
two-flat (t ∷ []) h = refl
two-flat (t ∷ u ∷ []) h = ap (λ (m : List ℕ). t ++ m) (append-nil u)
two-flat (t ∷ u ∷ v ∷ ts) h = absurd (omega arith)

one-flat : (ts : List (List ℕ)) → length ts ≤ 1 → flatten ts ≡ get_or ts 0 []
unfolding flatten
one-flat [] h = refl
one-flat (t ∷ []) h = append-nil t
one-flat (t ∷ u ∷ ts) h = absurd (omega arith)

-- the texts of a response are its parts one behind the other
parts-flat : (r : Response) → length r.texts ≤ 2 → length r.error ≤ 1 → flatten (all_texts r) ≡ flatten (parts_of r)
unfolding flatten
parts-flat r h k =
    let first = get_or r.texts 0 [] in
    let second = get_or r.texts 1 [] in
    let items = flatten (item_texts r.items) in
    flatten-append r.texts (item_texts r.items ++ r.error)
    ∙ ap₂ (λ (m l : List ℕ). m ++ l) (two-flat r.texts h) (flatten-append (item_texts r.items) r.error
    ∙ ap (λ (m : List ℕ). items ++ m) (one-flat r.error k ∙ sym (append-nil (get_or r.error 0 []))))
    ∙ append_assoc first second (items ++ (get_or r.error 0 [] ++ []))

module _ (kind : ℕ) (s out : List ℕ) where
  abbrev response_tell : Response → ℕ → Result Replied Refusal
  response_tell p n = read_as_response (length_at p.texts 0) (length_at p.texts 1) (length p.items) (length (flatten (item_texts p.items))) p.status (length_at p.error 0) n

  abbrev response_need : Response → ℕ
  response_need p = length (flatten (all_texts p))

  answered-is : (y : Got Response) → answered (length s) (length out) y ≡ answer Err response_tell response_need (length out) s y
  answered-is (Got.refused r) = refl
  answered-is (Got.got q rest) = refl

  response-ends : (p : Response) (rest : List ℕ) → responses.reading kind s ≡ Got.got p rest → drop (length s - length rest) s ≡ rest
  response-ends p rest e = let h = (response_exact kind s p rest).0 e in behind-there s (encode h.reply p) rest h.encoded

  response-flat : (p : Response) (rest : List ℕ) → responses.reading kind s ≡ Got.got p rest → flatten (all_texts p) ≡ flatten (parts_of p)
  response-flat p rest e =
      let h = (response_exact kind s p rest).0 e in
      let f = h.published.first in
      let l = h.published.last in
      let k = leb-true p.status 1 h.published.ended in
      let u = ahead-few h.reply in
      let v = behind-few h.reply p.status in
      parts-flat p (omega arith) (omega arith)

  abbrev Responses : Result Replied Refusal → Type 0
  Responses (Ok m) = ResponseTold kind s out m.first m.second m.items m.listed m.status m.error m.read
  Responses (Err r) = Unread (responses.reading kind s) (λ p. length (flatten (all_texts p))) (length out) r

  response-tells : Responses (answered (length s) (length out) (responses.reading kind s))
  response-tells = subst Responses (sym (answered-is (responses.reading kind s)))
      (tells Err response_tell response_need (length out) s Responses (responses.reading kind s) response-ends (λ r u. u) read)
    where
      read : (p : Response) (n : ℕ) → Reads (responses.reading kind s) s n p → length (flatten (all_texts p)) ≤ length out → Responses (response_tell p n)
      read p n r h = record {
        response = p;
        reads = r;
        count = refl;
        state = refl;
        fits = h;
        stored = rw r.read (put_at-fits out 0 (flatten (all_texts p)) (omega arith));
        texts = rw r.read (cut-there (parts_of p) (flatten (all_texts p)) out (response-flat p (drop n s) r.read) h);
      }

  response_back : (y : Result Replied Refusal) → Responses y → answered (length s) (length out) (responses.reading kind s) ≡ y
  response_back (Err r) u = answered-is (responses.reading kind s) ∙ unread_back Err response_tell response_need (length out) s (responses.reading kind s) r u
  response_back (Ok m) t =
      let l = t.texts.lengths in
      let c = t.count in
      let k = t.state in
      let e : response_tell t.response m.read ≡ read_as_response m.first m.second m.items m.listed m.status m.error m.read = cc in
      answered-is (responses.reading kind s) ∙ reads_back Err response_tell response_need (length out) s (responses.reading kind s) m.read t.response t.reads t.fits ∙ e

  pub response-told : (y : Result Replied Refusal) → (answered (length s) (length out) (responses.reading kind s) ≡ y) ↔ Responses y
  response-told y = exactly Responses (answered (length s) (length out) (responses.reading kind s)) response-tells y (response_back y)

  pub response_no_room : (answered (length s) (length out) (responses.reading kind s) ≡ Err NoRoom) ↔ TooLong (responses.reading kind s) (λ p. length (flatten (all_texts p))) (length out)
  response_no_room = (
    λ e. ten (responses.reading kind s) response_need (length out) never NoRoom refl ((response-told (Err NoRoom)).0 e),
    λ t. (response-told
        (Err NoRoom)).1 (Unread.no_room t),
  )
    where
      neither : (NoRoom ≡ UnknownInstruction) ⊎ OfFields NoRoom → ⊥
      neither (inl e) = apart (cc)
      neither (inr (inl e)) = apart (cc)
      neither (inr (inr (inl e))) = apart (cc)
      neither (inr (inr (inr e))) = apart (cc)

      never : responses.reading kind s ≡ Got.refused NoRoom → ⊥
      never e = neither (reading_refuses kind s NoRoom e)

pub string_short : (s t rest : List ℕ) → strings.reading s ≡ Got.got t rest → length t ≤ length s
string_short s t rest e = let l = ap length (string-laws.exact s t rest e) ∙ length-append (string t) rest in omega (arith, string-length t)

request-texts : (q : Request) → length (flatten (texts_of q)) ≤ length (request.encode q)
unfolding request.encode flatten
request-texts (Request.command t) = omega (arith, length-append t [], string-length t)
request-texts (Request.coded b ts) = omega (arith, texts_shorter ts)

pub request_short : (s : List ℕ) (q : Request) (rest : List ℕ) → requests.reading s ≡ Got.got q rest → length (flatten (texts_of q)) ≤ length s
request_short s q rest e =
    let l = ap length ((request-laws.reading_exact s q rest).0 e).1 ∙ length-append (request.encode q) rest in
    omega (arith, request-texts q)

pub response_short : (kind : ℕ) (s : List ℕ) (r : Response) (rest : List ℕ) → responses.reading kind s ≡ Got.got r rest → length (flatten (all_texts r)) ≤ length s
response_short kind s r rest e =
    let h = (response_exact kind s r rest).0 e in
    let f : fields_of h.reply s ≡ Got.got r rest = sym (reading-known kind h.strings h.reply h.known s) ∙ e in
    let j : judgement (length s) (fields_of h.reply s) ≡ judgement (length s) (Got.got r rest) = ap (judgement (length s)) f in
    let t = told h.reply s _ j in
    let g = (same (sym t.got ∙ f)).0 in
    let k : length (flatten (all_texts t.response)) ≡ length (flatten (all_texts r)) = ap (λ (p : Response). length (flatten (all_texts p))) g in
    let a = t.all in
    let b = t.short in
    omega arith
