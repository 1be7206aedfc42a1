-- The calls that read strings, requests and responses come out right.
use mathlib.Core.List.{List, [], ◌∷◌, ◌++◌, flatten}
use mathlib.Core.Logic.{inl, inr}
use mathlib.Core.Path.{◌≡◌, refl, sym, ap, subst, ◌∙◌}
use Prim.Native.Nat.{ℕ, ◌+◌, ◌-◌, ◌≤◌, ◌<◌}
use native.Mathlib.Omega.{arith}
use lib.ListN.{length, take, drop}
use Rattle.std.specs.Prelude.{Result, Ok, Err}
use Rattle.wire.specs.declared.Refusal.{Refusal}
use Rattle.wire.specs.Bytes.{splice}
use Rattle.wire.specs.Fields.{Got}
use Rattle.basex_string.specs.declared.StringAt.{StringAt}
use Rattle.basex_string.specs.Answers.{located, decoded}
use Rattle.basex_string.specs.Scan as strings
use Rattle.basex_string.specs.Strings.{string}
use Rattle.basex_string.proofs.Laws as string-laws
use Rattle.basex.specs.Request as request
use Rattle.basex.specs.Response as response
use Rattle.basex_request.specs.declared.Requested.{Requested}
use Rattle.basex_request.specs.Calls.{padded}
use Rattle.basex_request.specs.Reading as requests
use Rattle.basex_request.specs.Reading.{texts_of, requested}
use Rattle.basex_request.proofs.Laws as request-laws
use Rattle.basex_response.specs.declared.Replied.{Replied}
use Rattle.basex_response.specs.Reading as responses
use Rattle.basex_response.specs.Reading.{all_texts}
use Rattle.basex_laws.specs.Exactly as exact
use Rattle.basex_laws.proofs.Exactly.{told_exactly}
use Rattle.basex_laws.proofs.Responses.{response_exact}
use Rattle.basex_c.specs.Codes.{lent}
use Rattle.basex_c.specs.Told.{string_told, request_told, response_told, bytes_read}
use Rattle.demands.specs.BaseXCalls as calls
use Rattle.demands.specs.Answered.{answered}
use Rattle.demands.specs.BaseXCalls.{Lendable, Called, telling, ComesOutRight, Unread, NoPlace, StringRead, Decoded, RequestRead, ResponseRead}
use Rattle.demands.proofs.BaseXCalls.Answers.{counts, counts_front, refuses, tells, in_front, due}

module _ (s : List ℕ) (short : Lendable s) (at : ℕ) (told : List ℕ) where
  located_so : (len n : ℕ) (out : List ℕ) (text : List ℕ) → exact.Reads (strings.reading (drop at s)) s n text → len ≡ length text → 1 ≤ length told
      → StringRead s at told (record { answer = answered (n - at); out = out; told = (len ∷ []) ++ drop 1 told })
  located_so len n out text r l h =
      let e = string-laws.exact (drop at s) text (drop n s) r.read in
      record { text = text; rest = drop n s; stands = e; counted = counts s short (string text) n r.place at e; long = l; fields = in_front (len ∷ []) told h }

  abbrev Located : Called → Type 0
  Located = ComesOutRight (Unread (strings.reading (drop at s)) (λ t. length told < 1)) (StringRead s at told) [] told

  pub string_at : Located (calls.string_at_called s at told)
  string_at = by (located (length s) (strings.reading (drop at s))) refl
    where
      by : (y : Result StringAt Refusal) → located (length s) (strings.reading (drop at s)) ≡ y → Located (telling [] 0 [] told (lent (length told) (string_told at y)))
      by (Err r) e = refuses [] 0 [] told r (Unread.unread r ((told_exactly.string_unlocated s at r).0 e))
      by (Ok m) e =
          let l = (told_exactly.string_located s at m.len m.next).0 e in
          tells [] 0 [] told (m.next - at) (m.len ∷ []) (λ h. Unread.no_room l.text (drop m.next s) l.reads.read h) (located_so m.len m.next (splice [] 0 []) l.text l.reads l.long)

  module _ (out : List ℕ) (to : ℕ) where
    abbrev text : List ℕ
    text = bytes_read (λ s. s) (strings.reading (drop at s))

    abbrev Decodes : Called → Type 0
    Decodes = ComesOutRight (Unread (strings.reading (drop at s)) (λ t. NoPlace out (to + length t) told 1)) (Decoded s at out to told) out told

    pub decode : Decodes (calls.decode_called s at out to told)
    unfolding located_so
    decode = by (decoded (length s) (length out) to (strings.reading (drop at s))) refl
      where
        by : (y : Result StringAt Refusal) → decoded (length s) (length out) to (strings.reading (drop at s)) ≡ y → Decodes (telling out to text told (lent (length told) (string_told at y)))
        by (Err r) e = refuses out to text told r (due (λ t h. inl h) ((told_exactly.string_undecoded s at out to r).0 e))
        by (Ok m) e =
            let d = (told_exactly.string_decoded s at out to m.len m.next).0 e in
            let k = ap (λ (x : Got (List ℕ)). splice out to (bytes_read (λ s. s) x)) d.reads.read in
            let o = subst (λ (x : List ℕ). take m.len (drop to x) ≡ d.text) (d.stored ∙ sym k) d.there in
            let f = d.fits in
            tells out to text told (m.next - at) (m.len ∷ []) (λ h. Unread.no_room d.text (drop m.next s) d.reads.read (inr h))
            (λ h. record { read = located_so m.len m.next (splice out to text) d.text d.reads d.long h; fits = omega arith; there = o; stored = k })

module _ (s : List ℕ) (short : Lendable s) (out told : List ℕ) where
  abbrev request_bytes : List ℕ
  request_bytes = bytes_read requests.text_bytes (requests.reading s)

  abbrev ReadsRequest : Called → Type 0
  ReadsRequest = ComesOutRight (Unread (requests.reading s) (λ q. NoPlace out (length (flatten (texts_of q))) told 5)) (RequestRead s out told) out told

  pub read_request : ReadsRequest (calls.read_request_called s out told)
  read_request = by (requested (length s) (length out) (requests.reading s)) refl
    where
      by : (y : Result Requested Refusal) → requested (length s) (length out) (requests.reading s) ≡ y
          → ReadsRequest (telling out 0 request_bytes told (lent (length told) (request_told y)))
      by (Err r) e = refuses out 0 request_bytes told r (due (λ q h. inl h) ((told_exactly.request_refused s out r).0 e))
      by (Ok m) e =
          let t = (told_exactly.request-told s out m.kind m.first m.second m.third m.fourth m.read).0 e in
          let x = (request-laws.reading_exact s t.request (drop m.read s)).0 t.reads.read in
          let k = ap (λ (x : Got request.Request). splice out 0 (bytes_read requests.text_bytes x)) t.reads.read in
          let numbers = m.kind ∷ m.first ∷ m.second ∷ m.third ∷ m.fourth ∷ [] in
          tells out 0 request_bytes told m.read numbers (λ h. Unread.no_room t.request (drop m.read s) t.reads.read (inr h))
          (λ h. record {
            value = t.request;
            rest = drop m.read s;
            published = x.0;
            stands = x.1;
            counted = counts_front s short (request.encode t.request) m.read t.reads.place x.1;
            named = t.named;
            texts = subst (λ (x : List ℕ). exact.Cut (padded (texts_of t.request)) x m.first m.second m.third m.fourth) (t.stored ∙ sym k) t.texts;
            fields = in_front numbers told h;
            fits = t.fits;
            stored = k;
          })

module _ (kind : ℕ) (s : List ℕ) (short : Lendable s) (out told : List ℕ) where
  abbrev response_bytes : List ℕ
  response_bytes = bytes_read responses.text_bytes (responses.reading kind s)

  abbrev ReadsResponse : Called → Type 0
  ReadsResponse = ComesOutRight (Unread (responses.reading kind s) (λ p. NoPlace out (length (flatten (all_texts p))) told 6)) (ResponseRead kind s out told) out told

  pub read_response : ReadsResponse (calls.read_response_called kind s out told)
  read_response = by (responses.answered (length s) (length out) (responses.reading kind s)) refl
    where
      by : (y : Result Replied Refusal) → responses.answered (length s) (length out) (responses.reading kind s) ≡ y
          → ReadsResponse (telling out 0 response_bytes told (lent (length told) (response_told y)))
      by (Err r) e = refuses out 0 response_bytes told r (due (λ p h. inl h) ((told_exactly.response_refused kind s out r).0 e))
      by (Ok m) e =
          let t = (told_exactly.response-told kind s out m.first m.second m.items m.listed m.status m.error m.read).0 e in
          let x = (response_exact kind s t.response (drop m.read s)).0 t.reads.read in
          let k = ap (λ (x : Got response.Response). splice out 0 (bytes_read responses.text_bytes x)) t.reads.read in
          let numbers = m.first ∷ m.second ∷ m.items ∷ m.listed ∷ m.status ∷ m.error ∷ [] in
          tells out 0 response_bytes told m.read numbers (λ h. Unread.no_room t.response (drop m.read s) t.reads.read (inr h))
          (λ h. record {
            value = t.response;
            rest = drop m.read s;
            stands = x;
            counted = counts_front s short (response.encode x.reply t.response) m.read t.reads.place x.encoded;
            items = t.count;
            status = t.state;
            texts = subst (λ (x : List ℕ). exact.Cut (exact.parts_of t.response) x m.first m.second m.listed m.error) (t.stored ∙ sym k) t.texts;
            fields = in_front numbers told h;
            fits = t.fits;
            stored = k;
          })
