-- A caller who walks the items by the numbers told gets those of the response.
use mathlib.Core.Bool.{Bool, true}
use mathlib.Core.List.{List, [], ◌∷◌, ◌++◌, flatten}
use mathlib.Core.Path.{◌≡◌, refl, sym, ap, ◌∙◌}
use Prim.Native.Nat.{ℕ, zero, suc, ◌+◌, ◌-◌, ◌≤◌}
use native.Mathlib.Omega.{arith}
use lib.ListN.{length, take, drop, length-append, length-drop}
use borrow.Author.Tests.{le-ltb, ne_eqb}
use Rattle.std.specs.Prelude.{Option, Some, None, Result, Ok, Err}
use Rattle.wire.specs.declared.Refusal.{Refusal}
use Rattle.wire.specs.Bytes.{splice}
use Rattle.wire.proofs.Splices.{put_at-fits}
use Rattle.basex_string.specs.Answers.{output_read}
use Rattle.basex.specs.declared.Reply.{Reply}
use Rattle.basex.specs.Kinds.{find_of}
use Rattle.basex.specs.Response.{Item, Response, item_bytes, Stands}
use Rattle.basex_response.specs.declared.ItemAt.{ItemAt}
use Rattle.basex_response.specs.declared.ItemAt.TheVariants as item-at
use Rattle.basex_response.specs.Items.{next, item_at}
use Rattle.basex_response.specs.Reading as responses
use Rattle.basex_response.specs.Reading.{all_texts}
use Rattle.basex_response.specs.Writing.{item_of, full_of}
use Rattle.basex_laws.specs.Calls.{listed_of, handed, handed_next}
use Rattle.basex_laws.proofs.Exactly.{told_exactly}
use Rattle.basex_laws.proofs.Laws.{items-all}
use Rattle.basex_laws.proofs.Responses.{response_exact}
use Rattle.basex_c.specs.Codes.{Outcome, lent}
use Rattle.demands.specs.Answered.{Answered, answered}
use Rattle.demands.specs.BaseXCalls.{Lendable, Called, telling, Lists, item_numbers, onward, walked}
use Rattle.demands.proofs.BaseXCalls.Answers.{refused_as, counts}
use Rattle.demands.proofs.BaseXCalls.Items.{item-some, asks, comes}

-- the items that calls tell are those that the library hands out
module _ (kind : ℕ) (s : List ℕ) (short : Lendable s) (out told : List ℕ) (three : 3 ≤ length told) (full : Bool) (l : Lists kind full) where
  abbrev goes : ℕ → ℕ → (ℕ → ℕ → List Item) → Called → List Item
  goes at to then c = onward full out at to c.answer (item_numbers c.told) then

  counted_as : (n : ℕ) (ns : List ℕ) → length ns ≤ length told
      → telling [] 0 [] told (lent (length told) (Outcome.counted n ns)) ≡ record { answer = answered n; out = splice [] 0 []; told = ns ++ drop (length ns) told }
  counted_as n ns h = rw (le-ltb (length told) (length ns) h)

  step : (at to : ℕ) (then more : ℕ → ℕ → List Item) → ((a t : ℕ) → then a t ≡ more a t) → (y : Result ItemAt Refusal) → item_at full at (length s - at) (next full (drop at s)) ≡ y
      → goes at to then (comes kind s at told y) ≡ handed_next full out to y more
  step at to then more same (Err r) e = ap (goes at to then) (refused_as [] 0 [] told r)
  step at to then more same (Ok (item-at.End n)) e = ap (goes at to then) (counted_as 0 [] (omega arith))
  step at to then more same (Ok (item-at.Item id uri text n)) e =
      let t = (told_exactly.item-told full s at id uri text n).0 e in
      let bytes = item_bytes t.item in
      let c = counts s short bytes n t.place at t.stands in
      let d = ap length t.stands ∙ length-append bytes (drop n s) in
      let a = length-drop at s in
      let b = length-drop n s in
      let p = t.place in
      let z : at + length bytes ≡ n = omega (arith, item-some t.item) in
      let i = item_of full id (take uri (drop to out)) (take text (drop (to + uri) out)) in
      ap (goes at to then) (counted_as (n - at) (id ∷ uri ∷ text ∷ []) three)
      ∙ ap (λ (x : Answered). onward full out at to x (record { id = id; uri = uri; text = text }) then) c
      ∙ rw (ne_eqb (length bytes) 0 (λ w. omega (arith, item-some t.item)))
      (ap (λ (is : List Item). i ∷ is) (same (at + length bytes) (to + (uri + text)) ∙ ap (λ (m : ℕ). more m (to + (uri + text))) z))

  module _ (whole : full_of (find_of kind) ≡ full) where
    walks : (n at to : ℕ) → walked n kind s out told at to ≡ handed n full s out at to
    unfolding walked handed
    walks zero at to = refl
    walks (suc n) at to =
        rw whole (ap (λ (y : Result ItemAt Refusal). goes at to (walked n kind s out told) (comes kind s at told y)) (asks kind s at full l)
        ∙ step at to (walked n kind s out told) (handed n full s out) (walks n) (item_at full at (length s - at) (next full (drop at s))) refl)

lists_of : (kind : ℕ) (f : Option (ℕ × Reply)) → find_of kind ≡ f → listed_of f ≡ true → Lists kind (full_of f)
lists_of kind None k e = cc
lists_of kind (Some (n, reply)) k e = record { strings = n; reply = reply; known = k; list = e; uris = refl }

pub items_walked : (kind : ℕ) (s : List ℕ) → Lendable s → listed_of (find_of kind) ≡ true → (r : Response) (rest out told : List ℕ) → Stands kind r s rest
    → length (flatten (all_texts r)) ≤ length out → 3 ≤ length told
    → walked (suc (length r.items)) kind s (splice out 0 (flatten (all_texts r))) told 0 0 ≡ r.items
items_walked kind s short l r rest out told h fits three =
    let full = full_of (find_of kind) in
    let e = (response_exact kind s r rest).1 h in
    let p : output_read responses.text_bytes out 0 (responses.reading kind s) ≡ splice out 0 (flatten (all_texts r)) = ap (output_read responses.text_bytes out 0) e
    ∙ put_at-fits out 0 (flatten (all_texts r)) (omega arith) in
    walks kind s short (splice out 0 (flatten (all_texts r))) told three full (lists_of kind (find_of kind) refl l) refl (suc (length r.items)) 0 0
    ∙ ap (λ (o : List ℕ). handed (suc (length r.items)) full s o 0 0) (sym p)
    ∙ items-all kind s r rest out l e fits
