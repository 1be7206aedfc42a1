-- Responses as a caller sees them: read after written, written after read, the items handed out, and refusals.
use Rattle.std.specs.Prelude.{Err, Some}
use mathlib.Core.Path.{◌≡◌, refl, sym, ap, ap₂, ◌∙◌}
use mathlib.Core.List.{List, [], ◌∷◌, ◌++◌, append_assoc, flatten, flat_map}
use mathlib.Core.Bool.{Bool, true, false}
use Prim.Native.Nat.{ℕ, suc, ◌+◌, ◌-◌, ◌≤◌, ◌<◌}
use native.Mathlib.Omega.{arith}
use lib.Dec.{ltb}
use lib.ListN.{length, take, drop, length-append}
use lib.Seq.{take-append_seam}
use borrow.Author.Tests.{ltb-true}
use Rattle.wire.specs.Bytes.{splice}
use Rattle.wire.specs.Call.{put_at}
use Rattle.wire.specs.Fields.{Got}
use Rattle.wire.specs.declared.Refusal.{Refusal}
use Rattle.wire.proofs.Splices.{put_at-fits, put_at_not}
use Rattle.basex_string.specs.Answers.{output_read}
use Rattle.basex.specs.declared.Reply.{Reply}
use Rattle.basex.specs.declared.Reply.TheVariants.{Command, Create, Query, Results, Full}
use Rattle.basex.specs.Kinds.{find_of, ahead, listed, is_full}
use Rattle.basex.specs.Response.{Response, items_bytes, list_bytes, encode, ItemsAllowed, Published}
use Rattle.basex.specs.Texts.{strings}
use Rattle.basex_response.specs.Items.{item_texts}
use Rattle.basex_response.specs.Reading.{reading, all_texts, answered, text_bytes}
use Rattle.basex_response.specs.Writing.{full_of}
use Rattle.basex_laws.specs.Calls.{listed_of, handed, responded}
use Rattle.basex_response.proofs.Sizes.{flatten-append}
use Rattle.basex_laws.proofs.Handed.{items_handed}
use Rattle.basex_laws.proofs.Responses.{response_exact}
use Rattle.basex_laws.proofs.Wrote.{response_written}

-- what was written reads as the same response, and what stands behind it is left
pub read_written : (kind n : ℕ) (reply : Reply) → find_of kind ≡ Some (n, reply) → (r : Response) → Published reply r → (rest : List ℕ) → reading kind (encode reply r ++ rest) ≡ Got.got r rest
read_written kind n reply k r p rest = (response_exact kind (encode reply r ++ rest) r rest).1 (record { strings = n; reply = reply; known = k; published = p; encoded = refl })

-- what stands behind does not matter
pub behind_free : (kind : ℕ) (s : List ℕ) (r : Response) (rest more : List ℕ) → reading kind s ≡ Got.got r rest → reading kind (take (length s - length rest) s ++ more) ≡ Got.got r more
behind_free kind s r rest more e =
    let h = (response_exact kind s r rest).0 e in
    let l = ap length h.encoded ∙ length-append (encode h.reply r) rest in
    let n : length s - length rest ≡ length (encode h.reply r) = omega arith in
    let t : take (length s - length rest) s ≡ encode h.reply r = ap₂ (λ (m : ℕ) (b : List ℕ). take m b) n h.encoded ∙ take-append_seam (encode h.reply r) rest in
    rw t (read_written kind h.strings h.reply h.known r h.published more)

-- writing what was read gives the same bytes
pub write_read : (kind : ℕ) (s : List ℕ) (r : Response) (rest : List ℕ) → reading kind s ≡ Got.got r rest → (out : List ℕ) → length s - length rest ≤ length out
    → responded kind r (record { bytes = out; at = 0 }) ≡ record { bytes = splice out 0 (take (length s - length rest) s); at = length s - length rest }
write_read kind s r rest e out room =
    let h = (response_exact kind s r rest).0 e in
    let l = ap length h.encoded ∙ length-append (encode h.reply r) rest in
    let n : length s - length rest ≡ length (encode h.reply r) = omega arith in
    let t : take (length s - length rest) s ≡ encode h.reply r = ap₂ (λ (m : ℕ) (b : List ℕ). take m b) n h.encoded ∙ take-append_seam (encode h.reply r) rest in
    let w = response_written kind h.strings h.reply h.known r h.published out 0 (omega arith) in
    let m : 0 + length (encode h.reply r) ≡ length s - length rest = omega arith in
    w ∙ ap₂ (λ (b : List ℕ) (m : ℕ). record { bytes = splice out 0 b; at = m }) (sym t) m

-- a refused reading leaves every byte of the lent output
pub refused-left : (kind : ℕ) (s out : List ℕ) (r : Refusal) → answered (length s) (length out) (reading kind s) ≡ Err r → output_read text_bytes out 0 (reading kind s) ≡ out
refused-left kind s out r e = by (reading kind s) e
  where
    by : (x : Got Response) → answered (length s) (length out) x ≡ Err r → output_read text_bytes out 0 x ≡ out
    by (Got.refused q) d = refl
    by (Got.got p rest) d = room (ltb (length out) (length (flatten (all_texts p)))) refl d
      where
        room : (b : Bool) → ltb (length out) (length (flatten (all_texts p))) ≡ b → answered (length s) (length out) (Got.got p rest) ≡ Err r → put_at out 0 (flatten (all_texts p)) ≡ out
        room true f d = let k : length out < length (flatten (all_texts p)) = ltb-true _ _ f in put_at_not out 0 (flatten (all_texts p)) (omega arith)
        room false f d = let g = rw f at d in let z : ◌≡◌ {A = ℕ} 0 1 = cc in absurd (omega arith)

listed-none : (reply : Reply) → listed reply ≡ true → ahead reply ≡ 0
listed-none Command l = let z : ◌≡◌ {A = ℕ} 0 1 = cc in absurd (omega arith)
listed-none Create l = let z : ◌≡◌ {A = ℕ} 0 1 = cc in absurd (omega arith)
listed-none Query l = let z : ◌≡◌ {A = ℕ} 0 1 = cc in absurd (omega arith)
listed-none Results l = refl
listed-none Full l = refl

empty : (ts : List (List ℕ)) → length ts ≡ 0 → ts ≡ []
empty [] e = refl
empty (t ∷ ts) e = absurd (omega arith)

-- of a response with items that was read, the calls of item_at hand out each of them, in order, with its id, URI and text
pub items-all : (kind : ℕ) (s : List ℕ) (r : Response) (rest out : List ℕ) → listed_of (find_of kind) ≡ true → reading kind s ≡ Got.got r rest → length (flatten (all_texts r)) ≤ length out
    → handed (suc (length r.items)) (full_of (find_of kind)) s (output_read text_bytes out 0 (reading kind s)) 0 0 ≡ r.items
unfolding encode flat_map splice
items-all kind s r rest out l e room =
    let h = (response_exact kind s r rest).0 e in
    let reply = h.reply in
    let p = h.published in
    let y : listed reply ≡ true = rw h.known at l in
    let is = r.items in
    let a : ItemsAllowed (is_full reply) is = rw y at p.list in
    let none = empty r.texts (p.first ∙ listed-none reply y) in
    let tail = r.status ∷ strings r.error in
    let b : s ≡ [] ++ (items_bytes is ++ (0 ∷ (tail ++ rest))) = h.encoded ∙ ap (λ (ts : List (List ℕ)). strings ts ++ (list_bytes reply is ++ tail) ++ rest) none
    ∙ rw y (append_assoc (items_bytes is ++ (0 ∷ [])) tail rest ∙ append_assoc (items_bytes is) (0 ∷ []) (tail ++ rest)) in
    let f : flatten (all_texts r) ≡ flatten (item_texts is) ++ flatten r.error = ap (λ (ts : List (List ℕ)). flatten (ts ++ (item_texts is ++ r.error))) none
    ∙ flatten-append (item_texts is) r.error in
    let last = drop (0 + length (flatten (all_texts r))) out in
    let o : output_read text_bytes out 0 (reading kind s) ≡ [] ++ (flatten (item_texts is) ++ (flatten r.error ++ last)) = ap (output_read text_bytes out 0) e
    ∙ put_at-fits out 0 (flatten (all_texts r)) (omega arith) ∙ ap (λ (m : List ℕ). m ++ last) f ∙ append_assoc (flatten (item_texts is)) (flatten r.error) last in
    rw h.known (items_handed (is_full reply) is (length is) s [] (tail ++ rest) (output_read text_bytes out 0 (reading kind s)) [] (flatten r.error ++ last) a (omega arith) b o)
