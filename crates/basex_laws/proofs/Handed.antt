-- A caller who walks the items gets each of them, with its id, URI and text.
use Rattle.std.specs.Prelude.{Ok}
use mathlib.Core.Path.{◌≡◌, refl, sym, ap, ap₂, ◌∙◌}
use mathlib.Core.List.{List, [], ◌∷◌, ◌++◌, append_assoc, append-nil, flatten, flat_map}
use mathlib.Core.Bool.{Bool, true, false}
use Prim.Native.Nat.{ℕ, zero, suc, ◌+◌, ◌-◌, ◌≤◌}
use native.Mathlib.Omega.{arith}
use lib.ListN.{length, take, drop, length-append}
use lib.Seq.{drop-append_seam, take-append_seam}
use Rattle.wire.specs.Bytes.{if}
use Rattle.wire.specs.Fields.{Got}
use Rattle.basex.specs.Kinds.{has_uri, item_strings}
use Rattle.basex.specs.Response.{Item, item_bytes, items_bytes, ItemAllowed, ItemsAllowed}
use Rattle.basex_response.proofs.Sizes.{flatten-append}
use Rattle.basex_response.specs.declared.ItemAt.TheVariants as item-at
use Rattle.basex_response.specs.Items.{Next, next, item_texts, uri_length, text_length, item_at}
use Rattle.basex_response.specs.Writing.{item_of}
use Rattle.basex_laws.specs.Calls.{handed, uri_of, text_of}
use Rattle.basex_laws.proofs.Listed.{next-item, next-end}

module _ (full : Bool) where
  -- what an item is made of
  pub record Made (i : Item) : Type 0 where
    pub is : item_of full i.id (uri_of full i) (text_of full i) ≡ i
    pub flat : flatten i.texts ≡ uri_of full i ++ text_of full i
    pub uri : length (uri_of full i) ≡ uri_length full i
    pub text : length (text_of full i) ≡ text_length full i

  pub made : (i : Item) → length i.texts ≡ item_strings full i.id → Made i
  unfolding flatten
  made i h = by i.id (has_uri full i.id) refl i.texts h
    where
      by : (id : ℕ) (b : Bool) → has_uri full id ≡ b → (ts : List (List ℕ)) → length ts ≡ if (has_uri full id) 2 1 → Made (record { id = id; texts = ts })
      by id true p (a ∷ c ∷ []) h = record { is = rw p refl; flat = rw p (ap (λ (m : List ℕ). a ++ m) (append-nil c)); uri = rw p refl; text = rw p refl }
      by id true p [] h = let z = rw p at h in absurd (omega arith)
      by id true p (a ∷ []) h = let z = rw p at h in absurd (omega arith)
      by id true p (a ∷ c ∷ d ∷ ts) h = let z = rw p at h in absurd (omega arith)
      by id false p (a ∷ []) h = record { is = rw p refl; flat = rw p (append-nil a); uri = rw p refl; text = rw p refl }
      by id false p [] h = let z = rw p at h in absurd (omega arith)
      by id false p (a ∷ c ∷ ts) h = let z = rw p at h in absurd (omega arith)

  -- at an item, and at the end, whatever stands ahead
  module _ (s front rest : List ℕ) where
    pub item-told : (i : Item) → ItemAllowed full i → s ≡ front ++ (item_bytes i ++ rest)
        → item_at full (length front) (length s - length front) (next full (drop (length front) s)) ≡ Ok (item-at.Item i.id (uri_length full i) (text_length full i) (length front + length (item_bytes i)))
    item-told i a e =
        let d : drop (length front) s ≡ item_bytes i ++ rest = ap (drop (length front)) e ∙ drop-append_seam front (item_bytes i ++ rest) in
        let n : next full (drop (length front) s) ≡ Got.got (Next.item i) rest = ap (next full) d ∙ next-item full i rest a in
        let l = ap length e ∙ length-append front (item_bytes i ++ rest) in
        let m = length-append (item_bytes i) rest in
        let k : length front + (length s - length front - length rest) ≡ length front + length (item_bytes i) = omega arith in
        rw n (ap (λ (m : ℕ). Ok (item-at.Item i.id (uri_length full i) (text_length full i) m)) k)

    pub end-told : s ≡ front ++ (0 ∷ rest) → item_at full (length front) (length s - length front) (next full (drop (length front) s)) ≡ Ok (item-at.End (length front + 1))
    end-told e =
        let d : drop (length front) s ≡ 0 ∷ rest = ap (drop (length front)) e ∙ drop-append_seam front (0 ∷ rest) in
        let n : next full (drop (length front) s) ≡ Got.got Next.end rest = ap (next full) d ∙ next-end full rest in
        let l = ap length e ∙ length-append front (0 ∷ rest) in
        let k : length front + (length s - length front - length rest) ≡ length front + 1 = omega arith in
        rw n (ap (λ (m : ℕ). Ok (item-at.End m)) k)

  -- a text that stands in the output behind so many bytes
  text-there : (out before t rest : List ℕ) → out ≡ before ++ (t ++ rest) → take (length t) (drop (length before) out) ≡ t
  text-there out before t rest e = rw (ap (drop (length before)) e ∙ drop-append_seam before (t ++ rest)) (take-append_seam t rest)

  pub items_handed : (is : List Item) (n : ℕ) (s front rest out before last : List ℕ) → ItemsAllowed full is → length is ≤ n → s ≡ front ++ (items_bytes is ++ (0 ∷ rest))
      → out ≡ before ++ (flatten (item_texts is) ++ last)
      → handed (suc n) full s out (length front) (length before) ≡ is
  unfolding handed flat_map
  items_handed [] n s front rest out before last a h e o = rw (end-told s front rest e) refl
  items_handed (i ∷ is) zero s front rest out before last a h e o = absurd (omega arith)
  items_handed (i ∷ is) (suc n) s front rest out before last a h e o =
      let m = made i a.0.1 in
      let uri = uri_of full i in
      let text = text_of full i in
      let more = flatten (item_texts is) ++ last in
      let b : s ≡ front ++ (item_bytes i ++ (items_bytes is ++ (0 ∷ rest))) = e ∙ ap (λ (m : List ℕ). front ++ m) (append_assoc (item_bytes i) (items_bytes is) (0 ∷ rest)) in
      let f : flatten (item_texts (i ∷ is)) ++ last ≡ uri ++ text ++ more = ap (λ (m : List ℕ). m ++ last)
      (flatten-append i.texts (item_texts is) ∙ ap (λ (m : List ℕ). m ++ flatten (item_texts is)) m.flat) ∙ append_assoc (uri ++ text) (flatten (item_texts is)) last in
      let p : out ≡ before ++ (uri ++ (text ++ more)) = o ∙ ap (λ (m : List ℕ). before ++ m) (f ∙ append_assoc uri text more) in
      let q : out ≡ before ++ uri ++ (text ++ more) = p ∙ sym (append_assoc before uri (text ++ more)) in
      let w : out ≡ before ++ uri ++ text ++ more = q ∙ sym (append_assoc (before ++ uri) text more) in
      let k : length before + uri_length full i ≡ length (before ++ uri) = ap (λ (m : ℕ). length before + m) (sym m.uri) ∙ sym (length-append before uri) in
      let j : length before + (uri_length full i + text_length full i) ≡ length (before ++ uri ++ text) = let x = length-append before uri in
      let y = length-append (before ++ uri) text in let z = m.uri in let v = m.text in omega arith in
      let u : take (uri_length full i) (drop (length before) out) ≡ uri = ap (λ (m : ℕ). take m (drop (length before) out)) (sym m.uri) ∙ text-there out before uri (text ++ more) p in
      let t : take (text_length full i) (drop (length before + uri_length full i) out) ≡ text = ap₂ (λ (m l : ℕ). take m (drop l out)) (sym m.text) k ∙ text-there out (before ++ uri) text more q in
      let c = items_handed is n s (front ++ item_bytes i) rest out (before ++ uri ++ text) last a.1 (omega arith) (b ∙ sym (append_assoc front (item_bytes i) (items_bytes is ++ (0 ∷ rest)))) w in
      let g : handed (suc n) full s out (length front + length (item_bytes i)) (length before + (uri_length full i + text_length full i)) ≡ is = ap₂ (handed (suc n) full s out)
      (sym (length-append front (item_bytes i))) j ∙ c in
      rw (item-told s front (items_bytes is ++ (0 ∷ rest)) i a.0 b) (ap₂ (λ (x : Item) (xs : List Item). x ∷ xs) (ap₂ (item_of full i.id) u t ∙ m.is) g)
