-- Writing a response item by item and its end: only published values are written, and every other call gets the refusal that is due.
use Rattle.std.specs.Prelude.{Option, Some, None, Result, Ok, Err}
use Rattle.wire.specs.declared.Refusal.{Refusal}
use mathlib.Core.Path.{◌≡◌, refl, sym, ap, subst, ◌∙◌}
use mathlib.Core.List.{List, [], ◌∷◌}
use mathlib.Core.Bool.{Bool, true, false}
use mathlib.Core.Logic.{◌↔◌}
use Prim.Native.Nat.{ℕ, zero, suc, ◌+◌, ◌≤◌, ◌<◌}
use native.Mathlib.Omega.{arith}
use lib.ListN.{length, take, get_or}
use lib.Seq.{length-take-le}
use borrow.Author.Tests.{leb-true, leb-false, lt-leb}
use Rattle.wire.specs.Bytes.{if, splice}
use Rattle.wire.specs.Call.{in_room, output_after}
use Rattle.wire.specs.declared.Refusal.TheVariants.{ValueNotAllowed}
use Rattle.basex.specs.declared.Reply.{Reply}
use Rattle.basex.specs.Kinds.{find_of, ahead, behind, listed, is_full, id_allowed, has_uri, status_allowed}
use Rattle.basex.specs.Response.{Item, Response, item_bytes, encode, ListAllowed}
use Rattle.basex.specs.Texts.{unused}
use Rattle.basex_response.specs.Writing.{item_of, item_written_as, item_written, full_of, end_of, end_written_as, end_written, end_bytes}
use Rattle.basex_request.proofs.Written.{taken_or_empty}
use Rattle.basex_response.proofs.Fields.{ahead-few, behind-few}
use Rattle.basex_laws.specs.Exactly.{Spare, Fits, MeansItem, ItemUnwritten, MeansEnd, EndUnwritten}
use Rattle.basex_laws.proofs.Handed.{made}
use Rattle.basex_laws.proofs.Chosen.{chosen, exactly, roomed, room_back, no-room_back}
use Rattle.basex_laws.proofs.Spare.{spare-found, spare-unused, none-spare, given_back}
use Rattle.basex_laws.proofs.Wrote.{uri-fits}

-- the answer 8
abbrev Eight : Result ℕ Refusal → Type 0
Eight x = x ≡ Err ValueNotAllowed

eight : {P : Type 0} → P → Eight (Err ValueNotAllowed)
eight p = refl

module _ (room at kind id : ℕ) (uri text : List ℕ) where
  item-means : (i : Item) → MeansItem kind id uri text i → item_written room at kind id uri text ≡ in_room room at (length (item_bytes i))
  unfolding item_written
  item-means i m =
      let full = is_full m.reply in
      rw (sym m.named, sym m.one, sym m.two) (rw m.known
      (rw (m.list, m.allowed.0) (rw (uri-fits full i) (ap (λ (j : Item). in_room room at (length (item_bytes j))) (made full i m.allowed.1).is))))

  abbrev ItemDue : Result ℕ Refusal → Type 0
  ItemDue (Ok n) = (i : Item) × MeansItem kind id uri text i × Fits room at (item_bytes i) n
  ItemDue (Err r) = ItemUnwritten room at kind id uri text r

  item_back : (y : Result ℕ Refusal) → ItemDue y → item_written room at kind id uri text ≡ y
  unfolding item_written
  item_back (Ok n) w = room_back (item_written room at kind id uri text) room at (item_bytes w.0) (item-means w.0 w.1) n w.2
  item_back (Err r) (ItemUnwritten.unknown f) = rw f refl
  item_back (Err r) (ItemUnwritten.unlisted n reply f l) = rw f (rw l refl)
  item_back (Err r) (ItemUnwritten.bad_id n reply f h) = rw f (rw h (chosen Eight (listed reply) eight eight))
  item_back (Err r) (ItemUnwritten.spare n reply f h u) =
      let s : Spare 0 (uri ∷ []) = record { number = 0; beyond = omega arith; filled = u } in
      rw f (rw (h, spare-unused (uri ∷ []) 0 s) (chosen Eight (listed reply) (λ _. chosen Eight (id_allowed id) eight eight) eight))
  item_back (Err r) (ItemUnwritten.no_room i m h) = no-room_back (item_written room at kind id uri text) room at (item_bytes i) (item-means i m) h

  module _ (n : ℕ) (reply : Reply) (found : find_of kind ≡ Some (n, reply)) where
    -- the item that is meant where nothing is refused
    item-meant : listed reply ≡ true → id_allowed id ≡ true → if (has_uri (is_full reply) id) true (unused 0 (uri ∷ [])) ≡ true → MeansItem kind id uri text (item_of (is_full reply) id uri text)
    item-meant l a u = by (has_uri (is_full reply) id) refl u
      where
        by : (b : Bool) → has_uri (is_full reply) id ≡ b → if b true (unused 0 (uri ∷ [])) ≡ true → MeansItem kind id uri text (item_of (is_full reply) id uri text)
        by true p u = record { strings = n; reply = reply; known = found; list = l; allowed = (a, rw p refl); named = refl; one = rw p refl; two = rw p refl }
        by false p u = record {
          strings = n;
          reply = reply;
          known = found;
          list = l;
          allowed = (a, rw p refl);
          named = refl;
          one = rw p (sym (none-spare (uri ∷ []) 0 0 u (omega arith)));
          two = rw p refl;
        }

    uri-spare : if (has_uri (is_full reply) id) true (unused 0 (uri ∷ [])) ≡ false → ItemUnwritten room at kind id uri text ValueNotAllowed
    uri-spare u = by (has_uri (is_full reply) id) refl u
      where
        filled : Spare 0 (uri ∷ []) → 0 < length uri
        filled s = at_zero s.number s.filled
          where
            at_zero : (k : ℕ) → 0 < length (get_or (uri ∷ []) k []) → 0 < length uri
            at_zero zero h = h
            at_zero (suc k) h = absurd (omega arith)

        by : (b : Bool) → has_uri (is_full reply) id ≡ b → if b true (unused 0 (uri ∷ [])) ≡ false → ItemUnwritten room at kind id uri text ValueNotAllowed
        by true p u = let z : ◌≡◌ {A = ℕ} 0 1 = cc in absurd (omega arith)
        by false p u = ItemUnwritten.spare n reply found p (filled (spare-found (uri ∷ []) 0 u))

  item_due : ItemDue (item_written room at kind id uri text)
  unfolding item_written
  item_due = by (find_of kind) refl
    where
      by : (f : Option (ℕ × Reply)) → find_of kind ≡ f → ItemDue (item_written_as room at f id uri text)
      by None p = ItemUnwritten.unknown p
      by (Some (n, reply)) p =
          let i = item_of (is_full reply) id uri text in
          chosen ItemDue (listed reply)
          (λ l. chosen ItemDue (id_allowed id)
          (λ a. chosen ItemDue (if (has_uri (is_full reply) id) true (unused 0 (uri ∷ [])))
          (λ u. let m = item-meant n reply p l a u in roomed ItemDue room at (item_bytes i) (λ k f. (i, m, f)) (ItemUnwritten.no_room i m))
          (uri-spare n reply p))
          (ItemUnwritten.bad_id n reply p))
          (ItemUnwritten.unlisted n reply p)

  pub item-exactly : (y : Result ℕ Refusal) → (item_written room at kind id uri text ≡ y) ↔ ItemDue y
  item-exactly y = exactly ItemDue (item_written room at kind id uri text) item_due y (item_back y)

-- .. and its bytes stand in the output then
pub item_there : (out : List ℕ) (at kind id : ℕ) (uri text : List ℕ) (i : Item) → MeansItem kind id uri text i → at + length (item_bytes i) ≤ length out
    → output_after (item_written (length out) at kind id uri text) out at (item_bytes (item_of (full_of (find_of kind)) id uri text)) ≡ splice out at (item_bytes i)
item_there out at kind id uri text i m h =
    let w = item_back (length out) at kind id uri text (Ok (length (item_bytes i))) (i, m, record { count = refl; within = h }) in
    let e : item_of (full_of (find_of kind)) id uri text ≡ i = rw (sym m.named, sym m.one, sym m.two) (rw m.known (made (is_full m.reply) i m.allowed.1).is) in
    ap (λ (c : Result ℕ Refusal). output_after c out at (item_bytes (item_of (full_of (find_of kind)) id uri text))) w ∙ rw e refl

-- a response that may be written as an end: its texts and its error are what is given, and none is spare
module _ (kind : ℕ) (first second : List ℕ) (status : ℕ) (error : List ℕ) (reply : Reply) (r : Response) (m : MeansEnd kind first second status error reply r) where
  texts-taken : (take (ahead reply) (first ∷ second ∷ []) ≡ r.texts) × (unused (ahead reply) (first ∷ second ∷ []) ≡ true)
  texts-taken =
      let l = m.published.first in
      let f = ahead-few reply in
      subst (λ (n : ℕ). (take n (first ∷ second ∷ []) ≡ r.texts) × (unused n (first ∷ second ∷ []) ≡ true)) l (given_back r.texts (first ∷ second ∷ []) (omega arith) by)
    where
      by : (k : ℕ) → k < 2 → get_or r.texts k [] ≡ get_or (first ∷ second ∷ []) k []
      by zero h = m.one
      by (suc zero) h = m.two
      by (suc (suc k)) h = absurd (omega arith)

  error-taken : (take (behind reply status) (error ∷ []) ≡ r.error) × (unused (behind reply status) (error ∷ []) ≡ true)
  error-taken =
      let s : r.status ≤ 1 = leb-true r.status 1 m.published.ended in
      let f = behind-few reply r.status in
      let l = m.published.last in
      let e : length r.error ≡ behind reply status = l ∙ ap (behind reply) m.state in
      subst (λ (n : ℕ). (take n (error ∷ []) ≡ r.error) × (unused n (error ∷ []) ≡ true)) e (given_back r.error (error ∷ []) (omega arith) by)
    where
      by : (k : ℕ) → k < 1 → get_or r.error k [] ≡ get_or (error ∷ []) k []
      by zero h = m.last
      by (suc k) h = absurd (omega arith)

  end_is : end_of reply first second status error ≡ r
  end_is = λ i. record { texts = texts-taken.0 i; items = sym m.bare i; status = sym m.state i; error = error-taken.0 i }

  end-means : (room at : ℕ) → end_written room at kind first second status error ≡ in_room room at (length (encode reply r))
  unfolding end_written
  end-means room at =
      let s : status_allowed status ≡ true = ap status_allowed (sym m.state) ∙ m.published.ended in
      rw m.known (rw s (rw texts-taken.1 (rw error-taken.1 (ap (λ (q : Response). in_room room at (length (encode reply q))) end_is))))

module _ (room at kind : ℕ) (first second : List ℕ) (status : ℕ) (error : List ℕ) where
  abbrev answer : Result ℕ Refusal
  answer = end_written room at kind first second status error

  abbrev EndDue : Result ℕ Refusal → Type 0
  EndDue (Ok n) = (reply : Reply) × (r : Response) × MeansEnd kind first second status error reply r × Fits room at (encode reply r) n
  EndDue (Err r) = EndUnwritten room at kind first second status error r

  end_back : (y : Result ℕ Refusal) → EndDue y → answer ≡ y
  unfolding end_written
  end_back (Ok n) w = room_back answer room at (encode w.0 w.1) (end-means kind first second status error w.0 w.1 w.2 room at) n w.3
  end_back (Err r) (EndUnwritten.unknown f) = rw f refl
  end_back (Err r) (EndUnwritten.bad_status n reply f h) = rw f (rw (lt-leb status 1 h) refl)
  end_back (Err r) (EndUnwritten.spare n reply f s) = rw f (rw (spare-unused (first ∷ second ∷ []) (ahead reply) s) (chosen Eight (status_allowed status) eight eight))
  end_back (Err r) (EndUnwritten.spare_error n reply f s) =
      rw f (rw (spare-unused (error ∷ []) (behind reply status) s) (chosen Eight (status_allowed status) (λ _. chosen Eight (unused (ahead reply) (first ∷ second ∷ [])) eight eight) eight))
  end_back (Err r) (EndUnwritten.no_room reply p m h) = no-room_back answer room at (encode reply p) (end-means kind first second status error reply p m room at) h

  module _ (n : ℕ) (reply : Reply) (found : find_of kind ≡ Some (n, reply)) where
    none-listed : ListAllowed (listed reply) (is_full reply) []
    none-listed = by (listed reply)
      where
        by : (b : Bool) → ListAllowed b (is_full reply) []
        by true = tt
        by false = refl

    -- the response that is meant where nothing is refused
    end-meant : status_allowed status ≡ true → unused (ahead reply) (first ∷ second ∷ []) ≡ true → unused (behind reply status) (error ∷ []) ≡ true
        → MeansEnd kind first second status error reply (end_of reply first second status error)
    end-meant s u v =
        let f = ahead-few reply in
        let h : status ≤ 1 = leb-true status 1 s in
        let g = behind-few reply status in
        record {
          strings = n;
          known = found;
          published = record {
            first = length-take-le (ahead reply) (first ∷ second ∷ []) (omega arith);
            list = none-listed;
            ended = s;
            last = length-take-le (behind reply status) (error ∷ []) (omega arith);
          };
          bare = refl;
          state = refl;
          one = taken_or_empty (first ∷ second ∷ []) (ahead reply) 0 u;
          two = taken_or_empty (first ∷ second ∷ []) (ahead reply) 1 u;
          last = taken_or_empty (error ∷ []) (behind reply status) 0 v;
        }

  end-due : EndDue answer
  unfolding end_written
  end-due = by (find_of kind) refl
    where
      by : (f : Option (ℕ × Reply)) → find_of kind ≡ f → EndDue (end_written_as room at f first second status error)
      by None p = EndUnwritten.unknown p
      by (Some (n, reply)) p =
          let r = end_of reply first second status error in
          chosen EndDue (status_allowed status)
          (λ s. chosen EndDue (unused (ahead reply) (first ∷ second ∷ []))
          (λ u. chosen EndDue (unused (behind reply status) (error ∷ []))
          (λ v. let m = end-meant n reply p s u v in roomed EndDue room at (encode reply r) (λ k f. (reply, r, m, f)) (EndUnwritten.no_room reply r m))
          (λ v. EndUnwritten.spare_error n reply p (spare-found (error ∷ []) (behind reply status) v)))
          (λ u. EndUnwritten.spare n reply p (spare-found (first ∷ second ∷ []) (ahead reply) u)))
          (λ s. EndUnwritten.bad_status n reply p (leb-false status 1 s))

  pub end-exactly : (y : Result ℕ Refusal) → (end_written room at kind first second status error ≡ y) ↔ EndDue y
  end-exactly y = exactly EndDue answer end-due y (end_back y)

pub end_there : (out : List ℕ) (at kind : ℕ) (first second : List ℕ) (status : ℕ) (error : List ℕ) (reply : Reply) (r : Response)
    → MeansEnd kind first second status error reply r → at + length (encode reply r) ≤ length out
    → output_after (end_written (length out) at kind first second status error) out at (end_bytes (find_of kind) first second status error) ≡ splice out at (encode reply r)
end_there out at kind first second status error reply r m h =
    let w = end_back (length out) at kind first second status error (Ok (length (encode reply r))) (reply, r, m, record { count = refl; within = h }) in
    let e : end_bytes (find_of kind) first second status error ≡ encode reply r = rw m.known (ap (encode reply) (end_is kind first second status error reply r m)) in
    ap (λ (c : Result ℕ Refusal). output_after c out at (end_bytes (find_of kind) first second status error)) w ∙ rw e refl
