-- The parts of a response where they stand in a slice, and what the reader answers of them.
use Rattle.std.specs.Prelude.{Ok, Err}
use mathlib.Core.Path.{◌≡◌, refl, sym, ap, ◌∙◌}
use mathlib.Core.Bool.{Bool, true, false}
use mathlib.Core.List.{List, [], ◌∷◌, ◌++◌, flatten, append_assoc, flat_map}
use Prim.Native.Nat.{ℕ, ◌+◌, ◌-◌, ◌≤◌, ◌<◌, min}
use native.Mathlib.Omega.{arith}
use lib.ListN.{length, get_or, drop, drop_of_length-le, length-drop}
use borrow.Author.Tests.{le-leb, lt-leb}
use Rattle.wire.specs.Bytes.{if}
use Rattle.wire.specs.Fields.{Got, go_on, give, required}
use Rattle.wire.specs.declared.Refusal.{Refusal}
use Rattle.wire.specs.declared.Refusal.TheVariants.{MoreBytes, ValueNotAllowed}
use Rattle.basex_string.proofs.Steps.{here}
use Rattle.basex_string.proofs.Handed.{ok-same}
use Rattle.basex.specs.declared.TwoAt.{TwoAt}
use Rattle.basex.specs.declared.Reply.{Reply}
use Rattle.basex.specs.declared.Reply.TheVariants.{Command, Create, Query, Results, Full}
use Rattle.basex.specs.Kinds.{ahead, behind, listed, is_full, status_allowed}
use Rattle.basex.specs.Response.{Item, Response, list_bytes, items_bytes}
use Rattle.basex.specs.Texts.{strings, texts, two_at, length_at}
use Rattle.basex.proofs.Texts.{texts_exact}
use Rattle.basex_response.specs.declared.items.ItemsAt.{ItemsAt}
use Rattle.basex_response.specs.declared.read.EndAt.{EndAt}
use Rattle.basex_response.specs.Items.{list, item_texts}
use Rattle.basex_response.specs.Reading.{read_as_response, list_field, fields_of, judgement}
use Rattle.basex_response.specs.inner.Judging.{items_there, items_at, Ending, ending, found_end, end_at}
use Rattle.basex_response.proofs.Sizes.{Two, two_here, two_not, all_of, behind-at, behind-is}
use Rattle.basex_response.proofs.Lists.{list_exact}

pub ahead-few : (reply : Reply) → ahead reply ≤ 2
ahead-few Command = omega arith
ahead-few Create = omega arith
ahead-few Query = omega arith
ahead-few Results = omega arith
ahead-few Full = omega arith

pub behind-few : (reply : Reply) (status : ℕ) → behind reply status ≤ status
behind-few Command status = omega arith
behind-few Create status = omega arith
behind-few Query status = omega arith
behind-few Results status = omega arith
behind-few Full status = omega arith

-- the list, or none
pub no-list : (reply : Reply) (b : List ℕ) (at : ℕ) → listed reply ≡ false → items_there 0 0 at ≡ items_at at (length b - at) (list_field reply (drop at b))
unfolding flat_map flatten
no-list reply b at e = let n : at ≡ at + (length b - at - length (drop at b)) = omega (arith, length-drop at b) in rw e (ap (items_there 0 0) n)

pub list_field_exact : (reply : Reply) (s : List ℕ) (is : List Item) (rest : List ℕ) → list_field reply s ≡ Got.got is rest → s ≡ list_bytes reply is ++ rest
list_field_exact reply s is rest e = by (listed reply) e
  where
    by : (t : Bool) → if t (list (is_full reply) s) (Got.got [] s) ≡ Got.got is rest → s ≡ if t (items_bytes is ++ (0 ∷ [])) [] ++ rest
    by true p = list_exact (is_full reply) s is rest p ∙ sym (append_assoc (items_bytes is) (0 ∷ []) rest)
    by false p = (cc)

-- the last fields
module _ (reply : Reply) (b : List ℕ) (at : ℕ) where
  pub end_past : length b ≤ at → Err MoreBytes ≡ end_at at (length b - at) (ending reply (drop at b))
  unfolding ending
  end_past h = rw (drop_of_length-le b h) refl

  module _ (h : at < length b) where
    pub status_high : 1 < get_or b at 0 → Err ValueNotAllowed ≡ end_at at (length b - at) (ending reply (drop at b))
    unfolding ending
    status_high k = rw (here b at h) (rw (lt-leb _ _ k) refl)

    module _ (k : get_or b at 0 ≤ 1) (n : ℕ) (e : n ≡ behind reply (get_or b at 0)) where
      few : n ≤ 2
      few = let m = behind-few reply (get_or b at 0) in omega arith

      reads : (x : Got (List (List ℕ))) → texts n (drop (at + 1) b) ≡ x → ending reply (drop at b) ≡ go_on x (λ es. give (record { status = get_or b at 0; error = es }))
      unfolding ending
      reads x p = rw (here b at h) (rw (le-leb _ _ k) (rw (sym e, p) refl))

      pub error-refused : (r : Refusal) → two_at (at + 1) (length b - (at + 1)) (texts (min n 2) (drop (at + 1) b)) ≡ Err r
          → Err r ≡ end_at at (length b - at) (ending reply (drop at b))
      error-refused r t = rw (reads _ (two_not b (at + 1) n few r t)) refl

      pub end-told : (found : TwoAt) → two_at (at + 1) (length b - (at + 1)) (texts (min n 2) (drop (at + 1) b)) ≡ Ok found
          → found_end (get_or b at 0) found.first found.next ≡ end_at at (length b - at) (ending reply (drop at b))
      end-told found t =
          let w = two_here b (at + 1) n few found t in
          let m : found.next ≡ at + (length b - at - length w.rest) = let k = w.ends in let l = w.whole in omega arith in
          rw (reads _ w.got) (cc (w.one, m))

ending_exact : (reply : Reply) (s : List ℕ) (e : Ending) (rest : List ℕ) → ending reply s ≡ Got.got e rest → s ≡ (e.status ∷ strings e.error) ++ rest
unfolding ending
ending_exact reply [] e rest p = let z : ◌≡◌ {A = ℕ} 0 1 = cc in absurd (omega arith)
ending_exact reply (status ∷ s) e rest p = by (status_allowed status) p
  where
    then : (x : Got (List (List ℕ))) → texts (behind reply status) s ≡ x → go_on {B = Ending} x (λ es. give (record { status = status; error = es })) ≡ Got.got e rest
        → status ∷ s ≡ (e.status ∷ strings e.error) ++ rest
    then (Got.refused r) q f = let z : ◌≡◌ {A = ℕ} 0 1 = cc in absurd (omega arith)
    then (Got.got es last) q f =
        let u : record { status = status; error = es } ≡ e = cc in
        let l : last ≡ rest = cc in
        ap (λ (m : List ℕ). status ∷ m) (texts_exact _ s es last q).1 ∙ ap (λ (d : Ending). (d.status ∷ strings d.error) ++ last) u ∙ ap (λ (m : List ℕ). (e.status ∷ strings e.error) ++ m) l

    by : (t : Bool) → go_on (required t ValueNotAllowed s) (λ _ more. go_on {B = Ending} (texts (behind reply status) more) (λ es. give (record { status = status; error = es })))
        ≡ Got.got e rest → status ∷ s ≡ (e.status ∷ strings e.error) ++ rest
    by false f = let z : ◌≡◌ {A = ℕ} 0 1 = cc in absurd (omega arith)
    by true f = then (texts (behind reply status) s) refl f

-- the fields one by one
module _ (reply : Reply) (s : List ℕ) where
  pub fields-refused : (r : Refusal) → texts (ahead reply) s ≡ Got.refused r → fields_of reply s ≡ Got.refused r
  unfolding fields_of
  fields-refused r e = rw e refl

  module _ (ts : List (List ℕ)) (more : List ℕ) (e : texts (ahead reply) s ≡ Got.got ts more) where
    pub fields-list-refused : (r : Refusal) → list_field reply more ≡ Got.refused r → fields_of reply s ≡ Got.refused r
    unfolding fields_of
    fields-list-refused r p = rw e (rw p refl)

    pub fields-end : (is : List Item) (last : List ℕ) → list_field reply more ≡ Got.got is last
        → fields_of reply s ≡ go_on (ending reply last) (λ d. give (record { texts = ts; items = is; status = d.status; error = d.error }))
    unfolding fields_of ending
    fields-end is [] p = rw e (rw p refl)
    fields-end is (status ∷ last) p = rw e (rw p (by (status_allowed status)))
      where
        then : (x : Got (List (List ℕ)))
            → go_on {B = Response} x (λ es. give (record { texts = ts; items = is; status = status; error = es }))
            ≡ go_on {B = Response} (go_on {B = Ending} x (λ es. give (record { status = status; error = es }))) (λ d. give (record { texts = ts; items = is; status = d.status; error = d.error }))
        then (Got.refused r) = refl
        then (Got.got es n) = refl

        by : (t : Bool)
            → go_on (required t ValueNotAllowed last) (λ _ m. go_on {B = Response} (texts (behind reply status) m) (λ es. give (record { texts = ts; items = is; status = status; error = es })))
            ≡ go_on {B = Response} (go_on (required t ValueNotAllowed last)
            (λ _ m. go_on {B = Ending} (texts (behind reply status) m) (λ es. give (record { status = status; error = es }))))
            (λ d. give (record { texts = ts; items = is; status = d.status; error = d.error }))
        by false = refl
        by true = then (texts (behind reply status) last)

-- the list, or none, stands at `at`
pub record Listed (reply : Reply) (b : List ℕ) (at : ℕ) (found : ItemsAt) : Type 0 where
  pub is : List Item
  pub rest : List ℕ
  pub got : list_field reply (drop at b) ≡ Got.got is rest
  pub counted : found.count ≡ length is
  pub sized : found.listed ≡ length (flatten (item_texts is))
  pub ends : found.next ≡ at + length (list_bytes reply is)
  pub behind : drop found.next b ≡ rest
  pub whole : length (list_bytes reply is) + length rest ≡ length b - at

-- the last fields stand at `at`
pub record Ended (reply : Reply) (b : List ℕ) (at : ℕ) (found : EndAt) : Type 0 where
  pub end : Ending
  pub rest : List ℕ
  pub got : ending reply (drop at b) ≡ Got.got end rest
  pub state : found.status ≡ end.status
  pub long : found.error ≡ length_at end.error 0
  pub ends : found.next ≡ at + (length b - at - length rest)
  pub whole : length rest < length b - at

module _ (reply : Reply) (b : List ℕ) (at : ℕ) where
  pub list_here : (found : ItemsAt) → items_at at (length b - at) (list_field reply (drop at b)) ≡ Ok found → Listed reply b at found
  list_here found e = by (list_field reply (drop at b)) refl e
    where
      by : (x : Got (List Item)) → list_field reply (drop at b) ≡ x → items_at at (length b - at) x ≡ Ok found → Listed reply b at found
      by (Got.refused r) p q = let z : ◌≡◌ {A = ℕ} 0 1 = cc in absurd (omega arith)
      by (Got.got is rest) p q =
          let x = list_field_exact reply (drop at b) is rest p in
          let y = sym (ok-same q) in
          let l : found.next ≡ at + (length b - at - length rest) = ap (λ (t : ItemsAt). t.next) y in
          let k = l ∙ behind-at b at (list_bytes reply is) rest x in
          record {
            is = is;
            rest = rest;
            got = p;
            counted = ap (λ (t : ItemsAt). t.count) y;
            sized = ap (λ (t : ItemsAt). t.listed) y;
            ends = k;
            behind = ap (λ (j : ℕ). drop j b) k ∙ behind-is b at (list_bytes reply is) rest x;
            whole = all_of b at (list_bytes reply is) rest x;
          }

  pub list_not : (r : Refusal) → items_at at (length b - at) (list_field reply (drop at b)) ≡ Err r → list_field reply (drop at b) ≡ Got.refused r
  list_not r e = by (list_field reply (drop at b)) e
    where
      by : (x : Got (List Item)) → items_at at (length b - at) x ≡ Err r → x ≡ Got.refused r
      by (Got.refused q) p = let z : q ≡ r = cc in ap Got.refused z
      by (Got.got is rest) p = let z : ◌≡◌ {A = ℕ} 0 1 = cc in absurd (omega arith)

  pub end_here : (found : EndAt) → end_at at (length b - at) (ending reply (drop at b)) ≡ Ok found → Ended reply b at found
  end_here found e = by (ending reply (drop at b)) refl e
    where
      by : (x : Got Ending) → ending reply (drop at b) ≡ x → end_at at (length b - at) x ≡ Ok found → Ended reply b at found
      by (Got.refused r) p q = let z : ◌≡◌ {A = ℕ} 0 1 = cc in absurd (omega arith)
      by (Got.got d rest) p q =
          let x = all_of b at (d.status ∷ strings d.error) rest (ending_exact reply (drop at b) d rest p) in
          let y = sym (ok-same q) in
          record {
            end = d;
            rest = rest;
            got = p;
            state = ap (λ (t : EndAt). t.status) y;
            long = ap (λ (t : EndAt). t.error) y;
            ends = ap (λ (t : EndAt). t.next) y;
            whole = omega arith;
          }

  pub end_not : (r : Refusal) → end_at at (length b - at) (ending reply (drop at b)) ≡ Err r → ending reply (drop at b) ≡ Got.refused r
  end_not r e = by (ending reply (drop at b)) e
    where
      by : (x : Got Ending) → end_at at (length b - at) x ≡ Err r → x ≡ Got.refused r
      by (Got.refused q) p = let z : q ≡ r = cc in ap Got.refused z
      by (Got.got d rest) p = let z : ◌≡◌ {A = ℕ} 0 1 = cc in absurd (omega arith)

-- what the fields together answer
module _ (reply : Reply) (b : List ℕ) where
  module _ (n : ℕ) (e : n ≡ ahead reply) where
    pub ahead_here : (found : TwoAt) → two_at 0 (length b - 0) (texts (min n 2) b) ≡ Ok found → Two b 0 (ahead reply) found
    ahead_here found t = two_here b 0 (ahead reply) (ahead-few reply) found (rw e at t)

    pub ahead_not : (r : Refusal) → two_at 0 (length b - 0) (texts (min n 2) b) ≡ Err r → texts (ahead reply) b ≡ Got.refused r
    ahead_not r t = two_not b 0 (ahead reply) (ahead-few reply) r (rw e at t)

  pub answer-ahead : (r : Refusal) → texts (ahead reply) b ≡ Got.refused r → Err r ≡ judgement (length b) (fields_of reply b)
  answer-ahead r e = rw (fields-refused reply b r e) refl

  module _ (one : TwoAt) (w : Two b 0 (ahead reply) one) where
    pub answer-list : (r : Refusal) → list_field reply (drop one.next b) ≡ Got.refused r → Err r ≡ judgement (length b) (fields_of reply b)
    answer-list r e = rw (fields-list-refused reply b w.ts w.rest w.got r (ap (list_field reply) (sym w.behind) ∙ e)) refl

    module _ (list : ItemsAt) (l : Listed reply b one.next list) where
      fields-then : fields_of reply b ≡ go_on (ending reply (drop list.next b)) (λ d. give (record { texts = w.ts; items = l.is; status = d.status; error = d.error }))
      fields-then =
          fields-end reply b w.ts w.rest w.got l.is l.rest (ap (list_field reply) (sym w.behind) ∙ l.got)
          ∙ ap (λ (m : List ℕ). go_on {B = Response} (ending reply m) (λ d. give (record { texts = w.ts; items = l.is; status = d.status; error = d.error }))) (sym l.behind)

      pub answer-end : (r : Refusal) → ending reply (drop list.next b) ≡ Got.refused r → Err r ≡ judgement (length b) (fields_of reply b)
      answer-end r e = rw fields-then (rw e refl)

      pub answer-read : (end : EndAt) → Ended reply b list.next end
          → read_as_response one.first one.second list.count list.listed end.status end.error end.next ≡ judgement (length b) (fields_of reply b)
      answer-read end d =
          let k : end.next ≡ length b - length d.rest = let x = w.ends in let y = w.whole in let u = l.ends in let v = l.whole in let s = d.ends in let t = d.whole in omega arith in
          rw fields-then (rw d.got (cc (w.one, w.two, l.counted, l.sized, d.state, d.long, k)))
