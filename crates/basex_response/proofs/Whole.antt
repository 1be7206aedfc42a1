-- A response that was read: its parts, how long its texts are together, and storing them one behind the other.
use Rattle.std.specs.Prelude.{Result, Ok, Err}
use mathlib.Core.Path.{◌≡◌, refl, sym, ap, subst, ◌∙◌}
use mathlib.Core.Bool.{Bool, true, false}
use mathlib.Core.List.{List, [], ◌∷◌, ◌++◌, flatten, append-nil, flat_map}
use Prim.Native.Nat.{ℕ, ◌+◌, ◌-◌, ◌≤◌, ◌<◌}
use native.Mathlib.Omega.{arith}
use lib.ListN.{length, drop, length-append}
use lib.Seq.{drop-drop}
use borrow.Author.Tests.{leb-true, lt-ltb, le-ltb}
use Rattle.wire.specs.Bytes.{if, splice}
use Rattle.wire.specs.Call.{Gives}
use Rattle.wire.specs.Fields.{Got, go_on, give, required}
use Rattle.wire.specs.declared.Refusal.{Refusal}
use Rattle.wire.specs.declared.Refusal.TheVariants.{MoreBytes, ValueNotAllowed, NoRoom}
use Rattle.wire.proofs.Splices.{Ahead, start, step, put_at-fits, put_at_not}
use Rattle.basex_string.proofs.Handed.{ok-same}
use Rattle.basex_string.proofs.Steps.{ahead_none}
use Rattle.basex_string.specs.Answers.{output_read}
use Rattle.basex_string.specs.declared.Ends.{Ends}
use Rattle.basex.specs.declared.Reply.{Reply}
use Rattle.basex.specs.Kinds.{find_of, ahead, behind, listed, is_full, status_allowed}
use Rattle.basex.specs.Response.{Item, Response, list_bytes}
use Rattle.basex.specs.Texts.{strings, texts, length_at, TextsStored, texts_stored, ends}
use Rattle.basex.proofs.Texts.{texts_exact}
use Rattle.basex_response.specs.declared.Replied.{Replied}
use Rattle.basex_response.specs.Items.{list, item_texts}
use Rattle.basex_response.specs.Reading.{list_field, fields_of, all_texts, reading, reading_as, text_bytes, judgement, answered}
use Rattle.basex_response.specs.inner.Judging.{Ending, ending, ListFits, list_stored, Fits}
use Rattle.basex_response.proofs.Sizes.{flatten-append, texts_shorter, two-lengths, one-length, all_of, behind-at, behind-is}
use Rattle.basex_response.proofs.Lists.{list-room}
use Rattle.basex_response.proofs.Fields.{ahead-few, behind-few, list_field_exact, fields-end, fields-refused, fields-list-refused}
use Rattle.basex_response.proofs.Storing.{Put, put-texts}

-- the parts of a response that was read
pub record Parts (reply : Reply) (b : List ℕ) (p : Response) (rest : List ℕ) : Type 0 where
  -- behind the strings ahead, behind the list, and behind the status
  pub more : List ℕ
  pub last : List ℕ
  pub tail : List ℕ
  pub first : texts (ahead reply) b ≡ Got.got p.texts more
  pub list : list_field reply more ≡ Got.got p.items last
  pub status : last ≡ p.status ∷ tail
  pub allowed : p.status ≤ 1
  pub error : texts (behind reply p.status) tail ≡ Got.got p.error rest

abbrev with_end : List (List ℕ) → List Item → Got Ending → Got Response
with_end ts is x = go_on x (λ d. give (record { texts = ts; items = is; status = d.status; error = d.error }))

module _ (reply : Reply) (b : List ℕ) (p : Response) (rest : List ℕ) where
  end-parts : (ts : List (List ℕ)) (more : List ℕ) → texts (ahead reply) b ≡ Got.got ts more → (is : List Item) (last : List ℕ) → list_field reply more ≡ Got.got is last
      → with_end ts is (ending reply last) ≡ Got.got p rest → Parts reply b p rest
  unfolding ending
  end-parts ts more f is [] l e = let z : ◌≡◌ {A = ℕ} 0 1 = cc in absurd (omega arith)
  end-parts ts more f is (status ∷ tail) l e = by (status_allowed status) refl e
    where
      then : status ≤ 1 → (x : Got (List (List ℕ))) → texts (behind reply status) tail ≡ x
          → with_end ts is (go_on x (λ es. give (record { status = status; error = es }))) ≡ Got.got p rest → Parts reply b p rest
      then h (Got.refused r) q g = let z : ◌≡◌ {A = ℕ} 0 1 = cc in absurd (omega arith)
      then h (Got.got es m) q g =
          let u : record { texts = ts; items = is; status = status; error = es } ≡ p = cc in
          let k : m ≡ rest = cc in
          subst (λ (y : Response). Parts reply b y rest) u (record { more = more; last = status ∷ tail; tail = tail; first = f; list = l; status = refl; allowed = h; error = q ∙ ap (Got.got es) k })

      by : (t : Bool) → status_allowed status ≡ t → with_end ts is
          (go_on (required t ValueNotAllowed tail) (λ _ m. go_on (texts (behind reply status) m) (λ es. give (record { status = status; error = es })))) ≡ Got.got p rest → Parts reply b p rest
      by false q g = let z : ◌≡◌ {A = ℕ} 0 1 = cc in absurd (omega arith)
      by true q g = then (leb-true _ _ q) (texts (behind reply status) tail) refl g

  pub parts : fields_of reply b ≡ Got.got p rest → Parts reply b p rest
  parts e = by (texts (ahead reply) b) refl
    where
      by : (x : Got (List (List ℕ))) → texts (ahead reply) b ≡ x → Parts reply b p rest
      by (Got.refused r) f = let g = sym (fields-refused reply b r f) ∙ e in let z : ◌≡◌ {A = ℕ} 0 1 = cc in absurd (omega arith)
      by (Got.got ts more) f = then (list_field reply more) refl
        where
          then : (x : Got (List Item)) → list_field reply more ≡ x → Parts reply b p rest
          then (Got.refused r) l = let g = sym (fields-list-refused reply b ts more f r l) ∙ e in let z : ◌≡◌ {A = ℕ} 0 1 = cc in absurd (omega arith)
          then (Got.got is last) l = end-parts ts more f is last l (sym (fields-end reply b ts more f is last l) ∙ e)

list_field-room : (reply : Reply) (s : List ℕ) (is : List Item) (rest : List ℕ) → list_field reply s ≡ Got.got is rest → length (flatten (item_texts is)) + length rest ≤ length s
unfolding flat_map flatten
list_field-room reply s is rest e = by (listed reply) e
  where
    by : (t : Bool) → if t (list (is_full reply) s) (Got.got [] s) ≡ Got.got is rest → length (flatten (item_texts is)) + length rest ≤ length s
    by true p = let l = list-room (is_full reply) s is rest p in omega arith
    by false p =
        let n : [] ≡ is = cc in
        let m : s ≡ rest = cc in
        let k = ap (λ (js : List Item). length (flatten (item_texts js))) n in
        let l = ap length m in
        omega arith

-- how long its texts are together
module _ (p : Response) where
  all-flat : flatten (all_texts p) ≡ flatten p.texts ++ (flatten (item_texts p.items) ++ flatten p.error)
  all-flat = flatten-append p.texts (item_texts p.items ++ p.error) ∙ ap (λ (m : List ℕ). flatten p.texts ++ m) (flatten-append (item_texts p.items) p.error)

  all-length : length (flatten (all_texts p)) ≡ length (flatten p.texts) + length (flatten (item_texts p.items)) + length (flatten p.error)
  all-length = omega (
    arith,
    ap length all-flat,
    length-append (flatten p.texts) (flatten (item_texts p.items) ++ flatten p.error),
    length-append
        (flatten (item_texts p.items)) (flatten p.error),
  )

module _ (reply : Reply) (b : List ℕ) (p : Response) (rest : List ℕ) (d : Parts reply b p rest) where
  pub all_told : length_at p.texts 0 + length_at p.texts 1 + length (flatten (item_texts p.items)) + length_at p.error 0 ≡ length (flatten (all_texts p))
  all_told =
      let x = (texts_exact _ b p.texts d.more d.first).0 in
      let y = (texts_exact _ d.tail p.error rest d.error).0 in
      let a = d.allowed in
      omega (
        arith,
        ahead-few reply,
        behind-few reply p.status,
        two-lengths p.texts (let f = ahead-few reply in omega arith),
        one-length p.error
            (let f = behind-few reply p.status in omega arith),
        all-length p,
      )

  -- they are no longer than the bytes
  pub all_short : length (flatten (all_texts p)) ≤ length b
  all_short =
      let x = ap length (texts_exact _ b p.texts d.more d.first).1 ∙ length-append (strings p.texts) d.more in
      let y = ap length (texts_exact _ d.tail p.error rest d.error).1 ∙ length-append (strings p.error) rest in
      let z = ap length d.status in
      omega (arith, all-length p, texts_shorter p.texts, texts_shorter p.error, list_field-room reply d.more p.items d.last d.list)

-- what `store` may rely on
pub record Ready (reply : Reply) (b : List ℕ) (items status room : ℕ) : Type 0 where
  pub response : Response
  pub rest : List ℕ
  pub got : fields_of reply b ≡ Got.got response rest
  pub parts : Parts reply b response rest
  pub count : items ≡ length response.items
  pub state : status ≡ response.status
  pub fits : length (flatten (all_texts response)) ≤ room

pub ready : (reply : Reply) (b : List ℕ) (items status room : ℕ) → Fits items status room (fields_of reply b) → Ready reply b items status room
ready reply b items status room f = by (fields_of reply b) refl f
  where
    by : (x : Got Response) → fields_of reply b ≡ x → Fits items status room x → Ready reply b items status room
    by (Got.refused r) e g = absurd g
    by (Got.got p rest) e g = record { response = p; rest = rest; got = e; parts = parts reply b p rest e; count = g.0; state = g.1; fits = g.2 }

-- the output with all texts of a response in front
abbrev pub made : List ℕ → Response → List ℕ
made out p = splice out 0 (flatten (all_texts p))

-- the texts of its items and its error
abbrev pub others : Response → List ℕ
others p = flatten (item_texts p.items) ++ flatten p.error

module _ (reply : Reply) (b : List ℕ) (items status : ℕ) (out : List ℕ) (j : Ready reply b items status (length out)) where
  -- the strings ahead are stored
  pub stage_one : (n : ℕ) → n ≡ ahead reply → (r : Ends) (out' : List ℕ) → r ≡ ends 0 (length b - 0) (texts_stored n out 0 b) → out' ≡ (texts_stored n out 0 b).out
      → Put b (made out j.response) 0 0 (length (flatten j.response.texts)) j.parts.more r out' (others j.response)
  stage_one n e r out' p q =
      let w : Ahead (made out j.response) out 0 (flatten j.response.texts ++ others j.response) = subst (Ahead (made out j.response) out 0)
      (all-flat j.response) (start out 0 (flatten (all_texts j.response)) (let h = j.fits in omega arith)) in
      put-texts b (made out j.response) 0 0 n j.response.texts j.parts.more out (others j.response) (omega arith) (ap (λ (m : ℕ). texts m b) e ∙ j.parts.first) w r out' p q

  module _ (at to size : ℕ) (r : Ends) (one : List ℕ) (u : Put b (made out j.response) at to size j.parts.more r one (others j.response)) where
    list-got : list_field reply (drop r.next b) ≡ Got.got j.response.items j.parts.last
    list-got = ap (list_field reply) u.reads ∙ j.parts.list

    pub list-fits : ListFits items r.to (length one) (list_field reply (drop r.next b))
    list-fits = subst (ListFits items r.to (length one)) (sym list-got)
        (j.count, let h = u.writes.fits in omega (arith, length-append (flatten (item_texts j.response.items)) (flatten j.response.error)))

    -- the texts of the items are stored
    pub stage_two : (q : Ends) (two : List ℕ) → q ≡ ends r.next (length b - r.next) (list_stored one r.to (list_field reply (drop r.next b)))
        → two ≡ (list_stored one r.to (list_field reply (drop r.next b))).out
        → Put b (made out j.response) r.next r.to (length (flatten (item_texts j.response.items))) j.parts.last q two (flatten j.response.error)
    stage_two q two e f =
        let is = j.response.items in
        let x = u.reads ∙ list_field_exact reply j.parts.more is j.parts.last j.parts.list in
        let z = all_of b r.next (list_bytes reply is) j.parts.last x in
        let y = u.sum in
        let st = ap (list_stored one r.to) list-got in
        let qn : q.next ≡ r.next + length (list_bytes reply is) = ap (λ (m : Ends). m.next) (e ∙ ap (ends r.next (length b - r.next)) st)
        ∙ behind-at b r.next (list_bytes reply is) j.parts.last x in
        let qt : q.to ≡ r.to + length (flatten (item_texts is)) = ap (λ (m : Ends). m.to) (e ∙ ap (ends r.next (length b - r.next)) st) in
        let o : two ≡ splice one r.to (flatten (item_texts is)) = f ∙ ap (λ (m : TextsStored). m.out) st in
        let fit : r.to + length (flatten (item_texts is)) ≤ length one = let h = u.writes.fits in omega (arith, length-append (flatten (item_texts is)) (flatten j.response.error)) in
        record {
          reads = ap (λ (m : ℕ). drop m b) qn ∙ behind-is b r.next (list_bytes reply is) j.parts.last x;
          sum = omega arith;
          on = omega arith;
          free = qt;
          writes = step (flatten (item_texts is)) q.to u.writes (o ∙ sym (put_at-fits one r.to (flatten (item_texts is)) fit)) qt;
        }

  -- the error is stored, and with it all
  module _ (at to size : ℕ) (r : Ends) (two : List ℕ) (u : Put b (made out j.response) at to size j.parts.last r two (flatten j.response.error)) where
    pub status-there : r.next < length b
    status-there = let s = u.sum in let l = ap length j.parts.status in omega arith

    pub stage_three : (m : ℕ) → m ≡ behind reply status → (q : Ends) (three : List ℕ)
        → q ≡ ends (r.next + 1) (length b - (r.next + 1)) (texts_stored m two r.to (drop (r.next + 1) b)) → three ≡ (texts_stored m two r.to (drop (r.next + 1) b)).out
        → three ≡ output_read text_bytes out 0 (fields_of reply b)
    stage_three m e q three f g =
        let h = status-there in
        let k : drop (r.next + 1) b ≡ j.parts.tail = sym (drop-drop 1 r.next b) ∙ ap (drop 1) (u.reads ∙ j.parts.status) in
        let x : texts m (drop (r.next + 1) b) ≡ Got.got j.response.error j.rest = ap (texts m) k
        ∙ ap (λ (n : ℕ). texts n j.parts.tail) (e ∙ ap (behind reply) j.state) ∙ j.parts.error in
        let w = subst (Ahead (made out j.response) two r.to) (sym (append-nil (flatten j.response.error))) u.writes in
        let v = put-texts b (made out j.response) (r.next + 1) r.to m j.response.error j.rest two [] (omega arith) x w q three f g in
        ahead_none v.writes refl ∙ sym (put_at-fits out 0 (flatten (all_texts j.response)) (let t = j.fits in omega arith)) ∙ ap (output_read text_bytes out 0) (sym j.got)

-- what judging told: a response, how long its texts are together, and the answer with the room
pub record Told (reply : Reply) (b : List ℕ) (found : Replied) : Type 0 where
  pub response : Response
  pub rest : List ℕ
  pub got : fields_of reply b ≡ Got.got response rest
  pub all : found.first + found.second + found.listed + found.error ≡ length (flatten (all_texts response))
  pub count : found.items ≡ length response.items
  pub state : found.status ≡ response.status
  pub short : found.first + found.second + found.listed + found.error ≤ length b

module _ (reply : Reply) (b : List ℕ) where
  pub told : (found : Replied) → judgement (length b) (fields_of reply b) ≡ Ok found → Told reply b found
  told found e = by (fields_of reply b) refl e
    where
      by : (x : Got Response) → fields_of reply b ≡ x → judgement (length b) x ≡ Ok found → Told reply b found
      by (Got.refused r) p q = let z : ◌≡◌ {A = ℕ} 0 1 = cc in absurd (omega arith)
      by (Got.got a rest) p q =
          let d = parts reply b a rest p in
          let y = ok-same q in
          let f : length_at a.texts 0 ≡ found.first = ap (λ (t : Replied). t.first) y in
          let s : length_at a.texts 1 ≡ found.second = ap (λ (t : Replied). t.second) y in
          let m : length (flatten (item_texts a.items)) ≡ found.listed = ap (λ (t : Replied). t.listed) y in
          let r : length_at a.error 0 ≡ found.error = ap (λ (t : Replied). t.error) y in
          let w = all_told reply b a rest d in
          let h = all_short reply b a rest d in
          record {
            response = a;
            rest = rest;
            got = p;
            all = omega arith;
            count = ap (λ (t : Replied). t.items) (sym y);
            state = ap (λ (t : Replied). t.status) (sym y);
            short = omega arith;
          }

  -- a contract of reading
  abbrev Reads : List ℕ → Got Response → Result Replied Refusal → List ℕ → Type 0
  Reads out x = Gives (answered (length b) (length out) x) (output_read text_bytes out 0 x)

  pub not_told : (r : Refusal) (out : List ℕ) → judgement (length b) (fields_of reply b) ≡ Err r → Reads out (fields_of reply b) (Err r) out
  not_told r out e = by (fields_of reply b) e
    where
      by : (x : Got Response) → judgement (length b) x ≡ Err r → Reads out x (Err r) out
      by (Got.refused q) p = let z : r ≡ q = cc in record { answers = ap Err z; leaves = refl }
      by (Got.got a rest) p = let z : ◌≡◌ {A = ℕ} 0 1 = cc in absurd (omega arith)

  module _ (found : Replied) (t : Told reply b found) (out : List ℕ) where
    pub no_room : length out < found.first + found.second + found.listed + found.error → Reads out (fields_of reply b) (Err NoRoom) out
    no_room h =
        let a = t.all in
        let n : List ℕ = text_bytes t.response in
        record { answers = rw t.got (rw (lt-ltb (length out) (length n) (omega arith)) refl); leaves = rw t.got (sym (put_at_not out 0 n (omega arith))) }

    pub roomy : found.first + found.second + found.listed + found.error ≤ length out → judgement (length b) (fields_of reply b) ≡ answered (length b) (length out) (fields_of reply b)
    roomy h = let a = t.all in rw t.got (rw (le-ltb (length out) (length (flatten (all_texts t.response))) (omega arith)) refl)

    pub fitting : found.first + found.second + found.listed + found.error ≤ length out → Fits found.items found.status (length out) (fields_of reply b)
    fitting h = let a = t.all in subst (Fits found.items found.status (length out)) (sym t.got) (t.count, t.state, omega arith)

-- no byte, and the kind
module _ (kind : ℕ) (b : List ℕ) where
  pub none_read : length b ≡ 0 → reading kind b ≡ Got.refused MoreBytes
  unfolding reading
  none_read e = by b e
    where
      by : (s : List ℕ) → length s ≡ 0 → reading kind s ≡ Got.refused MoreBytes
      by [] h = refl
      by (x ∷ s) h = absurd (omega arith)

  pub some_read : (length b ≡ 0 → ⊥) → reading kind b ≡ reading_as (find_of kind) b
  unfolding reading
  some_read e = by b e
    where
      by : (s : List ℕ) → (length s ≡ 0 → ⊥) → reading kind s ≡ reading_as (find_of kind) s
      by [] h = absurd (h refl)
      by (x ∷ s) h = refl
