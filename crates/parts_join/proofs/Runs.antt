-- A whole list of calls, by induction on the parts, for every kind of assembly at once.
use mathlib.Core.Bool.{Bool, true, false}
use mathlib.Core.List.{List, [], ◌∷◌, ◌++◌, map, flat_map, append-nil, append_assoc}
use mathlib.Core.Path.{◌≡◌, refl, sym, ap, ◌∙◌}
use Prim.Native.Nat.{ℕ, ◌+◌, ◌-◌, ◌≤◌, ◌<◌}
use native.Mathlib.Omega.{arith}
use lib.Dec.{ltb}
use lib.ListN.{length, length-append}
use borrow.Author.Tests.{lt-ltb, ltb-true, ltb-false}
use Rattle.wire.specs.Bytes.{splice}
use Rattle.wire.specs.Calls.{Done}
use Rattle.wire.specs.Every.{Every}
use Rattle.sedna.specs.Allowed.{allowed}
use Rattle.sedna.specs.Message.{Message}
use Rattle.parts_join.specs.declared.Assembly.{Assembly}
use Rattle.parts_join.specs.declared.Label.{Label}
use Rattle.parts_join.specs.declared.Open.{Open}
use Rattle.parts_join.specs.Answers.{Reply, reply}
use Rattle.parts_join.specs.Calls.{Gathered, join_call, Run, run, short_replies, short_text}
use Rattle.parts_join.specs.Joining.{closed, marked, whole_of}
use Rattle.parts_join.specs.Offered.{text_in}
use Rattle.parts_join.specs.Roles.{role_of, takes, text_of}
use Rattle.parts_join.proofs.Steps.{Taken, going, first_label, beside, did, joined-spoilt, call_refused, step_part, step_end, step-over}

-- an answer, and those behind it
abbrev pub after : Reply → Run → Run
after x r = record { gathered = r.gathered; replies = x ∷ r.replies }

pub run_on : (g : Gathered) (m : Message) (ms : List Message) (x : Done Gathered Reply) → join_call g m ≡ x → run g (m ∷ ms) ≡ after x.answer (run x.record_after ms)
unfolding run
run_on g m ms x e = ap (λ (y : Done Gathered Reply). after y.answer (run y.record_after ms)) e

-- what messages add
abbrev pub added : List Message → List (List ℕ)
added = map (λ (m : Message). text_of m.body)

-- parts and ends of an assembly, in or out of order
abbrev pub AllTaken : Open → List Message → Type 0
AllTaken what = Every (λ (m : Message). (allowed m.body ≡ true) × (takes (role_of what m) ≡ true))

-- parts that may follow a first one
abbrev pub AllNext : Open → List Message → Type 0
AllNext what = Every (Taken what true false)

pub all-taken : (what : Open) (ms : List Message) (e : Message) → AllNext what ms → Taken what true true e → AllTaken what (ms ++ (e ∷ []))
all-taken what [] e xs t = ((t.values, t.place.kind), tt)
all-taken what (m ∷ ms) e xs t = ((xs.0.values, xs.0.place.kind), all-taken what ms e xs.1 t)

-- once overflowed, 12 to the last
run-spoilt : (g : Gathered) (ms : List Message) → g.assembly.overflowed ≡ true → AllTaken g.assembly.what ms
    → run g ms ≡ record { gathered = g; replies = map (λ (s : List ℕ). Reply.number 12) (added ms) }
unfolding run
run-spoilt g [] h t = refl
run-spoilt g (m ∷ ms) h t =
    run_on g m ms (did g (Reply.number 12)) (call_refused g m _ (joined-spoilt g.assembly (length g.buffer) m t.0.0 t.0.1 h) refl)
    ∙ ap (after (Reply.number 12)) (run-spoilt g ms h t.1)

-- all was accepted: ms were parts, and then s was handed over
abbrev pub ended : Open → Label → List ℕ → List Message → List ℕ → Run
ended what l d ms s = record { gathered = beside closed d s; replies = map (λ (m : Message). Reply.taken) ms ++ (reply (whole_of what l (length s)) ∷ []) }

-- a part overran: the replies, the text that the front of d keeps, and the mark
pub record Overrun (r : Run) (d s : List ℕ) (as-replied : List Reply) : Type 0 where
  pub replies : r.replies ≡ as-replied
  pub buffer : r.gathered.buffer ≡ splice d 0 s
  pub mark : r.gathered.assembly.overflowed ≡ true

-- what is short by the room that g leaves
abbrev pub Short : Run → List ℕ → List ℕ → List Message → Type 0
Short r d g ms = Overrun r d (g ++ short_text (length d - length g) (added ms)) (short_replies (length d - length g) (added ms))

-- messages to a record in progress, which holds g
module _ (a : Assembly) (d g : List ℕ) (m : Message) (h : a.overflowed ≡ false) (n : a.held ≡ length g) where
  -- with m taken too
  abbrev now : List ℕ
  now = g ++ text_of m.body

  abbrev next : Gathered
  next = beside (going a.what (first_label a m) (length now)) d now

  now-length : length now ≡ length g + length (text_of m.body)
  now-length = length-append g (text_of m.body)

  -- the last message, with all that was gathered
  pub end_fits : Taken a.what a.begun true m → length (g ++ text_in (m ∷ [])) ≤ length d
      → run (beside a d g) (m ∷ []) ≡ ended a.what (first_label a m) d [] (g ++ text_in (m ∷ []))
  unfolding run flat_map
  end_fits t f =
      let z : now ≡ g ++ text_in (m ∷ []) = ap (λ (s : List ℕ). g ++ s) (sym (append-nil (text_of m.body))) in
      run_on (beside a d g) m [] _ (step_end a d g m h n t (rw z f)) ∙ ap (ended a.what (first_label a m) d []) z

  module _ (rest : List Message) where
    -- a part, and then the rest
    pub part-fits : (ms : List Message) → Taken a.what a.begun false m → length (g ++ text_in (m ∷ rest)) ≤ length d
        → (length (now ++ text_in rest) ≤ length d → run next rest ≡ ended a.what (first_label a m) d ms (now ++ text_in rest))
        → run (beside a d g) (m ∷ rest) ≡ ended a.what (first_label a m) d (m ∷ ms) (g ++ text_in (m ∷ rest))
    unfolding flat_map
    part-fits ms t f on =
        let z : now ++ text_in rest ≡ g ++ text_in (m ∷ rest) = append_assoc g (text_of m.body) (text_in rest) in
        let k : length (now ++ text_in rest) ≤ length d = rw z f in
        let l : length (now ++ text_in rest) ≡ length now + length (text_in rest) = length-append now (text_in rest) in
        run_on (beside a d g) m rest _ (step_part a d g m h n t (omega arith))
        ∙ ap (after Reply.taken) (on k)
        ∙ ap (ended a.what (first_label a m) d (m ∷ ms)) z

    module _ (f : length g ≤ length d) where
      -- this part overruns
      over_here : {end : Bool} → Taken a.what a.begun end m → AllTaken a.what rest
          → ltb (length d - length g) (length (text_of m.body)) ≡ true → Short (run (beside a d g) (m ∷ rest)) d g (m ∷ rest)
      over_here t ts b =
          let o : length d - length g < length (text_of m.body) = ltb-true (length d - length g) (length (text_of m.body)) b in
          let r : run (beside a d g) (m ∷ rest) ≡ record { gathered = beside (marked a) d g; replies = map (λ (s : List ℕ). Reply.number 12) (added (m ∷ rest)) } =
          run_on (beside a d g) m rest _ (step-over a d g m h n t f (omega (arith, now-length)))
          ∙ ap (after (Reply.number 12)) (run-spoilt (beside (marked a) d g) rest refl ts) in
          record {
            replies = ap (λ (q : Run). q.replies) r ∙ sym (simp b);
            buffer = ap (λ (q : Run). q.gathered.buffer) r ∙ sym (simp (b, append-nil g));
            mark = ap (λ (q : Run). q.gathered.assembly.overflowed) r;
          }

      -- this part fits, and a later one overruns
      over-later : Taken a.what a.begun false m → ltb (length d - length g) (length (text_of m.body)) ≡ false
          → (length now ≤ length d → Short (run next rest) d now rest) → Short (run (beside a d g) (m ∷ rest)) d g (m ∷ rest)
      over-later t b on =
          let o : length (text_of m.body) ≤ length d - length g = ltb-false (length d - length g) (length (text_of m.body)) b in
          let k : length now ≤ length d = omega (arith, now-length) in
          let z : length d - length now ≡ length d - length g - length (text_of m.body) = omega (arith, now-length) in
          let r : run (beside a d g) (m ∷ rest) ≡ after Reply.taken (run next rest) = run_on (beside a d g) m rest _ (step_part a d g m h n t k) in
          let s : Short (run next rest) d now rest = on k in
          record {
            replies =
                ap (λ (q : Run). q.replies) r
                ∙ ap (λ (q : List Reply). Reply.taken ∷ q) (s.replies ∙ ap (λ (q : ℕ). short_replies q (added rest)) z)
                ∙ sym (simp b);
            buffer =
                ap (λ (q : Run). q.gathered.buffer) r
                ∙ s.buffer
                ∙ ap (splice d 0)
                (append_assoc g (text_of m.body) (short_text (length d - length now) (added rest))
                ∙ ap (λ (q : ℕ). g ++ (text_of m.body ++ short_text q (added rest))) z)
                ∙ sym (simp b);
            mark = ap (λ (q : Run). q.gathered.assembly.overflowed) r ∙ s.mark;
          }

      -- a part, and then the rest: one of them overruns
      pub part-short : Taken a.what a.begun false m → AllTaken a.what rest
          → (length now ≤ length d → Short (run next rest) d now rest) → Short (run (beside a d g) (m ∷ rest)) d g (m ∷ rest)
      part-short t ts on = by (ltb (length d - length g) (length (text_of m.body))) refl
        where
          by : (b : Bool) → ltb (length d - length g) (length (text_of m.body)) ≡ b → Short (run (beside a d g) (m ∷ rest)) d g (m ∷ rest)
          by true q = over_here t ts q
          by false q = over-later t q on

  -- the last message overruns
  pub end_short : length g ≤ length d → Taken a.what a.begun true m → length d < length (g ++ text_in (m ∷ [])) → Short (run (beside a d g) (m ∷ [])) d g (m ∷ [])
  unfolding flat_map
  end_short f t o =
      let k : length (g ++ (text_of m.body ++ [])) ≡ length g + length (text_of m.body ++ []) = length-append g (text_of m.body ++ []) in
      let z : length (text_of m.body ++ []) ≡ length (text_of m.body) = ap length (append-nil (text_of m.body)) in
      over_here [] f t tt (lt-ltb (length d - length g) (length (text_of m.body)) (omega arith))

-- parts behind a first one, and the end
module _ (what : Open) (l : Label) (d : List ℕ) (e : Message) (t : Taken what true true e) where
  pub runs_fit : (g : List ℕ) (ms : List Message) → AllNext what ms → length (g ++ text_in (ms ++ (e ∷ []))) ≤ length d
      → run (beside (going what l (length g)) d g) (ms ++ (e ∷ [])) ≡ ended what l d ms (g ++ text_in (ms ++ (e ∷ [])))
  runs_fit g [] xs f = end_fits (going what l (length g)) d g e refl refl t f
  runs_fit g (m ∷ ms) xs f =
      part-fits (going what l (length g)) d g m refl refl (ms ++ (e ∷ [])) ms xs.0 f (runs_fit (g ++ text_of m.body) ms xs.1)

  pub runs_short : (g : List ℕ) (ms : List Message) → AllNext what ms → length g ≤ length d → length d < length (g ++ text_in (ms ++ (e ∷ [])))
      → Short (run (beside (going what l (length g)) d g) (ms ++ (e ∷ []))) d g (ms ++ (e ∷ []))
  unfolding flat_map
  runs_short g [] xs f o = end_short (going what l (length g)) d g e refl refl f t o
  runs_short g (m ∷ ms) xs f o =
      part-short (going what l (length g)) d g m refl refl (ms ++ (e ∷ [])) f xs.0 (all-taken what ms e xs.1 t)
      (λ k. runs_short (g ++ text_of m.body) ms xs.1 k (rw (append_assoc g (text_of m.body) (text_in (ms ++ (e ∷ [])))) o))
