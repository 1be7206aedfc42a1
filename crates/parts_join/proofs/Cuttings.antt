-- Every cutting joins: the laws of Runs at the four kinds of cutting.
use mathlib.Core.Bool.{true, false}
use mathlib.Core.List.{List, [], ◌∷◌, ◌++◌, map, flatten, flat_map}
use mathlib.Core.Path.{◌≡◌, refl, sym, ap, subst, ◌∙◌}
use Prim.Native.Nat.{ℕ, ◌+◌, ◌-◌, ◌≤◌, ◌<◌}
use native.Mathlib.Omega.{arith}
use lib.ListN.{length, take, drop}
use lib.Seq.{take-append_seam}
use Rattle.wire.specs.Bytes.{splice}
use Rattle.wire.specs.Every.{Every}
use Rattle.wire.proofs.Splices.{splice-none}
use Rattle.sedna.specs.Message.{Message}
use Rattle.parts_join.specs.declared.Open.{Open}
use Rattle.parts_join.specs.declared.Open.TheVariants as gathering
use Rattle.parts_join.specs.Answers.{Reply}
use Rattle.parts_join.specs.Calls.{Run, opened_with, run, short_replies, short_text}
use Rattle.parts_join.specs.Cuttings.{Piece, Ending, Cutting, execute_long, item_part, ending, before, last, messages, texts, values, AllAllowed, fronted}
use Rattle.parts_join.specs.Cuttings.{whole, calls, returned, Joins}
use Rattle.parts_join.specs.Joining.{opened, closed}
use Rattle.parts_join.specs.Offered.{text_in}
use Rattle.parts_join.specs.Roles.{text_of, label_of}
use Rattle.parts_join.proofs.Places.{Placed, Parted, sole, long_parted, item_parted, typed_parted}
use Rattle.parts_join.proofs.Runs.{added, AllNext, all-taken, ended, end_fits, part-fits, runs_fit, Overrun, Short, part-short, end_short, runs_short}
use Rattle.parts_join.proofs.Steps.{Taken, beside}

pub over-fronted : (d s : List ℕ) → splice d 0 s ≡ fronted d s
unfolding splice
over-fronted d s =
    let z : 0 + length s ≡ length s = omega arith in
    ap (λ (n : ℕ). s ++ drop n d) z

-- what `Joins` says, of the texts as the messages have them
record Sound (c : Cutting) (d s : List ℕ) (ts : List (List ℕ)) : Type 0 where
  pub fits : length s ≤ length d → calls c d ≡ record {
    gathered = beside closed d s;
    replies = map (λ (m : Message). Reply.taken) (before c) ++ (Reply.whole (values c) (length s) ∷ []);
  }
  pub short : length d < length s → Overrun (calls c d) d (short_text (length d - 0) ts) (short_replies (length d - 0) ts)

-- the messages behind the first, with allowed values
next-taken : (what : Open) (ms : List Message) (e : Message) → Every (Placed what true false) ms → Placed what true true e
    → AllAllowed (ms ++ (e ∷ [])) → AllNext what ms × Taken what true true e
next-taken what [] e xs end v = (tt, record { values = v.0; place = end })
next-taken what (m ∷ ms) e xs end v =
    let rest = next-taken what ms e xs.1 end v.1 in
    ((record { values = v.0; place = xs.0 }, rest.0), rest.1)

-- with nothing in front yet
module _ (what : Open) (d : List ℕ) (ms : List Message) where
  fresh-run : {r : Run} → run (beside (opened what) d []) ms ≡ r → run (opened_with what d) ms ≡ r
  fresh-run e = ap (λ (b : List ℕ). run (opened_with what b) ms) (sym (splice-none d 0)) ∙ e

  fresh-short : Short (run (beside (opened what) d []) ms) d [] ms → Short (run (opened_with what d) ms) d [] ms
  fresh-short h = subst (λ (b : List ℕ). Short (run (opened_with what b) ms) d [] ms) (splice-none d 0) h

-- from a fresh opening, a first part, further ones and the end
module _ {what : Open} {m : Message} {ms : List Message} {e : Message} (parts : Parted what m ms e) (v : AllAllowed (m ∷ ms ++ (e ∷ []))) (d : List ℕ) where
  first : Taken what false false m
  first = record { values = v.0; place = parts.first }

  next : AllNext what ms × Taken what true true e
  next = next-taken what ms e parts.further parts.end v.1

  first_fits : length (text_in (m ∷ ms ++ (e ∷ []))) ≤ length d
      → run (opened_with what d) (m ∷ ms ++ (e ∷ [])) ≡ ended what (label_of m.body) d (m ∷ ms) (text_in (m ∷ ms ++ (e ∷ [])))
  first_fits f =
      fresh-run what d (m ∷ ms ++ (e ∷ []))
      (part-fits (opened what) d [] m refl refl (ms ++ (e ∷ [])) ms first f (runs_fit what (label_of m.body) d e next.1 (text_of m.body) ms next.0))

  first_short : length d < length (text_in (m ∷ ms ++ (e ∷ []))) → Short (run (opened_with what d) (m ∷ ms ++ (e ∷ []))) d [] (m ∷ ms ++ (e ∷ []))
  unfolding flat_map
  first_short o =
      fresh-short what d (m ∷ ms ++ (e ∷ []))
      (part-short (opened what) d [] m refl refl (ms ++ (e ∷ [])) (omega arith) first (all-taken what ms e next.0 next.1)
      (λ k. runs_short what (label_of m.body) d e next.1 (text_of m.body) ms next.0 k o))

sound : (c : Cutting) → AllAllowed (messages c) → (d : List ℕ) → Sound c d (text_in (messages c)) (added (messages c))
sound (Cutting.short p) v d =
    let m : Message = last (Cutting.short p) in
    let all : Taken gathering.Statement false true m = record { values = v.0; place = sole p } in
    record {
      fits = λ f. fresh-run gathering.Statement d (m ∷ []) (end_fits (opened gathering.Statement) d [] m refl refl all f);
      short = λ o. fresh-short gathering.Statement d (m ∷ []) (end_short (opened gathering.Statement) d [] m refl refl (omega arith) all o);
    }
sound (Cutting.long p ps) v d = record { fits = first_fits (long_parted p ps) v d; short = first_short (long_parted p ps) v d }
sound (Cutting.item t ts e) v d = record { fits = first_fits (item_parted t ts e) v d; short = first_short (item_parted t ts e) v d }
sound (Cutting.typed_item class kind url t ts e) v d =
    let parts = typed_parted class kind url t ts e in
    record { fits = first_fits parts v d; short = first_short parts v d }

-- the messages add the texts that the cutting names
long-texts : (ps : List Piece) (e : Message) → text_of e.body ≡ [] → added (map execute_long ps ++ (e ∷ [])) ≡ map (λ (q : Piece). q.text) ps ++ ([] ∷ [])
long-texts [] e h = ap (λ (t : List ℕ). t ∷ []) h
long-texts (p ∷ ps) e h = ap (λ (ts : List (List ℕ)). p.text ∷ ts) (long-texts ps e h)

item-texts : (ts : List (List ℕ)) (e : Ending) → added (map item_part ts ++ (ending e ∷ [])) ≡ ts ++ ([] ∷ [])
item-texts [] Ending.item-end = refl
item-texts [] Ending.result_end = refl
item-texts (t ∷ ts) e = ap (λ (us : List (List ℕ)). t ∷ us) (item-texts ts e)

pub texts_added : (c : Cutting) → added (messages c) ≡ texts c
texts_added (Cutting.short p) = refl
texts_added (Cutting.long p ps) = ap (λ (us : List (List ℕ)). p.text ∷ us) (long-texts ps (last (Cutting.long p ps)) refl)
texts_added (Cutting.item t ts e) = ap (λ (us : List (List ℕ)). t ∷ us) (item-texts ts e)
texts_added (Cutting.typed_item class kind url t ts e) = ap (λ (us : List (List ℕ)). t ∷ us) (item-texts ts e)

text_in_lem : (ms : List Message) → text_in ms ≡ flatten (added ms)
unfolding flat_map flatten
text_in_lem [] = refl
text_in_lem (m ∷ ms) = ap (λ (s : List ℕ). text_of m.body ++ s) (text_in_lem ms)

pub text-made : (c : Cutting) → text_in (messages c) ≡ whole c
text-made c = text_in_lem (messages c) ∙ ap flatten (texts_added c)

-- every cutting with allowed values joins
pub joins : (c : Cutting) → AllAllowed (messages c) → (d : List ℕ) → Joins c d
joins c v d = record {
  fits = whole_run;
  handed = λ f. ap (λ (r : Run). take (length (whole c)) r.gathered.buffer) (whole_run f) ∙ take-append_seam (whole c) (drop (length (whole c)) d);
  overruns = λ o. (of_texts.short o).replies ∙ ap (λ (n : ℕ). short_replies n (texts c)) less_none;
  front = λ o. (of_texts.short o).buffer ∙ over-fronted d (short_text (length d - 0) (texts c)) ∙ ap (λ (n : ℕ). fronted d (short_text n (texts c))) less_none;
  marked = λ o. (of_texts.short o).mark;
}
  where
    of_texts : Sound c d (whole c) (texts c)
    of_texts = subst (λ (s : List ℕ). Sound c d s (texts c)) (text-made c) (subst (Sound c d (text_in (messages c))) (texts_added c) (sound c v d))

    less_none : length d - 0 ≡ length d
    less_none = omega arith

    whole_run : length (whole c) ≤ length d → calls c d ≡ returned c d
    whole_run f =
        of_texts.fits f
        ∙ ap (λ (b : List ℕ). record { gathered = record { assembly = closed; buffer = b }; replies = (returned c d).replies }) (over-fronted d (whole c))
