-- What was cut, written, read and joined again is what was cut.
use Rattle.std.specs.Prelude.{Result, Ok, Err}
use Rattle.wire.specs.declared.Refusal.{Refusal}
use mathlib.Core.Bool.{Bool, true}
use mathlib.Core.List.{List, [], ◌∷◌, ◌++◌, map, append-nil}
use mathlib.Core.Option.{Option, some}
use mathlib.Core.Path.{◌≡◌, refl, sym, ap, subst, ◌∙◌}
use Prim.Native.Nat.{ℕ, zero, suc, ◌-◌, ◌≤◌, ◌<◌}
use native.Mathlib.Omega.{arith}
use lib.ListN.{length, take, drop, get_elem?, length-append, replicate}
use borrow.Author.Tests.{le-ltb, le-leb}
use Rattle.wire.specs.Bytes.{if}
use Rattle.wire.specs.Call.{output_after}
use Rattle.wire.specs.Every.{Every}
use Rattle.wire.specs.declared.Refusal.TheVariants.{ValueNotAllowed, NoRoom, NoEncoding}
use Rattle.sedna.specs.declared.Shape.TheVariants.{Empty}
use Rattle.sedna.specs.declared.Side.{Side}
use Rattle.sedna.specs.declared.Side.TheVariants.{Server}
use Rattle.sedna.specs.Allowed.{allowed}
use Rattle.sedna.specs.Encode.{body_bytes, encode}
use Rattle.sedna.specs.Message.{Url, Message}
use Rattle.sedna.specs.Names as M
use Rattle.sedna.specs.Published.{Published}
use Rattle.sedna.specs.Table.{rows, search, find_of}
use Rattle.sedna_read.specs.Meaning.{meaning}
use Rattle.sedna_read.specs.Places.{located}
use Rattle.sedna_read.specs.Reading.{Answer, reading}
use Rattle.sedna_write.specs.Writing.{written}
use Rattle.sedna_laws.proofs.Bounds.{bytes-none}
use Rattle.wire.proofs.Branches.{apart}
use Rattle.sedna_laws.proofs.Table.{listed_find}
use Rattle.sedna_laws.proofs.Written.{encode-length}
use Rattle.parts_cut.specs.Part.{written_of, part_bytes}
use Rattle.parts_cut.proofs.Counts.{statement_counted, item_counted, typed_item-counted}
use Rattle.parts_join.specs.Answers.{Reply}
use Rattle.parts_join.specs.Calls.{Gathered, opened_with, join_call, Run, run_of, run, short_replies, short_text}
use Rattle.parts_join.specs.Cuttings as cuttings
use Rattle.parts_join.specs.Cuttings.{Ending, ending, before, last, fronted, whole, calls}
use Rattle.parts_join.specs.Joining.{closed}
use Rattle.parts_join.proofs.Cuttings.{texts_added}
use Rattle.parts_join.proofs.Runs.{added, after}
use Rattle.parts_laws.specs.Rejoined.{UrlFits, Rejoined}
use Rattle.parts_laws.specs.ThroughBytes.{Uncut, text, values, sender, opens, cut, count, end, permitted, encodable, Sendable, Roomy}
use Rattle.parts_laws.specs.ThroughBytes.{parts_bytes, message_bytes, sent, joined_read, read_and_join, rejoined, texts, Returned}
use Rattle.parts_laws.proofs.Cuts.{every_append, statement-cut-published, item-cut-published, typed_item-cut-published}
use Rattle.parts_laws.proofs.Joins.{statement_rejoined, item_rejoined, typed_item-rejoined}
use Rattle.parts_laws.proofs.Parts.{part-there, part_read}

-- bytes that read as that message
abbrev Reads : Side → List ℕ → Message → Type 0
Reads side s m = (n : ℕ) × (meaning s (located (reading side s)) ≡ Answer.accepted m n)

abbrev AllRead : Side → List (List ℕ) → List Message → Type 0
AllRead side [] [] = Unit {0}
AllRead side [] (m ∷ ms) = ⊥
AllRead side (s ∷ ss) [] = ⊥
AllRead side (s ∷ ss) (m ∷ ms) = Reads side s m × AllRead side ss ms

-- joining what reads as those messages is joining them
joined-read : (side : Side) (ss : List (List ℕ)) (ms : List Message) → AllRead side ss ms → (g : Gathered) → run_of (read_and_join side) g ss ≡ run g ms
unfolding run
joined-read side [] [] h g = refl
joined-read side [] (m ∷ ms) h g = absurd h
joined-read side (s ∷ ss) [] h g = absurd h
joined-read side (s ∷ ss) (m ∷ ms) h g =
    ap (λ (a : Answer). after (joined_read g a).answer (run_of (read_and_join side) (joined_read g a).record_after ss)) h.0.1
    ∙ ap (after (join_call g m).answer) (joined-read side ss ms h.1 (join_call g m).record_after)

read-append : (side : Side) (ss : List (List ℕ)) (ms : List Message) (ts : List (List ℕ)) (ns : List Message) → AllRead side ss ms → AllRead side ts ns → AllRead side (ss ++ ts) (ms ++ ns)
read-append side [] [] ts ns h g = g
read-append side [] (m ∷ ms) ts ns h g = absurd h
read-append side (s ∷ ss) [] ts ns h g = absurd h
read-append side (s ∷ ss) (m ∷ ms) ts ns h g = (h.0, read-append side ss ms ts ns h.1 g)

read_length : (side : Side) (ss : List (List ℕ)) (ms : List Message) → AllRead side ss ms → length ss ≡ length ms
read_length side [] [] h = refl
read_length side [] (m ∷ ms) h = absurd h
read_length side (s ∷ ss) [] h = absurd h
read_length side (s ∷ ss) (m ∷ ms) h = ap suc (read_length side ss ms h.1)

-- a message that was written with room is read again
module _ {side : Side} {m : Message} (p : Published side m) (out : List ℕ) (room : length (encode m) ≤ length out) where
  has_room : written (length out) m ≡ Ok (length (encode m))
  has_room =
      part-there side (m ∷ []) (p, tt) 0 (length out) m refl
      ∙ ap (λ (b : Bool). if b (Err NoRoom) (Ok (length (encode m)))) (le-ltb (length out) (length (encode m)) room)

  message-reads : Reads side (message_bytes out m) m
  message-reads =
      subst (λ (r : Result ℕ Refusal). Reads side (output_after r out 0 (encode m)) m) (sym has_room)
      (length (encode m), part_read side (m ∷ []) (p, tt) 0 m refl out (length (encode m)) has_room)

messages-read : (side : Side) (out : List ℕ) (ms : List Message) → Every (Published side) ms → Every (λ (m : Message). length (encode m) ≤ length out) ms
    → AllRead side (map (message_bytes out) ms) ms
messages-read side out [] h g = tt
messages-read side out (m ∷ ms) h g = (message-reads h.0 out g.0, messages-read side out ms h.1 g.1)

-- places in lists
module _ {A : Type 0} where
  at_drop : (l : List A) (k : ℕ) (x : A) (rest : List A) → drop k l ≡ x ∷ rest → (get_elem? l k ≡ some x) × (drop (suc k) l ≡ rest)
  at_drop [] zero x rest e = apart (cc)
  at_drop [] (suc k) x rest e = apart (cc)
  at_drop (y ∷ l) zero x rest e = let z : y ≡ x = cc in let t : l ≡ rest = cc in (ap some z, t)
  at_drop (y ∷ l) (suc k) x rest e = at_drop l k x rest e

  at_front : (l r : List A) (k : ℕ) (x : A) → get_elem? l k ≡ some x → get_elem? (l ++ r) k ≡ some x
  at_front [] r k x e = apart (cc)
  at_front (y ∷ l) r zero x e = e
  at_front (y ∷ l) r (suc k) x e = at_front l r k x e

  at-end : (l : List A) (x : A) → get_elem? (l ++ (x ∷ [])) (length l) ≡ some x
  at-end [] x = refl
  at-end (y ∷ l) x = at-end l x

-- what a part leaves, where it is not refused for the whole
part_bytes_lem : (out : List ℕ) (ok enc : Bool) (o : Option Message) (m : Message) → ok ≡ true → enc ≡ true → o ≡ some m
    → output_after (if ok (if enc (written_of (length out) o) (Err NoEncoding)) (Err ValueNotAllowed)) out 0 (part_bytes o) ≡ message_bytes out m
part_bytes_lem out ok enc o m p q r = rw (p, q, r)

-- what is said of each kind
record Laid (u : Uncut) : Type 0 where
  pub permits : permitted u ≡ true
  pub encoded : encodable u ≡ true
  pub counted : length (cut u) ≡ count u
  pub parts : Every (Published (sender u)) (cut u)
  pub ends : Every (Published (sender u)) (end u)
  pub room : (outs : ℕ → List ℕ) → Roomy u outs → Every (λ (m : Message). length (encode m) ≤ length (outs (count u))) (end u)
  pub again : (d : List ℕ) → Rejoined (opens u) (cut u ++ end u) (values u) (text u) d

module _ (u : Uncut) (laid : Laid u) (outs : ℕ → List ℕ) (room : Roomy u outs) where
  -- the parts from number k on
  parts-read : (rest : List Message) (k : ℕ) → drop k (cut u) ≡ rest → Every (Published (sender u)) rest → AllRead (sender u) (parts_bytes u outs k (length rest)) rest
  parts-read [] k e h = tt
  parts-read (m ∷ rest) k e h =
      let there = at_drop (cut u) k m rest e in
      let fits : length (encode m) ≤ length (outs k) = room k m (at_front (cut u) (end u) k m there.0) in (
        subst (λ (s : List ℕ). Reads (sender u) s m)
            (sym (part_bytes_lem (outs k) (permitted u) (encodable u) (get_elem? (cut u) k) m laid.permits laid.encoded there.0)) (message-reads h.0 (outs k) fits),
        parts-read rest (suc k) there.1 h.1,
      )

  all_read : AllRead (sender u) (sent u outs) (cut u ++ end u)
  all_read =
      read-append (sender u) (parts_bytes u outs 0 (count u)) (cut u) (map (message_bytes (outs (count u))) (end u)) (end u)
      (subst (λ (n : ℕ). AllRead (sender u) (parts_bytes u outs 0 n) (cut u)) laid.counted (parts-read (cut u) 0 refl laid.parts))
      (messages-read (sender u) (outs (count u)) (end u) laid.ends (laid.room outs room))

map-taken : (ms : List Message) → map (λ (m : Message). Reply.taken) ms ≡ replicate (length ms) Reply.taken
map-taken [] = refl
map-taken (m ∷ ms) = ap (λ (xs : List Reply). Reply.taken ∷ xs) (map-taken ms)

module _ (u : Uncut) (outs : ℕ → List ℕ) (d : List ℕ) (reads : AllRead (sender u) (sent u outs) (cut u ++ end u)) (r : Rejoined (opens u) (cut u ++ end u) (values u) (text u) d) where
  same : rejoined u outs d ≡ calls r.cutting d
  unfolding rejoined
  same = joined-read (sender u) (sent u outs) (cut u ++ end u) reads (opened_with (opens u) d) ∙ sym (λ i. run (opened_with (r.opens i) d) (r.parts i))

  same-texts : cuttings.texts r.cutting ≡ texts u
  same-texts = sym (texts_added r.cutting) ∙ ap added r.parts

  but_one : length (before r.cutting) ≡ length (sent u outs) - 1
  but_one =
      omega (
        arith,
        read_length (sender u) (sent u outs) (cut u ++ end u) reads,
        ap length r.parts,
        length-append (before r.cutting) (last r.cutting ∷ []),
      )

  all-taken : map (λ (m : Message). Reply.taken) (before r.cutting) ≡ replicate (length (sent u outs) - 1) Reply.taken
  all-taken = map-taken (before r.cutting) ∙ ap (λ (n : ℕ). replicate n Reply.taken) but_one

  fit : length (text u) ≤ length d → length (whole r.cutting) ≤ length d
  fit f = rw r.text_of f

  short : length d < length (text u) → length d < length (whole r.cutting)
  short f = rw r.text_of f

  given_back : Returned u outs d
  given_back = record {
    fits = λ f. same ∙ r.joins.fits (fit f) ∙ (λ i. record {
      gathered = record { assembly = closed; buffer = fronted d (r.text_of i) };
      replies = all-taken i ++ (Reply.whole (r.says i) (length (r.text_of i)) ∷ []);
    });
    handed = λ f. ap (λ (x : Run). take (length (text u)) x.gathered.buffer) same
        ∙ subst (λ (t : List ℕ). take (length t) (calls r.cutting d).gathered.buffer ≡ t) r.text_of (r.joins.handed (fit f));
    overruns = λ f. ap (λ (x : Run). x.replies) same ∙ r.joins.overruns (short f) ∙ ap (short_replies (length d)) same-texts;
    front = λ f. ap (λ (x : Run). x.gathered.buffer) same
        ∙ r.joins.front (short f)
        ∙ ap (λ (ts : List (List ℕ)). fronted d (short_text (length d) ts)) same-texts;
    marked = λ f. ap (λ (x : Run). x.gathered.assembly.overflowed) same ∙ r.joins.marked (short f);
  }

ending-published : (e : Ending) → Published Server (ending e)
unfolding allowed body_bytes find_of rows search
ending-published Ending.item-end = record { listed = listed_find M.ItemEnd Server Empty refl; values = refl; short = omega arith; bytes = bytes-none }
ending-published Ending.result_end = record { listed = listed_find M.ResultEnd Server Empty refl; values = refl; short = omega arith; bytes = bytes-none }

-- the end goes into the output behind those of the parts
end-room : (u : Uncut) (e : Ending) → end u ≡ ending e ∷ [] → length (cut u) ≡ count u → (outs : ℕ → List ℕ) → Roomy u outs → length (encode (ending e)) ≤ length (outs (count u))
end-room u e is counted outs room =
    room (count u) (ending e) (subst (λ (n : ℕ). get_elem? (cut u ++ end u) n ≡ some (ending e)) counted (rw is (at-end (cut u) (ending e))))

url-encodable : (class kind : ℕ) (url : Url) (t : List ℕ) (e : Ending) → UrlFits url → encodable (Uncut.typed_item class kind url t e) ≡ true
url-encodable class kind Url.absent t e fits = refl
url-encodable class kind (Url.present url) t e fits = le-leb (length url) 10227 fits

laid : (u : Uncut) → Sendable u → Laid u
laid (Uncut.statement format t) h = record {
  permits = h.0;
  encoded = refl;
  counted = statement_counted format t;
  parts = statement-cut-published format h.0 t h.1;
  ends = tt;
  room = λ outs room. tt;
  again = λ d. rw (append-nil (cut (Uncut.statement format t))) (statement_rejoined format h.0 d t);
}
laid (Uncut.item t e) h = record {
  permits = refl;
  encoded = refl;
  counted = item_counted t;
  parts = item-cut-published t h.1;
  ends = (ending-published e, tt);
  room = λ outs room. (end-room (Uncut.item t e) e refl (item_counted t) outs room, tt);
  again = item_rejoined t e;
}
laid (Uncut.typed_item class kind url t e) h = record {
  permits = h.0;
  encoded = url-encodable class kind url t e h.2;
  counted = typed_item-counted class kind url t;
  parts = typed_item-cut-published class kind url t h.0 h.1 h.2;
  ends = (ending-published e, tt);
  room = λ outs room. (end-room (Uncut.typed_item class kind url t e) e refl (typed_item-counted class kind url t) outs room, tt);
  again = typed_item-rejoined class kind url t h.0 e;
}

-- demand 2: what is cut, written, read and joined again is returned
pub returned : (u : Uncut) → Sendable u → (outs : ℕ → List ℕ) → Roomy u outs → (d : List ℕ) → Returned u outs d
returned u h outs room d = given_back u outs d (all_read u (laid u h) outs room) ((laid u h).again d)

-- a published message has at most 10,248 bytes
fits_10248 : (side : Side) (ms : List Message) → Every (Published side) ms → (k : ℕ) (m : Message) → get_elem? ms k ≡ some m → length (encode m) ≤ 10248
fits_10248 side [] h k m e = apart (cc)
fits_10248 side (x ∷ ms) h zero m e = let z : x ≡ m = cc in omega (arith, encode-length m, (subst (Published side) z h.0).short)
fits_10248 side (x ∷ ms) h (suc k) m e = fits_10248 side ms h.1 k m e

-- so outputs of that size always have room
pub room_enough : (u : Uncut) → Sendable u → (outs : ℕ → List ℕ) → ((k : ℕ) → 10248 ≤ length (outs k)) → Roomy u outs
room_enough u h outs big k m e =
    omega (arith, big k, fits_10248 (sender u) (cut u ++ end u) (every_append (Published (sender u)) (cut u) (end u) (laid u h).parts (laid u h).ends) k m e)
