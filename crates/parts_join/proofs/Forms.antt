-- The form of a message by its role, and the cutting that goes on with it.
use mathlib.Core.Bool.{Bool, true, false}
use mathlib.Core.List.{List, [], ◌∷◌, ◌++◌, map, map-append}
use mathlib.Core.Path.{◌≡◌, refl, sym, subst}
use Prim.Native.Nat.{ℕ}
use lib.Dec.{eqb}
use borrow.Author.Tests.{eqb-true}
use Rattle.wire.specs.Bytes.{if}
use Rattle.sedna.specs.Kinds.{shape_number}
use Rattle.sedna.specs.Message.{Url, Pair, Body, Message, message, shape_of}
use Rattle.sedna.specs.Names.{Execute, ExecuteLong, LongQueryEnd, ItemPart, ItemStart, ItemEnd, ResultEnd}
use Rattle.sedna.specs.Table.{rows, search, find_of}
use Rattle.parts_join.specs.declared.Label.{Label}
use Rattle.parts_join.specs.declared.Open.{Open}
use Rattle.parts_join.specs.declared.Open.TheVariants as gathering
use Rattle.parts_join.specs.declared.Role.{Role}
use Rattle.parts_join.specs.declared.Role.TheVariants.{Other, Sole, Part, Start, Further, End}
use Rattle.parts_join.specs.Answers.{Reply, reply}
use Rattle.parts_join.specs.Cuttings.{Piece, Ending, Cutting, execute_long, item_part, ending, last, messages, opening, values}
use Rattle.parts_join.specs.Joining.{whole_of}
use Rattle.parts_join.specs.Offered.{Cut, Begun, PartOf}
use Rattle.parts_join.specs.Roles.{open_role, item_end, together, role_of, takes, in_order, ends, label, label_of}
use Rattle.parts_join.proofs.Places.{not_both, since}

-- a body by the number of its shape
data Bodied : ℕ → Body → Type 0 where
  empty : Bodied 0 Body.empty
  session : (major minor : ℕ) (user database : List ℕ) → Bodied 1 (Body.session major minor user database)
  text : (t : List ℕ) → Bodied 2 (Body.text t)
  statement : (format : ℕ) (t : List ℕ) → Bodied 3 (Body.statement format t)
  coded : (code : ℕ) (t : List ℕ) → Bodied 4 (Body.coded code t)
  options : (pairs : List Pair) → Bodied 5 (Body.options pairs)
  item : (class kind : ℕ) (url : Url) (t : List ℕ) → Bodied 6 (Body.item class kind url t)

own : (b : Body) → Bodied (shape_number (shape_of b)) b
own Body.empty = Bodied.empty
own (Body.session major minor user database) = Bodied.session major minor user database
own (Body.text t) = Bodied.text t
own (Body.statement format t) = Bodied.statement format t
own (Body.coded code t) = Bodied.coded code t
own (Body.options pairs) = Bodied.options pairs
own (Body.item class kind url t) = Bodied.item class kind url t

bodied : (n : ℕ) (b : Body) → eqb n (shape_number (shape_of b)) ≡ true → Bodied n b
bodied n b e = subst (λ (k : ℕ). Bodied k b) (sym (eqb-true n (shape_number (shape_of b)) e)) (own b)

-- a message by what it is to a gathering
pub data Form : Open → Role → Message → Type 0 where
  other : {what : Open} {m : Message} → Form what Other m
  sole : (p : Piece) → Form gathering.Statement Sole (last (Cutting.short p))
  long-part : (p : Piece) → Form gathering.Statement Part (execute_long p)
  long-end : Form gathering.Statement End (message LongQueryEnd Body.empty)
  item-part : (t : List ℕ) → Form gathering.Item Part (item_part t)
  item-end : (e : Ending) → Form gathering.Item End (ending e)
  start : (class kind : ℕ) (url : Url) (t : List ℕ) → Form gathering.TypedItem Start (message ItemStart (Body.item class kind url t))
  further : (t : List ℕ) → Form gathering.TypedItem Further (item_part t)
  typed_end : (e : Ending) → Form gathering.TypedItem End (ending e)

statement-form : (what : Open) (r : Role) (k : ℕ) → ((p : Piece) → Form what r (message k (Body.statement p.format p.text))) → {b : Body} → Bodied 3 b → Form what r (message k b)
statement-form what r k f (Bodied.statement format t) = f (record { format = format; text = t })

empty-form : (what : Open) (r : Role) (k : ℕ) → Form what r (message k Body.empty) → {b : Body} → Bodied 0 b → Form what r (message k b)
empty-form what r k f Bodied.empty = f

text-form : (what : Open) (r : Role) (k : ℕ) → ((t : List ℕ) → Form what r (message k (Body.text t))) → {b : Body} → Bodied 2 b → Form what r (message k b)
text-form what r k f (Bodied.text t) = f t

start-form : {b : Body} → Bodied 6 b → Form gathering.TypedItem Start (message ItemStart b)
start-form (Bodied.item class kind url t) = Form.start class kind url t

-- one test of the instruction
tested : (what : Open) (k : ℕ) (b : Body) (key : ℕ) (r s : Role) → together k b ≡ true → (together key b ≡ true → Form what r (message key b))
    → Form what s (message k b) → Form what (if (eqb k key) r s) (message k b)
tested what k b key r s t f g = by (eqb k key) refl
  where
    by : (x : Bool) → eqb k key ≡ x → Form what (if x r s) (message k b)
    by true e = subst (λ (n : ℕ). together n b ≡ true → Form what r (message n b)) (sym (eqb-true k key e)) f t
    by false e = g

ending-form : (what : Open) (k : ℕ) (b : Body) → together k b ≡ true → ((e : Ending) → Form what End (ending e)) → Form what (item_end k) (message k b)
unfolding together find_of search rows
ending-form what k b t f =
    tested what k b ItemEnd End _ t (λ u. empty-form what End ItemEnd (f Ending.item-end) (bodied 0 b u))
    (tested what k b ResultEnd End Other t (λ u. empty-form what End ResultEnd (f Ending.result_end) (bodied 0 b u)) Form.other)

open_form : (what : Open) (k : ℕ) (b : Body) → together k b ≡ true → Form what (open_role what k) (message k b)
unfolding together find_of search rows
open_form gathering.Nothing k b t = Form.other
open_form gathering.Statement k b t =
    tested gathering.Statement k b Execute Sole _ t (λ u. statement-form gathering.Statement Sole Execute Form.sole (bodied 3 b u))
    (tested gathering.Statement k b ExecuteLong Part _ t (λ u. statement-form gathering.Statement Part ExecuteLong Form.long-part (bodied 3 b u))
    (tested gathering.Statement k b LongQueryEnd End Other t (λ u. empty-form gathering.Statement End LongQueryEnd Form.long-end (bodied 0 b u)) Form.other))
open_form gathering.Item k b t =
    tested gathering.Item k b ItemPart Part _ t (λ u. text-form gathering.Item Part ItemPart Form.item-part (bodied 2 b u))
    (ending-form gathering.Item k b t Form.item-end)
open_form gathering.TypedItem k b t =
    tested gathering.TypedItem k b ItemStart Start _ t (λ u. start-form (bodied 6 b u))
    (tested gathering.TypedItem k b ItemPart Further _ t (λ u. text-form gathering.TypedItem Further ItemPart Form.further (bodied 2 b u))
    (ending-form gathering.TypedItem k b t Form.typed_end))

pub form : (what : Open) (m : Message) → Form what (role_of what m) m
unfolding role_of
form what m = by (together m.instruction m.body) refl
  where
    by : (t : Bool) → together m.instruction m.body ≡ t → Form what (if t (open_role what m.instruction) Other) m
    by true e = open_form what m.instruction m.body e
    by false e = Form.other

abbrev cut_of : (c : Cutting) → Cut (opening c) (messages c)
cut_of c = record { cutting = c; opens = refl; made = refl }

-- a part or an end of some cutting
pub part_of : {what : Open} {k : Role} {m : Message} → Form what k m → takes k ≡ true → PartOf what m
part_of Form.other h = not_both (sym h)
part_of (Form.sole p) h = ([], ([], cut_of (Cutting.short p)))
part_of (Form.long-part p) h = ([], (message LongQueryEnd Body.empty ∷ [], cut_of (Cutting.long p [])))
part_of Form.long-end h = let p : Piece = record { format = 0; text = [] } in (execute_long p ∷ [], ([], cut_of (Cutting.long p [])))
part_of (Form.item-part t) h = ([], (ending Ending.item-end ∷ [], cut_of (Cutting.item t [] Ending.item-end)))
part_of (Form.item-end e) h = (item_part [] ∷ [], ([], cut_of (Cutting.item [] [] e)))
part_of (Form.start class kind url t) h = ([], (ending Ending.item-end ∷ [], cut_of (Cutting.typed_item class kind url t [] Ending.item-end)))
part_of (Form.further t) h = (message ItemStart (Body.item 1 0 Url.absent []) ∷ [], (ending Ending.item-end ∷ [], cut_of (Cutting.typed_item 1 0 Url.absent [] (t ∷ []) Ending.item-end)))
part_of (Form.typed_end e) h = (message ItemStart (Body.item 1 0 Url.absent []) ∷ [], ([], cut_of (Cutting.typed_item 1 0 Url.absent [] [] e)))

-- a cutting but for what is still to come, and the label of its first part; where there is none yet, any
pub data Reached : Open → List Message → Label → Type 0 where
  fresh : {what : Open} {l : Label} → Reached what [] l
  long : (p : Piece) (ps : List Piece) → Reached gathering.Statement (execute_long p ∷ map execute_long ps) (label p.format 0 0)
  item : (t : List ℕ) (ts : List (List ℕ)) → Reached gathering.Item (item_part t ∷ map item_part ts) (label 0 0 0)
  typed_item : (class kind : ℕ) (url : Url) (t : List ℕ) (ts : List (List ℕ)) → Reached gathering.TypedItem (message ItemStart (Body.item class kind url t) ∷ map item_part ts) (label 0 class kind)

-- once a part is there, some end makes it whole
pub reached_begun : {what : Open} {ms : List Message} {l : Label} → Reached what ms l → since false ms ≡ true → Begun what ms
reached_begun Reached.fresh h = not_both (sym h)
reached_begun (Reached.long p ps) h = (message LongQueryEnd Body.empty ∷ [], cut_of (Cutting.long p ps))
reached_begun (Reached.item t ts) h = (ending Ending.item-end ∷ [], cut_of (Cutting.item t ts Ending.item-end))
reached_begun (Reached.typed_item class kind url t ts) h = (ending Ending.item-end ∷ [], cut_of (Cutting.typed_item class kind url t ts Ending.item-end))

-- a whole cutting, which is handed over with its values
pub record Ended (what : Open) (ms : List Message) (l : Label) : Type 0 where
  pub cut : Cut what ms
  pub handed : (n : ℕ) → reply (whole_of what l n) ≡ Reply.whole (values cut.cutting) n

abbrev pub Goes : Open → List Message → Label → Bool → Type 0
Goes what ms l true = Ended what ms l
Goes what ms l false = Reached what ms l

-- a message in order goes on, or ends it
pub goes : {what : Open} {ms : List Message} {l : Label} {k : Role} {m : Message} → Reached what ms l → Form what k m
    → in_order k (since false ms) ≡ true → Goes what (ms ++ (m ∷ [])) (if (since false ms) l (label_of m.body)) (ends k)
goes Reached.fresh Form.other h = not_both (sym h)
goes Reached.fresh (Form.sole p) h = record { cut = cut_of (Cutting.short p); handed = λ n. refl }
goes Reached.fresh (Form.long-part p) h = Reached.long p []
goes Reached.fresh Form.long-end h = not_both (sym h)
goes Reached.fresh (Form.item-part t) h = Reached.item t []
goes Reached.fresh (Form.item-end e) h = not_both (sym h)
goes Reached.fresh (Form.start class kind url t) h = Reached.typed_item class kind url t []
goes Reached.fresh (Form.further t) h = not_both (sym h)
goes Reached.fresh (Form.typed_end e) h = not_both (sym h)
goes (Reached.long p ps) Form.other h = not_both (sym h)
goes (Reached.long p ps) (Form.sole q) h = not_both (sym h)
goes (Reached.long p ps) (Form.long-part q) h =
    subst (λ (ms : List Message). Reached gathering.Statement (execute_long p ∷ ms) (label p.format 0 0)) (map-append execute_long ps (q ∷ [])) (Reached.long p (ps ++ (q ∷ [])))
goes (Reached.long p ps) Form.long-end h = record { cut = cut_of (Cutting.long p ps); handed = λ n. refl }
goes (Reached.item t ts) Form.other h = not_both (sym h)
goes (Reached.item t ts) (Form.item-part u) h =
    subst (λ (ms : List Message). Reached gathering.Item (item_part t ∷ ms) (label 0 0 0)) (map-append item_part ts (u ∷ [])) (Reached.item t (ts ++ (u ∷ [])))
goes (Reached.item t ts) (Form.item-end e) h = record { cut = cut_of (Cutting.item t ts e); handed = λ n. refl }
goes (Reached.typed_item class kind url t ts) Form.other h = not_both (sym h)
goes (Reached.typed_item class kind url t ts) (Form.start c k u v) h = not_both (sym h)
goes (Reached.typed_item class kind url t ts) (Form.further u) h =
    subst (λ (ms : List Message). Reached gathering.TypedItem (message ItemStart (Body.item class kind url t) ∷ ms) (label 0 class kind)) (map-append item_part ts (u ∷ []))
    (Reached.typed_item class kind url t (ts ++ (u ∷ [])))
goes (Reached.typed_item class kind url t ts) (Form.typed_end e) h = record { cut = cut_of (Cutting.typed_item class kind url t ts e); handed = λ n. refl }
