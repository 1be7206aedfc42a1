-- A cut's messages are published, and in their order they are a statement's text, or an item, of the grammar.
use mathlib.Core.Bool.{Bool, true, false}
use mathlib.Core.List.{List, [], ◌∷◌, ◌++◌, map, flat_map, Memᴰ}
use mathlib.Core.Path.{◌≡◌, refl, sym, ◌∙◌, ap}
use Prim.Native.Nat.{ℕ, zero, suc, ◌≤◌, ◌<◌}
use native.Mathlib.Omega.{arith}
use lib.Dec.{T, leb}
use lib.ListN.{length, take, drop, length-take, take-append-drop}
use borrow.Author.Tests.{leb-true, leb-false}
use Rattle.wire.specs.Bytes.{IsBytes}
use Rattle.sedna.specs.declared.Side.{Side}
use Rattle.sedna.specs.declared.Side.TheVariants.{Client, Server}
use Rattle.sedna.specs.Allowed.{format_allowed, allowed}
use Rattle.sedna.specs.Message.{Url, Body, Message, message}
use Rattle.sedna.specs.Names as M
use Rattle.sedna.specs.Published.{Published}
use Rattle.sedna.specs.Table.{rows, search, find_of}
use Rattle.sedna_laws.specs.Pieces.{Bounded}
use Rattle.sedna_laws.proofs.Bytes.{bytes-front, bytes-behind}
use Rattle.grammar.specs.Sent.{Sent, Version, from, up_to}
use Rattle.grammar.specs.Grammar.{plus, Request, execute, execute-long, Within, within_part, Item, parts, started}
use Rattle.grammar.specs.Layout.{one, flat_request, flat_within, flat_item}
use Rattle.session_laws.proofs.Published.{published-sent}
use Rattle.parts_cut.specs.Cut.{statement_room, part_room, start_room, pieces_up_to, pieces, cut_statement, item_parts, cut_item, cut_typed_item}
use Rattle.wire.specs.Every.{Every}
use Rattle.parts_cut.specs.Part.{piece_count}
use Rattle.parts_cut.proofs.Cuts.{cut_sole, cut-long}
use Rattle.parts_cut.proofs.Joined.{pieces_sized}
use Rattle.parts_cut.proofs.Pieces.{length-pieces}
use Rattle.parts_laws.specs.Rejoined.{UrlFits}
use Rattle.parts_laws.proofs.Bodies.{statement_published, part-published, end-published, start-published}

module _ {A : Type 0} (P : A → Type 0) where
  every : (l : List A) → ((x : A) → Memᴰ x l → P x) → Every P l
  every [] f = tt
  every (x ∷ l) f = (f x (Memᴰ.head refl), every l (λ y i. f y (Memᴰ.tail i)))

  pub every_append : (k l : List A) → Every P k → Every P l → Every P (k ++ l)
  every_append [] l h g = g
  every_append (x ∷ k) l h g = (h.0, every_append k l h.1 g)

  every_map : {B : Type 0} (Q : B → Type 0) (f : A → B) → ((x : A) → P x → Q (f x)) → (l : List A) → Every P l → Every Q (map f l)
  every_map Q f g [] h = tt
  every_map Q f g (x ∷ l) h = (g x h.0, every_map Q f g l h.1)

  every_both : (Q : A → Type 0) (l : List A) → Every P l → Every Q l → Every (λ (x : A). P x × Q x) l
  every_both Q [] h g = tt
  every_both Q (x ∷ l) h g = ((h.0, g.0), every_both Q l h.1 g.1)

-- parts of bytes are bytes
taken-bytes : (n : ℕ) (s : List ℕ) → IsBytes s → IsBytes (take n s)
taken-bytes n s h = bytes-front (take n s) (drop n s) (rw (take-append-drop n s) h)

dropped_bytes : (n : ℕ) (s : List ℕ) → IsBytes s → IsBytes (drop n s)
dropped_bytes n s h = bytes-behind (take n s) (drop n s) (rw (take-append-drop n s) h)

bytes-pieces : (most m : ℕ) (s : List ℕ) → IsBytes s → Every IsBytes (pieces_up_to most m s)
unfolding pieces_up_to
bytes-pieces zero m s h = tt
bytes-pieces (suc most) m [] h = tt
bytes-pieces (suc most) m (x ∷ s) h = (taken-bytes m (x ∷ s) h, bytes-pieces most m (drop m (x ∷ s)) (dropped_bytes m (x ∷ s) h))

-- pieces are short enough for a message, and bytes
abbrev Short : ℕ → List ℕ → Type 0
Short m piece = (length piece ≤ m) × IsBytes piece

short-pieces : (m : ℕ) (s : List ℕ) → 0 < m → IsBytes s → Every (Short m) (pieces m s)
short-pieces m s p h =
    every_both (λ (piece : List ℕ). length piece ≤ m) IsBytes (pieces m s)
    (every (λ (piece : List ℕ). length piece ≤ m) (pieces m s) (λ piece i. (pieces_sized m s p piece i).1)) (bytes-pieces (length s) m s h)

-- what is published can be sent
abbrev sent : {side : Side} {k : ℕ} {b : Body} → Published side (message k b) → Sent k
sent {b = b} p = record { body = b; sent = published-sent p }

-- messages that were sent, from pieces
module _ {k : ℕ} (P : List ℕ → Type 0) (can : (piece : List ℕ) → P piece → Sent k) where
  sents : (l : List (List ℕ)) → Every P l → List (Sent k)
  sents [] h = []
  sents (piece ∷ l) h = can piece h.0 ∷ sents l h.1

module _ {k : ℕ} (P : List ℕ → Type 0) (body : List ℕ → Body) (can : (piece : List ℕ) → P piece → Sent k) (is : (piece : List ℕ) (h : P piece) → (can piece h).body ≡ body piece) where
  sents_written : (l : List (List ℕ)) (h : Every P l) → flat_map (one {k = k}) (sents P can l h) ≡ map (λ (piece : List ℕ). message k (body piece)) l
  unfolding sents flat_map
  sents_written [] h = refl
  sents_written (piece ∷ l) h = λ i. message k (is piece h.0 i) ∷ sents_written l h.1 i

-- a text that is not empty has a piece
pub some_piece : (t : List ℕ) → 0 < length t → 0 < length (pieces statement_room t)
some_piece t p = rw (length-pieces statement_room t (omega arith)) (positive (length t) p)
  where
    positive : (n : ℕ) → 0 < n → 0 < piece_count statement_room n
    positive zero h = absurd (omega arith)
    positive (suc n) h = omega arith

abbrev long : ℕ → List ℕ → Message
long format piece = message M.ExecuteLong (Body.statement format piece)

module _ (format : ℕ) (ok : format_allowed format ≡ true) where
  can_execute : (t : List ℕ) → Short statement_room t → Published Client (message M.Execute (Body.statement format t))
  unfolding find_of rows search
  can_execute t h = statement_published M.Execute format t refl ok h.0 h.1

  can_long : (t : List ℕ) → Short statement_room t → Published Client (long format t)
  unfolding find_of rows search
  can_long t h = statement_published M.ExecuteLong format t refl ok h.0 h.1

  pub statement-cut-published : (t : List ℕ) → IsBytes t → Every (Published Client) (cut_statement format t)
  statement-cut-published t are = by (leb (length t) statement_room) refl
    where
      by : (b : Bool) → leb (length t) statement_room ≡ b → Every (Published Client) (cut_statement format t)
      by true e = let h = leb-true (length t) statement_room e in rw (cut_sole format t h) (can_execute t (h, are), tt)
      by false e =
          rw (cut-long format t (leb-false (length t) statement_room e))
          (every_append (Published Client) (map (long format) (pieces statement_room t)) (message M.LongQueryEnd Body.empty ∷ [])
          (every_map (Short statement_room) (Published Client) (long format) can_long (pieces statement_room t) (short-pieces statement_room t (omega arith) are))
          (end-published, tt))

  -- a text longer than one message has a first piece
  long-request : (l : List (List ℕ)) → Every (Short statement_room) l → 0 < length l
      → (q : Request) × (flat_request q ≡ map (long format) l ++ (message M.LongQueryEnd Body.empty ∷ []))
  long-request [] h p = absurd (omega arith)
  long-request (piece ∷ l) h p =
      let can : (x : List ℕ) → Short statement_room x → Sent M.ExecuteLong = λ x g. sent (can_long x g) in
      let rest = sents (Short statement_room) can l h.1 in (
        execute-long (plus (can piece h.0) rest) (sent end-published),
        ap (λ (r : List Message). (long format piece ∷ r) ++ (message M.LongQueryEnd Body.empty ∷ [])) (sents_written (Short statement_room) (Body.statement format) can (λ x g. refl) l h.1),
      )

  -- the cut's messages in order are a statement's text of the grammar
  pub statement-cut-request : (t : List ℕ) → IsBytes t → (q : Request) × (flat_request q ≡ cut_statement format t)
  statement-cut-request t are = by (leb (length t) statement_room) refl
    where
      by : (b : Bool) → leb (length t) statement_room ≡ b → (q : Request) × (flat_request q ≡ cut_statement format t)
      by true e = let h = leb-true (length t) statement_room e in (execute (sent (can_execute t (h, are))), sym (cut_sole format t h))
      by false e =
          let h = leb-false (length t) statement_room e in
          let r = long-request (pieces statement_room t) (short-pieces statement_room t (omega arith) are) (some_piece t (omega (arith, h))) in
          (r.0, r.1 ∙ sym (cut-long format t h))

-- items
can_part : (t : List ℕ) → Short part_room t → Published Server (message M.ItemPart (Body.text t))
can_part t h = part-published t h.0 h.1

parts-published : (t : List ℕ) → IsBytes t → Every (Published Server) (item_parts t)
parts-published t are =
    every_map (Short part_room) (Published Server) (λ (piece : List ℕ). message M.ItemPart (Body.text piece)) can_part (pieces part_room t) (short-pieces part_room t (omega arith) are)

taken-short : (n : ℕ) (t : List ℕ) → IsBytes t → Short n (take n t)
taken-short n t are = (omega (arith, length-take n t), taken-bytes n t are)

pub item-cut-published : (t : List ℕ) → IsBytes t → Every (Published Server) (cut_item t)
unfolding cut_item
item-cut-published t are = (can_part (take part_room t) (taken-short part_room t are), parts-published (drop part_room t) (dropped_bytes part_room t are))

start-allowed : (class kind : ℕ) (url : Url) (t u : List ℕ) → allowed (Body.item class kind url t) ≡ true → allowed (Body.item class kind url u) ≡ true
unfolding allowed
start-allowed class kind url t u ok = ok

-- an item's text is bytes, and its values are in bounds with another text of bytes
text-bytes : (class kind : ℕ) (url : Url) (t : List ℕ) → Bounded (Body.item class kind url t) → IsBytes t
text-bytes class kind Url.absent t h = h.1.1.1.0
text-bytes class kind (Url.present url) t h = h.1.1.1.1.0

start-bounded : (class kind : ℕ) (url : Url) (t u : List ℕ) → Bounded (Body.item class kind url t) → IsBytes u → Bounded (Body.item class kind url u)
start-bounded class kind Url.absent t u h g = (h.0, (h.1.0, (h.1.1.0, (g, tt))))
start-bounded class kind (Url.present url) t u h g = (h.0, (h.1.0, (h.1.1.0, (h.1.1.1.0, (g, tt)))))

-- the first message of an item of 4.0
can_start : (class kind : ℕ) (url : Url) (t : List ℕ) → allowed (Body.item class kind url t) ≡ true → Bounded (Body.item class kind url t) → UrlFits url
    → Published Server (message M.ItemStart (Body.item class kind url (take (start_room url) t)))
can_start class kind url t ok are fits =
    let front = take (start_room url) t in
    let short = taken-short (start_room url) t (text-bytes class kind url t are) in
    start-published class kind url front (start-allowed class kind url t front ok) fits short.0 (start-bounded class kind url t front are short.1)

pub typed_item-cut-published : (class kind : ℕ) (url : Url) (t : List ℕ) → allowed (Body.item class kind url t) ≡ true → Bounded (Body.item class kind url t) → UrlFits url
    → Every (Published Server) (cut_typed_item class kind url t)
unfolding cut_typed_item
typed_item-cut-published class kind url t ok are fits =
    (can_start class kind url t ok are fits, parts-published (drop (start_room url) t) (dropped_bytes (start_room url) t (text-bytes class kind url t are)))

-- ItemParts behind an item's first message
within : (v : Version) (l : List (List ℕ)) → Every (Short part_room) l → (w : List (Within v)) × (flat_map flat_within w ≡ map (λ (piece : List ℕ). message M.ItemPart (Body.text piece)) l)
unfolding flat_map
within v [] h = ([], refl)
within v (piece ∷ l) h =
    let rest = within v l h.1 in
    (within_part (sent (can_part piece h.0)) ∷ rest.0, ap (λ (r : List Message). message M.ItemPart (Body.text piece) ∷ r) rest.1)

-- the cut's messages in order are an item of the grammar
pub item-cut-item : (v : Version) → T (up_to 3 v) → (t : List ℕ) → IsBytes t → (i : Item v) × (flat_item i ≡ cut_item t)
unfolding cut_item
item-cut-item v g t are =
    let rest = within v (pieces part_room (drop part_room t)) (short-pieces part_room (drop part_room t) (omega arith) (dropped_bytes part_room t are)) in
    let first = message M.ItemPart (Body.text (take part_room t)) in
    (parts g (sent (can_part (take part_room t) (taken-short part_room t are))) rest.0, ap (λ (r : List Message). first ∷ r) rest.1)

pub typed_item-cut-item : (v : Version) → T (from 4 v) → (class kind : ℕ) (url : Url) (t : List ℕ) → allowed (Body.item class kind url t) ≡ true → Bounded (Body.item class kind url t) → UrlFits url
    → (i : Item v) × (flat_item i ≡ cut_typed_item class kind url t)
unfolding cut_typed_item
typed_item-cut-item v g class kind url t ok are fits =
    let behind : IsBytes (drop (start_room url) t) = dropped_bytes (start_room url) t (text-bytes class kind url t are) in
    let rest = within v (pieces part_room (drop (start_room url) t)) (short-pieces part_room (drop (start_room url) t) (omega arith) behind) in
    let first = message M.ItemStart (Body.item class kind url (take (start_room url) t)) in
    (started g (sent (can_start class kind url t ok are fits)) rest.0, ap (λ (r : List Message). first ∷ r) rest.1)
