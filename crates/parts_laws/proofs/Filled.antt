-- The cuts fill their messages, and a URL leaves room exactly where its ItemStart has an encoding.
use Rattle.std.specs.Prelude.{Ok, Err}
use mathlib.Core.List.{List, [], ◌∷◌, ◌++◌, map}
use mathlib.Core.Logic.{◌↔◌}
use mathlib.Core.Path.{◌≡◌}
use Prim.Native.Nat.{ℕ, zero, suc, ◌+◌, ◌≤◌, ◌<◌}
use native.Mathlib.Omega.{arith}
use lib.Dec.{leb}
use lib.ListN.{length, take, drop, length-append, length-drop}
use lib.Seq.{length-take-le}
use Rattle.wire.specs.Bytes.{if}
use Rattle.wire.specs.declared.Refusal.TheVariants.{NoEncoding}
use Rattle.sedna.specs.Encode.{string, url_bytes, body_bytes}
use Rattle.sedna.specs.Message.{Url, Body, Message, message}
use Rattle.sedna.specs.Names as M
use Rattle.parts_cut.specs.Cut.{pieces_up_to, pieces, statement_room, part_room, start_room, cut_statement, cut_item, cut_typed_item}
use Rattle.parts_cut.specs.Part.{url_parts}
use Rattle.parts_cut.proofs.Counts.{typed_item-counted}
use Rattle.parts_cut.proofs.Cuts.{long_parts, cut-long}
use Rattle.parts_laws.specs.Filled.{Filled}
use Rattle.parts_laws.specs.Rejoined.{UrlFits}
use Rattle.parts_laws.proofs.Bodies.{string-length}

-- messages of pieces, each with a body of so many bytes more than its piece
module _ (m : ℕ) (p : 0 < m) (body : List ℕ → Body) (k : ℕ) (sized : (piece : List ℕ) → length piece ≡ m → length (body_bytes (body piece)) ≡ 10240) where
  abbrev made : List ℕ → Message
  made piece = message k (body piece)

  -- a message that is full where more follow, in front of filled ones
  in_front : (x : Message) (ms : List Message) → (0 < length ms → length (body_bytes x.body) ≡ 10240) → Filled ms → Filled (x ∷ ms)
  in_front x [] full f = tt
  in_front x (y ∷ ms) full f = (full (omega arith), f)

  -- what is behind the first piece is empty where nothing follows it
  some_left : (most : ℕ) (s : List ℕ) → 0 < length (map made (pieces_up_to most m s)) → 0 < length s
  unfolding pieces_up_to
  some_left zero s h = absurd (omega arith)
  some_left (suc most) [] h = absurd (omega arith)
  some_left (suc most) (x ∷ s) h = omega arith

  full-front : (s : List ℕ) (most : ℕ) → 0 < length (map made (pieces_up_to most m (drop m s))) → length (take m s) ≡ m
  full-front s most h = length-take-le m s (omega (arith, some_left most (drop m s) h, length-drop m s))

  filled-up_to : (most : ℕ) (s : List ℕ) → Filled (map made (pieces_up_to most m s))
  unfolding pieces_up_to
  filled-up_to zero s = tt
  filled-up_to (suc most) [] = tt
  filled-up_to (suc most) (x ∷ s) =
      in_front (made (take m (x ∷ s))) (map made (pieces_up_to most m (drop m (x ∷ s)))) (λ h. sized (take m (x ∷ s)) (full-front (x ∷ s) most h)) (filled-up_to most (drop m (x ∷ s)))

  filled-pieces : (s : List ℕ) → Filled (map made (pieces m s))
  filled-pieces s = filled-up_to (length s) s

  -- a first message of another kind, which takes up to so many bytes, in front of the pieces of what it leaves
  first-filled : (room : ℕ) (x : Message) (s : List ℕ) → (room < length s → length (body_bytes x.body) ≡ 10240) → Filled (x ∷ map made (pieces m (drop room s)))
  first-filled room x s full =
      in_front x (map made (pieces m (drop room s))) (λ h. full (omega (arith, some_left (length (drop room s)) (drop room s) h, length-drop room s))) (filled-pieces (drop room s))

part-full : (piece : List ℕ) → length piece ≡ part_room → length (body_bytes (Body.text piece)) ≡ 10240
unfolding body_bytes
part-full piece e = omega (arith, string-length piece)

long-full : (format : ℕ) (piece : List ℕ) → length piece ≡ statement_room → length (body_bytes (Body.statement format piece)) ≡ 10240
unfolding body_bytes
long-full format piece e = omega (arith, string-length piece)

start-full : (class kind : ℕ) (url : Url) (piece : List ℕ) → UrlFits url → length piece ≡ start_room url → length (body_bytes (Body.item class kind url piece)) ≡ 10240
unfolding body_bytes url_bytes
start-full class kind Url.absent piece fits e = omega (arith, string-length piece)
start-full class kind (Url.present url) piece fits e =
    let long : length (string url) ≡ 5 + length url = string-length url in
    omega (arith, string-length piece, long, length-append (string url) (string piece), fits)

-- above 10,234 bytes: full parts, the rest, and LongQueryEnd
pub statement_filled : (format : ℕ) (text : List ℕ) → statement_room < length text
    → (parts : List Message) × (cut_statement format text ≡ parts ++ (message M.LongQueryEnd Body.empty ∷ [])) × Filled parts
statement_filled format text h = (long_parts format text, cut-long format text h, filled-pieces statement_room (omega arith) (Body.statement format) M.ExecuteLong (long-full format) text)

pub item_filled : (text : List ℕ) → Filled (cut_item text)
unfolding cut_item
item_filled text =
    first-filled part_room (omega arith) Body.text M.ItemPart part-full part_room (message M.ItemPart (Body.text (take part_room text))) text
    (λ h. part-full (take part_room text) (length-take-le part_room text (omega (arith, h))))

pub typed_filled : (class kind : ℕ) (url : Url) (text : List ℕ) → UrlFits url → Filled (cut_typed_item class kind url text)
unfolding cut_typed_item
typed_filled class kind url text fits =
    first-filled part_room (omega arith) Body.text M.ItemPart part-full (start_room url) (message M.ItemStart (Body.item class kind url (take (start_room url) text))) text
    (λ h. start-full class kind url (take (start_room url) text) fits (length-take-le (start_room url) text (omega (arith, h))))

-- "(u above 10,227: 11)": above that an ItemStart with the URL and no text has no encoding
pub url_fits : (class kind : ℕ) (url : Url) → UrlFits url ↔ (length (body_bytes (Body.item class kind url [])) ≤ 10240)
unfolding body_bytes url_bytes
url_fits class kind Url.absent = (λ _. omega (arith, string-length []), λ _. tt)
url_fits class kind (Url.present url) =
    let long : length (string url) ≡ 5 + length url = string-length url in
    (λ h. omega (arith, string-length [], long, length-append (string url) (string []), h), λ h. omega (arith, string-length [], long, length-append (string url) (string []), h))

-- the count of parts is the cut's, or 11
pub url_counted : (class kind : ℕ) (url text : List ℕ) → url_parts (length text) (length url)
    ≡ if (leb (length url) 10227) (Ok (length (cut_typed_item class kind (Url.present url) text))) (Err NoEncoding)
url_counted class kind url text = rw (typed_item-counted class kind (Url.present url) text)
