-- Which message stands at k of each cut.
use mathlib.Core.Path.{◌≡◌, sym, ap, ◌∙◌}
use mathlib.Core.List.{List, [], ◌∷◌, ◌++◌, map}
use mathlib.Core.Option
use mathlib.Core.Option.{none, some}
use Prim.Native.Nat.{ℕ, ◌*◌, ◌-◌, ◌≤◌, ◌<◌}
use native.Mathlib.Omega.{arith}
use lib.ListN.{length, take, drop, get_elem?, length-map}
use borrow.Author.Tests.{le-leb, lt-leb}
use Rattle.sedna.specs.Message.{Url, Body, Message, message}
use Rattle.sedna.specs.Names as M
use Rattle.parts_cut.specs.Cut.{pieces, statement_room, part_room, start_room, cut_statement, item_parts, cut_item, cut_typed_item}
use Rattle.parts_cut.specs.Part.{piece_count}
use Rattle.parts_cut.proofs.Elements.{at_map, at_front, at-behind, at_next}
use Rattle.parts_cut.proofs.Pieces.{piece_at, piece_past, length-pieces, within, beyond}

-- the pieces of a text as messages: piece k, and past the last
module _ (m : ℕ) (f : List ℕ → Message) (t : List ℕ) (k : ℕ) (p : 0 < m) where
  pieces-at : {piece : List ℕ} → k < piece_count m (length t) → piece ≡ take m (drop (k * m) t) → get_elem? (map f (pieces m t)) k ≡ some (f piece)
  pieces-at h e = at_map f (pieces m t) k ∙ ap (Option.map f) (piece_at m t k p (within m (length t) k p h)) ∙ ap (λ (s : List ℕ). some (f s)) (sym e)

  pieces_past : piece_count m (length t) ≤ k → get_elem? (map f (pieces m t)) k ≡ none
  pieces_past h = at_map f (pieces m t) k ∙ ap (Option.map f) (piece_past m t k p (beyond m (length t) k p h))

-- a long statement's messages: its pieces, and behind them the end
abbrev pub long_parts : ℕ → List ℕ → List Message
long_parts format t = map (λ (piece : List ℕ). message M.ExecuteLong (Body.statement format piece)) (pieces statement_room t)

abbrev pub long_end : List Message
long_end = message M.LongQueryEnd Body.empty ∷ []

pub long_parts_length : (format : ℕ) (t : List ℕ) → length (long_parts format t) ≡ piece_count statement_room (length t)
long_parts_length format t = length-map (pieces statement_room t) _ ∙ length-pieces statement_room t (omega arith)

pub cut_sole : (format : ℕ) (t : List ℕ) → length t ≤ statement_room → cut_statement format t ≡ message M.Execute (Body.statement format t) ∷ []
unfolding cut_statement
cut_sole format t h = simp (le-leb _ _ h)

pub cut-long : (format : ℕ) (t : List ℕ) → statement_room < length t → cut_statement format t ≡ long_parts format t ++ long_end
unfolding cut_statement
cut-long format t h = simp (lt-leb _ _ h)

module _ (format : ℕ) (t : List ℕ) (k : ℕ) where
  pub statement_sole : length t ≤ statement_room → k ≡ 0 → get_elem? (cut_statement format t) k ≡ some (message M.Execute (Body.statement format t))
  statement_sole h z = rw (cut_sole format t h, z)

  pub statement_sole_past : length t ≤ statement_room → 0 < k → get_elem? (cut_statement format t) k ≡ none
  statement_sole_past h z = rw (cut_sole format t h) (at_next _ [] k z)

  pub statement_piece : {piece : List ℕ} → statement_room < length t → k < piece_count statement_room (length t) → piece ≡ take statement_room (drop (k * statement_room) t)
      → get_elem? (cut_statement format t) k ≡ some (message M.ExecuteLong (Body.statement format piece))
  statement_piece h l e =
      rw (cut-long format t h) (at_front (long_parts format t) long_end k (omega (arith, long_parts_length format t)) ∙ pieces-at statement_room _ t k (omega arith) l e)

  pub statement-end : statement_room < length t → k ≡ piece_count statement_room (length t) → get_elem? (cut_statement format t) k ≡ some (message M.LongQueryEnd Body.empty)
  statement-end h e =
      let n : length (long_parts format t) ≡ piece_count statement_room (length t) = long_parts_length format t in
      let z : k - length (long_parts format t) ≡ 0 = omega arith in
      rw (cut-long format t h) (at-behind (long_parts format t) long_end k (omega arith) ∙ ap (get_elem? long_end) z)

  pub statement_past : statement_room < length t → piece_count statement_room (length t) < k → get_elem? (cut_statement format t) k ≡ none
  statement_past h l =
      let n : length (long_parts format t) ≡ piece_count statement_room (length t) = long_parts_length format t in
      rw (cut-long format t h) (at-behind (long_parts format t) long_end k (omega arith) ∙ at_next _ [] (k - length (long_parts format t)) (omega arith))

module _ (t : List ℕ) (k : ℕ) where
  pub following_piece : {piece : List ℕ} → k < piece_count part_room (length t) → piece ≡ take part_room (drop (k * part_room) t)
      → get_elem? (item_parts t) k ≡ some (message M.ItemPart (Body.text piece))
  following_piece h e = pieces-at part_room _ t k (omega arith) h e

  pub following_past : piece_count part_room (length t) ≤ k → get_elem? (item_parts t) k ≡ none
  following_past h = pieces_past part_room _ t k (omega arith) h

  pub item_first : {piece : List ℕ} → k ≡ 0 → piece ≡ take part_room t → get_elem? (cut_item t) k ≡ some (message M.ItemPart (Body.text piece))
  unfolding cut_item
  item_first z e = rw (z, e)

  pub item_following : {rest : List ℕ} → 0 < k → rest ≡ drop part_room t → get_elem? (cut_item t) k ≡ get_elem? (item_parts rest) (k - 1)
  unfolding cut_item
  item_following z e = rw e (at_next _ (item_parts (drop part_room t)) k z)

module _ (class kind : ℕ) (url : Url) (t : List ℕ) (k : ℕ) where
  pub typed_first : {piece : List ℕ} → k ≡ 0 → piece ≡ take (start_room url) t → get_elem? (cut_typed_item class kind url t) k ≡ some (message M.ItemStart (Body.item class kind url piece))
  unfolding cut_typed_item
  typed_first z e = rw (z, e)

  pub typed_following : {rest : List ℕ} → 0 < k → rest ≡ drop (start_room url) t → get_elem? (cut_typed_item class kind url t) k ≡ get_elem? (item_parts rest) (k - 1)
  unfolding cut_typed_item
  typed_following z e = rw e (at_next _ (item_parts (drop (start_room url) t)) k z)
