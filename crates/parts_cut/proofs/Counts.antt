-- A cut has as many messages as its count says.
use mathlib.Core.Path.{◌≡◌, refl, ap, ◌∙◌}
use mathlib.Core.Bool.{Bool, true, false}
use mathlib.Core.List.{List}
use Prim.Native.Nat.{ℕ, suc, ◌+◌, ◌-◌}
use native.Mathlib.Omega.{arith}
use lib.Dec.{leb}
use lib.ListN.{length, drop, length-append, length-drop, length-map}
use borrow.Author.Tests.{leb-true, leb-false}
use Rattle.sedna.specs.Message.{Url}
use Rattle.parts_cut.specs.Cut.{pieces, statement_room, part_room, start_room, cut_statement, item_parts, cut_item, cut_typed_item}
use Rattle.parts_cut.specs.Part.{piece_count, statement_parts, item_parts_from}
use Rattle.parts_cut.proofs.Pieces.{length-pieces}
use Rattle.parts_cut.proofs.Cuts.{long_parts, long_end, long_parts_length, cut_sole, cut-long}

pub statement_counted : (format : ℕ) (t : List ℕ) → length (cut_statement format t) ≡ statement_parts (length t)
statement_counted format t = by (leb (length t) statement_room) refl
  where
    by : (b : Bool) → leb (length t) statement_room ≡ b → length (cut_statement format t) ≡ statement_parts (length t)
    by true e = rw (e, cut_sole format t (leb-true _ _ e))
    by false e = rw (e, cut-long format t (leb-false _ _ e)) (length-append (long_parts format t) long_end ∙ ap (λ (n : ℕ). n + 1) (long_parts_length format t))

-- a first message, and the parts behind what it takes
following_counted : (first : ℕ) (t : List ℕ) → suc (length (item_parts (drop first t))) ≡ item_parts_from first (length t)
following_counted first t =
    let n : length (item_parts (drop first t)) ≡ piece_count part_room (length t - first) =
    length-map (pieces part_room (drop first t)) _ ∙ length-pieces part_room (drop first t) (omega arith) ∙ ap (piece_count part_room) (length-drop first t) in
    rw n (omega arith)

pub item_counted : (t : List ℕ) → length (cut_item t) ≡ item_parts_from part_room (length t)
unfolding cut_item
item_counted t = following_counted part_room t

pub typed_item-counted : (class kind : ℕ) (url : Url) (t : List ℕ) → length (cut_typed_item class kind url t) ≡ item_parts_from (start_room url) (length t)
unfolding cut_typed_item
typed_item-counted class kind url t = following_counted (start_room url) t

-- "10,234 gives one message, 10,235 gives three"; two full parts have no empty one behind them
pub statements_counted : (statement_parts 0 ≡ 1) × ((statement_parts 10234 ≡ 1) × ((statement_parts 10235 ≡ 3) × (statement_parts 20468 ≡ 3)))
statements_counted = (refl, (refl, (refl, refl)))

-- an empty item is one message, and a full first message has none behind it
pub items-counted : (item_parts_from 10235 0 ≡ 1) × ((item_parts_from 10232 0 ≡ 1) × ((item_parts_from 10232 10232 ≡ 1) × (item_parts_from 10232 20467 ≡ 2)))
items-counted = (refl, (refl, (refl, refl)))
