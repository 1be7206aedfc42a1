-- Cutting, then joining, is the identity.
use mathlib.Core.Bool.{Bool, true, false}
use mathlib.Core.List.{List, [], ◌∷◌, ◌++◌, map, flatten, append-nil}
use mathlib.Core.Path.{◌≡◌, refl, sym, ◌∙◌, ap, subst}
use Prim.Native.Nat.{ℕ, ◌<◌}
use native.Mathlib.Omega.{arith}
use lib.Dec.{leb}
use lib.ListN.{length, take, drop}
use borrow.Author.Tests.{leb-true, leb-false}
use Rattle.sedna.specs.Allowed.{format_allowed, allowed}
use Rattle.sedna.specs.Message.{Url, Body, Message, message}
use Rattle.sedna.specs.Names as M
use Rattle.parts_cut.specs.Cut.{statement_room, part_room, start_room, pieces, cut_statement, cut_item, cut_typed_item}
use Rattle.parts_cut.proofs.Cuts.{cut_sole, cut-long}
use Rattle.parts_cut.proofs.Joined.{pieces-joined, first-joined}
use Rattle.parts_join.specs.declared.Open.TheVariants as gathering
use Rattle.parts_join.specs.Cuttings.{Piece, Ending, Cutting, execute_long, item_part, ending, messages, AllAllowed}
use Rattle.parts_join.proofs.Cuttings.{joins}
use Rattle.parts_laws.specs.Rejoined.{Rejoined}
use Rattle.parts_laws.proofs.Cuts.{some_piece}

-- a text in one go or in several
abbrev piece : ℕ → List ℕ → Piece
piece format t = record { format = format; text = t }

abbrev long : ℕ → List ℕ → Message
long format t = message M.ExecuteLong (Body.statement format t)

abbrev long_end : List Message
long_end = message M.LongQueryEnd Body.empty ∷ []

map-long : (format : ℕ) (l : List (List ℕ)) → map execute_long (map (piece format) l) ≡ map (long format) l
map-long format [] = refl
map-long format (t ∷ l) = λ i. long format t ∷ map-long format l i

long-text : (format : ℕ) (l : List (List ℕ)) → flatten (map (λ (p : Piece). p.text) (map (piece format) l) ++ ([] ∷ [])) ≡ flatten l
unfolding flatten
long-text format [] = refl
long-text format (t ∷ l) = ap (λ (s : List ℕ). t ++ s) (long-text format l)

long-allowed : (format : ℕ) → format_allowed format ≡ true → (l : List (List ℕ)) → AllAllowed (map (long format) l ++ long_end)
unfolding allowed
long-allowed format ok [] = (refl, tt)
long-allowed format ok (t ∷ l) = (ok, long-allowed format ok l)

module _ (format : ℕ) (ok : format_allowed format ≡ true) (d : List ℕ) where
  long-rejoined : (l : List (List ℕ)) → 0 < length l → Rejoined gathering.Statement (map (long format) l ++ long_end) (format ∷ []) (flatten l) d
  long-rejoined [] p = absurd (omega arith)
  long-rejoined (t ∷ l) p =
      let c : Cutting = Cutting.long (piece format t) (map (piece format) l) in
      let same : messages c ≡ map (long format) (t ∷ l) ++ long_end = λ i. (long format t ∷ map-long format l i) ++ long_end in
      record {
        cutting = c;
        parts = same;
        opens = refl;
        says = refl;
        text_of = long-text format (t ∷ l);
        joins = joins c (subst AllAllowed (sym same) (long-allowed format ok (t ∷ l))) d;
      }

  sole_rejoined : (t : List ℕ) → Rejoined gathering.Statement (message M.Execute (Body.statement format t) ∷ []) (format ∷ []) t d
  unfolding allowed flatten
  sole_rejoined t = record { cutting = Cutting.short (piece format t); parts = refl; opens = refl; says = refl; text_of = append-nil t; joins = joins (Cutting.short (piece format t)) (ok, tt) d }

  pub statement_rejoined : (t : List ℕ) → Rejoined gathering.Statement (cut_statement format t) (format ∷ []) t d
  statement_rejoined t = by (leb (length t) statement_room) refl
    where
      by : (b : Bool) → leb (length t) statement_room ≡ b → Rejoined gathering.Statement (cut_statement format t) (format ∷ []) t d
      by true e = rw (cut_sole format t (leb-true (length t) statement_room e)) (sole_rejoined t)
      by false e =
          let h = leb-false (length t) statement_room e in
          let r = long-rejoined (pieces statement_room t) (some_piece t (omega (arith, h))) in
          record {
            cutting = r.cutting;
            parts = r.parts ∙ sym (cut-long format t h);
            opens = r.opens;
            says = r.says;
            text_of = r.text_of ∙ pieces-joined statement_room t (omega arith);
            joins = r.joins;
          }

-- items: the end stands apart
end-allowed : (e : Ending) → AllAllowed (ending e ∷ [])
unfolding allowed
end-allowed Ending.item-end = (refl, tt)
end-allowed Ending.result_end = (refl, tt)

parts-text : (l : List (List ℕ)) → flatten (l ++ ([] ∷ [])) ≡ flatten l
unfolding flatten
parts-text [] = refl
parts-text (t ∷ l) = ap (λ (s : List ℕ). t ++ s) (parts-text l)

parts-allowed : (e : Ending) (l : List (List ℕ)) → AllAllowed (map item_part l ++ (ending e ∷ []))
unfolding allowed
parts-allowed e [] = end-allowed e
parts-allowed e (t ∷ l) = (refl, parts-allowed e l)

pub item_rejoined : (t : List ℕ) (e : Ending) (d : List ℕ) → Rejoined gathering.Item (cut_item t ++ (ending e ∷ [])) [] t d
unfolding cut_item allowed flatten
item_rejoined t e d =
    let rest : List (List ℕ) = pieces part_room (drop part_room t) in
    let c : Cutting = Cutting.item (take part_room t) rest e in
    record {
      cutting = c;
      parts = refl;
      opens = refl;
      says = refl;
      text_of = ap (λ (s : List ℕ). take part_room t ++ s) (parts-text rest) ∙ first-joined part_room part_room t (omega arith);
      joins = joins c (refl, parts-allowed e rest) d;
    }

pub typed_item-rejoined : (class kind : ℕ) (url : Url) (t : List ℕ) → allowed (Body.item class kind url t) ≡ true → (e : Ending) (d : List ℕ)
    → Rejoined gathering.TypedItem (cut_typed_item class kind url t ++ (ending e ∷ [])) (class ∷ kind ∷ []) t d
unfolding cut_typed_item allowed flatten
typed_item-rejoined class kind url t ok e d =
    let rest : List (List ℕ) = pieces part_room (drop (start_room url) t) in
    let c : Cutting = Cutting.typed_item class kind url (take (start_room url) t) rest e in
    record {
      cutting = c;
      parts = refl;
      opens = refl;
      says = refl;
      text_of = ap (λ (s : List ℕ). take (start_room url) t ++ s) (parts-text rest) ∙ first-joined (start_room url) part_room t (omega arith);
      joins = joins c (ok, parts-allowed e rest) d;
    }
