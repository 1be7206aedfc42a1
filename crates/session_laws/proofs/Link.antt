-- The machine's move is the arrow that the grammar has for the instruction.
use Rattle.std.specs.Prelude.{Option as Found, Some, None}
use mathlib.Core.Bool.{Bool, true, false}
use mathlib.Core.List.{List, [], ◌∷◌}
use mathlib.Core.Option.{Option, none, some}
use mathlib.Core.Path.{◌≡◌, refl, sym, ◌∙◌, ap, subst}
use Prim.Native.Nat.{ℕ}
use lib.Dec.{T, eqb}
use lib.ListN.{get_or}
use borrow.Author.Tests.{eqb-true}
use Rattle.wire.specs.Bytes.{if}
use Rattle.sedna.specs.declared.{Shape.Shape, Side.Side, Side.TheVariants.Client, Side.TheVariants.Server}
use Rattle.sedna.specs.Message.{Message}
use Rattle.sedna.specs.Table.{find_of}
use Rattle.grammar.specs.Sent.{Version}
use Rattle.grammar.proofs.Arrow.{Arrow, Row, find}
use Rattle.grammar.proofs.Phase.{Phase, choose}
use Rattle.grammar.proofs.Rows.{row}
use Rattle.session.specs.Machine.{Way, along, refused, move_of, client_move, server_move, next}
use Rattle.session_laws.proofs.Phases.{code, ways, kept, Sender, sender, is, sent_by, rows_of, same_row}

-- where an arrow leads, if its condition holds
abbrev pub led : {v : Version} {X : Type 0} {f : X → List Message} → Option (Arrow v X f) → Option Phase
led none = none
led (some a) = choose a.when a.to none

-- a phase as the record has it; none is the mark of a refused move
abbrev pub mark : Option Phase → ℕ
mark none = refused
mark (some p) = code p

mark-when : (when : Bool) (p : Phase) → if when (code p) refused ≡ mark (choose when p none)
mark-when true p = refl
mark-when false p = refl

along-found : {v : Version} {X : Type 0} {f : X → List Message} (k : ℕ) (r : Row v X f) → along k (ways r) ≡ mark (led (find k r))
along-found k [] = refl
along-found {v} {X} {f} k (a ∷ r) = by (eqb k a.kind) (along-found k r)
  where
    by : (t : Bool) → along k (ways r) ≡ mark (led (find k r)) → if t (if a.when (code a.to) refused) (along k (ways r)) ≡ mark (led (choose t a (find k r)))
    by true h = mark-when a.when a.to
    by false h = h

-- ways whose instructions fail a test that k passes do not matter for k
along-kept : (test : ℕ → Bool) (k : ℕ) → test k ≡ true → (ws : List Way) → along k ws ≡ along k (kept test ws)
along-kept test k h [] = refl
along-kept test k h (w ∷ ws) = by (eqb k w.kind) refl (test w.kind) refl (along-kept test k h ws)
  where
    by : (t : Bool) → eqb k w.kind ≡ t → (u : Bool) → test w.kind ≡ u → along k ws ≡ along k (kept test ws)
        → if t (if w.when w.to refused) (along k ws) ≡ along k (if u (w ∷ kept test ws) (kept test ws))
    by t e true g rest = rw e (ap (if t (if w.when w.to refused)) rest)
    by true e false g rest =
        let same : k ≡ w.kind = eqb-true k w.kind e in
        let z : true ≡ false = sym h ∙ ap test same ∙ g in
        absurd (subst (λ (b : Bool). T b) z tt)
    by false e false g rest = rest

is_same : (s : Sender) → is s s ≡ true
is_same Sender.client = refl
is_same Sender.server = refl
is_same Sender.nobody = refl

-- the machine's move is along the row of the instruction's sender
move_row : (f : Found (Side × Shape)) (p v k : ℕ) → move_of f p v k ≡ along k (get_or (rows_of (sender f) v) p [])
unfolding client_move server_move
move_row None p v k = refl
move_row (Some (Client, shape)) p v k = refl
move_row (Some (Server, shape)) p v k = refl

pub next-found : (p : Phase) (v : Version) (k : ℕ) → next (code p) v k ≡ mark (led (find k (row p v)))
unfolding next
next-found p v k =
    let s : Sender = sender (find_of k) in
    move_row (find_of k) (code p) v k
    ∙ ap (along k) (sym (same_row s p v))
    ∙ sym (along-kept (sent_by s) k (is_same s) (ways (row p v)))
    ∙ along-found k (row p v)
