-- Laws of the machine's rows, each a test over the rows and what it says of a move.
use Rattle.std.specs.Prelude.{Option, Some, None}
use mathlib.Core.Bool.{Bool, true, false}
use mathlib.Core.List.{List, [], ◌∷◌, ◌++◌}
use mathlib.Core.Logic.{◌⊎◌, inl, inr}
use mathlib.Core.Path.{◌≡◌, refl, sym, ◌∙◌, ap, subst}
use Prim.Native.Nat.{ℕ, zero, suc, ◌≤◌}
use lib.Dec.{eqb, leb}
use lib.ListN.{get_or}
use borrow.Author.Tests.{eqb-true, eq-eqb, leb-true}
use Rattle.wire.specs.Bytes.{if}
use Rattle.wire.specs.Every.{Every, OneOf}
use Rattle.wire.proofs.Branches.{both}
use Rattle.sedna.specs.declared.{Shape.Shape, Side.Side, Side.TheVariants.Client, Side.TheVariants.Server}
use Rattle.sedna.specs.Table.{find_of}
use Rattle.grammar.proofs.Sendable.{true_T}
use Rattle.session.specs.Machine.{Row, along, refused, client_rows, server_rows, client_row, server_row, move_of, client_move, server_move, next}
use Rattle.session.specs.Phases.{closed}

pub not_refused : {A : Type 0} → eqb refused refused ≡ false → A
not_refused e = absurd (true_T {t = false} (sym e))

-- what holds of every number of a list holds of one of them
pub of_each : (P : ℕ → Type 0) (ks : List ℕ) → Every P ks → (k : ℕ) → OneOf ks k → P k
of_each P [] all k o = absurd o
of_each P (j ∷ ks) all k (inl e) = subst P (sym e) all.0
of_each P (j ∷ ks) all k (inr o) = of_each P ks all.1 k o

in_front : (js ks : List ℕ) (k : ℕ) → OneOf js k → OneOf (js ++ ks) k
in_front [] ks k o = absurd o
in_front (j ∷ js) ks k (inl e) = inl e
in_front (j ∷ js) ks k (inr o) = inr (in_front js ks k o)

in_rest : (js ks : List ℕ) (k : ℕ) → OneOf ks k → OneOf (js ++ ks) k
in_rest [] ks k o = o
in_rest (j ∷ js) ks k o = inr (in_rest js ks k o)

-- the instructions of a row whose condition holds, and those of both sides at a phase
abbrev pub kinds : Row → List ℕ
kinds [] = []
kinds (w ∷ ws) = if w.when (w.kind ∷ kinds ws) (kinds ws)

abbrev pub kinds_at : ℕ → ℕ → List ℕ
kinds_at p v = kinds (client_row p v) ++ kinds (server_row p v)

-- an instruction that is not refused is one of them
along-kind : (k : ℕ) (r : Row) → eqb (along k r) refused ≡ false → OneOf (kinds r) k
along-kind k [] e = not_refused e
along-kind k (w ∷ ws) e = by (eqb k w.kind) refl w.when e (along-kind k ws)
  where
    by : (t : Bool) → eqb k w.kind ≡ t → (u : Bool) → eqb (if t (if u w.to refused) (along k ws)) refused ≡ false
        → (eqb (along k ws) refused ≡ false → OneOf (kinds ws) k) → OneOf (if u (w.kind ∷ kinds ws) (kinds ws)) k
    by true h true e again = inl (eqb-true k w.kind h)
    by true h false e again = not_refused e
    by false h true e again = inr (again e)
    by false h false e again = again e

pub next-kind : (p v k : ℕ) → eqb (next p v k) refused ≡ false → OneOf (kinds_at p v) k
unfolding next client_move server_move
next-kind p v k = by (find_of k)
  where
    by : (f : Option (Side × Shape)) → eqb (move_of f p v k) refused ≡ false → OneOf (kinds_at p v) k
    by None e = not_refused e
    by (Some (Client, shape)) e = in_front (kinds (client_row p v)) (kinds (server_row p v)) k (along-kind k (client_row p v) e)
    by (Some (Server, shape)) e = in_rest (kinds (client_row p v)) (kinds (server_row p v)) k (along-kind k (server_row p v) e)

-- a test of every row
abbrev pub each : (Row → Bool) → List Row → Bool
each test [] = true
each test (r ∷ rs) = if (test r) (each test rs) false

pub row_each : (test : Row → Bool) → test [] ≡ true → (p : ℕ) (rs : List Row) → each test rs ≡ true → test (get_or rs p []) ≡ true
row_each test none p [] h = none
row_each test none zero (r ∷ rs) h = ((both (test r) (each test rs)).0 h).0
row_each test none (suc p) (r ∷ rs) h = row_each test none p rs ((both (test r) (each test rs)).0 h).1

-- every way leads to a phase
abbrev to_phases : Row → Bool
to_phases [] = true
to_phases (w ∷ ws) = if (leb w.to closed) (to_phases ws) false

along_phases : (k : ℕ) (r : Row) → to_phases r ≡ true → (along k r ≡ refused) ⊎ (along k r ≤ closed)
along_phases k [] h = inl refl
along_phases k (w ∷ ws) h = let t = (both (leb w.to closed) (to_phases ws)).0 h in by (eqb k w.kind) w.when (leb-true w.to closed t.0) (along_phases k ws t.1)
  where
    by : (t u : Bool) → w.to ≤ closed → (along k ws ≡ refused) ⊎ (along k ws ≤ closed)
        → (if t (if u w.to refused) (along k ws) ≡ refused) ⊎ (if t (if u w.to refused) (along k ws) ≤ closed)
    by true true l again = inr l
    by true false l again = inl refl
    by false u l again = again

pub next_phase : (p v k : ℕ) → (next p v k ≡ refused) ⊎ (next p v k ≤ closed)
unfolding next client_move server_move
next_phase p v k = by (find_of k)
  where
    by : (f : Option (Side × Shape)) → (move_of f p v k ≡ refused) ⊎ (move_of f p v k ≤ closed)
    by None = inl refl
    by (Some (Client, shape)) = along_phases k (client_row p v) (row_each to_phases refl p (client_rows v) refl)
    by (Some (Server, shape)) = along_phases k (server_row p v) (row_each to_phases refl p (server_rows v) refl)

-- every way of the instruction leads to that phase
abbrev pub leads : ℕ → ℕ → Row → Bool
leads k to [] = true
leads k to (w ∷ ws) = if (eqb k w.kind) (if (eqb w.to to) (leads k to ws) false) (leads k to ws)

along-leads : (k to : ℕ) (r : Row) → leads k to r ≡ true → eqb (along k r) refused ≡ false → along k r ≡ to
along-leads k to [] h e = not_refused e
along-leads k to (w ∷ ws) h e = by (eqb k w.kind) w.when h e (along-leads k to ws)
  where
    by : (t u : Bool) → if t (if (eqb w.to to) (leads k to ws) false) (leads k to ws) ≡ true → eqb (if t (if u w.to refused) (along k ws)) refused ≡ false
        → (leads k to ws ≡ true → eqb (along k ws) refused ≡ false → along k ws ≡ to) → if t (if u w.to refused) (along k ws) ≡ to
    by true true h e again = eqb-true w.to to ((both (eqb w.to to) (leads k to ws)).0 h).0
    by true false h e again = not_refused e
    by false u h e again = again h e

pub row_leads : (k to p : ℕ) (rs : List Row) → each (leads k to) rs ≡ true → eqb (along k (get_or rs p [])) refused ≡ false → along k (get_or rs p []) ≡ to
row_leads k to p rs h = along-leads k to (get_or rs p []) (row_each (leads k to) refl p rs h)

-- no way but those of these instructions leads to that phase
abbrev among : List ℕ → ℕ → Bool
among [] k = false
among (j ∷ js) k = if (eqb k j) true (among js k)

one-among : (ks : List ℕ) (k : ℕ) → among ks k ≡ true → OneOf ks k
one-among [] k e = absurd (true_T {t = false} e)
one-among (j ∷ js) k e = by (eqb k j) refl e (one-among js k)
  where
    by : (t : Bool) → eqb k j ≡ t → if t true (among js k) ≡ true → (among js k ≡ true → OneOf js k) → OneOf (j ∷ js) k
    by true h e again = inl (eqb-true k j h)
    by false h e again = inr (again e)

abbrev pub led_by : ℕ → List ℕ → Row → Bool
led_by to ks [] = true
led_by to ks (w ∷ ws) = if (if (eqb w.to to) (among ks w.kind) true) (led_by to ks ws) false

along_led_by : (k to : ℕ) (ks : List ℕ) (r : Row) → led_by to ks r ≡ true → eqb to refused ≡ false → along k r ≡ to → OneOf ks k
along_led_by k to ks [] h n e = not_refused (ap (λ (x : ℕ). eqb x refused) e ∙ n)
along_led_by k to ks (w ∷ ws) h n e =
    let here = (both (if (eqb w.to to) (among ks w.kind) true) (led_by to ks ws)).0 h in
    by (eqb k w.kind) refl w.when here.0 e (along_led_by k to ks ws here.1 n)
  where
    leads_here : if (eqb w.to to) (among ks w.kind) true ≡ true → w.to ≡ to → k ≡ w.kind → OneOf ks k
    leads_here t q same = subst (OneOf ks) (sym same) (one-among ks w.kind (sym (ap (λ (x : Bool). if x (among ks w.kind) true) (eq-eqb w.to to q)) ∙ t))

    by : (t : Bool) → eqb k w.kind ≡ t → (u : Bool) → if (eqb w.to to) (among ks w.kind) true ≡ true → if t (if u w.to refused) (along k ws) ≡ to
        → (along k ws ≡ to → OneOf ks k) → OneOf ks k
    by true s true h q again = leads_here h q (eqb-true k w.kind s)
    by true s false h q again = not_refused (ap (λ (x : ℕ). eqb x refused) q ∙ n)
    by false s u h q again = again q

pub row_led_by : (k to : ℕ) (ks : List ℕ) (p : ℕ) (rs : List Row) → each (led_by to ks) rs ≡ true → eqb to refused ≡ false → along k (get_or rs p []) ≡ to → OneOf ks k
row_led_by k to ks p rs h = along_led_by k to ks (get_or rs p []) (row_each (led_by to ks) refl p rs h)

-- no row but that one has the instruction
abbrev lacks : ℕ → Row → Bool
lacks k [] = true
lacks k (w ∷ ws) = if (eqb k w.kind) false (lacks k ws)

along_lacks : (k : ℕ) (r : Row) → lacks k r ≡ true → along k r ≡ refused
along_lacks k [] h = refl
along_lacks k (w ∷ ws) h = by (eqb k w.kind) h (along_lacks k ws)
  where
    by : (t : Bool) → if t false (lacks k ws) ≡ true → (lacks k ws ≡ true → along k ws ≡ refused) → if t (if w.when w.to refused) (along k ws) ≡ refused
    by true h again = absurd (true_T {t = false} h)
    by false h again = again h

refused_lacks : {A : Type 0} (k : ℕ) (r : Row) → lacks k r ≡ true → eqb (along k r) refused ≡ false → A
refused_lacks k r h e = not_refused (ap (λ (x : ℕ). eqb x refused) (sym (along_lacks k r h)) ∙ e)

abbrev pub only_at : ℕ → ℕ → List Row → Bool
only_at k n [] = true
only_at k zero (r ∷ rs) = each (lacks k) rs
only_at k (suc n) (r ∷ rs) = if (lacks k r) (only_at k n rs) false

pub row_only_at : (k n p : ℕ) (rs : List Row) → only_at k n rs ≡ true → eqb (along k (get_or rs p [])) refused ≡ false → p ≡ n
row_only_at k n p [] h e = not_refused e
row_only_at k zero zero (r ∷ rs) h e = refl
row_only_at k zero (suc p) (r ∷ rs) h e = refused_lacks k (get_or rs p []) (row_each (lacks k) refl p rs h) e
row_only_at k (suc n) zero (r ∷ rs) h e = refused_lacks k r ((both (lacks k r) (only_at k n rs)).0 h).0 e
row_only_at k (suc n) (suc p) (r ∷ rs) h e = ap suc (row_only_at k n p rs ((both (lacks k r) (only_at k n rs)).0 h).1 e)
