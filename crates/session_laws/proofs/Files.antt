-- What goes on in a file and behind it: each message leads to one phase, whoever asked for the file and however many portions were sent.
use Rattle.std.specs.Prelude.{Option, Some, None}
use mathlib.Core.Bool.{Bool, true, false}
use mathlib.Core.List.{List, [], ◌∷◌, ◌++◌, append_assoc, append-nil}
use mathlib.Core.Logic.{◌⊎◌, inl, inr}
use mathlib.Core.Path.{◌≡◌, refl, sym, ◌∙◌, ap, subst}
use Prim.Native.Nat.{ℕ}
use native.Mathlib.Omega.{arith}
use lib.Dec.{eqb, leb}
use lib.ListN.{get_or}
use Rattle.wire.specs.Bytes.{if}
use Rattle.wire.specs.Every.{Every, OneOf}
use Rattle.sedna.specs.declared.{Shape.Shape, Side.Side, Side.TheVariants.Client, Side.TheVariants.Server}
use Rattle.sedna.specs.Message.{Message}
use Rattle.sedna.specs.Names as M
use Rattle.sedna.specs.Published.{Published}
use Rattle.sedna.specs.Table.{find_of, rows, search}
use Rattle.grammar.specs.Conversation.{Begins}
use Rattle.grammar.specs.Files.{InFile, version_said, inside, GoesOnWith}
use Rattle.grammar.specs.Sent.{from}
use Rattle.session.specs.Machine.{Row, along, refused, client_rows, server_rows, move_of, client_move, server_move, next}
use Rattle.session.specs.Phases as N
use Rattle.session_laws.proofs.Begun.{Reached, said_kept, goes_exact, reach-next, begun-front, kept, reached}
use Rattle.session_laws.proofs.Published.{published-sent, published_exact}
use Rattle.session_laws.proofs.Ways.{of_each, kinds_at, next-kind, each, leads, row_leads, row_led_by, row_only_at}

-- the record behind these messages is at that phase
record At (p : ℕ) (l : List Message) : Type 0 where
  stands : Reached l
  phase : stands.session.phase ≡ p

-- the machine takes the instruction at that phase
abbrev Takes : ℕ → ℕ → ℕ → Type 0
Takes p v k = eqb (next p v k) refused ≡ false

-- a message that leads to one phase from wherever its sender's rows have it
led_to : (to k : ℕ) (rs : ℕ → List Row) → ((p v : ℕ) → next p v k ≡ along k (get_or (rs v) p [])) → ((v : ℕ) → each (leads k to) (rs v) ≡ true)
    → (l : List Message) (m : Message) → m.instruction ≡ k → Begins (l ++ (m ∷ [])) → At to (l ++ (m ∷ []))
led_to to k rs row h l m is g =
    let r = reached l (begun-front l (m ∷ []) g) in
    let v = r.session.version in
    let move : next r.session.phase v m.instruction ≡ along k (get_or (rs v) r.session.phase []) = ap (next r.session.phase v) is ∙ row r.session.phase v in
    record {
      stands = reach-next l m r g;
      phase = move ∙ row_leads k to r.session.phase (rs v) (h v) (ap (λ (n : ℕ). eqb n refused) (sym move) ∙ ((goes_exact l r m).0 g).1);
    }

-- one that leads from one phase to another in each version
moved_to : (p to k : ℕ) → ((v : ℕ) → next p v k ≡ to) → (l : List Message) (m : Message) → m.instruction ≡ k → At p l → Begins (l ++ (m ∷ [])) → At to (l ++ (m ∷ []))
moved_to p to k move l m is a g = record {
  stands = reach-next l m a.stands g;
  phase =
      ap (λ (n : ℕ). next n a.stands.session.version m.instruction) a.phase ∙ ap (next p a.stands.session.version) is
      ∙ move a.stands.session.version;
}

-- at a phase: what the machine takes goes on, and nothing else
takes_at : (p : ℕ) (l : List Message) (a : At p l) (m : Message)
    → eqb (next a.stands.session.phase a.stands.session.version m.instruction) refused ≡ eqb (next p a.stands.session.version m.instruction) refused
takes_at p l a m = ap (λ (n : ℕ). eqb (next n a.stands.session.version m.instruction) refused) a.phase

goes : (p : ℕ) (ks : List ℕ) (l : List Message) (a : At p l) → Every (Takes p a.stands.session.version) ks
    → (m : Message) {side : Side} → Published side m → OneOf ks m.instruction → Begins (l ++ (m ∷ []))
goes p ks l a all m sent o =
    (goes_exact l a.stands m).1 (published-sent sent, takes_at p l a m ∙ of_each (Takes p a.stands.session.version) ks all m.instruction o)

kind_at : (p : ℕ) (l : List Message) (a : At p l) (m : Message) → Begins (l ++ (m ∷ [])) → OneOf (kinds_at p a.stands.session.version) m.instruction
kind_at p l a m g = next-kind p a.stands.session.version m.instruction (sym (takes_at p l a m) ∙ ((goes_exact l a.stands m).0 g).1)

goes_on_with : (p : ℕ) (ks : ℕ → List ℕ) → ((v : ℕ) → kinds_at p v ≡ ks v) → ((v : ℕ) → Every (Takes p v) (ks v)) → (l : List Message) → At p l → GoesOnWith l (ks (version_said l))
goes_on_with p ks same all l a = subst (λ (v : ℕ). GoesOnWith l (ks v)) a.stands.said (λ m. (
  λ g. (
    (published_exact m.instruction m.body).0 ((goes_exact l a.stands m).0 g).0,
    subst (λ (js : List ℕ). OneOf js m.instruction) (same a.stands.session.version) (kind_at p l a m g),
  ),
  λ s. goes p (ks a.stands.session.version) l a (all a.stands.session.version) m s.0.1 s.1,
))

-- a file was asked for
asks-file : (l : List Message) (m : Message) → OneOf (M.BulkLoadFileName ∷ M.BulkLoadFromStream ∷ []) m.instruction → Begins (l ++ (m ∷ [])) → At N.file (l ++ (m ∷ []))
unfolding next server_move find_of rows search
asks-file l m (inl e) g = led_to N.file M.BulkLoadFileName server_rows (λ p v. refl) (λ v. refl) l m e g
asks-file l m (inr (inl e)) g = led_to N.file M.BulkLoadFromStream server_rows (λ p v. refl) (λ v. refl) l m e g
asks-file l m (inr (inr o)) g = absurd o

-- portions, however many, lead nowhere else
portions_stay : (l portions : List Message) → Every (λ (m : Message). m.instruction ≡ M.BulkLoadPortion) portions → At N.file l → Begins (l ++ portions) → At N.file (l ++ portions)
unfolding next client_move find_of rows search
portions_stay l [] are a g = subst (At N.file) (sym (append-nil l)) a
portions_stay l (m ∷ portions) are a g =
    let assoc = append_assoc l (m ∷ []) portions in
    let g' : Begins ((l ++ (m ∷ [])) ++ portions) = subst Begins (sym assoc) g in
    subst (At N.file) assoc
    (portions_stay (l ++ (m ∷ [])) portions are.1 (moved_to N.file N.file M.BulkLoadPortion (λ v. refl) l m are.0 a (begun-front (l ++ (m ∷ [])) portions g')) g')

at-file : (l : List Message) → InFile l → Begins l → At N.file l
at-file l f g =
    let front : List Message = f.before ++ (f.asking ∷ []) in
    let assoc = append_assoc f.before (f.asking ∷ []) f.portions in
    let whole : Begins (front ++ f.portions) = subst Begins (f.so_far ∙ sym assoc) g in
    subst (At N.file) (assoc ∙ sym f.so_far)
    (portions_stay front f.portions f.are_portions (asks-file f.before f.asking f.asks (begun-front front f.portions whole)) whole)

-- and nothing but these leads there
into_file : (p v k : ℕ) → next p v k ≡ N.file → OneOf (M.BulkLoadFileName ∷ M.BulkLoadFromStream ∷ []) k ⊎ ((k ≡ M.BulkLoadPortion) × (p ≡ N.file))
unfolding next client_move server_move
into_file p v k = by (find_of k)
  where
    sent : along k (get_or (client_rows v) p []) ≡ N.file → OneOf (M.BulkLoadPortion ∷ []) k → (k ≡ M.BulkLoadPortion) × (p ≡ N.file)
    sent e (inl is) = (
      is,
      row_only_at M.BulkLoadPortion N.file p (client_rows v) refl
          (ap (λ (j : ℕ). eqb (along j (get_or (client_rows v) p [])) refused) (sym is) ∙ ap (λ (n : ℕ). eqb n refused) e),
    )
    sent e (inr o) = absurd o

    by : (f : Option (Side × Shape)) → move_of f p v k ≡ N.file → OneOf (M.BulkLoadFileName ∷ M.BulkLoadFromStream ∷ []) k ⊎ ((k ≡ M.BulkLoadPortion) × (p ≡ N.file))
    by None e = absurd (omega (arith, e))
    by (Some (Client, shape)) e = inr (sent e (row_led_by k N.file (M.BulkLoadPortion ∷ []) p (client_rows v) refl refl e))
    by (Some (Server, shape)) e = inl (row_led_by k N.file (M.BulkLoadFileName ∷ M.BulkLoadFromStream ∷ []) p (server_rows v) refl refl e)

-- so a record that awaits the rest of a file stands behind the messages of one
abbrev Shown : List Message → ℕ → Type 0
Shown l p = p ≡ N.file → InFile l

shown_next : (l : List Message) (p v : ℕ) (m : Message) → Shown l p → Shown (l ++ (m ∷ [])) (next p v m.instruction)
shown_next l p v m h e = by (into_file p v m.instruction e)
  where
    more : (ms : List Message) → Every (λ (m : Message). m.instruction ≡ M.BulkLoadPortion) ms → m.instruction ≡ M.BulkLoadPortion
        → Every (λ (m : Message). m.instruction ≡ M.BulkLoadPortion) (ms ++ (m ∷ []))
    more [] are is = (is, tt)
    more (x ∷ ms) are is = (are.0, more ms are.1 is)

    by : OneOf (M.BulkLoadFileName ∷ M.BulkLoadFromStream ∷ []) m.instruction ⊎ ((m.instruction ≡ M.BulkLoadPortion) × (p ≡ N.file)) → InFile (l ++ (m ∷ []))
    by (inl o) = record { before = l; asking = m; asks = o; portions = []; are_portions = tt; so_far = refl }
    by (inr (is, at)) =
        let f = h at in
        record {
          before = f.before;
          asking = f.asking;
          asks = f.asks;
          portions = f.portions ++ (m ∷ []);
          are_portions = more f.portions f.are_portions is;
          so_far = ap (λ (k : List Message). k ++ (m ∷ [])) f.so_far ∙ append_assoc f.before (f.asking ∷ f.portions) (m ∷ []);
        }

-- BulkLoadError is taken there alone
error_phase : (p v k : ℕ) → k ≡ M.BulkLoadError → Takes p v k → p ≡ N.file
unfolding next client_move find_of rows search
error_phase p v k is e = row_only_at M.BulkLoadError N.file p (client_rows v) refl (ap (λ (j : ℕ). eqb (next p v j) refused) (sym is) ∙ e)

pub only_there : (l : List Message) (e : Message) → e.instruction ≡ M.BulkLoadError → Begins (l ++ (e ∷ [])) → InFile l
only_there l e is g =
    let k = kept Shown (λ l p v m taken h. shown_next l p v m h) (λ z. absurd (omega (arith, z))) l (begun-front l (e ∷ []) g) in
    k.1 (error_phase k.0.session.phase k.0.session.version e.instruction is ((goes_exact l k.0 e).0 g).1)

pub asked : (l : List Message) (text m : Message) → OneOf (M.Execute ∷ M.LongQueryEnd ∷ []) text.instruction → Begins (l ++ (text ∷ []))
    → Published Server m → OneOf (M.BulkLoadFileName ∷ M.BulkLoadFromStream ∷ []) m.instruction → Begins (l ++ (text ∷ m ∷ []))
unfolding next client_move server_move find_of rows search
asked l text m is g sent o =
    subst Begins (append_assoc l (text ∷ []) (m ∷ [])) (goes N.statement_answer (M.BulkLoadFileName ∷ M.BulkLoadFromStream ∷ []) (l ++ (text ∷ [])) (sends is) (refl, (refl, tt)) m sent o)
  where
    sends : OneOf (M.Execute ∷ M.LongQueryEnd ∷ []) text.instruction → At N.statement_answer (l ++ (text ∷ []))
    sends (inl e) = led_to N.statement_answer M.Execute client_rows (λ p v. refl) (λ v. refl) l text e g
    sends (inr (inl e)) = led_to N.statement_answer M.LongQueryEnd client_rows (λ p v. refl) (λ v. refl) l text e g
    sends (inr (inr o)) = absurd o

pub in_file : (l : List Message) → InFile l → Begins l → GoesOnWith l (M.BulkLoadPortion ∷ M.BulkLoadEnd ∷ M.BulkLoadError ∷ M.ErrorResponse ∷ [])
unfolding next client_move server_move find_of rows search
in_file l f g = goes_on_with N.file (λ v. M.BulkLoadPortion ∷ M.BulkLoadEnd ∷ M.BulkLoadError ∷ M.ErrorResponse ∷ []) (λ v. refl) (λ v. (refl, (refl, (refl, (refl, tt))))) l (at-file l f g)

at-error : (l : List Message) (e : Message) → e.instruction ≡ M.BulkLoadError → Begins (l ++ (e ∷ [])) → At N.load_error_answer (l ++ (e ∷ []))
unfolding next client_move find_of rows search
at-error l e is g = led_to N.load_error_answer M.BulkLoadError client_rows (λ p v. refl) (λ v. refl) l e is g

pub behind_error : (l : List Message) (e : Message) → e.instruction ≡ M.BulkLoadError → Begins (l ++ (e ∷ [])) → GoesOnWith (l ++ (e ∷ [])) (M.BulkLoadFailed ∷ M.ErrorResponse ∷ [])
unfolding next client_move server_move find_of rows search
behind_error l e is g = goes_on_with N.load_error_answer (λ v. M.BulkLoadFailed ∷ M.ErrorResponse ∷ []) (λ v. refl) (λ v. (refl, (refl, tt))) (l ++ (e ∷ [])) (at-error l e is g)

-- what goes on behind BulkLoadEnd, by the version
abbrev behind_end : ℕ → List ℕ
behind_end v = M.BulkLoadSucceeded ∷ M.BulkLoadFailed ∷ if (from 2 v) (M.BulkLoadFileName ∷ M.ErrorResponse ∷ []) (M.ErrorResponse ∷ [])

pub behind-end : (l : List Message) (e : Message) → e.instruction ≡ M.BulkLoadEnd → Begins (l ++ (e ∷ []))
    → GoesOnWith (l ++ (e ∷ [])) (M.BulkLoadSucceeded ∷ M.BulkLoadFailed ∷ if (from 2 (version_said l)) (M.BulkLoadFileName ∷ M.ErrorResponse ∷ []) (M.ErrorResponse ∷ []))
unfolding next client_move server_move find_of rows search from
behind-end l e is g =
    subst (λ (v : ℕ). GoesOnWith (l ++ (e ∷ [])) (behind_end v)) (said_kept l e (rw is))
    (goes_on_with N.file_answer behind_end (λ v. refl) (λ v. (refl, (refl, further v (leb 2 v) refl))) (l ++ (e ∷ []))
    (led_to N.file_answer M.BulkLoadEnd client_rows (λ p v. refl) (λ v. refl) l e is g))
  where
    further : (v : ℕ) (t : Bool) → leb 2 v ≡ t → Every (Takes N.file_answer v) (if t (M.BulkLoadFileName ∷ M.ErrorResponse ∷ []) (M.ErrorResponse ∷ []))
    further v true h = (rw h, (refl, tt))
    further v false h = (refl, tt)

-- inside, by the version
inside-kinds : (v : ℕ) → kinds_at N.inside v ≡ inside v
unfolding from
inside-kinds v = by (leb 3 v)
  where
    by : (t : Bool) → M.Execute ∷ M.ExecuteLong ∷ M.Commit ∷ M.Rollback ∷ M.Close ∷ M.ShowTime ∷
        (if t (M.SetOptions ∷ if t (M.ResetOptions ∷ []) []) (if t (M.ResetOptions ∷ []) []) ++ (M.ErrorResponse ∷ []))
        ≡ M.Execute ∷ M.ExecuteLong ∷ M.Commit ∷ M.Rollback ∷ M.Close ∷ M.ShowTime ∷ if t (M.SetOptions ∷ M.ResetOptions ∷ M.ErrorResponse ∷ []) (M.ErrorResponse ∷ [])
    by true = refl
    by false = refl

inside-taken : (v : ℕ) → Every (Takes N.inside v) (inside v)
unfolding next client_move server_move find_of rows search from
inside-taken v = (refl, (refl, (refl, (refl, (refl, (refl, options (leb 3 v) refl))))))
  where
    options : (t : Bool) → leb 3 v ≡ t → Every (Takes N.inside v) (if t (M.SetOptions ∷ M.ResetOptions ∷ M.ErrorResponse ∷ []) (M.ErrorResponse ∷ []))
    options true h = (rw h, (rw h, (refl, tt)))
    options false h = (refl, tt)

pub still_inside : (l : List Message) (e answer : Message) → e.instruction ≡ M.BulkLoadError → Begins (l ++ (e ∷ answer ∷ []))
    → GoesOnWith (l ++ (e ∷ answer ∷ [])) (inside (version_said l))
unfolding next client_move server_move find_of rows search
still_inside l e answer is g = by ((behind_error l e is front answer).0 g').1
  where
    assoc : (l ++ (e ∷ [])) ++ (answer ∷ []) ≡ l ++ (e ∷ answer ∷ [])
    assoc = append_assoc l (e ∷ []) (answer ∷ [])

    g' : Begins ((l ++ (e ∷ [])) ++ (answer ∷ []))
    g' = subst Begins (sym assoc) g

    front : Begins (l ++ (e ∷ []))
    front = begun-front (l ++ (e ∷ [])) (answer ∷ []) g'

    there : At N.inside ((l ++ (e ∷ [])) ++ (answer ∷ [])) → eqb answer.instruction M.SessionParameters ≡ false → GoesOnWith (l ++ (e ∷ answer ∷ [])) (inside (version_said l))
    there a not =
        subst (λ (k : List Message). GoesOnWith k (inside (version_said l))) assoc
        (subst (λ (v : ℕ). GoesOnWith ((l ++ (e ∷ [])) ++ (answer ∷ [])) (inside v)) (said_kept (l ++ (e ∷ [])) answer not ∙ said_kept l e (rw is))
        (goes_on_with N.inside inside inside-kinds inside-taken ((l ++ (e ∷ [])) ++ (answer ∷ [])) a))

    by : OneOf (M.BulkLoadFailed ∷ M.ErrorResponse ∷ []) answer.instruction → GoesOnWith (l ++ (e ∷ answer ∷ [])) (inside (version_said l))
    by (inl k) = there (moved_to N.load_error_answer N.inside M.BulkLoadFailed (λ v. refl) (l ++ (e ∷ [])) answer k (at-error l e is front) g') (rw k)
    by (inr (inl k)) = there (moved_to N.load_error_answer N.inside M.ErrorResponse (λ v. refl) (l ++ (e ∷ [])) answer k (at-error l e is front) g') (rw k)
    by (inr (inr o)) = absurd o
