-- Where the messages of a cutting stand: a first part, further ones, the end. So a message that begins no cutting behind those accepted is known by its role.
use mathlib.Core.Bool.{Bool, true, false}
use mathlib.Core.List.{List, [], ◌∷◌, ◌++◌, map, append_assoc}
use mathlib.Core.Path.{◌≡◌, refl, sym, subst, ◌∙◌}
use Prim.Native.Nat.{ℕ}
use Rattle.wire.specs.Every.{Every}
use Rattle.sedna.specs.Message.{Url, Body, Message, message}
use Rattle.sedna.specs.Names.{LongQueryEnd, ItemStart}
use Rattle.sedna.specs.Table.{rows, search, find_of}
use Rattle.parts_join.specs.declared.Open.{Open}
use Rattle.parts_join.specs.declared.Open.TheVariants as gathering
use Rattle.parts_join.specs.Cuttings.{Piece, Ending, Cutting, execute_long, item_part, ending, before, last, messages, opening}
use Rattle.parts_join.specs.Offered.{Cut, Begun, PartOf}
use Rattle.parts_join.specs.Roles.{together, role_of, takes, in_order, ends}

pub not_both : {P : Type 0} → ◌≡◌ {A = Bool} true false → P
not_both e = cc

-- a message that an assembly of `what` takes, with or without a part before it, and whether it ends it
pub record Placed (what : Open) (begun end : Bool) (m : Message) : Type 0 where
  pub kind : takes (role_of what m) ≡ true
  pub order : in_order (role_of what m) begun ≡ true
  pub ending : ends (role_of what m) ≡ end

-- a first part, further ones, the end
pub record Parted (what : Open) (m : Message) (ms : List Message) (e : Message) : Type 0 where
  pub first : Placed what false false m
  pub further : Every (Placed what true false) ms
  pub end : Placed what true true e

each : {A : Type 0} (P : Message → Type 0) (part : A → Message) → ((x : A) → P (part x)) → (xs : List A) → Every P (map part xs)
each P part h [] = tt
each P part h (x ∷ xs) = (h x, each P part h xs)

pub sole : (p : Piece) → Placed gathering.Statement false true (last (Cutting.short p))
unfolding role_of together find_of search rows
sole p = record { kind = refl; order = refl; ending = refl }

long-part : (p : Piece) → Placed gathering.Statement true false (execute_long p)
unfolding role_of together find_of search rows
long-part p = record { kind = refl; order = refl; ending = refl }

pub long_parted : (p : Piece) (ps : List Piece) → Parted gathering.Statement (execute_long p) (map execute_long ps) (message LongQueryEnd Body.empty)
unfolding role_of together find_of search rows
long_parted p ps = record {
  first = record { kind = refl; order = refl; ending = refl };
  further = each (Placed gathering.Statement true false) execute_long long-part ps;
  end = record { kind = refl; order = refl; ending = refl };
}

item-part : (t : List ℕ) → Placed gathering.Item true false (item_part t)
unfolding role_of together find_of search rows
item-part t = record { kind = refl; order = refl; ending = refl }

item-end : (e : Ending) → Placed gathering.Item true true (ending e)
unfolding role_of together find_of search rows
item-end Ending.item-end = record { kind = refl; order = refl; ending = refl }
item-end Ending.result_end = record { kind = refl; order = refl; ending = refl }

pub item_parted : (t : List ℕ) (ts : List (List ℕ)) (e : Ending) → Parted gathering.Item (item_part t) (map item_part ts) (ending e)
unfolding role_of together find_of search rows
item_parted t ts e = record {
  first = record { kind = refl; order = refl; ending = refl };
  further = each (Placed gathering.Item true false) item_part item-part ts;
  end = item-end e;
}

typed_part : (t : List ℕ) → Placed gathering.TypedItem true false (item_part t)
unfolding role_of together find_of search rows
typed_part t = record { kind = refl; order = refl; ending = refl }

typed_end : (e : Ending) → Placed gathering.TypedItem true true (ending e)
unfolding role_of together find_of search rows
typed_end Ending.item-end = record { kind = refl; order = refl; ending = refl }
typed_end Ending.result_end = record { kind = refl; order = refl; ending = refl }

pub typed_parted : (class kind : ℕ) (url : Url) (t : List ℕ) (ts : List (List ℕ)) (e : Ending)
    → Parted gathering.TypedItem (message ItemStart (Body.item class kind url t)) (map item_part ts) (ending e)
unfolding role_of together find_of search rows
typed_parted class kind url t ts e = record {
  first = record { kind = refl; order = refl; ending = refl };
  further = each (Placed gathering.TypedItem true false) item_part typed_part ts;
  end = typed_end e;
}

-- messages one behind the other, each at its place, to the end
abbrev Walk : Open → Bool → List Message → Type 0
Walk what begun [] = ⊥
Walk what begun (m ∷ []) = Placed what begun true m
Walk what begun (m ∷ (n ∷ ms)) = Placed what begun false m × Walk what true (n ∷ ms)

parts_walk : (what : Open) (begun : Bool) (m : Message) (ms : List Message) (e : Message) → Placed what begun false m
    → Every (Placed what true false) ms → Placed what true true e → Walk what begun (m ∷ ms ++ (e ∷ []))
parts_walk what begun m [] e p ps q = (p, q)
parts_walk what begun m (n ∷ ms) e p ps q = (p, parts_walk what true n ms e ps.0 ps.1 q)

parted_walk : {what : Open} {m : Message} {ms : List Message} {e : Message} → Parted what m ms e → Walk what false (m ∷ ms ++ (e ∷ []))
parted_walk {what} {m} {ms} {e} p = parts_walk what false m ms e p.first p.further p.end

walk : (c : Cutting) → Walk (opening c) false (messages c)
walk (Cutting.short p) = sole p
walk (Cutting.long p ps) = parted_walk (long_parted p ps)
walk (Cutting.item t ts e) = parted_walk (item_parted t ts e)
walk (Cutting.typed_item class kind url t ts e) = parted_walk (typed_parted class kind url t ts e)

-- whether a part stands before what comes behind these
abbrev pub since : Bool → List Message → Bool
since begun [] = begun
since begun (m ∷ ms) = true

abbrev pub none : List Message → Bool
none [] = true
none (m ∷ ms) = false

walk_at : (what : Open) (begun : Bool) (front : List Message) (m : Message) (more : List Message) → Walk what begun (front ++ (m ∷ more)) → Placed what (since begun front) (none more) m
walk_at what begun [] m [] w = w
walk_at what begun [] m (n ∷ more) w = w.0
walk_at what begun (x ∷ []) m more w = walk_at what true [] m more w.1
walk_at what begun (x ∷ (y ∷ front)) m more w = walk_at what true (y ∷ front) m more w.1

module _ {what : Open} where
  cut_walk : {ms : List Message} → Cut what ms → Walk what false ms
  cut_walk c = subst (Walk what false) c.made (subst (λ (o : Open). Walk o false (messages c.cutting)) c.opens (walk c.cutting))

  -- a message of a cutting is at its place, and ends it where none follows
  pub cut_at : (front : List Message) (m : Message) (more : List Message) → Cut what (front ++ (m ∷ more)) → Placed what (since false front) (none more) m
  cut_at front m more c = walk_at what false front m more (cut_walk c)

  begun-cut : (front : List Message) (m : Message) (b : Begun what (front ++ (m ∷ []))) → Cut what (front ++ (m ∷ b.0))
  begun-cut front m b = rw append_assoc at b.1

  pub begun-at : (front : List Message) (m : Message) (b : Begun what (front ++ (m ∷ []))) → Placed what (since false front) (none b.0) m
  begun-at front m b = cut_at front m b.0 (begun-cut front m b)

  pub part-kind : (m : Message) → PartOf what m → takes (role_of what m) ≡ true
  part-kind m p = (begun-at p.0 m p.1).kind

  -- nothing goes on behind a whole cutting
  pub cut-ends : (ms : List Message) (m : Message) → Cut what ms → ¬ Begun what (ms ++ (m ∷ []))
  cut-ends ms m c b =
      let f : List Message = before c.cutting in
      let l : Message = last c.cutting in
      let here : Cut what (f ++ (l ∷ [])) = record { cutting = c.cutting; opens = c.opens; made = refl } in
      let there : Cut what (f ++ (l ∷ (m ∷ b.0))) = rw append_assoc at (subst (λ (s : List Message). Cut what (s ++ (m ∷ b.0))) (sym c.made) (begun-cut ms m b)) in
      not_both (sym (cut_at f l [] here).ending ∙ (cut_at f l (m ∷ b.0) there).ending)
