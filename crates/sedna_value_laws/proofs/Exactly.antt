-- From readers of each kind to the value of any text.
use Rattle.std.specs.Prelude.{Result, Ok, Err}
use mathlib.Core.Bool.{Bool, true, false}
use mathlib.Core.List.{List}
use mathlib.Core.Logic.{◌↔◌, ◌⊎◌, inl, inr}
use mathlib.Core.Option.{Option, none, some}
use mathlib.Core.Path.{◌≡◌, refl, sym, ◌∙◌, ap, subst}
use Prim.Native.Nat.{ℕ}
use native.Mathlib.Omega.{arith}
use Rattle.wire.specs.Refusals.{number_of}
use Rattle.wire.specs.declared.Refusal.{Refusal}
use Rattle.wire.specs.declared.Refusal.TheVariants.{NotOfForm, OutOfRange}
use Rattle.sedna_value.specs.declared.Value.{Value}
use Rattle.sedna_value.specs.Values.{value_of}
use Rattle.sedna_value_laws.specs.Exactly.{Literal, Refuses, Valuing}
use Rattle.sedna_value_laws.specs.Texts.{Kind, Text, kind_of, written, Formed, Means, Excluded}
use borrow.Author.Tests.{eqb-true, eqb-false}
use lib.Dec.{eqb}
use Rattle.wire.proofs.Branches.{apart}
use Rattle.sedna_value_laws.proofs.ByKind.{read_by, the_kind, kind-read, unnamed}
use Rattle.sedna_value_laws.proofs.Reader.{Answer, Reader}

-- an answer says one thing
meaning : {k : Kind} {t : Text k} {v : Value} {a : Result Value Refusal} → a ≡ Ok v → Answer k t a → Means k t v
meaning {k} {t} {v} e (Answer.is w m) = subst (λ (x : Value). Means k t x) (cc) m
meaning e (Answer.excluded b) = apart (cc)

out : {k : Kind} {t : Text k} {a : Result Value Refusal} → a ≡ Err OutOfRange → Answer k t a → Excluded k t
out e (Answer.is w m) = apart (cc)
out e (Answer.excluded b) = b

never : {P : Type 0} {k : Kind} {t : Text k} {a : Result Value Refusal} → a ≡ Err NotOfForm → Answer k t a → P
never e (Answer.is w m) = apart (cc)
never e (Answer.excluded b) = apart (cc)

-- what a text that means v, or nothing in range, is read as
is_one : {k : Kind} {read : List ℕ → Result Value Refusal} → Reader k read → {t : Text k} {v : Value} {a : Result Value Refusal} → Means k t v → Answer k t a → a ≡ Ok v
is_one r {t} {v} m (Answer.is w n) = ap Ok (r.one_value t w v n m)
is_one r {t} {v} m (Answer.excluded b) = absurd (r.apart t v m b)

is_out : {k : Kind} {read : List ℕ → Result Value Refusal} → Reader k read → {t : Text k} {a : Result Value Refusal} → Excluded k t → Answer k t a → a ≡ Err OutOfRange
is_out r {t} b (Answer.is w n) = absurd (r.apart t w n b)
is_out r b (Answer.excluded c) = refl

-- s is a text of that kind
abbrev Written : Kind → List ℕ → Type 0
Written k s = (t : Text k) × Formed k t × (s ≡ written k t)

answer : {k : Kind} {read : List ℕ → Result Value Refusal} → Reader k read → (s : List ℕ) (w : Written k s) → Answer k w.0 (read s)
answer {k} {read} r s w = subst (λ (x : List ℕ). Answer k w.0 (read x)) (sym w.2) (r.complete w.0 w.1)

-- a text that is not refused with 15 has the form
form : {k : Kind} {read : List ℕ → Result Value Refusal} → Reader k read → (s : List ℕ) → ¬ (read s ≡ Err NotOfForm) → Written k s
form {k} {read} r s h = by (r.sound s)
  where
    by : Written k s ⊎ (read s ≡ Err NotOfForm) → Written k s
    by (inl w) = w
    by (inr e) = absurd (h e)

-- 15 where there is no such text
no-form : {k : Kind} {read : List ℕ → Result Value Refusal} → Reader k read → (s : List ℕ) → ¬ Written k s → read s ≡ Err NotOfForm
no-form {k} {read} r s h = by (r.sound s)
  where
    by : Written k s ⊎ (read s ≡ Err NotOfForm) → read s ≡ Err NotOfForm
    by (inl w) = absurd (h w)
    by (inr e) = e

-- and no other refusal than 15 and 16
fifteen_or_sixteen : {k : Kind} {read : List ℕ → Result Value Refusal} → Reader k read → (s : List ℕ) (x : Refusal) → read s ≡ Err x → (x ≡ NotOfForm) ⊎ (x ≡ OutOfRange)
fifteen_or_sixteen {k} {read} r s x e = by (r.sound s)
  where
    out_of : {t : Text k} {a : Result Value Refusal} → a ≡ Err x → Answer k t a → (x ≡ NotOfForm) ⊎ (x ≡ OutOfRange)
    out_of p (Answer.is w m) = apart (cc)
    out_of p (Answer.excluded b) = inr (cc)

    by : Written k s ⊎ (read s ≡ Err NotOfForm) → (x ≡ NotOfForm) ⊎ (x ≡ OutOfRange)
    by (inl w) = out_of e (answer r s w)
    by (inr q) = inl (cc)

-- the same by the refusals themselves
record ByRefusal (class type : ℕ) (s : List ℕ) : Type 0 where
  accepted : (v : Value) → (value_of class type s ≡ Ok v) ↔ ((t : Literal class type s) × Means t.kind t.text v)
  fifteen : (value_of class type s ≡ Err NotOfForm) ↔ (¬ Literal class type s)
  sixteen : (value_of class type s ≡ Err OutOfRange) ↔ ((t : Literal class type s) × Excluded t.kind t.text)
  either : (r : Refusal) → value_of class type s ≡ Err r → (r ≡ NotOfForm) ⊎ (r ≡ OutOfRange)

-- and by their numbers
numbered : {class type : ℕ} {s : List ℕ} → ByRefusal class type s → Valuing class type s
numbered {class} {type} {s} j = record {
  accepted = j.accepted;
  fifteen = (λ r. j.fifteen.0 (of r (j.either r.refusal r.refused)), λ h. record { refusal = NotOfForm; refused = j.fifteen.1 h; number = refl });
  sixteen = (λ r. j.sixteen.0 (out_of r (j.either r.refusal r.refused)), λ h. record { refusal = OutOfRange; refused = j.sixteen.1 h; number = refl });
  either = λ n r. by r.number (j.either r.refusal r.refused);
}
  where
    of : (r : Refuses class type s 15) → (r.refusal ≡ NotOfForm) ⊎ (r.refusal ≡ OutOfRange) → value_of class type s ≡ Err NotOfForm
    of r (inl e) = r.refused ∙ ap Err e
    of r (inr e) = let n : number_of r.refusal ≡ 16 = ap number_of e in absurd (omega (arith, r.number))

    out_of : (r : Refuses class type s 16) → (r.refusal ≡ NotOfForm) ⊎ (r.refusal ≡ OutOfRange) → value_of class type s ≡ Err OutOfRange
    out_of r (inl e) = let n : number_of r.refusal ≡ 15 = ap number_of e in absurd (omega (arith, r.number))
    out_of r (inr e) = r.refused ∙ ap Err e

    by : {x : Refusal} {n : ℕ} → number_of x ≡ n → (x ≡ NotOfForm) ⊎ (x ≡ OutOfRange) → (n ≡ 15) ⊎ (n ≡ 16)
    by e (inl f) = inl (sym e ∙ ap number_of f)
    by e (inr f) = inr (sym e ∙ ap number_of f)

-- the reader of every kind
abbrev Readers : Type 0
Readers = (n : ℕ) (k : Kind) → kind_of n ≡ some k → Reader k (read_by k)

abbrev literal : (n : ℕ) (s : List ℕ) (k : Kind) → kind_of n ≡ some k → Written k s → Literal 1 n s
literal n s k e w = record { kind = k; text = w.0; class_1 = refl; named = e; formed = w.1; spells = w.2 }

-- a named type: every text of it is of its one kind
own : (n : ℕ) (s : List ℕ) (k : Kind) → kind_of n ≡ some k → (P : (j : Kind) → Text j → Type 0) → (t : Literal 1 n s) → P t.kind t.text
    → (w : Text k) × Formed k w × (s ≡ written k w) × P k w
own n s k e P t p = subst (λ (j : Kind). (w : Text j) × Formed j w × (s ≡ written j w) × P j w) (the_kind t.kind k (sym t.named ∙ e)) (t.text, t.formed, t.spells, p)

named_exact : Readers → (n : ℕ) (s : List ℕ) (k : Kind) → kind_of n ≡ some k → ByRefusal 1 n s
unfolding value_of
named_exact readers n s k e =
    let r = readers n k e in
    let is = kind-read n k e s in
    record {
      accepted = λ v. (
        λ p. let w = form r s (λ q. apart (cc)) in (literal n s k e w, meaning (sym is ∙ p) (answer r s w)),
        λ t. let w = own n s k e (λ (j : Kind) (x : Text j). Means j x v) t.0 t.1 in is ∙ is_one r w.3 (answer r s (w.0, w.1, w.2)),
      );
      fifteen = (
        λ p t. let w = own n s k e (λ (j : Kind) (x : Text j). Unit {0}) t tt in never (sym is ∙ p) (answer r s (w.0, w.1, w.2)),
        λ h. is ∙ no-form r s (λ w. h (literal n s k e w)),
      );
      sixteen = (
        λ p. let w = form r s (λ q. apart (cc)) in (literal n s k e w, out (sym is ∙ p) (answer r s w)),
        λ t. let w = own n s k e Excluded t.0 t.1 in is ∙ is_out r w.3 (answer r s (w.0, w.1, w.2)),
      );
      either = λ x p. fifteen_or_sixteen r s x (sym is ∙ p);
    }

-- where nothing of its form can be, and 15 is the answer
bare : (class n : ℕ) (s : List ℕ) → ¬ Literal class n s → value_of class n s ≡ Err NotOfForm → ByRefusal class n s
bare class n s h e = record {
  accepted = λ v. (λ p. apart (cc), λ t. absurd (h t.0));
  fifteen = (λ p. h, λ q. e);
  sixteen = (λ p. apart (cc), λ t. absurd (h t.0));
  either = λ x p. inl (cc);
}

pub exact : Readers → (class n : ℕ) (s : List ℕ) → Valuing class n s
unfolding value_of
exact readers class n s = numbered (by (eqb class 1) refl (kind_of n) refl)
  where
    by : (c : Bool) → eqb class 1 ≡ c → (o : Option Kind) → kind_of n ≡ o → ByRefusal class n s
    by false p o q = bare class n s (λ t. eqb-false class 1 p t.class_1) (rw p refl)
    by true p none q = bare class n s (λ t. apart (cc)) (rw p (unnamed n q s))
    by true p (some k) q = subst (λ (c : ℕ). ByRefusal c n s) (sym (eqb-true class 1 p)) (named_exact readers n s k q)
