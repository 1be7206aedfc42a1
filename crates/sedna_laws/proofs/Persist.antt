-- "6 or 8 as soon as the byte is there": such a refusal stands, whatever bytes follow.
use mathlib.Core.Bool.{Bool, true, false}
use mathlib.Core.List.{List, [], ◌∷◌, ◌++◌, append_assoc}
use mathlib.Core.Path.{◌≡◌, refl, sym, ap, ◌∙◌}
use Prim.Native.Nat.{ℕ, zero, suc, ◌≤◌}
use native.Mathlib.Omega.{arith}
use lib.Dec.{ltb, leb, eqb}
use lib.ListN.{length, length-append}
use Rattle.wire.specs.Bytes.{IsBytes, if, int}
use Rattle.wire.specs.Fields.{Got, Field, go_on, ◌>>=◌, ◌>>◌, give, required}
use Rattle.wire.specs.declared.Refusal.{Refusal}
use Rattle.wire.specs.declared.Refusal.TheVariants.{FieldCut, StringFormat, ValueNotAllowed}
use Rattle.sedna.specs.declared.Shape.{Shape}
use Rattle.sedna.specs.declared.Shape.TheVariants as shape
use Rattle.sedna.specs.Allowed.{version_allowed, format_allowed, class_allowed, type_allowed}
use Rattle.sedna.specs.Encode.{string, url_bytes, pair_bytes}
use Rattle.sedna.specs.Message.{Url, Pair, Body}
use Rattle.sedna_read.specs.Fields.{byte_field, int_field, bytes_field, string_field}
use Rattle.sedna_read.specs.Reading.{session_fields, text_fields, statement_fields, coded_fields, pair_field, pairs_field, options_fields, url_field, item_fields, fields_of}
use Rattle.wire.proofs.Branches.{apart}
use Rattle.sedna_laws.proofs.Bytes.{bytes-front, bytes-behind}
use Rattle.sedna_laws.proofs.Fields.{byte_back, int_forth, int_back, string_forth, string_back}
use Rattle.sedna_laws.proofs.Pairs.{pair_forth, pair_back}
use Rattle.sedna_laws.proofs.Steps.{Forth, Back}
use Rattle.sedna_laws.proofs.Urls.{flagged_url, flagged, url_forth, url_back}

-- a refusal other than 5 stands where more bytes follow
abbrev pub Persists : {A : Type 0} → Field A → Type 0
Persists field = (s t : List ℕ) → IsBytes (s ++ t) → (r : Refusal) → ¬ (r ≡ FieldCut) → field s ≡ Got.refused r → field (s ++ t) ≡ Got.refused r

-- an exact field reads what it read where more bytes follow
pub record Goes {A : Type 0} (field : Field A) (s t : List ℕ) (a : A) (rest : List ℕ) : Type 0 where
  pub bytes : IsBytes (rest ++ t)
  pub on : field (s ++ t) ≡ Got.got a (rest ++ t)

module _ {A : Type 0} (field : Field A) (bytes : A → List ℕ) (forth : Forth field bytes) (back : Back field bytes) where
  pub goes : (s t : List ℕ) → IsBytes (s ++ t) → (a : A) (rest : List ℕ) → field s ≡ Got.got a rest → Goes field s t a rest
  goes s t h a rest e =
      let split : s ≡ bytes a ++ rest = back s a rest (bytes-front s t h) e in
      let whole : s ++ t ≡ bytes a ++ (rest ++ t) = ap (λ (l : List ℕ). l ++ t) split ∙ append_assoc (bytes a) rest t in
      let h' : IsBytes (bytes a ++ (rest ++ t)) = rw whole at h in
      record { bytes = bytes-behind (bytes a) (rest ++ t) h'; on = ap field whole ∙ forth a (rest ++ t) h' }

  -- it persists with what goes on with its value
  pub onward : {B : Type 0} (next : A → Field B) → Persists field → ((a : A) → Persists (next a)) → Persists (◌>>=◌ field next)
  onward {B} next p q s t h r c e = by (field s) refl e
    where
      by : (x : Got A) → field s ≡ x → go_on x next ≡ Got.refused r → go_on (field (s ++ t)) next ≡ Got.refused r
      by (Got.refused u) m e = let z : u ≡ r = cc in rw (p s t h r c (m ∙ ap Got.refused z))
      by (Got.got a rest) m e = let g = goes s t h a rest m in rw g.on (q a rest t g.bytes r c e)

tested : {B : Type 0} (u : Bool) (q : Refusal) (next : Field B) → Persists next → Persists (◌>>◌ (required u q) next)
tested true q next p s t h r c e = p s t h r c e
tested false q next p s t h r c e = e

given : {A : Type 0} (a : A) → Persists (give a)
given a s t h r c e = apart (cc)

pub byte_forth : Forth byte_field (λ x. x ∷ [])
byte_forth x rest h = refl

byte_persists : Persists byte_field
byte_persists [] t h r c e = let z : FieldCut ≡ r = cc in absurd (c (sym z))
byte_persists (x ∷ s) t h r c e = apart (cc)

-- a field that refuses with 5 alone
cut_alone : {A P : Type 0} (b : Bool) (a : A) (rest : List ℕ) (r : Refusal) → ¬ (r ≡ FieldCut) → if b (Got.refused FieldCut) (Got.got a rest) ≡ Got.refused r → P
cut_alone true a rest r c e = let z : FieldCut ≡ r = cc in absurd (c (sym z))
cut_alone false a rest r c e = apart (cc)

int_persists : Persists int_field
unfolding int_field
int_persists s t h r c e = cut_alone (ltb (length s) 4) _ _ r c e

bytes_persist : (n : ℕ) → Persists (bytes_field n)
unfolding bytes_field
bytes_persist n s t h r c e = cut_alone (ltb (length s) n) _ _ r c e

string_persists : Persists string_field
unfolding string_field
string_persists =
    onward byte_field (λ x. x ∷ []) byte_forth byte_back _ byte_persists λ format.
    tested (eqb format 0) StringFormat _ (onward int_field int int_forth int_back _ int_persists bytes_persist)

-- a last string
last_persists : {B : Type 0} (make : List ℕ → B) → Persists (◌>>=◌ string_field (λ t. give (make t)))
last_persists make = onward string_field string string_forth string_back _ string_persists λ t. given (make t)

url_persists : Persists flagged_url
unfolding url_field
url_persists = onward byte_field (λ x. x ∷ []) byte_forth byte_back _ byte_persists λ flag. tested (leb flag 1) ValueNotAllowed _ (by flag)
  where
    by : (flag : ℕ) → Persists (url_field flag)
    by zero = given Url.absent
    by (suc n) = last_persists Url.present

pub pair_persists : Persists pair_field
unfolding pair_field
pair_persists = onward int_field int int_forth int_back _ int_persists λ id. last_persists (λ value. record { id = id; value = value })

-- pairs, where as many more may be read as bytes follow
pairs_persist : (n m : ℕ) → n ≤ m → (s t : List ℕ) → IsBytes (s ++ t) → (r : Refusal) → ¬ (r ≡ FieldCut) → pairs_field n s ≡ Got.refused r → pairs_field m (s ++ t) ≡ Got.refused r
unfolding pairs_field
pairs_persist zero m l s t h r c e = apart (cc)
pairs_persist (suc n) m l [] t h r c e = apart (cc)
pairs_persist (suc n) zero l (x ∷ s) t h r c e = absurd (omega arith)
pairs_persist (suc n) (suc m) l (x ∷ s) t h r c e = by (pair_field (x ∷ s)) refl (λ rest. pairs_persist n m (omega arith) rest t) e
  where
    more : (p : Pair) (g g' : Got (List Pair)) → (g ≡ Got.refused r → g' ≡ Got.refused r) → go_on g (λ ps. give (p ∷ ps)) ≡ Got.refused r → go_on g' (λ ps. give (p ∷ ps)) ≡ Got.refused r
    more p (Got.refused u) g' f e = let z : u ≡ r = cc in rw (f (ap Got.refused z))
    more p (Got.got ps l) g' f e = apart (cc)

    by : (g : Got Pair) → pair_field (x ∷ s) ≡ g
        → ((rest : List ℕ) → IsBytes (rest ++ t) → (q : Refusal) → ¬ (q ≡ FieldCut) → pairs_field n rest ≡ Got.refused q → pairs_field m (rest ++ t) ≡ Got.refused q)
        → go_on g (λ p rest. go_on (pairs_field n rest) (λ ps. give (p ∷ ps))) ≡ Got.refused r
        → go_on (pair_field (x ∷ s ++ t)) (λ p rest. go_on (pairs_field m rest) (λ ps. give (p ∷ ps))) ≡ Got.refused r
    by (Got.refused u) q later e = let z : u ≡ r = cc in rw (pair_persists (x ∷ s) t h r c (q ∙ ap Got.refused z))
    by (Got.got p rest) q later e =
        let g = goes pair_field pair_bytes pair_forth pair_back (x ∷ s) t h p rest q in
        rw g.on (more p (pairs_field n rest) (pairs_field m (rest ++ t)) (later rest g.bytes r c) e)

pub fields_persist : (shape : Shape) → Persists (fields_of shape)
unfolding session_fields text_fields statement_fields coded_fields options_fields item_fields
fields_persist shape.Empty = given Body.empty
fields_persist shape.Session =
    onward byte_field (λ x. x ∷ []) byte_forth byte_back _ byte_persists λ major.
    onward byte_field (λ x. x ∷ []) byte_forth byte_back _ byte_persists λ minor.
    tested (version_allowed major minor) ValueNotAllowed _
    (onward string_field string string_forth string_back _ string_persists λ user. last_persists (Body.session major minor user))
fields_persist shape.Text = last_persists Body.text
fields_persist shape.Statement =
    onward byte_field (λ x. x ∷ []) byte_forth byte_back _ byte_persists λ format. tested (format_allowed format) ValueNotAllowed _ (last_persists (Body.statement format))
fields_persist shape.Coded = onward int_field int int_forth int_back _ int_persists λ code. last_persists (Body.coded code)
fields_persist shape.Options = λ s t h r c e. by s t h r c (pairs_field (length s) s) refl e
  where
    by : (s t : List ℕ) → IsBytes (s ++ t) → (r : Refusal) → ¬ (r ≡ FieldCut) → (g : Got (List Pair)) → pairs_field (length s) s ≡ g → go_on g (λ ps. give (Body.options ps)) ≡ Got.refused r
        → go_on (pairs_field (length (s ++ t)) (s ++ t)) (λ ps. give (Body.options ps)) ≡ Got.refused r
    by s t h r c (Got.refused u) q e =
        let z : u ≡ r = cc in
        rw (pairs_persist (length s) (length (s ++ t)) (omega (arith, length-append s t)) s t h r c (q ∙ ap Got.refused z))
    by s t h r c (Got.got ps l) q e = apart (cc)
fields_persist shape.Item =
    onward byte_field (λ x. x ∷ []) byte_forth byte_back _ byte_persists λ class.
    tested (class_allowed class) ValueNotAllowed _
    (onward byte_field (λ x. x ∷ []) byte_forth byte_back _ byte_persists λ kind.
    tested (type_allowed kind) ValueNotAllowed _
    (λ s t h r c e. flagged (s ++ t) _ ∙ onward flagged_url url_bytes url_forth url_back _ url_persists (λ url. last_persists (Body.item class kind url)) s t h r c (sym (flagged s _) ∙ e)))
