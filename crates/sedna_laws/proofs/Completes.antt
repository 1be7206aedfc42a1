-- "5: the body ends inside a field": with more bytes there would be a whole one.
use mathlib.Core.Bool.{Bool, true, false}
use mathlib.Core.List.{List, [], ◌∷◌, ◌++◌, append_assoc}
use mathlib.Core.Path.{◌≡◌, refl, sym, ap, ◌∙◌}
use Prim.Native.Nat.{ℕ, zero, suc, ◌-◌, ◌≤◌, ◌<◌}
use native.Mathlib.Omega.{arith}
use lib.Dec.{ltb, leb, eqb}
use lib.ListN.{length, take, drop, replicate, length-append, length-replicate, drop_of_length-le}
use borrow.Author.Tests.{le-ltb, ltb-true}
use Rattle.wire.specs.Bytes.{IsBytes, if, int, int_at}
use Rattle.wire.specs.Fields.{Got, Field, go_on, ◌>>=◌, ◌>>◌, give, required}
use Rattle.wire.specs.declared.Refusal.{Refusal}
use Rattle.wire.specs.declared.Refusal.TheVariants.{FieldCut, StringFormat, ValueNotAllowed}
use Rattle.sedna.specs.declared.Shape.{Shape}
use Rattle.sedna.specs.declared.Shape.TheVariants as shapes
use Rattle.sedna.specs.Allowed.{version_allowed, format_allowed, class_allowed, type_allowed}
use Rattle.sedna.specs.Encode.{string, url_bytes, pair_bytes}
use Rattle.sedna.specs.Message.{Url, Pair, Body}
use Rattle.sedna_read.specs.Fields.{byte_field, int_field, bytes_field, string_field}
use Rattle.sedna_read.specs.Reading.{session_fields, text_fields, statement_fields, coded_fields, pair_field, pairs_field, options_fields, url_field, item_fields, fields_of}
use Rattle.wire.proofs.Branches.{apart, either}
use Rattle.sedna_laws.proofs.Bytes.{bytes-behind}
use Rattle.sedna_laws.proofs.Fields.{int_forth, int_back, string_forth, string_back}
use Rattle.sedna_laws.proofs.Pairs.{pair_forth, pair_back}
use Rattle.sedna_laws.proofs.Persist.{goes}
use Rattle.sedna_laws.proofs.Steps.{Forth, Back}
use Rattle.sedna_laws.proofs.Urls.{flagged_url, flagged, url_forth, url_back}

pub bytes-both : (u v : List ℕ) → IsBytes u → IsBytes v → IsBytes (u ++ v)
bytes-both [] v hu hv i = hv i
bytes-both (x ∷ u) v hu hv zero = hu 0
bytes-both (x ∷ u) v hu hv (suc i) = bytes-both u v (λ j. hu (suc j)) hv i

zeros : ℕ → List ℕ
zeros n = replicate n 0

zeros_bytes : (n : ℕ) → IsBytes (zeros n)
unfolding zeros
zeros_bytes zero i = omega arith
zeros_bytes (suc n) zero = omega arith
zeros_bytes (suc n) (suc i) = zeros_bytes n i

zeros_length : (n : ℕ) → length (zeros n) ≡ n
unfolding zeros
zeros_length n = length-replicate {A = ℕ} n 0

byte-first : (x : ℕ) (s : List ℕ) → x < 256 → IsBytes s → IsBytes (x ∷ s)
byte-first x s l h zero = l
byte-first x s l h (suc i) = h i

-- bytes that a field lacks behind s, and the value that it then has
pub record Completion {A : Type 0} (field : Field A) (s : List ℕ) : Type 0 where
  pub more : List ℕ
  pub bytes : IsBytes more
  pub value : A
  pub got : field (s ++ more) ≡ Got.got value []

abbrev Completes : {A : Type 0} → Field A → Type 0
Completes field = (s : List ℕ) → IsBytes s → field s ≡ Got.refused FieldCut → Completion field s

-- what goes on behind an exact field
module _ {A B : Type 0} (field : Field A) (bytes : A → List ℕ) (forth : Forth field bytes) (back : Back field bytes) (next : A → Field B) where
  from_nothing : Completion field [] → ((a : A) → Completion (next a) []) → Completion (◌>>=◌ field next) []
  from_nothing c later =
      let d = later c.value in
      let g = goes field bytes forth back c.more d.more (bytes-both c.more d.more c.bytes d.bytes) c.value [] c.got in
      record { more = c.more ++ d.more; bytes = bytes-both c.more d.more c.bytes d.bytes; value = d.value; got = rw g.on d.got }

  onward : Completes field → ((a : A) → Completion (next a) []) → ((a : A) → Completes (next a)) → Completes (◌>>=◌ field next)
  onward p later q s h e = by (field s) refl e
    where
      by : (x : Got A) → field s ≡ x → go_on x next ≡ Got.refused FieldCut → Completion (◌>>=◌ field next) s
      by (Got.refused u) m e =
          let z : u ≡ FieldCut = cc in
          let c = p s h (m ∙ ap Got.refused z) in
          let d = later c.value in
          let are : IsBytes (s ++ c.more ++ d.more) = bytes-both (s ++ c.more) d.more (bytes-both s c.more h c.bytes) d.bytes in
          let g = goes field bytes forth back (s ++ c.more) d.more are c.value [] c.got in
          record { more = c.more ++ d.more; bytes = bytes-both c.more d.more c.bytes d.bytes; value = d.value; got = rw (← append_assoc s c.more d.more, g.on) d.got }
      by (Got.got a rest) m e =
          let c = q a rest (bytes-behind (bytes a) rest (rw (back s a rest h m) at h)) e in
          let g = goes field bytes forth back s c.more (bytes-both s c.more h c.bytes) a rest m in
          record { more = c.more; bytes = c.bytes; value = c.value; got = rw g.on c.got }

-- a byte that is judged, and what goes on where it is allowed
module _ {B : Type 0} (ok : ℕ → Bool) (r : Refusal) (other : ¬ (r ≡ FieldCut)) (x₀ : ℕ) (small : x₀ < 256) (allowed : ok x₀ ≡ true) (next : ℕ → Field B) where
  abbrev checked_byte : Field B
  checked_byte = ◌>>=◌ byte_field (λ x. ◌>>◌ (required (ok x) r) (next x))

  checked_nothing : Completion (next x₀) [] → Completion checked_byte []
  checked_nothing d = record { more = x₀ ∷ d.more; bytes = byte-first x₀ d.more small d.bytes; value = d.value; got = rw allowed d.got }

  checked : Completion (next x₀) [] → ((x : ℕ) → Completes (next x)) → Completes checked_byte
  checked d q [] h e = checked_nothing d
  checked d q (x ∷ s) h e = by (ok x) refl e
    where
      by : (t : Bool) → ok x ≡ t → go_on (required t r s) (λ _. next x) ≡ Got.refused FieldCut → Completion checked_byte (x ∷ s)
      by true m e = let c = q x s (λ i. h (suc i)) e in record { more = c.more; bytes = c.bytes; value = c.value; got = rw m c.got }
      by false m e = let z : r ≡ FieldCut = cc in absurd (other z)

nothing-more : {A : Type 0} (a : A) → Completion (give a) []
nothing-more a = record { more = []; bytes = λ i. omega arith; value = a; got = refl }

given : {A : Type 0} (a : A) → Completes (give a)
given a s h e = apart (cc)

-- a field of n bytes, filled up with zeros
module _ {A : Type 0} (n : ℕ) (make : List ℕ → A) where
  abbrev sized : Field A
  sized s = if (ltb (length s) n) (Got.refused FieldCut) (Got.got (make s) (drop n s))

  filled : (s : List ℕ) → length s ≤ n → Completion sized s
  filled s l =
      let z : List ℕ = s ++ zeros (n - length s) in
      let all : length z ≡ n = omega (arith, length-append s (zeros (n - length s)), zeros_length (n - length s)) in
      record { more = zeros (n - length s); bytes = zeros_bytes (n - length s); value = make z; got = rw (le-ltb (length z) n (omega arith), drop_of_length-le z {i = n} (omega arith)) }

  sized_completes : Completes sized
  sized_completes s h e = either (ltb (length s) n) _ _ e (λ cut _. filled s (omega (arith, ltb-true (length s) n cut))) (λ _ q. apart (cc))

int-nothing : Completion int_field []
unfolding int_field
int-nothing = filled 4 (λ s. int_at s 0) [] (omega arith)

int_completes : Completes int_field
unfolding int_field
int_completes = sized_completes 4 (λ s. int_at s 0)

bytes-nothing : (n : ℕ) → Completion (bytes_field n) []
unfolding bytes_field
bytes-nothing n = filled n (take n) [] (omega arith)

bytes_complete : (n : ℕ) → Completes (bytes_field n)
unfolding bytes_field
bytes_complete n = sized_completes n (take n)

not_format : ¬ (StringFormat ≡ FieldCut)
not_format e = apart (cc)

not_value : ¬ (ValueNotAllowed ≡ FieldCut)
not_value e = apart (cc)

-- a string's length and bytes
abbrev counted : Field (List ℕ)
counted = ◌>>=◌ int_field bytes_field

counted-nothing : Completion counted []
counted-nothing = from_nothing int_field int int_forth int_back bytes_field int-nothing bytes-nothing

string-nothing : Completion string_field []
unfolding string_field
string-nothing = checked_nothing (λ x. eqb x 0) StringFormat not_format 0 (omega arith) refl (λ x. counted) counted-nothing

string_completes : Completes string_field
unfolding string_field
string_completes =
    checked (λ x. eqb x 0) StringFormat not_format 0 (omega arith) refl (λ x. counted) counted-nothing λ x.
    onward int_field int int_forth int_back bytes_field int_completes bytes-nothing bytes_complete

-- a last string
module _ {B : Type 0} (make : List ℕ → B) where
  last-nothing : Completion (◌>>=◌ string_field (λ t. give (make t))) []
  last-nothing = from_nothing string_field string string_forth string_back _ string-nothing (λ t. nothing-more (make t))

  last_completes : Completes (◌>>=◌ string_field (λ t. give (make t)))
  last_completes = onward string_field string string_forth string_back _ string_completes (λ t. nothing-more (make t)) (λ t. given (make t))

-- the names behind a version; the part behind what is known of an item; an option
names-nothing : (major minor : ℕ) → Completion (◌>>=◌ string_field (λ user. ◌>>=◌ string_field (λ database. give (Body.session major minor user database)))) []
names-nothing major minor = from_nothing string_field string string_forth string_back _ string-nothing (λ user. last-nothing (Body.session major minor user))

names_complete : (major minor : ℕ) → Completes (◌>>=◌ string_field (λ user. ◌>>=◌ string_field (λ database. give (Body.session major minor user database))))
names_complete major minor = onward string_field string string_forth string_back _ string_completes (λ user. last-nothing (Body.session major minor user))
    (λ user. last_completes (Body.session major minor user))

pair_completes : Completes pair_field
unfolding pair_field
pair_completes =
    onward int_field int int_forth int_back _ int_completes (λ id. last-nothing (λ value. record { id = id; value = value })) (λ id. last_completes (λ value. record { id = id; value = value }))

url-nothing : Completion flagged_url []
unfolding url_field
url-nothing = checked_nothing (λ flag. leb flag 1) ValueNotAllowed not_value 0 (omega arith) refl url_field (nothing-more Url.absent)

url_completes : Completes flagged_url
unfolding url_field
url_completes = checked (λ flag. leb flag 1) ValueNotAllowed not_value 0 (omega arith) refl url_field (nothing-more Url.absent) by
  where
    by : (flag : ℕ) → Completes (url_field flag)
    by zero = given Url.absent
    by (suc n) = last_completes Url.present

-- flag, URL and part of an item, as `item_fields` reads them
module _ (class kind : ℕ) where
  abbrev flagged_part : Field Body
  flagged_part = ◌>>=◌ byte_field (λ flag. ◌>>◌ (required (leb flag 1) ValueNotAllowed) (◌>>=◌ (url_field flag) (λ url. ◌>>=◌ string_field (λ part. give (Body.item class kind url part)))))

  as_read : (s : List ℕ) → Completion (◌>>=◌ flagged_url (λ url. ◌>>=◌ string_field (λ part. give (Body.item class kind url part)))) s → Completion flagged_part s
  as_read s c = record { more = c.more; bytes = c.bytes; value = c.value; got = flagged (s ++ c.more) _ ∙ c.got }

  part-nothing : Completion flagged_part []
  part-nothing = as_read [] (from_nothing flagged_url url_bytes url_forth url_back _ url-nothing (λ url. last-nothing (Body.item class kind url)))

  part_completes : Completes flagged_part
  part_completes s h e =
      as_read s (onward flagged_url url_bytes url_forth url_back _ url_completes (λ url. last-nothing (Body.item class kind url))
      (λ url. last_completes (Body.item class kind url)) s h (sym (flagged s _) ∙ e))

-- pairs, where as many more may be read as bytes follow
pub record Pairs (n : ℕ) (s : List ℕ) : Type 0 where
  pub more : List ℕ
  pub bytes : IsBytes more
  pub pairs : List Pair
  pub got : (m : ℕ) → n ≤ m → pairs_field m (s ++ more) ≡ Got.got pairs []

none_left : (m : ℕ) → pairs_field m [] ≡ Got.got [] []
unfolding pairs_field
none_left zero = refl
none_left (suc m) = refl

pairs_complete : (n : ℕ) (s : List ℕ) → IsBytes s → pairs_field n s ≡ Got.refused FieldCut → Pairs n s
unfolding pairs_field
pairs_complete zero s h e = apart (cc)
pairs_complete (suc n) [] h e = apart (cc)
pairs_complete (suc n) (x ∷ s) h e = by (pair_field (x ∷ s)) refl (pairs_complete n) e
  where
    first : Completion pair_field (x ∷ s) → Pairs (suc n) (x ∷ s)
    first c = record { more = c.more; bytes = c.bytes; pairs = c.value ∷ []; got = filled_up }
      where
        filled_up : (m : ℕ) → suc n ≤ m → pairs_field m (x ∷ s ++ c.more) ≡ Got.got (c.value ∷ []) []
        filled_up zero l = absurd (omega arith)
        filled_up (suc m) l = rw (c.got, none_left m)

    further : (p : Pair) (rest : List ℕ) → pair_field (x ∷ s) ≡ Got.got p rest → Pairs n rest → Pairs (suc n) (x ∷ s)
    further p rest q c = record { more = c.more; bytes = c.bytes; pairs = p ∷ c.pairs; got = filled_up }
      where
        filled_up : (m : ℕ) → suc n ≤ m → pairs_field m (x ∷ s ++ c.more) ≡ Got.got (p ∷ c.pairs) []
        filled_up zero l = absurd (omega arith)
        filled_up (suc m) l = rw ((goes pair_field pair_bytes pair_forth pair_back (x ∷ s) c.more (bytes-both (x ∷ s) c.more h c.bytes) p rest q).on, c.got m (omega arith))

    cut : (p : Pair) (g : Got (List Pair)) → go_on g (λ ps. give (p ∷ ps)) ≡ Got.refused FieldCut → g ≡ Got.refused FieldCut
    cut p (Got.refused u) e = let z : u ≡ FieldCut = cc in ap Got.refused z
    cut p (Got.got ps l) e = apart (cc)

    by : (g : Got Pair) → pair_field (x ∷ s) ≡ g → ((rest : List ℕ) → IsBytes rest → pairs_field n rest ≡ Got.refused FieldCut → Pairs n rest)
        → go_on g (λ p rest. go_on (pairs_field n rest) (λ ps. give (p ∷ ps))) ≡ Got.refused FieldCut → Pairs (suc n) (x ∷ s)
    by (Got.refused u) q later e = let z : u ≡ FieldCut = cc in first (pair_completes (x ∷ s) h (q ∙ ap Got.refused z))
    by (Got.got p rest) q later e =
        further p rest q (later rest (bytes-behind (pair_bytes p) rest (rw (pair_back (x ∷ s) p rest h q) at h)) (cut p (pairs_field n rest) e))

-- a body of every shape but for a version of which one byte is there
pub fields_complete : (shape : Shape) (s : List ℕ) → IsBytes s → fields_of shape s ≡ Got.refused FieldCut → ¬ ((shape ≡ shapes.Session) × (length s ≡ 1)) → Completion (fields_of shape) s
unfolding session_fields text_fields statement_fields coded_fields options_fields item_fields version_allowed format_allowed class_allowed type_allowed
fields_complete shapes.Empty s h e lone = apart (cc)
fields_complete shapes.Session [] h e lone =
    let d = names-nothing 1 0 in record { more = 1 ∷ 0 ∷ d.more; bytes = byte-first 1 (0 ∷ d.more) (omega arith) (byte-first 0 d.more (omega arith) d.bytes); value = d.value; got = d.got }
fields_complete shapes.Session (major ∷ []) h e lone = absurd (lone (refl, refl))
fields_complete shapes.Session (major ∷ minor ∷ s) h e lone = by (version_allowed major minor) refl e
  where
    by : (t : Bool) → version_allowed major minor ≡ t
        → go_on (required t ValueNotAllowed s)
        (λ _. ◌>>=◌ string_field (λ user. ◌>>=◌ string_field (λ database. give (Body.session major minor user database)))) ≡ Got.refused FieldCut
        → Completion (fields_of shapes.Session) (major ∷ minor ∷ s)
    by true m e = let c = names_complete major minor s (λ i. h (suc (suc i))) e in record { more = c.more; bytes = c.bytes; value = c.value; got = rw m c.got }
    by false m e = let z : ValueNotAllowed ≡ FieldCut = cc in absurd (not_value z)
fields_complete shapes.Text s h e lone = last_completes Body.text s h e
fields_complete shapes.Statement s h e lone =
    checked format_allowed ValueNotAllowed not_value 0 (omega arith) refl (λ format. ◌>>=◌ string_field (λ t. give (Body.statement format t))) (last-nothing (Body.statement 0))
    (λ format. last_completes (Body.statement format)) s h e
fields_complete shapes.Coded s h e lone = onward int_field int int_forth int_back _ int_completes (λ code. last-nothing (Body.coded code)) (λ code. last_completes (Body.coded code)) s h e
fields_complete shapes.Options s h e lone = by (pairs_field (length s) s) refl e
  where
    by : (g : Got (List Pair)) → pairs_field (length s) s ≡ g → go_on g (λ ps. give (Body.options ps)) ≡ Got.refused FieldCut → Completion (fields_of shapes.Options) s
    by (Got.refused u) q e =
        let z : u ≡ FieldCut = cc in
        let c = pairs_complete (length s) s h (q ∙ ap Got.refused z) in
        record { more = c.more; bytes = c.bytes; value = Body.options c.pairs; got = rw (c.got (length (s ++ c.more)) (omega (arith, length-append s c.more))) }
    by (Got.got ps l) q e = apart (cc)
fields_complete shapes.Item s h e lone =
    checked class_allowed ValueNotAllowed not_value 1 (omega arith) refl (λ class. checked_byte type_allowed ValueNotAllowed not_value 0 (omega arith) refl (flagged_part class))
    (checked_nothing type_allowed ValueNotAllowed not_value 0 (omega arith) refl (flagged_part 1) (part-nothing 1 0))
    (λ class. checked type_allowed ValueNotAllowed not_value 0 (omega arith) refl (flagged_part class) (part-nothing class 0) (λ kind. part_completes class kind)) s h e
