-- Which of document 01's refusal numbers reading answers.
use Rattle.std.specs.Prelude.{Option, Some, None}
use mathlib.Core.Path.{◌≡◌, subst}
use mathlib.Core.List.{List, [], ◌∷◌}
use mathlib.Core.Bool.{Bool, true, false}
use Prim.Native.Nat.{ℕ, zero, suc, ◌+◌, ◌≤◌}
use native.Mathlib.Omega.{arith}
use lib.Dec.{ltb, leb, eqb}
use lib.ListN.{length, take, drop}
use Rattle.wire.specs.declared.Refusal.{Refusal}
use Rattle.wire.specs.declared.Refusal.TheVariants.{FieldCut, StringFormat, BytesLeftOver, ValueNotAllowed}
use Rattle.wire.specs.Bytes.{if, int_at}
use Rattle.wire.specs.Refusals.{number_of}
use Rattle.sedna.specs.declared.Side.{Side}
use Rattle.sedna.specs.declared.Shape.{Shape}
use Rattle.sedna.specs.declared.Shape.TheVariants as shape
use Rattle.sedna.specs.Allowed.{version_allowed, format_allowed, class_allowed, type_allowed}
use Rattle.sedna.specs.Kinds.{same_side}
use Rattle.sedna.specs.Message.{Body}
use Rattle.sedna.specs.Table.{find_of}
use Rattle.wire.specs.Fields.{Got, Field, go_on, ◌>>=◌, ◌>>◌, required}
use Rattle.sedna_read.specs.Fields.{byte_field, int_field, bytes_field, string_field, nothing_left}
use Rattle.sedna_read.specs.Reading.{session_fields, text_fields, statement_fields, coded_fields, pair_field, pairs_field, options_fields, url_field, item_fields}
use Rattle.sedna_read.specs.Reading.{fields_of, body_field, Heading, head_of, heading, Answer, answered, after_head, reading}

-- what holds of both branches holds whichever a test takes
of_both : {A : Type 0} (P : A → Type 0) (t : Bool) (a b : A) → P a → P b → P (if t a b)
of_both P true a b p q = p
of_both P false a b p q = q

-- a result that is a refusal only if P holds of it
abbrev pub GotIn : (Refusal → Type 0) → {A : Type 0} → Got A → Type 0
GotIn P (Got.refused r) = P r
GotIn P (Got.got a rest) = Unit {0}

-- of fields: what holds of 5, of 6 and of 8 holds of whatever they refuse with
module _ (P : Refusal → Type 0) (cut : P FieldCut) (format : P StringFormat) (value : P ValueNotAllowed) where
  -- a field that refuses only so
  abbrev Refuses : {A : Type 0} → Field A → Type 0
  Refuses field = (s : List ℕ) → GotIn P (field s)

  -- kept where a reading goes on
  go_on_in : {A B : Type 0} (g : Got A) (next : A → Field B) → GotIn P g → ((a : A) → Refuses (next a)) → GotIn P (go_on g next)
  go_on_in (Got.refused r) next p q = p
  go_on_in (Got.got a rest) next p q = q a rest

  -- a field, and what goes on with its value
  after : {A B : Type 0} (field : Field A) (next : A → Field B) → Refuses field → ((a : A) → Refuses (next a)) → Refuses (◌>>=◌ field next)
  after field next p q s = go_on_in (field s) next (p s) q

  -- a test, and what goes on where it holds
  tested : {B : Type 0} (t : Bool) (r : Refusal) (next : Field B) → P r → Refuses next → Refuses (◌>>◌ (required t r) next)
  tested true r next p q s = q s
  tested false r next p q s = p

  byte_refuses : Refuses byte_field
  byte_refuses [] = cut
  byte_refuses (x ∷ s) = tt

  int_refuses : Refuses int_field
  unfolding int_field
  int_refuses s = of_both (GotIn P) (ltb (length s) 4) _ _ cut tt

  bytes-refuse : (n : ℕ) → Refuses (bytes_field n)
  unfolding bytes_field
  bytes-refuse n s = of_both (GotIn P) (ltb (length s) n) _ _ cut tt

  string_refuses : Refuses string_field
  unfolding string_field
  string_refuses = after byte_field _ byte_refuses λ x. tested (eqb x 0) StringFormat _ format (after int_field _ int_refuses bytes-refuse)

  pair_refuses : Refuses pair_field
  unfolding pair_field
  pair_refuses = after int_field _ int_refuses λ id. after string_field _ string_refuses λ x s. tt

  pairs-refuse : (n : ℕ) → Refuses (pairs_field n)
  unfolding pairs_field
  pairs-refuse zero s = tt
  pairs-refuse (suc n) [] = tt
  pairs-refuse (suc n) (x ∷ s) = after pair_field _ pair_refuses (λ p. after (pairs_field n) _ (pairs-refuse n) λ ps l. tt) (x ∷ s)

  url_refuses : (flag : ℕ) → Refuses (url_field flag)
  unfolding url_field
  url_refuses zero = λ s. tt
  url_refuses (suc n) = after string_field _ string_refuses λ url s. tt

  pub fields-refuse : (shape : Shape) → Refuses (fields_of shape)
  unfolding session_fields text_fields statement_fields coded_fields options_fields item_fields
  fields-refuse shape.Empty = λ s. tt
  fields-refuse shape.Session =
      after byte_field _ byte_refuses λ major.
      after byte_field _ byte_refuses λ minor.
      tested (version_allowed major minor) ValueNotAllowed _ value
      (after string_field _ string_refuses λ user. after string_field _ string_refuses λ database s. tt)
  fields-refuse shape.Text = after string_field _ string_refuses λ t s. tt
  fields-refuse shape.Statement =
      after byte_field _ byte_refuses λ x. tested (format_allowed x) ValueNotAllowed _ value (after string_field _ string_refuses λ t s. tt)
  fields-refuse shape.Coded = after int_field _ int_refuses λ code. after string_field _ string_refuses λ t s. tt
  fields-refuse shape.Options = λ s. after (pairs_field (length s)) _ (pairs-refuse (length s)) (λ ps l. tt) s
  fields-refuse shape.Item =
      after byte_field _ byte_refuses λ class.
      tested (class_allowed class) ValueNotAllowed _ value
      (after byte_field _ byte_refuses λ kind.
      tested (type_allowed kind) ValueNotAllowed _ value
      (after byte_field _ byte_refuses λ flag.
      tested (leb flag 1) ValueNotAllowed _ value
      (after (url_field flag) _ (url_refuses flag) λ url. after string_field _ string_refuses λ part s. tt)))

  module _ (over : P BytesLeftOver) where
    left_refuses : Refuses nothing_left
    left_refuses [] = tt
    left_refuses (x ∷ s) = over

    pub body_refuses : (shape : Shape) → Refuses (body_field shape)
    unfolding body_field
    body_refuses shape = after (fields_of shape) _ (fields-refuse shape) λ b. after nothing_left _ left_refuses λ _ s. tt

-- a refusal that reading may answer
abbrev InReading : Refusal → Type 0
InReading r = (1 ≤ number_of r) × (number_of r ≤ 8)

abbrev HeadIn : Heading → Type 0
HeadIn (Heading.refused r) = InReading r
HeadIn (Heading.headed e n) = Unit {0}

abbrev AnswerIn : Answer → Type 0
AnswerIn (Answer.refused r) = InReading r
AnswerIn (Answer.accepted m n) = Unit {0}

head_in : (side : Side) (n : ℕ) (f : Option (Side × Shape)) → HeadIn (head_of side n f)
head_in side n None = omega arith
head_in side n (Some (sender, shape)) = of_both HeadIn (same_side sender side) _ _ (of_both HeadIn (ltb 10240 n) _ _ (omega arith) tt) (omega arith)

heading_in : (side : Side) (s : List ℕ) → HeadIn (heading side s)
unfolding heading
heading_in side s = of_both HeadIn (ltb (length s) 8) _ _ (omega arith) (head_in side (int_at s 4) (find_of (int_at s 0)))

answered_in : (i n : ℕ) (g : Got Body) → GotIn InReading g → AnswerIn (answered i n g)
answered_in i n (Got.refused r) p = p
answered_in i n (Got.got b rest) p = tt

after_head_in : (s : List ℕ) (g : Heading) → HeadIn g → AnswerIn (after_head s g)
after_head_in s (Heading.refused r) p = p
after_head_in s (Heading.headed shape n) p =
    let w : List ℕ = take n (drop 8 s) in
    of_both AnswerIn (ltb (length s) (8 + n)) _ _ (omega arith)
    (answered_in (int_at s 0) (8 + n) (body_field shape w) (body_refuses InReading (omega arith) (omega arith) (omega arith) (omega arith) shape w))

-- reading refuses only with the numbers 1 to 8
pub reading-refusals : (side : Side) (s : List ℕ) (r : Refusal) → reading side s ≡ Answer.refused r → (1 ≤ number_of r) × (number_of r ≤ 8)
unfolding reading heading
reading-refusals side s r e = subst AnswerIn e (after_head_in s (heading side s) (heading_in side s))
