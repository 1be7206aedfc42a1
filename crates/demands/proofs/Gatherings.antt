-- The seven numbers of an assembly mean it, and an assembly that a message was joined to has numbers again.
use mathlib.Core.Bool.{Bool, true, false}
use mathlib.Core.List.{List, [], ◌∷◌}
use mathlib.Core.Path.{◌≡◌, refl, sym, ap, ◌∙◌}
use Prim.Native.Nat.{ℕ, zero, suc, ◌≤◌, ◌<◌}
use native.Mathlib.Omega.{arith}
use lib.Dec.{eqb, ltb}
use lib.ListN.{get_or}
use borrow.Author.Tests.{ltb-true, ltb-false}
use Rattle.std.specs.Prelude.{Option, Some, None}
use Rattle.std.proofs.lemmas.Bool.Decides.{nat_tests}
use Rattle.wire.specs.Bytes.{if}
use Rattle.sedna.specs.Allowed.{format_allowed, class_allowed, type_allowed, allowed}
use Rattle.sedna.specs.Message.{Body, Message}
use Rattle.parts_join.specs.declared.Assembly.{Assembly}
use Rattle.parts_join.specs.declared.Label.{Label}
use Rattle.parts_join.specs.declared.Open.{Open}
use Rattle.parts_join.specs.declared.Open.TheVariants.{Nothing, Statement, Item, TypedItem}
use Rattle.parts_join.specs.Answers.{Reply}
use Rattle.parts_join.specs.Joining.{fitted, joined_as, joined}
use Rattle.parts_join.specs.Roles.{label_of}
use Rattle.parts_c.specs.Joining.{open_of, open_number, flag_of, assembly_in, assembly_put, meant_by}
use Rattle.demands.specs.Header.{◌at◌}
use Rattle.demands.specs.Gatherings.{Gathering, Flag, Means, TOLD_WHAT, TOLD_LENGTH, TOLD_FORMAT, TOLD_CLASS, TOLD_TYPE, TellsReply}

pub gathering_of : (n : ℕ) → n ≤ 3 → Gathering n (open_of n)
gathering_of zero h = Gathering.nothing
gathering_of (suc zero) h = Gathering.statement
gathering_of (suc (suc zero)) h = Gathering.item
gathering_of (suc (suc (suc zero))) h = Gathering.typed_item
gathering_of (suc (suc (suc (suc n)))) h = absurd (omega arith)

flag_of_lem : (n : ℕ) → n ≤ 1 → Flag n (eqb n 1)
flag_of_lem zero h = Flag.off
flag_of_lem (suc zero) h = Flag.on
flag_of_lem (suc (suc n)) h = absurd (omega arith)

pub gathering_few : {n : ℕ} {o : Open} → Gathering n o → n ≤ 3
gathering_few g = grind arith

flag_few : {n : ℕ} {b : Bool} → Flag n b → n ≤ 1
flag_few f = grind arith

number_gathers : (o : Open) → Gathering (open_number o) o
number_gathers Nothing = Gathering.nothing
number_gathers Statement = Gathering.statement
number_gathers Item = Gathering.item
number_gathers TypedItem = Gathering.typed_item

flag_flags : (b : Bool) → Flag (flag_of b) b
flag_flags false = Flag.off
flag_flags true = Flag.on

-- a label of bytes
abbrev pub Bytes : Label → Type 0
Bytes l = (l.format < 256) × (l.class < 256) × (l.kind < 256)

pub means-put : (a : Assembly) (d : List ℕ) → Bytes a.label → Means (assembly_put a d) a
means-put a d h = record {
  what = number_gathers a.what;
  begun = flag_flags a.begun;
  held = refl;
  spoilt = flag_flags a.overflowed;
  format = refl;
  class = refl;
  kind = refl;
  bytes = h;
}

pub means-bytes : {d : List ℕ} {a : Assembly} → Means d a → Bytes a.label
means-bytes {d} {a} m =
    let b = m.bytes in
    let f = m.format in
    let c = m.class in
    let k = m.kind in
    (omega (arith, b.0, f), omega (arith, b.1, c), omega (arith, b.2, k))

-- what the code takes is what some assembly has
pub data MeansIn (d : List ℕ) : Option Assembly → Type 0 where
  none : ((a : Assembly) → ¬ Means d a) → MeansIn d None
  is : {a : Assembly} → Means d a → MeansIn d (Some a)

tested : (d : List ℕ) (lo n : ℕ) (x : Option Assembly) → (lo < n → (a : Assembly) → ¬ Means d a) → (n ≤ lo → MeansIn d x) → MeansIn d (if (ltb lo n) None x)
tested d lo n x above below = by (ltb lo n) refl
  where
    by : (t : Bool) → ltb lo n ≡ t → MeansIn d (if t None x)
    by true e = MeansIn.none (above (ltb-true lo n e))
    by false e = below (ltb-false lo n e)

pub meant-means : (d : List ℕ) → MeansIn d (meant_by d)
unfolding meant_by
meant-means d =
    tested d 3 (get_or d 0 0) _ (λ h a m. let z = gathering_few m.what in absurd (omega (arith, h, z))) λ what.
    tested d 1 (get_or d 1 0) _ (λ h a m. let z = flag_few m.begun in absurd (omega (arith, h, z))) λ begun.
    tested d 1 (get_or d 3 0) _ (λ h a m. let z = flag_few m.spoilt in absurd (omega (arith, h, z))) λ spoilt.
    tested d 255 (get_or d 4 0) _ (λ h a m. let z = m.bytes.0 in absurd (omega (arith, h, z))) λ format.
    tested d 255 (get_or d 5 0) _ (λ h a m. let z = m.bytes.1 in absurd (omega (arith, h, z))) λ class.
    tested d 255 (get_or d 6 0) _ (λ h a m. let z = m.bytes.2 in absurd (omega (arith, h, z))) λ kind.
    MeansIn.is {a = assembly_in d} (record {
      what = gathering_of (get_or d 0 0) what;
      begun = flag_of_lem (get_or d 1 0) begun;
      held = refl;
      spoilt = flag_of_lem (get_or d 3 0) spoilt;
      format = refl;
      class = refl;
      kind = refl;
      bytes = (omega (arith, format), omega (arith, class), omega (arith, kind));
    })

-- a body's label is of bytes, where its values are allowed
label-bytes : (b : Body) → allowed b ≡ true → Bytes (label_of b)
unfolding allowed format_allowed class_allowed type_allowed
label-bytes Body.empty e = (omega arith, omega arith, omega arith)
label-bytes (Body.session major minor user database) e = (omega arith, omega arith, omega arith)
label-bytes (Body.text t) e = (omega arith, omega arith, omega arith)
label-bytes (Body.statement format t) e = (grind (arith, nat_tests), omega arith, omega arith)
label-bytes (Body.coded code t) e = (omega arith, omega arith, omega arith)
label-bytes (Body.options pairs) e = (omega arith, omega arith, omega arith)
label-bytes (Body.item class kind url part) e = (omega arith, grind (arith, nat_tests), grind (arith, nat_tests))

-- the label of the assembly behind a message is of bytes too
pub joined_bytes : (a : Assembly) (room : ℕ) (m : Message) → Bytes a.label → Bytes (joined a room m).assembly.label
unfolding joined joined_as fitted
joined_bytes a room m h =
    (grind (arith, nat_tests, label-bytes m.body), grind (arith, nat_tests, label-bytes m.body), grind (arith, nat_tests, label-bytes m.body))

-- numbers mean one thing
pub gathering_is : {n : ℕ} {o : Open} → Gathering n o → o ≡ open_of n
gathering_is g = grind arith

flag_is : {n : ℕ} {b : Bool} → Flag n b → b ≡ eqb n 1
flag_is f = grind arith

pub one_assembly : (d : List ℕ) (a b : Assembly) → Means d a → Means d b → a ≡ b
one_assembly d a b m n = is a m ∙ sym (is b n)
  where
    is : (x : Assembly) → Means d x → x ≡ assembly_in d
    is x y = λ i. record {
      what = gathering_is y.what i;
      begun = flag_is y.begun i;
      held = sym y.held i;
      overflowed = flag_is y.spoilt i;
      label = record { format = sym y.format i; class = sym y.class i; kind = sym y.kind i };
    }

-- the reply by what is told to be finished
reply_told : List ℕ → Open → Reply
reply_told t Nothing = Reply.taken
reply_told t Statement = Reply.whole (t at TOLD_FORMAT ∷ []) (t at TOLD_LENGTH)
reply_told t Item = Reply.whole [] (t at TOLD_LENGTH)
reply_told t TypedItem = Reply.whole (t at TOLD_CLASS ∷ t at TOLD_TYPE ∷ []) (t at TOLD_LENGTH)

pub one_reply : (t : List ℕ) (x y : Reply) → TellsReply t x → TellsReply t y → x ≡ y
unfolding reply_told
one_reply t x y p q = is x p ∙ sym (is y q)
  where
    is : (z : Reply) → TellsReply t z → z ≡ reply_told t (open_of (t at TOLD_WHAT))
    is z (TellsReply.part g o) = ap (reply_told t) (gathering_is g)
    is z (TellsReply.statement g o) = ap (reply_told t) (gathering_is g)
    is z (TellsReply.item g o) = ap (reply_told t) (gathering_is g)
    is z (TellsReply.typed_item g) = ap (reply_told t) (gathering_is g)
