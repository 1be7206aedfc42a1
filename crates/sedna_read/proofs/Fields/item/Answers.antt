use Prim.Native.Nat.{ℕ, ◌+◌}
use mathlib.Core.Bool.{Bool, true, false}
use mathlib.Core.List.{List, [], ◌∷◌}
use mathlib.Core.Path.{◌≡◌, refl, ◌∙◌}
use native.Mathlib.Omega.{arith}
use lib.Dec.{leb}
use Rattle.wire.specs.declared.Refusal.TheVariants.{ValueNotAllowed}
use Rattle.wire.specs.Fields.{Field, go_on, required}
use Rattle.sedna.specs.Message.{Url, Body}
use Rattle.sedna_read.specs.Fields.{byte_field}
use Rattle.sedna_read.specs.Reading.{url_field, item_fields}
use Rattle.sedna_read.specs.inner.Cursor.{flagged_url}
use Rattle.sedna_read.proofs.Fields.item.Goals as goal

-- the flag, the URL and what follows it, in one and in two
in-two : (w : List ℕ) (next : Url → Field Body)
    → go_on (byte_field w) (λ flag rest. go_on (required (leb flag 1) ValueNotAllowed rest) (λ _ rest. go_on (url_field flag rest) next)) ≡ go_on (flagged_url w) next
in-two [] next = refl
in-two (flag ∷ w) next = by (leb flag 1)
  where
    by : (b : Bool) → go_on (required b ValueNotAllowed w) (λ _ rest. go_on (url_field flag rest) next) ≡ go_on (go_on (required b ValueNotAllowed w) (λ _. url_field flag)) next
    by true = refl
    by false = refl

pub returns : goal.returns
unfolding item_fields
returns c =
    let class = c.in_ok-class.ensures in
    let kind = c.in_ok-kind.ensures in
    let url = c.in_ok-url.ensures in
    let part = c.in_ok-part.ensures in
    let e : c.byte-2.new.self.at ≡ c.args.self.now.at + 2 = omega (arith, class.1, kind.1) in (
      Body.item c.in_ok-class.class c.in_ok-kind.kind url.0 part.0,
      rw (class.0, ← c.class_allowed.ensures, c.in_ok-required.ensures, kind.0, ← c.type_allowed.ensures, c.in_ok-required-2.ensures) (in-two c.byte-2.new.self.bytes _ ∙ rw (url.1, part.1)),
      rw (url.2, part.2, url.3, e),
    )
