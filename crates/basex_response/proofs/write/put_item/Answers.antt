use Rattle.std.specs.Prelude.{Ok}
use mathlib.Core.Path.{◌≡◌, refl, sym, ap, ◌∙◌}
use mathlib.Core.Bool.{Bool, true}
use mathlib.Core.List.{List, [], ◌∷◌, ◌++◌}
use Prim.Native.Nat.{ℕ, ◌+◌, ◌≤◌}
use native.Mathlib.Omega.{arith}
use lib.ListN.{length}
use Rattle.wire.specs.Bytes.{splice}
use Rattle.wire.specs.Call.{in_room, put_at, Gives}
use Rattle.wire.proofs.Splices.{Ahead, start, step, last, put_at-fits, put_at_not}
use Rattle.wire.proofs.Call.{refused-short, counted-there}
use Rattle.basex_string.proofs.Handed.{handed}
use Rattle.basex_string.specs.Strings.{string}
use Rattle.basex.specs.Texts.{string_if}
use Rattle.basex_response.specs.inner.Spelling.{item_parts}
use Rattle.basex.proofs.Puts.{first_fits, put-fits}
use Rattle.basex_response.proofs.Writes.{item-parts-size}
use Rattle.basex_response.proofs.write.put_item.Goals as goal

module _ (uris : Bool) (id : ℕ) (uri text : List ℕ) where
  -- how many bytes the item has, and that they fit
  sizes : {u t : ℕ} → u ≡ length (string_if uris uri) → t ≡ length (string text) → length (item_parts uris id uri text) ≡ 1 + u + t + 0
  sizes p q = omega (arith, item-parts-size uris id uri text)

  fits : (at : ℕ) {u t room n : ℕ} → u ≡ length (string_if uris uri) → t ≡ length (string text) → in_room room at (1 + u + t + 0) ≡ Ok n → at + length (item_parts uris id uri text) ≤ room
  fits at {u} {t} {room} {n} p q e =
      let k = sizes p q in
      let f = (counted-there room at (1 + u + t + 0) n e).1 in
      omega arith

  -- the id is put, and then the URI
  module _ (out : List ℕ) (at : ℕ) (f : at + length (item_parts uris id uri text) ≤ length out) {d : List ℕ} (i : d ≡ put_at out at (id ∷ [])) where
    id-put : Ahead (splice out at (item_parts uris id uri text)) d (at + 1) (string_if uris uri ++ string text)
    id-put = step (id ∷ []) (at + 1) (start out at (item_parts uris id uri text) f) i refl

    uri-put : {k : ℕ} {e : List ℕ} → Gives (at + 1 + length (string_if uris uri)) (put_at d (at + 1) (string_if uris uri)) k e
        → Ahead (splice out at (item_parts uris id uri text)) e k (string text)
    uri-put {k} g = step (string_if uris uri) k id-put g.leaves g.answers

pub overflow_add-at : goal.overflow_add-at
overflow_add-at c =
    let a = c.args in
    let f = fits a.uris a.id a.uri.now a.text.now a.at c.size_if-first.ensures c.size_if-second.ensures (sym c.parts_in_room.ensures ∙ c.in_ok-n.was) in
    omega arith

pub returns-in_err-n : goal.returns-in_err-n
returns-in_err-n c =
    let a = c.args in
    let k = sizes a.uris a.id a.uri.now a.text.now c.size_if-first.ensures c.size_if-second.ensures in
    let n = (refused-short (length a.out.now) a.at (1 + c.size_if-first.result + c.size_if-second.result + 0) _
    (sym c.parts_in_room.ensures ∙ c.in_err-n.was)).1 in
    record {
      answers = handed _ c.from_residual.ensures.1 ∙ sym c.in_err-n.was ∙ c.parts_in_room.ensures ∙ ap (in_room (length a.out.now) a.at) (sym k);
      leaves = sym (put_at_not a.out.now a.at (item_parts a.uris a.id a.uri.now a.text.now) (omega arith));
    }

pub returns : goal.returns
returns c =
    let a = c.args in
    let k = sizes a.uris a.id a.uri.now a.text.now c.size_if-first.ensures c.size_if-second.ensures in
    let f = fits a.uris a.id a.uri.now a.text.now a.at c.size_if-first.ensures c.size_if-second.ensures (sym c.parts_in_room.ensures ∙ c.in_ok-n.was) in
    let i = id-put a.uris a.id a.uri.now a.text.now a.out.now a.at f c.put_byte.ensures in
    let p = put-fits _ _ _ c.put_string_if-next.ensures.answers c.put_string_if-next.ensures.leaves (first_fits (string_if a.uris a.uri.now) (string a.text.now) i) in
    let u = uri-put a.uris a.id a.uri.now a.text.now a.out.now a.at f c.put_byte.ensures p in
    let q = put-fits _ _ (string_if true a.text.now) c.put_string_if.ensures.answers c.put_string_if.ensures.leaves u.fits in
    record {
      answers = sym c.in_ok-n.was ∙ c.parts_in_room.ensures ∙ ap (in_room (length a.out.now) a.at) (sym k);
      leaves = last u q.leaves ∙ sym (put_at-fits a.out.now a.at (item_parts a.uris a.id a.uri.now a.text.now) f);
    }
