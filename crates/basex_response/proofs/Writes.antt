-- The writer's items, and what a call that writes answers and leaves.
use Rattle.std.specs.Prelude.{Some, Result, Err}
use mathlib.Core.Path.{◌≡◌, refl, sym, ap, ◌∙◌}
use mathlib.Core.Bool.{Bool, true, false}
use mathlib.Core.List.{List, [], ◌∷◌, ◌++◌, flatten, append-nil, flat_map}
use Prim.Native.Nat.{ℕ, ◌+◌}
use native.Mathlib.Omega.{arith}
use lib.Dec.{eqb}
use lib.ListN.{length, length-append}
use Rattle.wire.specs.Bytes.{if}
use Rattle.wire.specs.Call.{in_room, output_after, put_at, Gives, Writes}
use Rattle.wire.specs.declared.Refusal.{Refusal}
use Rattle.wire.specs.declared.Refusal.TheVariants.{ValueNotAllowed}
use Rattle.wire.proofs.Call.{put-after, refused-leaves}
use Rattle.basex_string.specs.Strings.{string}
use Rattle.basex.specs.declared.Reply.{Reply}
use Rattle.basex.specs.Kinds.{find_of, listed, is_full, id_allowed, has_uri, item_strings}
use Rattle.basex.specs.Response.{item_bytes}
use Rattle.basex.specs.Texts.{place_if, string_if, strings, unused}
use Rattle.basex_response.specs.Writing.{item_of, full_of, item_written}
use Rattle.basex_response.specs.inner.Spelling.{item_parts}

-- an item
pub item-parts : (full : Bool) (id : ℕ) (uri text : List ℕ) → item_parts (has_uri full id) id uri text ≡ item_bytes (item_of full id uri text)
unfolding item_bytes flat_map
item-parts full id uri text = by (has_uri full id)
  where
    by : (u : Bool) → item_parts u id uri text ≡ id ∷ strings (if u (uri ∷ text ∷ []) (text ∷ []))
    by true = ap (λ (m : List ℕ). id ∷ (string uri ++ m)) (sym (append-nil (string text)))
    by false = ap (λ (m : List ℕ). id ∷ m) (sym (append-nil (string text)))

pub item-parts-size : (u : Bool) (id : ℕ) (uri text : List ℕ) → length (item_parts u id uri text) ≡ 1 + length (string_if u uri) + length (string text) + 0
item-parts-size u id uri text = omega (arith, length-append (string_if u uri) (string text))

pub uri-told : (full : Bool) (id : ℕ) → eqb (item_strings full id) 2 ≡ has_uri full id
uri-told full id = by (has_uri full id)
  where
    by : (u : Bool) → eqb (if u 2 1) 2 ≡ u
    by true = refl
    by false = refl

pub uri-place : (u : Bool) (uri : List ℕ) → if u true (unused 0 (uri ∷ [])) ≡ place_if u uri
unfolding flatten
uri-place true uri = refl
uri-place false uri = ap (λ (m : List ℕ). eqb (length m) 0) (append-nil uri)

-- what a writer answers and leaves, where its bytes are those of a definition
pub put_writes : (out : List ℕ) (at : ℕ) (parts bytes : List ℕ) → parts ≡ bytes → (answer : Result ℕ Refusal) → in_room (length out) at (length parts) ≡ answer → {r : Result ℕ Refusal} {after : List ℕ}
    → Gives (in_room (length out) at (length parts)) (put_at out at parts) r after → Writes answer out at bytes r after
put_writes out at parts bytes p answer e g =
    let q = ap (λ (c : Result ℕ Refusal). output_after c out at parts) e ∙ ap (output_after answer out at) p in
    record { answers = g.answers ∙ e; leaves = g.leaves ∙ put-after out at parts ∙ q }

pub refused_writes : (answer : Result ℕ Refusal) (r : Refusal) (out : List ℕ) (at : ℕ) (bytes : List ℕ) → Err r ≡ answer → Writes answer out at bytes (Err r) out
refused_writes answer r out at bytes e = record { answers = e; leaves = sym (refused-leaves answer r out at bytes (sym e)) }

-- an item that may be written
module _ (room at kind id : ℕ) (n : ℕ) (reply : Reply) (uri text : List ℕ) (k : find_of kind ≡ Some (n, reply)) (u : Bool) (e : u ≡ has_uri (is_full reply) id) where
  pub item-bytes : item_parts u id uri text ≡ item_bytes (item_of (full_of (find_of kind)) id uri text)
  item-bytes = rw k (ap (λ (v : Bool). item_parts v id uri text) e ∙ item-parts (is_full reply) id uri text)

  module _ (l : listed reply ≡ true) (d : id_allowed id ≡ true) where
    pub item-answer : place_if u uri ≡ true → in_room room at (length (item_parts u id uri text)) ≡ item_written room at kind id uri text
    unfolding item_written
    item-answer p =
        let q : if (has_uri (is_full reply) id) true (unused 0 (uri ∷ [])) ≡ true = uri-place (has_uri (is_full reply) id) uri ∙ ap (λ (v : Bool). place_if v uri) (sym e) ∙ p in
        let b : item_parts u id uri text ≡ item_bytes (item_of (is_full reply) id uri text) = ap (λ (v : Bool). item_parts v id uri text) e ∙ item-parts (is_full reply) id uri text in
        rw k (rw (l, d) (rw q (ap (λ (m : List ℕ). in_room room at (length m)) b)))

    pub item-no-place : place_if u uri ≡ false → Err ValueNotAllowed ≡ item_written room at kind id uri text
    unfolding item_written
    item-no-place p =
        let q : if (has_uri (is_full reply) id) true (unused 0 (uri ∷ [])) ≡ false = uri-place (has_uri (is_full reply) id) uri ∙ ap (λ (v : Bool). place_if v uri) (sym e) ∙ p in
        rw k (rw (l, d) (rw q refl))
