-- A published response has one error string with status 01, the last of its strings, and none with 00.
use mathlib.Core.Path.{◌≡◌, refl, sym, ap, ◌∙◌}
use mathlib.Core.List.{List, [], ◌∷◌, append-nil, flatten, flat_map}
use Prim.Native.Nat.{ℕ}
use native.Mathlib.Omega.{arith}
use lib.ListN.{length, get_or}
use Rattle.basex.specs.declared.Reply.{Reply}
use Rattle.basex.specs.declared.Reply.TheVariants.{Command, Create, Query, Results, Full}
use Rattle.basex.specs.Response.{Response, Published, error_of}
use Rattle.wire.specs.declared.Place.{Place}
use Rattle.basex_response.specs.Items.{item_texts}
use Rattle.basex_laws.specs.Exactly.{OneError}

none_of : (ts : List (List ℕ)) → length ts ≡ 0 → ts ≡ []
none_of [] h = refl
none_of (t ∷ ts) h = absurd (omega arith)

one_of : (ts : List (List ℕ)) → length ts ≡ 1 → ts ≡ get_or ts 0 [] ∷ []
one_of [] h = absurd (omega arith)
one_of (t ∷ []) h = refl
one_of (t ∷ u ∷ ts) h = absurd (omega arith)

two-of : (ts : List (List ℕ)) → length ts ≡ 2 → ts ≡ get_or ts 0 [] ∷ get_or ts 1 [] ∷ []
two-of [] h = absurd (omega arith)
two-of (t ∷ []) h = absurd (omega arith)
two-of (t ∷ u ∷ []) h = refl
two-of (t ∷ u ∷ v ∷ ts) h = absurd (omega arith)

-- behind one text
abbrev behind-one : List ℕ → ℕ → Place
behind-one t n = record { start = length t; len = n }

after_one : (t : List ℕ) (n : ℕ) → behind-one t n ≡ record { start = length (flatten (t ∷ [])); len = n }
unfolding flatten
after_one t n = ap (λ (u : List ℕ). behind-one u n) (sym (append-nil t))

pub error_one : (reply : Reply) (r : Response) → Published reply r → r.status ≡ 1 → OneError reply r
unfolding error_of flat_map flatten
error_one Command r p s =
    let t = two-of r.texts p.first in
    let e = none_of r.error p.last in
    record {
      front = get_or r.texts 0 [] ∷ [];
      error = get_or r.texts 1 [];
      one = rw (s, t) refl;
      last = rw (t, p.list, e) refl;
      part = refl;
      place = after_one (get_or r.texts 0 []) (length (get_or r.texts 1 []));
    }
error_one Create r p s =
    let t = one_of r.texts p.first in
    let e = none_of r.error p.last in
    record { front = []; error = get_or r.texts 0 []; one = rw (s, t) refl; last = rw (t, p.list, e) refl; part = refl; place = refl }
error_one Query r p s =
    let t = one_of r.texts p.first in
    let e = one_of r.error (p.last ∙ s) in
    record {
      front = get_or r.texts 0 [] ∷ [];
      error = get_or r.error 0 [];
      one = rw s e;
      last = rw (t, p.list, e) refl;
      part = refl;
      place = after_one (get_or r.texts 0 []) (length (get_or r.error 0 []));
    }
error_one Results r p s =
    let t = none_of r.texts p.first in
    let e = one_of r.error (p.last ∙ s) in
    record { front = item_texts r.items; error = get_or r.error 0 []; one = rw s e; last = rw (t, e) refl; part = refl; place = refl }
error_one Full r p s =
    let t = none_of r.texts p.first in
    let e = one_of r.error (p.last ∙ s) in
    record { front = item_texts r.items; error = get_or r.error 0 []; one = rw s e; last = rw (t, e) refl; part = refl; place = refl }

pub error_none : (reply : Reply) (r : Response) → r.status ≡ 0 → error_of reply r ≡ []
unfolding error_of
error_none reply r s = rw s refl
