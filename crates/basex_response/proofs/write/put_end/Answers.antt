use Rattle.std.specs.Prelude.{Ok}
use mathlib.Core.Path.{◌≡◌, refl, sym, ap, ◌∙◌}
use mathlib.Core.Bool.{Bool}
use mathlib.Core.List.{List, ◌++◌}
use Prim.Native.Nat.{ℕ, ◌+◌, ◌≤◌}
use native.Mathlib.Omega.{arith}
use lib.ListN.{length, length-append}
use Rattle.wire.specs.Call.{in_room, put_at}
use Rattle.wire.proofs.Splices.{both, put_at_not}
use Rattle.wire.proofs.Call.{refused-short, counted-there}
use Rattle.basex_string.proofs.Handed.{handed}
use Rattle.basex.specs.declared.Reply.{Reply}
use Rattle.basex.specs.Kinds.{ahead, behind, listed}
use Rattle.basex_response.specs.inner.Spelling.{ahead_parts, last_parts, end_parts}
use Rattle.basex_response.proofs.write.put_end.Goals as goal

-- the end in the two parts that are put, and that they fit
module _ (reply : Reply) (first second : List ℕ) (status : ℕ) (error : List ℕ) {n : ℕ} {list : Bool} {m : ℕ} (p : n ≡ ahead reply) (q : list ≡ listed reply)
    (r : m ≡ behind reply status) where
  same : ahead_parts n first second ++ last_parts list status m error ≡ end_parts reply first second status error
  same = rw (p, q, r) refl

  fits : (at : ℕ) {room k : ℕ} → in_room room at (length (end_parts reply first second status error)) ≡ Ok k
      → at + length (ahead_parts n first second ++ last_parts list status m error) ≤ room
  fits at {room} {k} e =
      let f = (counted-there room at (length (end_parts reply first second status error)) k e).1 in
      let s = ap length same in
      omega arith

pub put_ahead-next-requires : goal.put_ahead-next-requires
put_ahead-next-requires c =
    let a = c.args in
    let f = fits a.reply a.first.now a.second.now a.status a.error.now c.strings_ahead-ahead.ensures c.is_listed-list.ensures c.strings_behind-behind.ensures a.at
    (sym c.end_room.ensures ∙ c.in_ok-n.was) in
    omega (
      arith,
      length-append (ahead_parts c.strings_ahead-ahead.result a.first.now a.second.now)
          (last_parts c.is_listed-list.result a.status c.strings_behind-behind.result a.error.now),
    )

pub put_last-requires : goal.put_last-requires
put_last-requires c =
    let a = c.args in
    let f = fits a.reply a.first.now a.second.now a.status a.error.now c.strings_ahead-ahead.ensures c.is_listed-list.ensures c.strings_behind-behind.ensures a.at
    (sym c.end_room.ensures ∙ c.in_ok-n.was) in
    omega (
      arith,
      length-append (ahead_parts c.strings_ahead-ahead.result a.first.now a.second.now)
          (last_parts c.is_listed-list.result a.status c.strings_behind-behind.result a.error.now),
    )

pub returns-in_err-n : goal.returns-in_err-n
returns-in_err-n c =
    let a = c.args in
    let p = end_parts a.reply a.first.now a.second.now a.status a.error.now in
    record {
      answers = handed _ c.from_residual.ensures.1 ∙ sym c.in_err-n.was ∙ c.end_room.ensures;
      leaves = sym (put_at_not a.out.now a.at p (refused-short (length a.out.now) a.at (length p) _ (sym c.end_room.ensures ∙ c.in_err-n.was)).1);
    }

pub returns : goal.returns
returns c =
    let a = c.args in
    record {
      answers = sym c.in_ok-n.was ∙ c.end_room.ensures;
      leaves = both a.out.now a.at (ahead_parts c.strings_ahead-ahead.result a.first.now a.second.now)
          (last_parts c.is_listed-list.result a.status c.strings_behind-behind.result a.error.now) _
          (fits a.reply a.first.now a.second.now a.status a.error.now c.strings_ahead-ahead.ensures c.is_listed-list.ensures c.strings_behind-behind.ensures a.at
          (sym c.end_room.ensures ∙ c.in_ok-n.was))
          c.put_ahead-next.ensures.leaves c.put_last.ensures c.put_ahead-next.ensures.answers
          ∙ ap (put_at a.out.now a.at) (same a.reply a.first.now a.second.now a.status a.error.now c.strings_ahead-ahead.ensures c.is_listed-list.ensures
          c.strings_behind-behind.ensures);
    }
