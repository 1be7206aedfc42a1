-- The two runs over a transcript: how many bytes are left to print, and what is ahead of the output.
use Rattle.std.specs.Prelude.{Ok, Err, Result}
use mathlib.Core.Bool.{Bool}
use mathlib.Core.List.{List, ◌++◌}
use mathlib.Core.Path.{◌≡◌, refl, sym, ap, subst, ◌∙◌}
use Prim.Native.Nat.{ℕ, ◌+◌, ◌≤◌}
use native.Mathlib.Omega.{arith}
use lib.ListN.{length, take, drop, length-append}
use Rattle.wire.specs.Bytes.{splice}
use Rattle.wire.specs.Call.{in_room, put_at}
use Rattle.wire.specs.declared.Place.{Place}
use Rattle.wire.specs.declared.Refusal.{Refusal}
use Rattle.wire.proofs.Call.{room-short, refused-short, counted-there}
use Rattle.wire.proofs.Splices.{Ahead, start, step, last, put_at-fits}
use Rattle.sedna.specs.declared.Side.{Side}
use Rattle.session.specs.declared.Session.{Session}
use Rattle.session.specs.Step.{fresh_session}
use Rattle.records_printed.specs.declared.Answered.{Answered}
use Rattle.records_printed.specs.declared.CountedLine.{CountedLine}
use Rattle.records_printed.specs.declared.CountedLine.TheVariants as line
use Rattle.records_printed.specs.declared.Widths.{Widths}
use Rattle.records_printed.specs.Answer.{answered}
use Rattle.records_printed.specs.Line.{line_in}
use Rattle.records_printed.specs.Output.{record_line, PutsLine}
use Rattle.records_printed.specs.inner.Line.{width_of, Measures}
use Rattle.records_printed.proofs.Rooms.{line-count, line-there}
use Rattle.records.specs.Record.{Record, record_of, records}
use Rattle.records_printed.specs.Transcript.{last_line, printed_of, printed}
use Rattle.records.proofs.Fronts.{Found}
use Rattle.records_printed.proofs.Prints.{prints-sound}

-- what is still to print: from record number n on, which stands at `at`
abbrev pub to_print : List ℕ → Session → ℕ → ℕ → List ℕ
to_print s u n at = printed_of n u (records (drop at s))

-- the record at a place that was found
abbrev pub record_at : List ℕ → Side → Place → Record
record_at s side p = record_of side (take p.len (drop p.start s))

-- a record that was found, cut out, answered and measured
module _ (n : ℕ) (u : Session) {s payload : List ℕ} {at : ℕ} {side : Side} {p : Place} {a : Answered} (f : Found s at side p)
    (q : payload ≡ take p.len (drop p.start s)) (e : a ≡ answered u (record_of side payload)) where
  pub line-answered : a.session ≡ (answered u (record_at s side p)).session
  line-answered = ap (λ (x : Answered). x.session) e ∙ ap (λ (t : List ℕ). (answered u (record_of side t)).session) q

  pub line_measured : {w : Widths} → Measures n payload a.number w → width_of w ≡ length (line_in n u (record_at s side p))
  line_measured {w} m = line-count n u (record_of side payload) a e w m ∙ ap (λ (t : List ℕ). length (line_in n u (record_of side t))) q

pub print_all : (s : List ℕ) → printed s ≡ to_print s fresh_session 1 0
unfolding printed
print_all s = refl

pub print_found : (s : List ℕ) (u : Session) (n at : ℕ) {side : Side} {p : Place} → Found s at side p
    → to_print s u n at ≡ line_in n u (record_at s side p) ++ to_print s (answered u (record_at s side p)).session (n + 1) (p.start + p.len)
print_found s u n at {side} {p} f = prints-sound n u (drop at s) (record_at s side p) (drop (p.start + p.len) s) f.stands

-- every record has six bytes or more, so their number is no larger than the place
pub record Stands (s : List ℕ) (n at : ℕ) : Type 0 where
  pub counted : n ≤ at + 1
  pub inside : at ≤ length s

pub stands-next : (s : List ℕ) (n at : ℕ) {side : Side} {p : Place} → Stands s n at → Found s at side p → Stands s (n + 1) (p.start + p.len)
stands-next s n at w f = record { counted = omega (arith, w.counted, f.start); inside = f.within }

-- the first run, where `to` bytes were counted: as many more are to come
pub record Sized (s : List ℕ) (u : Session) (n at to : ℕ) : Type 0 where
  pub stands : Stands s n at
  pub size : length (printed s) ≡ to + length (to_print s u n at)

pub sized_start : (s : List ℕ) → Sized s fresh_session 1 0 0
sized_start s = record {
  stands = record { counted = omega arith; inside = omega arith };
  size = ap length (print_all s) ∙ omega arith;
}

module _ (s : List ℕ) (room : ℕ) (u : Session) (n at to : ℕ) (w : Sized s u n at to) where
  -- a line of so many bytes, and those behind it
  line_first : {side : Side} {p : Place} (count : ℕ) → Found s at side p → count ≡ length (line_in n u (record_at s side p))
      → length (printed s) ≡ to + count + length (to_print s (answered u (record_at s side p)).session (n + 1) (p.start + p.len))
  line_first {side} {p} count f e =
      let a = ap length (print_found s u n at f) in
      let b = length-append (line_in n u (record_at s side p)) (to_print s (answered u (record_at s side p)).session (n + 1) (p.start + p.len)) in
      omega (arith, w.size)

  pub sized_next : {side : Side} {p : Place} (v : Session) (count end : ℕ) → Found s at side p → v ≡ (answered u (record_at s side p)).session
      → count ≡ length (line_in n u (record_at s side p)) → in_room room 0 (to + count) ≡ Ok end → Sized s v (n + 1) (p.start + p.len) end
  sized_next v count end f q e h = rw (q, (counted-there room 0 _ end h).0) (record {
    stands = stands-next s n at w.stands f;
    size = line_first count f e;
  })

  -- a line that finds no room
  pub sized_not : {side : Side} {p : Place} (count : ℕ) (x : Refusal) → Found s at side p → count ≡ length (line_in n u (record_at s side p))
      → in_room room 0 (to + count) ≡ Err x → Err x ≡ in_room room 0 (length (printed s))
  sized_not count x f e h =
      let t = refused-short room 0 _ x h in
      ap Err t.0 ∙ sym (room-short room 0 _ (omega (arith, t.1, line_first count f e)))

  -- the last line
  pub sized_last : (b : Bool) (more : ℕ) → to_print s u n at ≡ last_line b u → more ≡ length (last_line b u) → in_room room 0 (to + more) ≡ in_room room 0 (length (printed s))
  sized_last b more q e =
      let l = ap length q in
      let k : to + more ≡ length (printed s) = omega (arith, w.size) in
      ap (in_room room 0) k

-- a record's line that was put where there is room
pub record Taken (out : List ℕ) (to n : ℕ) (u : Session) (r : Record) (x : Result CountedLine Refusal) (e : List ℕ) : Type 0 where
  pub there : to + length (line_in n u r) ≤ length out
  pub answers : x ≡ Ok (line.Record (length (line_in n u r)) (answered u r).session)
  pub leaves : e ≡ put_at out to (line_in n u r)

pub line_known : {x : Result CountedLine Refusal} {count k : ℕ} {v u : Session} → x ≡ Ok (line.Record k u) → x ≡ Ok (line.Record count v) → (count ≡ k) × (v ≡ u)
line_known e f = (cc, cc)

-- the second run: what is still to print is ahead of the output
pub record Printing (s d out : List ℕ) (u : Session) (n at to : ℕ) : Type 0 where
  pub stands : Stands s n at
  pub same : length out ≡ length d
  pub ahead : Ahead (splice d 0 (printed s)) out to (to_print s u n at)

pub printing_start : (s d : List ℕ) → length (printed s) ≤ length d → Printing s d d fresh_session 1 0 0
printing_start s d h = record {
  stands = record { counted = omega arith; inside = omega arith };
  same = refl;
  ahead = subst (Ahead (splice d 0 (printed s)) d 0) (print_all s) (start d 0 (printed s) (omega arith));
}

module _ (s d out : List ℕ) (u : Session) (n at to : ℕ) (w : Printing s d out u n at to) where
  -- there is room for the next line
  pub printing_room : {side : Side} {p : Place} → Found s at side p → to + length (line_in n u (record_at s side p)) ≤ length out
  printing_room {side} {p} f =
      let a = ap length (print_found s u n at f) in
      let b = length-append (line_in n u (record_at s side p)) (to_print s (answered u (record_at s side p)).session (n + 1) (p.start + p.len)) in
      omega (arith, w.ahead.fits)

  -- so it was put there
  pub line_taken : {payload e : List ℕ} {side : Side} {p : Place} {x : Result CountedLine Refusal} → Found s at side p → payload ≡ take p.len (drop p.start s)
      → PutsLine (record_line (answered u (record_of side payload)).session) out to (line_in n u (record_of side payload)) x e → Taken out to n u (record_at s side p) x e
  line_taken f q w =
      let h = printing_room f in
      rw (← q) (record { there = rw q h; answers = w.answers ∙ line-there _ _ _ _ _ (rw q h); leaves = w.leaves })

  pub printing_next : {side : Side} {p : Place} (v : Session) (count : ℕ) (e : List ℕ) → Found s at side p → v ≡ (answered u (record_at s side p)).session
      → count ≡ length (line_in n u (record_at s side p)) → length e ≡ length out → e ≡ put_at out to (line_in n u (record_at s side p))
      → Printing s d e v (n + 1) (p.start + p.len) (to + count)
  printing_next {side} {p} v count e f q k l z = rw q (record {
    stands = stands-next s n at w.stands f;
    same = l ∙ w.same;
    ahead = step (line_in n u (record_at s side p)) (to + count) (subst (Ahead (splice d 0 (printed s)) out to) (print_found s u n at f) w.ahead) z (omega arith);
  })

  pub printing_last : (b : Bool) (e : List ℕ) → to_print s u n at ≡ last_line b u → length (printed s) ≤ length d → e ≡ put_at out to (last_line b u) → e ≡ put_at d 0 (printed s)
  printing_last b e q h p = last (subst (Ahead (splice d 0 (printed s)) out to) q w.ahead) p ∙ sym (put_at-fits d 0 (printed s) (omega arith))
