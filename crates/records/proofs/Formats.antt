-- `records` reads exactly what the format says.
use Rattle.std.specs.Prelude.{Option, Some, None}
use Rattle.records.specs.Record.{head_there}
use mathlib.Core.Bool.{Bool, true, false}
use mathlib.Core.List.{List, [], ◌∷◌, ◌++◌, append_assoc, flat_map}
use mathlib.Core.Path.{◌≡◌, refl, sym, ap, subst, ◌∙◌}
use Prim.Native.Nat.{ℕ, zero, suc, ◌+◌, ◌*◌, ◌/◌, ◌%◌, ◌≤◌, ◌<◌}
use native.Mathlib.Omega.{arith}
use lib.Dec.{ltb, eqb}
use lib.ListN.{length, take, drop, length-append, take-append-drop}
use lib.Seq.{length-take-le, take-append_seam, drop-append_seam, get_or-append-add}
use borrow.Author.Tests.{le-ltb, eqb-true, ltb-false}
use Rattle.wire.specs.Bytes.{IsBytes, if}
use Rattle.wire.specs.Every.{Every}
use Rattle.sedna.specs.{declared.Side.Side, declared.Side.TheVariants.Client, declared.Side.TheVariants.Server, Kinds.side_number}
use Rattle.wire.proofs.Branches.{apart, either}
use Rattle.records.specs.declared.Head.{Head}
use Rattle.records.specs.Format.{little_bytes, record_bytes, transcript, Sound, NoRecord, Stops, Format}
use Rattle.records.specs.Record.{little, sent, head_of, Record, record_of, Front, behind, front, Records, from_front, records_up_to, records}
use Rattle.records.proofs.Runs.{shorter, records-front}

-- six bytes that spell a length and a kind
pub head_six : (a b c d e f : ℕ) (s : List ℕ)
    → head_of (a ∷ b ∷ c ∷ d ∷ e ∷ f ∷ s) ≡ if (ltb 10248 (little (a ∷ b ∷ c ∷ d ∷ []))) None (sent (little (e ∷ f ∷ [])) (little (a ∷ b ∷ c ∷ d ∷ [])))
unfolding head_of
head_six a b c d e f s = rw (le-ltb (length (a ∷ b ∷ c ∷ d ∷ e ∷ f ∷ s)) 6 (omega arith))

kind-sent : (side : Side) (n : ℕ) → sent (little (little_bytes 2 (side_number side))) n ≡ head_there side n
kind-sent Client n = refl
kind-sent Server n = refl

little_back : (n : ℕ) → n ≤ 10248 → little (little_bytes 4 n) ≡ n
little_back n h = omega arith

-- a record that was written out stands there, whatever follows
front-written : (r : Record) (rest : List ℕ) → Sound r → front (record_bytes r ++ rest) ≡ Front.sound r rest
unfolding front
front-written r rest h =
    let p = r.payload in
    let n = length p in
    let z = little_back n h in
    rw (
      head_six (n % 256) (n / 256 % 256) (n / 256 / 256 % 256) (n / 256 / 256 / 256 % 256) (side_number r.side % 256) (side_number r.side / 256 % 256) (p ++ rest),
      z,
      le-ltb 10248 n h,
      kind-sent r.side n,
      le-ltb (length (p ++ rest)) n (omega (arith, length-append p rest)),
    )
    (rw (take-append_seam p rest, drop-append_seam p rest))

written : (rs : List Record) → Every Sound rs → records (transcript rs) ≡ record { sound = rs; damaged = false }
unfolding records_up_to flat_map
written [] h = refl
written (r ∷ rs) h =
    records-front (transcript (r ∷ rs))
    ∙ ap (from_front records) (front-written r (transcript rs) h.0)
    ∙ ap (λ (m : Records). record { sound = r ∷ m.sound; damaged = m.damaged }) (written rs h.1)

-- the record that stands in front, written out
abbrev Written : List ℕ → Record → List ℕ → Type 0
Written s r rest = (s ≡ record_bytes r ++ rest) × Sound r

bytes-behind : (u v : List ℕ) → IsBytes (u ++ v) → IsBytes v
bytes-behind u v h i = rw (get_or-append-add u v i 0) at (h (length u + i))

-- bytes are those of the number that they spell, whatever follows
little-bytes : (s t : List ℕ) → IsBytes (s ++ t) → little_bytes (length s) (little s) ≡ s
little-bytes [] t h = refl
little-bytes (x ∷ s) t h =
    let b : x < 256 = h 0 in
    let p : (x + 256 * little s) % 256 ≡ x = omega arith in
    let q : (x + 256 * little s) / 256 ≡ little s = omega arith in
    rw (p, q) (ap (λ (l : List ℕ). x ∷ l) (little-bytes s t (λ i. h (suc i))))

module _ (a b c d e f : ℕ) (s : List ℕ) (h : IsBytes (a ∷ b ∷ c ∷ d ∷ e ∷ f ∷ s)) (r : Record) (rest : List ℕ) where
  abbrev len : ℕ
  len = little (a ∷ b ∷ c ∷ d ∷ [])

  abbrev code : ℕ
  code = little (e ∷ f ∷ [])

  -- the record that was read, written out, is what was read
  abbrev Back : Type 0
  Back = Written (a ∷ b ∷ c ∷ d ∷ e ∷ f ∷ s) r rest

  four : little_bytes 4 len ≡ a ∷ b ∷ c ∷ d ∷ []
  four = little-bytes (a ∷ b ∷ c ∷ d ∷ []) (e ∷ f ∷ s) h

  two : little_bytes 2 code ≡ e ∷ f ∷ []
  two = little-bytes (e ∷ f ∷ []) s (λ i. h (suc (suc (suc (suc i)))))

  -- a payload of n bytes
  payload_back : (side : Side) (n : ℕ) → code ≡ side_number side → len ≡ n → n ≤ 10248 → behind s (head_there side n) ≡ Front.sound r rest → Back
  payload_back side n k l m p =
      either (ltb (length s) n) _ _ p (λ cut q. apart (cc)) λ whole q.
      let x : record_of side (take n s) ≡ r = cc in
      let y : drop n s ≡ rest = cc in
      let z = length-take-le n s (ltb-false (length s) n whole) in
      let all : record_bytes (record_of side (take n s)) ++ drop n s ≡ a ∷ b ∷ c ∷ d ∷ e ∷ f ∷ s =
      ap (λ (i : ℕ). little_bytes 4 i ++ (little_bytes 2 (side_number side) ++ take n s) ++ drop n s) (z ∙ sym l)
      ∙ ap (λ (l : List ℕ). l ++ (little_bytes 2 (side_number side) ++ take n s) ++ drop n s) four
      ∙ ap (λ (l : List ℕ). a ∷ b ∷ c ∷ d ∷ (l ++ take n s ++ drop n s)) (ap (little_bytes 2) (sym k) ∙ two)
      ∙ ap (λ (l : List ℕ). a ∷ b ∷ c ∷ d ∷ e ∷ f ∷ l) (take-append-drop n s) in
      rw (← x, ← y) (sym all, omega arith)

  kind_back : (n : ℕ) → len ≡ n → n ≤ 10248 → behind s (sent code n) ≡ Front.sound r rest → Back
  kind_back n l m p = client (eqb code 1) refl p
    where
      server : (t : Bool) → eqb code 2 ≡ t → behind s (if t (head_there Server n) None) ≡ Front.sound r rest → Back
      server true k p = payload_back Server n (eqb-true _ _ k) l m p
      server false k p = apart (cc)

      client : (t : Bool) → eqb code 1 ≡ t
          → behind s (if t (head_there Client n) (if (eqb code 2) (head_there Server n) None)) ≡ Front.sound r rest → Back
      client true k p = payload_back Client n (eqb-true _ _ k) l m p
      client false k p = server (eqb code 2) refl p

  six_back : front (a ∷ b ∷ c ∷ d ∷ e ∷ f ∷ s) ≡ Front.sound r rest → Back
  unfolding front
  six_back p = by (ltb 10248 len) refl (ap (behind s) (sym (head_six a b c d e f s)) ∙ p)
    where
      by : (t : Bool) → ltb 10248 len ≡ t → behind s (if t None (sent code len)) ≡ Front.sound r rest → Back
      by true q p = apart (cc)
      by false q p = kind_back len refl (ltb-false _ _ q) p

front_back : (s : List ℕ) → IsBytes s → (r : Record) (rest : List ℕ) → front s ≡ Front.sound r rest → Written s r rest
unfolding front head_of
front_back [] h r rest p = apart (cc)
front_back (a ∷ []) h r rest p = apart (cc)
front_back (a ∷ b ∷ []) h r rest p = apart (cc)
front_back (a ∷ b ∷ c ∷ []) h r rest p = apart (cc)
front_back (a ∷ b ∷ c ∷ d ∷ []) h r rest p = apart (cc)
front_back (a ∷ b ∷ c ∷ d ∷ e ∷ []) h r rest p = apart (cc)
front_back (a ∷ b ∷ c ∷ d ∷ e ∷ f ∷ s) h r rest p = six_back a b c d e f s h r rest p

-- where no record can be read, none was written
never_written : (s : List ℕ) → front s ≡ Front.damaged → (0 < length s) × NoRecord s
unfolding front
never_written [] e = apart (cc)
never_written (b ∷ s) e = (omega arith, λ r more h p. let w = front-written r more h in let q = ap front p in apart (cc))

end_empty : (s : List ℕ) → front s ≡ Front.end → s ≡ []
unfolding front
end_empty [] e = refl
end_empty (b ∷ s) e = by (head_of (b ∷ s)) e
  where
    by : (h : Option Head) → behind (drop 6 (b ∷ s)) h ≡ Front.end → b ∷ s ≡ []
    by None e = apart (cc)
    by (Some m) e = either (ltb (length (drop 6 (b ∷ s))) m.len) _ _ e (λ cut p. apart (cc)) (λ whole p. apart (cc))

stops-up_to : (most : ℕ) (s : List ℕ) → length s ≤ most → IsBytes s → Stops s (records_up_to most s)
unfolding records_up_to flat_map
stops-up_to zero [] l h = record { sound = tt; rest = []; split = refl; whole = λ e. refl; cut = λ e. apart (cc) }
stops-up_to zero (b ∷ s) l h = absurd (omega arith)
stops-up_to (suc most) s l h = by (front s) refl (stops-up_to most)
  where
    by : (f : Front) → front s ≡ f → ((rest : List ℕ) → length rest ≤ most → IsBytes rest → Stops rest (records_up_to most rest)) → Stops s (from_front (records_up_to most) f)
    by Front.end e more = record { sound = tt; rest = s; split = refl; whole = λ q. end_empty s e; cut = λ q. apart (cc) }
    by Front.damaged e more = record { sound = tt; rest = s; split = refl; whole = λ q. apart (cc); cut = λ q. never_written s e }
    by (Front.sound r rest) e more =
        let w = front_back s h r rest e in
        let k = shorter s r rest e in
        let b : IsBytes rest = bytes-behind (record_bytes r) rest (subst IsBytes w.0 h) in
        let t = more rest (omega arith) b in
        record {
          sound = (w.1, t.sound);
          rest = t.rest;
          split = w.0 ∙ ap (λ (l : List ℕ). record_bytes r ++ l) t.split ∙ sym (append_assoc (record_bytes r) (transcript (records_up_to most rest).sound) t.rest);
          whole = t.whole;
          cut = t.cut;
        }

-- what is left behind the records is their end or the damage
rest-ends : (d : Bool) (rest : List ℕ) → IsBytes rest → (d ≡ false → rest ≡ []) → (d ≡ true → (0 < length rest) × NoRecord rest) → record { sound = []; damaged = d } ≡ records rest
unfolding records_up_to
rest-ends false rest h whole cut = rw (whole refl)
rest-ends true rest h whole cut = sym (records-front rest ∙ ap (from_front records) (by (front rest) refl))
  where
    by : (f : Front) → front rest ≡ f → f ≡ Front.damaged
    by Front.end e = let z = ap length (end_empty rest e) in absurd (omega (arith, (cut refl).0))
    by Front.damaged e = refl
    by (Front.sound r more) e = let w = front_back rest h r more e in absurd ((cut refl).1 r more w.1 w.0)

read_only : (rs : List Record) (d : Bool) (rest : List ℕ) → Every Sound rs → record { sound = []; damaged = d } ≡ records rest → record { sound = rs; damaged = d } ≡ records (transcript rs ++ rest)
unfolding flat_map
read_only [] d rest h e = e
read_only (r ∷ rs) d rest h e =
    sym (records-front (transcript (r ∷ rs) ++ rest)
    ∙ ap (λ (l : List ℕ). from_front records (front l)) (append_assoc (record_bytes r) (transcript rs) rest)
    ∙ ap (from_front records) (front-written r (transcript rs ++ rest) h.0)
    ∙ ap (λ (m : Records). record { sound = r ∷ m.sound; damaged = m.damaged }) (sym (read_only rs d rest h.1 e)))

stopped : (s : List ℕ) → IsBytes s → (rs : Records) → Stops s rs → rs ≡ records s
stopped s h rs t =
    let b : IsBytes t.rest = bytes-behind (transcript rs.sound) t.rest (subst IsBytes t.split h) in
    rw t.split (read_only rs.sound rs.damaged t.rest t.sound (rest-ends rs.damaged t.rest b t.whole t.cut))

pub format : Format
format = record {
  read_written = written;
  stops = λ s h. stops-up_to (length s) s (omega arith) h;
  stops_only = stopped;
}
