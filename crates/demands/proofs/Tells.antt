-- The ten numbers of a message that was read mean it, and its answer counts its bytes.
use mathlib.Core.List.{List, [], ◌∷◌, ◌++◌}
use mathlib.Core.Option.{some}
use mathlib.Core.Path.{◌≡◌, refl, sym, ap, subst, ◌∙◌}
use Prim.Native.Nat.{ℕ, suc, ◌+◌, ◌-◌, ◌≤◌}
use native.Mathlib.Omega.{arith}
use lib.Dec.{eqb}
use lib.ListN.{length, take, drop, get_elem?, length-append}
use Rattle.std.specs.Prelude.{Option}
use Rattle.std.proofs.lemmas.Bool.Decides.{nat_tests}
use Rattle.wire.specs.Bytes.{IsBytes, if, int}
use Rattle.sedna.specs.declared.Side.{Side}
use Rattle.sedna.specs.Encode.{string, url_bytes, body_bytes, encode}
use Rattle.sedna.specs.Message.{Url, Pair, Body, Message, message}
use Rattle.sedna_read.specs.declared.OptionPlace.{OptionPlace}
use Rattle.sedna_read.specs.declared.Places.{Places}
use Rattle.sedna_read.specs.declared.Places.TheVariants as places
use Rattle.sedna_read.specs.Meaning.{body_in, option_in}
use Rattle.sedna_read.specs.Places.{places_of, option_at}
use Rattle.sedna_read.specs.Reading.{Answer, reading}
use Rattle.sedna_c.specs.Codes.{fields_of, option_fields_after}
use Rattle.sedna_laws.proofs.Exact.{exact, front-split}
use Rattle.sedna_laws.proofs.Meaning.{meaning-located}
use Rattle.sedna_laws.proofs.Options.{option_exact}
use Rattle.sedna_laws.proofs.Written.{encode-length}
use Rattle.demands.specs.Answered.{Answered, answered}
use Rattle.demands.specs.Header.{◌at◌, slice, Inside, up_to, INSTRUCTION, SHAPE, START_1, LENGTH_1, START_2, LENGTH_2, COUNT, HAS_URL, MAJOR, MINOR}
use Rattle.demands.specs.Header.{FORMAT, CODE, CLASS, TYPE, URL_START, URL_LENGTH, pair_told, option_numbers, Row, Tells}
use Rattle.demands.proofs.Answered.{counted}

-- a message that was read has at most 10,248 bytes
pub read_short : (side : Side) (s : List ℕ) → IsBytes s → (m : Message) (n : ℕ) → reading side s ≡ Answer.accepted m n → n ≤ 10248
read_short side s h m n e =
    let there = (exact side s h m n).0 e in
    let short = there.0.short in
    let count = there.1.count in
    omega (arith, short, count, encode-length m)

pub read_count : (side : Side) (s : List ℕ) → IsBytes s → (m : Message) (n : ℕ) → reading side s ≡ Answer.accepted m n → answered n ≡ Answered.count n
read_count side s h m n e = let short = read_short side s h m n e in counted n (omega (arith, short))

-- the option that three numbers mean
option-told : (s : List ℕ) (o : Option OptionPlace) (p : Pair) → option_in s o ≡ some p → pair_told s (option_fields_after o (0 ∷ 0 ∷ 0 ∷ [])) ≡ p
option-told s o p e = grind arith

-- all of them
options-told : (s : List ℕ) (ps : List Pair) (f : ℕ → Option OptionPlace) → ((k : ℕ) → option_in s (f k) ≡ get_elem? ps k)
    → up_to (length ps) (λ k. pair_told s (option_fields_after (f k) (0 ∷ 0 ∷ 0 ∷ []))) ≡ ps
options-told s [] f h = refl
options-told s (p ∷ ps) f h = λ i. option-told s (f 0) p (h 0) i ∷ options-told s ps (λ k. f (suc k)) (λ k. h (suc k)) i

module _ (side : Side) (s : List ℕ) (h : IsBytes s) (i n : ℕ) where
  -- a body's numbers, where the message with it was read
  abbrev Numbers : Body → List ℕ → List ℕ
  Numbers b rest = fields_of i (places_of 8 (n - 8) b) ++ rest

  body-there : (b : Body) → reading side s ≡ Answer.accepted (message i b) n → body_in s (places_of 8 (n - 8) b) ≡ b
  body-there b e = ap body_of (rw e at (meaning-located side s h))
    where
      body_of : Answer → Body
      body_of (Answer.refused r) = Body.empty
      body_of (Answer.accepted m k) = m.body

  row : (b : Body) (rest : List ℕ) → reading side s ≡ Answer.accepted (message i b) n → Row s (Numbers b rest) b
  row Body.empty rest e = Row.empty refl (refl, (refl, (refl, (refl, (refl, (refl, (refl, (refl, tt))))))))
  row (Body.session major minor user database) rest e = subst (Row s (Numbers (Body.session major minor user database) rest)) (body-there _ e) (Row.session refl (refl, (refl, tt)))
  row (Body.text t) rest e = subst (Row s (Numbers (Body.text t) rest)) (body-there _ e) (Row.text refl (refl, (refl, (refl, (refl, (refl, (refl, tt)))))))
  row (Body.statement format t) rest e = subst (Row s (Numbers (Body.statement format t) rest)) (body-there _ e) (Row.statement refl (refl, (refl, (refl, (refl, (refl, tt))))))
  row (Body.coded code t) rest e = subst (Row s (Numbers (Body.coded code t) rest)) (body-there _ e) (Row.coded refl (refl, (refl, (refl, (refl, (refl, tt))))))
  row (Body.options ps) rest e =
      subst (Row s (Numbers (Body.options ps) rest)) (ap Body.options (options-told s ps (λ k. option_at k 8 (take (n - 8) (drop 8 s))) (option_exact side s h i n ps e)))
      (Row.options refl (refl, (refl, (refl, (refl, (refl, tt))))))
  row (Body.item class kind Url.absent part) rest e =
      subst (Row s (Numbers (Body.item class kind Url.absent part) rest)) (body-there _ e) (Row.item refl (refl, (refl, (refl, (refl, tt)))))
  row (Body.item class kind (Url.present url) part) rest e =
      subst (Row s (Numbers (Body.item class kind (Url.present url) part) rest)) (body-there _ e) (Row.item_url refl (refl, tt) refl)

  abbrev Holds : Body → List ℕ → Type 0
  Holds b rest = Inside s (Numbers b rest at START_1) (Numbers b rest at LENGTH_1) × Inside s (Numbers b rest at START_2) (Numbers b rest at LENGTH_2)

  -- the told places lie in the n bytes that were read
  inside : (b : Body) (rest : List ℕ) → n ≡ 8 + length (body_bytes b) → n ≤ length s → Holds b rest
  unfolding body_bytes url_bytes string int
  inside b rest c l = (grind (arith, nat_tests, length-append {A = ℕ}), grind (arith, nat_tests, length-append {A = ℕ}))

-- of the ten numbers the first is the instruction, and numbers behind the ten are behind them
pub ten : (i : ℕ) (p : Places) (rest : List ℕ) → ((fields_of i p ++ rest) at INSTRUCTION ≡ i) × (drop 10 (fields_of i p ++ rest) ≡ rest)
ten i p rest = (grind arith, grind arith)

pub tells : (side : Side) (s : List ℕ) → IsBytes s → (m : Message) (n : ℕ) → reading side s ≡ Answer.accepted m n
    → (rest : List ℕ) → Tells s (fields_of m.instruction (places_of 8 (n - 8) m.body) ++ rest) m
tells side s h m n e rest =
    let there = (exact side s h m n).0 e in
    let long = ap length (front-split there.1) ∙ length-append (encode m) (drop n s) in
    let count = there.1.count in
    let places = inside side s h m.instruction n m.body rest (omega (arith, count, encode-length m)) (omega (arith, count, long)) in
    record {
      instruction = (ten m.instruction (places_of 8 (n - 8) m.body) rest).0;
      body = row side s h m.instruction n m.body rest e;
      first = places.0;
      second = places.1;
    }

-- the body that ten numbers mean
body_told : List ℕ → List ℕ → Body
body_told bytes f =
    if (eqb (f at SHAPE) 0) Body.empty
    (if (eqb (f at SHAPE) 1) (Body.session (f at MAJOR) (f at MINOR) (slice bytes (f at START_1) (f at LENGTH_1)) (slice bytes (f at START_2) (f at LENGTH_2)))
    (if (eqb (f at SHAPE) 2) (Body.text (slice bytes (f at START_1) (f at LENGTH_1)))
    (if (eqb (f at SHAPE) 3) (Body.statement (f at FORMAT) (slice bytes (f at START_1) (f at LENGTH_1)))
    (if (eqb (f at SHAPE) 4) (Body.coded (f at CODE) (slice bytes (f at START_1) (f at LENGTH_1)))
    (if (eqb (f at SHAPE) 5) (Body.options (up_to (f at COUNT) (λ k. pair_told bytes (option_numbers bytes (f at START_1) (f at LENGTH_1) k))))
    (Body.item (f at CLASS) (f at TYPE) (if (eqb (f at HAS_URL) 0) Url.absent (Url.present (slice bytes (f at URL_START) (f at URL_LENGTH)))) (slice bytes (f at START_1) (f at LENGTH_1))))))))

row_told : (bytes f : List ℕ) (b : Body) → Row bytes f b → b ≡ body_told bytes f
unfolding body_told
row_told bytes f b (Row.empty e z) = rw e
row_told bytes f b (Row.session e z) = rw e
row_told bytes f b (Row.text e z) = rw e
row_told bytes f b (Row.statement e z) = rw e
row_told bytes f b (Row.coded e z) = rw e
row_told bytes f b (Row.options e z) = rw e
row_told bytes f b (Row.item e z) = rw (e, z.1.1.1.0)
row_told bytes f b (Row.item_url e z u) = rw (e, u)

pub one_message : (bytes f : List ℕ) (m m' : Message) → Tells bytes f m → Tells bytes f m' → m ≡ m'
one_message bytes f m m' t t' =
    let i : m.instruction ≡ m'.instruction = sym t.instruction ∙ t'.instruction in
    let b : m.body ≡ m'.body = row_told bytes f m.body t.body ∙ sym (row_told bytes f m'.body t'.body) in
    λ x. record { instruction = i x; body = b x }
