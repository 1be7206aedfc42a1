-- From a head that was written to the whole message.
use Rattle.std.specs.Prelude.{Result, Ok, Err}
use mathlib.Core.Path.{◌≡◌, refl, sym, ap, ◌∙◌}
use mathlib.Core.List.{List, ◌++◌, append_assoc}
use mathlib.Core.Bool.{Bool, true, false}
use Prim.Native.Nat.{ℕ, ◌+◌, min}
use native.Mathlib.Omega.{arith}
use lib.ListN.{length, length-append}
use Rattle.wire.specs.Bytes.{if, int, splice}
use Rattle.wire.specs.Call.{output_after, put_at, Writes}
use Rattle.wire.specs.declared.Refusal.{Refusal}
use Rattle.wire.proofs.Call.{refused-leaves}
use Rattle.wire.proofs.Splices.{Ahead, start, step, splice-none, put_at-fits}
use Rattle.sedna.specs.declared.Shape.{Shape}
use Rattle.sedna.specs.declared.Shape.TheVariants as shape
use Rattle.sedna.specs.Allowed.{version_allowed, format_allowed, class_allowed, type_allowed, allowed}
use Rattle.sedna.specs.Encode.{string, url_bytes, body_bytes, encode}
use Rattle.sedna.specs.Message.{Url, Body, Message, shape_of, message}
use Rattle.sedna.specs.Table.{find_of, fit_of}
use Rattle.sedna_write.specs.Writing.{judgement, WritesMessage}
use Rattle.sedna_write.specs.inner.Begin.{Begins}
use Rattle.sedna_write.proofs.Judgement.{Counts, counts, judged_alike}

pub int-length : (n : ℕ) → length (int n) ≡ 4
unfolding int
int-length n = refl

pub string-length : (t : List ℕ) → length (string t) ≡ length t + 5
unfolding string int
string-length t = omega arith

module _ {d e : List ℕ} {i : ℕ} {sh : Shape} {ok : Bool} {n : ℕ} {w : Result ℕ Refusal} (b : Begins d i sh ok n w e) where
  -- what is true where a head was written
  pub counted : {k : ℕ} → w ≡ Ok k → Counts (fit_of (find_of i) sh) ok n (length d) k
  counted {k} q = counts i sh ok n (length d) k (sym b.answers ∙ q)

  -- a head that was begun for another length that is judged alike, and for an equal test of the values
  pub begun : (ok' : Bool) (y : ℕ) → ok ≡ ok' → (ok ≡ true → min 10241 n ≡ min 10241 y) → Begins d i sh ok' y w e
  begun ok' y same alike =
      record {
        answers = b.answers ∙ judged_alike i sh ok n y (length d) alike ∙ ap (λ (t : Bool). judgement i sh t y (length d)) same;
        leaves = b.leaves ∙ by w refl;
      }
    where
      by : (x : Result ℕ Refusal) → w ≡ x → output_after x d 0 (int i ++ int n) ≡ output_after x d 0 (int i ++ int y)
      by (Err r) q = refl
      by (Ok k) q =
          let c = counted q in
          let m : min 10241 n ≡ min 10241 y = alike c.allowed in
          let z : n ≡ y = omega arith in
          ap (λ (x : ℕ). splice d 0 (int i ++ int x)) z

-- a message whose head was written, or which was refused
module _ (d : List ℕ) (m : Message) {sh : Shape} {ok : Bool} {w : Result ℕ Refusal} {e : List ℕ} (b : Begins d m.instruction sh ok (length (body_bytes m.body)) w e) where
  abbrev pub Whole : Result ℕ Refusal → List ℕ → Type 0
  Whole = Writes (judgement m.instruction sh ok (length (body_bytes m.body)) (length d)) d 0 (encode m)

  pub refused : {r : Refusal} → w ≡ Err r → Whole (Err r) e
  refused {r} q =
      record {
        answers = sym q ∙ b.answers;
        leaves = b.leaves ∙ refused-leaves w r d 0 _ q ∙ sym (refused-leaves _ r d 0 (encode m) (sym b.answers ∙ q));
      }

  -- after the head, the body's bytes are ahead, and make the whole message
  pub body-ahead : {k : ℕ} → w ≡ Ok k → Ahead (splice d 0 (encode m)) e 8 (body_bytes m.body)
  unfolding encode
  body-ahead q =
      let head : List ℕ = int m.instruction ++ int (length (body_bytes m.body)) in
      let c = counted b q in
      let l : length head ≡ 8 = length-append (int m.instruction) (int (length (body_bytes m.body))) ∙ rw (int-length m.instruction, int-length (length (body_bytes m.body))) in
      let lx : length (head ++ body_bytes m.body) ≡ length head + length (body_bytes m.body) = length-append head (body_bytes m.body) in
      let p : e ≡ put_at d 0 head = b.leaves ∙ ap (λ (x : Result ℕ Refusal). output_after x d 0 head) q ∙ sym (put_at-fits d 0 head (omega arith)) in
      rw (← append_assoc (int m.instruction) (int (length (body_bytes m.body))) (body_bytes m.body))
      (step head 8 (start d 0 (head ++ body_bytes m.body) (omega arith)) p (omega arith))

  pub done : {k : ℕ} {after : List ℕ} → w ≡ Ok k → after ≡ splice d 0 (encode m) → Whole (Ok k) after
  done {k} q p =
      record {
        answers = sym q ∙ b.answers;
        leaves = p ∙ ap (λ (x : Result ℕ Refusal). output_after x d 0 (encode m)) (sym q ∙ b.answers);
      }

-- the heads that were begun for each body: how many bytes it has
abbrev pub HeadOf : List ℕ → ℕ → Body → Result ℕ Refusal → List ℕ → Type 0
HeadOf d i b = Begins d i (shape_of b) (allowed b) (length (body_bytes b))

module _ {d e : List ℕ} {i : ℕ} {w : Result ℕ Refusal} where
  empty_head : Begins d i shape.Empty true 0 w e → HeadOf d i Body.empty w e
  unfolding allowed body_bytes
  empty_head b = b

  pub text_head : (t : List ℕ) {n : ℕ} → n ≡ min 10241 (length t + 5) → Begins d i shape.Text true n w e → HeadOf d i (Body.text t) w e
  unfolding allowed body_bytes
  text_head t m b = begun b _ _ refl (λ _. omega (arith, string-length t))

  pub statement_head : (f : ℕ) (t : List ℕ) {ok : Bool} {n : ℕ} → ok ≡ format_allowed f → n ≡ min 10241 (length t + 6) → Begins d i shape.Statement ok n w e → HeadOf d i (Body.statement f t) w e
  unfolding allowed body_bytes
  statement_head f t v m b = begun b _ _ v (λ _. omega (arith, string-length t))

  pub coded_head : (c : ℕ) (t : List ℕ) {n : ℕ} → n ≡ min 10241 (length t + 9) → Begins d i shape.Coded true n w e → HeadOf d i (Body.coded c t) w e
  unfolding allowed body_bytes
  coded_head c t m b = begun b _ _ refl (λ _. omega (arith, length-append (int c) (string t), int-length c, string-length t))

  pub session_head : (x y : ℕ) (u v : List ℕ) {ok : Bool} {n : ℕ} → ok ≡ version_allowed x y → n ≡ min 10241 (length u + length v)
      → Begins d i shape.Session ok (n + 12) w e → HeadOf d i (Body.session x y u v) w e
  unfolding allowed body_bytes
  session_head x y u v o m b = begun b _ _ o (λ _. omega (arith, length-append (string u) (string v), string-length u, string-length v))

  pub item_head : (x y : ℕ) (p : List ℕ) {ok : Bool} {n : ℕ} → ok ≡ if (class_allowed x) (type_allowed y) false → n ≡ min 10241 (length p + 8) → Begins d i shape.Item ok n w e
      → HeadOf d i (Body.item x y Url.absent p) w e
  unfolding allowed body_bytes url_bytes
  item_head x y p v m b = begun b _ _ v (λ _. omega (arith, string-length p))

  pub item-url_head : (x y : ℕ) (u p : List ℕ) {ok : Bool} {n : ℕ} → ok ≡ if (class_allowed x) (type_allowed y) false → n ≡ min 10241 (length u + length p)
      → Begins d i shape.Item ok (n + 13) w e → HeadOf d i (Body.item x y (Url.present u) p) w e
  unfolding allowed body_bytes url_bytes
  item-url_head x y u p v m b = begun b _ _ v (λ _. omega (arith, length-append (string u) (string p), string-length u, string-length p))

-- an empty body: the head is the message
pub empty-whole : (d e : List ℕ) (i : ℕ) (w : Result ℕ Refusal) → Begins d i shape.Empty true 0 w e → WritesMessage d (message i Body.empty) w e
unfolding body_bytes
empty-whole d e i w b = by w refl
  where
    h : HeadOf d i Body.empty w e
    h = empty_head b

    by : (x : Result ℕ Refusal) → w ≡ x → WritesMessage d (message i Body.empty) x e
    by (Err r) q = refused d (message i Body.empty) h q
    by (Ok k) q = done d (message i Body.empty) h q (sym (splice-none e 8) ∙ (body-ahead d (message i Body.empty) h q).makes)
