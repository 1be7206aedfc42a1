-- What the calls of cutting and joining tell is what they mean.
use mathlib.Core.Bool.{Bool, true, false}
use mathlib.Core.List.{List}
use mathlib.Core.Logic.{◌⊎◌, inl, inr}
use mathlib.Core.Option.{none}
use mathlib.Core.Path.{◌≡◌, refl, sym, ap, subst, ◌∙◌}
use Prim.Native.Nat.{ℕ, ◌-◌, ◌≤◌, ◌<◌}
use native.Mathlib.Omega.{arith}
use lib.Dec.{eqb, ltb, leb}
use lib.ListN.{length, drop}
use borrow.Author.Tests.{ltb-true, ltb-false, eqb-true, eqb-false}
use Rattle.std.specs.Prelude.{Option as Maybe, Some, None, Result, Ok, Err}
use Rattle.std.proofs.lemmas.Bool.Decides.{nat_tests}
use Rattle.wire.specs.Bytes.{if}
use Rattle.wire.specs.declared.Refusal.{Refusal}
use Rattle.wire.specs.declared.Refusal.TheVariants.{ValueNotAllowed, NoRoom}
use Rattle.wire.specs.Refusals.{number_of}
use Rattle.answer_c.specs.Codes.{refusal_code, counted_code}
use Rattle.sedna.specs.declared.Side.{Side}
use Rattle.sedna.specs.Message.{Url, Message}
use Rattle.sedna_read.specs.Meaning.{body_in}
use Rattle.sedna_read.specs.Places.{places_of, located}
use Rattle.sedna_read.specs.Reading.{Answer, reading}
use Rattle.sedna_laws.proofs.Meaning.{meaning-located}
use Rattle.parts_cut.specs.Cut.{cut_statement, cut_item, cut_typed_item}
use Rattle.parts_cut.specs.Part.{statement_parts, item_parts_from, url_parts, part_written}
use Rattle.parts_cut.proofs.Counts.{statement_counted, item_counted, typed_item-counted}
use Rattle.parts_laws.specs.ThroughBytes.{Uncut, cut, permitted, encodable, Slices, part}
use Rattle.parts_laws.proofs.PartDue.{part_due}
use Rattle.parts_join.specs.declared.Answer.{Answer as Joins}
use Rattle.parts_join.specs.declared.Answer.TheVariants as answer
use Rattle.parts_join.specs.declared.Assembly.{Assembly}
use Rattle.parts_join.specs.declared.Open.{Open}
use Rattle.parts_join.specs.declared.Open.TheVariants.{Nothing}
use Rattle.parts_join.specs.Answers.{Reply, reply, bytes_handed}
use Rattle.parts_join.specs.Joining.{opened, joined, buffer_after}
use Rattle.parts_join.specs.Refusals.{spoilt}
use Rattle.parts_join.proofs.Refusals.{handed-inside, refusal-leaves}
use Rattle.sedna_c.specs.Codes.{side_reading}
use Rattle.parts_c.specs.Joining.{open_of, assembly_put, meant_by, open_code, open_after, answer_code, told_after, unchanged as left_alone, message_joined, reading_joined, meant_joined, outcome}
use Rattle.parts_c.proofs.Meant.{meant-same}
use Rattle.demands.specs.Answered.{Answered, answered, Call, unchanged}
use Rattle.demands.specs.Gatherings.{Gathering, Means, TOLD_LENGTH, TellsReply}
use Rattle.demands.specs.Header.{◌at◌, SideOf}
use Rattle.demands.specs.PartsCalls.{SIZES, OpenRight, Keeps, turned, join_called, Lent, Offers, refused_numbers, replied, grown_to, JoinRight, PartCalled, PartsCalls}
use Rattle.demands.specs.SednaCalls.{written_as}
use Rattle.demands.proofs.Answered.{counted, refused}
use Rattle.demands.proofs.Gatherings.{gathering_of, means-put, means-bytes, MeansIn, meant-means, joined_bytes, one_assembly, one_reply}
use Rattle.demands.proofs.SednaCalls.{Sides, sides, side-read, side-nobody, write}
use Rattle.demands.proofs.Tells.{read_count}

statement-parts : (format : ℕ) (text : List ℕ) → length text < SIZES → answered (statement_parts (length text)) ≡ Answered.count (length (cut_statement format text))
statement-parts format text h = grind (arith, nat_tests, statement_counted format text)

item-parts : (text : List ℕ) → length text < SIZES → answered (item_parts_from 10235 (length text)) ≡ Answered.count (length (cut_item text))
item-parts text h = grind (arith, nat_tests, item_counted text)

typed_item_parts : (class kind : ℕ) (text : List ℕ) → length text < SIZES
    → answered (item_parts_from 10232 (length text)) ≡ Answered.count (length (cut_typed_item class kind Url.absent text))
typed_item_parts class kind text h = grind (arith, nat_tests, typed_item-counted class kind Url.absent text)

typed_item_url_parts : (class kind : ℕ) (url text : List ℕ) → length text < SIZES
    → answered (counted_code (url_parts (length text) (length url)))
    ≡ if (leb (length url) 10227) (Answered.count (length (cut_typed_item class kind (Url.present url) text))) (Answered.refusal 11)
typed_item_url_parts class kind url text h = grind (arith, nat_tests, typed_item-counted class kind (Url.present url) text)

write-part : (ok encodable : Bool) (cut : List Message) (k room : ℕ)
    → answered (counted_code (part_written ok encodable cut k room)) ≡ written_as (part_written ok encodable cut k room)
write-part ok encodable cut k room = grind (arith, nat_tests, write)

called : (u : Uncut) → Slices u → (k : ℕ) (out : List ℕ) → PartCalled u k out (part u k)
called u h k out = record { answer = write-part (permitted u) (encodable u) (cut u) k (length out); due = part_due u h k out }

opens : (what : ℕ) (d : List ℕ) → OpenRight what d (answered (open_code what d)) (open_after what d)
opens what d = by (ltb (length d) 7) refl (eqb what 0) refl (ltb 3 what) refl
  where
    only : (n : ℕ) (o : Open) → Gathering n o → (n ≡ what) → (what ≡ 0) ⊎ (3 < what) → o ≡ Nothing
    only n o g e z = grind arith

    some_one : (n : ℕ) (o : Open) → Gathering n o → ¬ (n ≡ 0) → ¬ (o ≡ Nothing)
    some_one n o g z e = grind arith

    by : (t : Bool) → ltb (length d) 7 ≡ t → (u : Bool) → eqb what 0 ≡ u → (v : Bool) → ltb 3 what ≡ v
        → OpenRight what d (answered (if t (refusal_code NoRoom) (if u (refusal_code ValueNotAllowed) (if v (refusal_code ValueNotAllowed) 0))))
        (if t d (if u d (if v d (assembly_put (opened (open_of what)) d))))
    by true short u p v q = rw (refused NoRoom) (OpenRight.few (ltb-true (length d) 7 short))
    by false room true p v q =
        let z = eqb-true what 0 p in
        rw (refused ValueNotAllowed) (OpenRight.other (ltb-false (length d) 7 room) (λ o g. only what o g refl (inl z)))
    by false room false p true q =
        let z = ltb-true 3 what q in
        rw (refused ValueNotAllowed) (OpenRight.other (ltb-false (length d) 7 room) (λ o g. only what o g refl (inr z)))
    by false room false p false q =
        let g = gathering_of what (ltb-false 3 what q) in
        rw (counted 0 (omega arith))
        (OpenRight.fresh (open_of what) (assembly_put (opened (open_of what)) d) (ltb-false (length d) 7 room) g (some_one what (open_of what) g (eqb-false what 0 p))
        (means-put (opened (open_of what)) d (omega arith, omega arith, omega arith)) refl)

module _ (s : Keeps) (c : Call) where
  stays : (r : Refusal) → JoinRight s c (unchanged (number_of r) s c) → JoinRight s c (turned (left_alone r s.assembly s.buffer c.numbers))
  stays r x = rw (refused r) x

  module _ (lent : Lent s c) (a : Assembly) (is-meant : meant_by s.assembly ≡ Some a) (means : Means s.assembly a) where
    module _ (of : Side) (is : SideOf c.side of) (m : Message) (n : ℕ) (e : reading of c.bytes ≡ Answer.accepted m n) where
      offers : Offers s c a m n
      offers = record { lent = lent; means = means; reads = record { side = of; is = is; read = e } }

      means-after : Means (assembly_put (grown_to s a m) s.assembly) (grown_to s a m)
      means-after = means-put (grown_to s a m) s.assembly (joined_bytes a (length s.buffer) m (means-bytes means))

      message-joined : JoinRight s c (turned (message_joined m n a s.assembly s.buffer c.numbers))
      message-joined = by (joined a (length s.buffer) m).answer refl
        where
          inside : bytes_handed (replied s a m) ≤ length s.buffer
          inside = handed-inside a (length s.buffer) m

          Goal : Result Joins Refusal → Type 0
          Goal x = JoinRight s c (turned (record {
            code = answer_code x n;
            assembly = assembly_put (grown_to s a m) s.assembly;
            buffer = buffer_after a s.buffer m;
            told = told_after x c.numbers;
          }))

          took : (x : Result Joins Refusal) → (joined a (length s.buffer) m).answer ≡ x → answer_code x n ≡ n → TellsReply (told_after x c.numbers) (reply x)
              → told_after x c.numbers at TOLD_LENGTH ≡ bytes_handed (reply x) → drop 4 (told_after x c.numbers) ≡ drop 4 c.numbers → Goal x
          took x q code tells size behind =
              rw (code, read_count of c.bytes c.are_bytes m n e)
              (JoinRight.accepted a m n (assembly_put (grown_to s a m) s.assembly) (told_after x c.numbers) offers
              (subst (TellsReply (told_after x c.numbers)) (sym (ap reply q)) tells)
              (subst (λ (k : ℕ). k ≤ length s.buffer) (ap (λ (y : Result Joins Refusal). bytes_handed (reply y)) q ∙ sym size) inside)
              behind means-after refl)

          by : (x : Result Joins Refusal) → (joined a (length s.buffer) m).answer ≡ x → Goal x
          by (Ok answer.Part) q = took (Ok answer.Part) q refl (TellsReply.part Gathering.nothing (refl, (refl, (refl, tt)))) refl refl
          by (Ok (answer.Statement format k)) q = took (Ok (answer.Statement format k)) q refl (TellsReply.statement Gathering.statement (refl, tt)) refl refl
          by (Ok (answer.Item k)) q = took (Ok (answer.Item k)) q refl (TellsReply.item Gathering.item (refl, (refl, tt))) refl refl
          by (Ok (answer.TypedItem class kind k)) q = took (Ok (answer.TypedItem class kind k)) q refl (TellsReply.typed_item Gathering.typed_item) refl refl
          by (Err r) q =
              let number : replied s a m ≡ Reply.number (number_of r) = ap reply q in
              let leaves = refusal-leaves a s.buffer m (number_of r) number in
              rw (refused r, leaves.buffer, numbers (number_of r) leaves.assembly)
              (JoinRight.refused a m n (number_of r) offers number (subst (λ (d : List ℕ). Means d (grown_to s a m)) (numbers (number_of r) leaves.assembly) means-after))
            where
              -- the mark is set, or all is as it was
              numbers : (k : ℕ) → grown_to s a m ≡ if (eqb k 12) (spoilt a) a → assembly_put (grown_to s a m) s.assembly ≡ refused_numbers k s.assembly
              numbers k e =
                  let same : assembly_put a s.assembly ≡ s.assembly = meant-same s.assembly a lent.0 is-meant in
                  grind (arith, nat_tests)

    by_side : (of : Side) → SideOf c.side of → JoinRight s c (turned (reading_joined (located (reading of c.bytes)) a c.bytes s.assembly s.buffer c.numbers))
    by_side of is = by (reading of c.bytes) refl
      where
        by : (x : Answer) → reading of c.bytes ≡ x → JoinRight s c (turned (reading_joined (located x) a c.bytes s.assembly s.buffer c.numbers))
        by (Answer.refused r) e = stays r (JoinRight.unread a r lent means (record { side = of; is = is; read = e }))
        by (Answer.accepted m n) e = subst (λ (x : Message). JoinRight s c (turned (message_joined x n a s.assembly s.buffer c.numbers))) (sym same) (message-joined of is m n e)
          where
            message_of : Answer → Message
            message_of (Answer.refused r) = m
            message_of (Answer.accepted k j) = k

            same : record { instruction = m.instruction; body = body_in c.bytes (places_of 8 (n - 8) m.body) } ≡ m
            same = ap message_of (rw e at (meaning-located of c.bytes c.are_bytes))

    with_assembly : JoinRight s c (turned (reading_joined (side_reading c.side c.bytes) a c.bytes s.assembly s.buffer c.numbers))
    with_assembly = by (sides c.side)
      where
        by : Sides c.side → JoinRight s c (turned (reading_joined (side_reading c.side c.bytes) a c.bytes s.assembly s.buffer c.numbers))
        by (Sides.one side is) = rw (side-read c.side side c.bytes is) (by_side side is)
        by (Sides.neither o p nobody) = rw (side-nobody c.side c.bytes o p) (stays ValueNotAllowed (JoinRight.nobody a lent means nobody))

  pub join : JoinRight s c (join_called s c)
  unfolding outcome
  join = by (ltb (length s.assembly) 7) refl (ltb (length c.numbers) 4) refl
    where
      meant_so : Lent s c → (k : Maybe Assembly) → meant_by s.assembly ≡ k → MeansIn s.assembly k
          → JoinRight s c (turned (meant_joined k (side_reading c.side c.bytes) c.bytes s.assembly s.buffer c.numbers))
      meant_so lent None e (MeansIn.none nobody) = stays ValueNotAllowed (JoinRight.no_assembly lent nobody)
      meant_so lent (Some a) e (MeansIn.is means) = with_assembly lent a e means

      by : (t : Bool) → ltb (length s.assembly) 7 ≡ t → (u : Bool) → ltb (length c.numbers) 4 ≡ u
          → JoinRight s c (turned (if t (left_alone NoRoom s.assembly s.buffer c.numbers) (if u (left_alone NoRoom s.assembly s.buffer c.numbers)
          (meant_joined (meant_by s.assembly) (side_reading c.side c.bytes) c.bytes s.assembly s.buffer c.numbers))))
      by true p u q = stays NoRoom (JoinRight.few (inl (ltb-true (length s.assembly) 7 p)))
      by false p true q = stays NoRoom (JoinRight.few (inr (ltb-true (length c.numbers) 4 q)))
      by false p false q =
          meant_so (ltb-false (length s.assembly) 7 p, ltb-false (length c.numbers) 4 q) (meant_by s.assembly) refl (meant-means s.assembly)

pub parts-calls : PartsCalls
parts-calls = record {
  one_assembly = one_assembly;
  one_reply = one_reply;
  statement-parts = statement-parts;
  item-parts = item-parts;
  typed_item_parts = typed_item_parts;
  typed_item_url_parts = typed_item_url_parts;
  write_statement_part = λ format text h k out. called (Uncut.statement format text) h k out;
  write_item_part = λ text h e k out. called (Uncut.item text e) h k out;
  write_typed_item_part = λ class kind text h e k out. called (Uncut.typed_item class kind Url.absent text e) h k out;
  write_typed_item_url_part = λ class kind url text h e k out. called (Uncut.typed_item class kind (Url.present url) text e) h k out;
  «open» = opens;
  join = join;
}
