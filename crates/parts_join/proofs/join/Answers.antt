use mathlib.Core.Path.{ap, sym, ◌∙◌}
use lib.ListN.{length}
use Rattle.sedna.specs.Message.{Message, message}
use Rattle.sedna_read.specs.Meaning.{body_in}
use Rattle.parts_join.proofs.Order.{ok_accepted, after-accepted, after-refused}
use Rattle.parts_join.proofs.join.Goals as goal

pub returns-then-is_ok : goal.returns-then-is_ok
returns-then-is_ok c =
    let s = c.args in
    let m : Message = message s.instruction (body_in s.bytes.now s.places) in
    let t = c.part-part.ensures ∙ c.text_in.ensures s.bytes.now in
    let e = c.judge-joined.ensures s.bytes.now (ap length t) in
    let h = sym (ok_accepted c.judge-joined.result.answer) ∙ sym c.is_ok.ensures.value ∙ c.if-is_ok.true in
    record { answers = e; leaves = after-accepted s.a s.buffer.now m e h t c.put_bytes.ensures }

pub returns-else-is_ok : goal.returns-else-is_ok
returns-else-is_ok c =
    let s = c.args in
    let m : Message = message s.instruction (body_in s.bytes.now s.places) in
    let t = c.part-part.ensures ∙ c.text_in.ensures s.bytes.now in
    let e = c.judge-joined.ensures s.bytes.now (ap length t) in
    let h = sym (ok_accepted c.judge-joined.result.answer) ∙ sym c.is_ok.ensures.value ∙ c.if-is_ok.false in
    record { answers = e; leaves = after-refused s.a s.buffer.now m e h }
