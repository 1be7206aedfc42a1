use mathlib.Core.Path.{ap}
use Rattle.records_printed.specs.declared.Widths.{Widths}
use Rattle.records.specs.Record.{record_of}
use Rattle.records_printed.proofs.Lines.{fields-put}
use borrow.Author.Rules.{rules}
use Rattle.records_printed.proofs.line.put_fields.Goals as goal

pub put_digits-requires : goal.put_digits-requires
put_digits-requires c =
    record { counted = ap (λ (w : Widths). w.number) c.requires.0; there = search rules }

pub put_instruction-requires : goal.put_instruction-requires
put_instruction-requires c =
    record {
      counted = ap (λ (w : Widths). w.instruction)
          c.requires.0;
      there = search rules;
    }

pub put_digits-requires-2 : goal.put_digits-requires-2
put_digits-requires-2 c =
    record {
      counted = ap (λ (w : Widths). w.answer)
          c.requires.0;
      there = search rules;
    }

pub returns : goal.returns
returns c =
    let a = c.args in
    fields-put a.out.now a.at a.number (record_of a.side a.payload.now) a.answer a.w c.requires.0 c.requires.1
    c.put_digits.ensures
    c.put_sender.ensures
    c.put_instruction.ensures
    c.put_byte.ensures
    c.put_digits-2.ensures
    c.put_byte-2.ensures
