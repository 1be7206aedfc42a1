use native.Mathlib.Omega.{arith}
use lib.ListN.{length}
use Rattle.basex_response.proofs.Whole.{ready, stage_one, list-fits, stage_two, status-there, stage_three}
use Rattle.basex_response.proofs.read.store.Goals as goal

pub put_list-list-requires : goal.put_list-list-requires
put_list-list-requires c =
    let a = c.args in
    let j = ready a.reply a.bytes.now a.items a.status (length a.out.now) c.requires in
    let u = stage_one a.reply a.bytes.now a.items a.status a.out.now j _ c.strings_ahead-n.ensures _ _
    c.store_judged_texts-ahead.ensures.answers c.store_judged_texts-ahead.ensures.leaves in
    list-fits a.reply a.bytes.now a.items a.status a.out.now j _ _ _ _ _ u

pub overflow_add-list : goal.overflow_add-list
overflow_add-list c =
    let a = c.args in
    let j = ready a.reply a.bytes.now a.items a.status (length a.out.now)
    c.requires in
    let u = stage_one a.reply a.bytes.now a.items a.status a.out.now j _
    c.strings_ahead-n.ensures _ _
    c.store_judged_texts-ahead.ensures.answers
    c.store_judged_texts-ahead.ensures.leaves in
    let v = stage_two a.reply a.bytes.now a.items a.status a.out.now j _ _ _ _ _ u _ _ c.put_list-list.ensures.answers
    c.put_list-list.ensures.leaves in
    let s = status-there a.reply a.bytes.now a.items a.status a.out.now j _ _ _ _ _ v in
    omega arith

pub returns : goal.returns
returns c =
    let a = c.args in
    let j = ready a.reply a.bytes.now a.items a.status (length a.out.now)
    c.requires in
    let u = stage_one a.reply a.bytes.now a.items a.status a.out.now j _
    c.strings_ahead-n.ensures _ _
    c.store_judged_texts-ahead.ensures.answers
    c.store_judged_texts-ahead.ensures.leaves in
    let v = stage_two a.reply a.bytes.now a.items a.status a.out.now j _ _ _ _ _ u _ _
    c.put_list-list.ensures.answers c.put_list-list.ensures.leaves in
    stage_three a.reply a.bytes.now a.items a.status a.out.now j _ _ _ _ _ v _ c.strings_behind-m.ensures _ _
    c.store_judged_texts.ensures.answers c.store_judged_texts.ensures.leaves
