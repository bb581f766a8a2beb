-- `marks::mark_block`: the words of its column are lent, and what `mark` answers is the last test. Assumes nothing.
use Rattle.std.proofs.Common.{◌∙◌, arith}
use Rattle.std.proofs.Math.Nat.{add-sub_cancel_left}
use Rattle.model.specs.Parts.{splice}
use Rattle.marks.specs.Laws.Marks.{lent_length, on_card, run_of, block_marked}
use Rattle.marks.proofs.mark_block.Goals as goal

pub overflow_add-c : goal.overflow_add-c
overflow_add-c c = omega (arith, c.requires.position.column, c.requires.solid.column)

pub words_at-requires : goal.words_at-requires
words_at-requires c = on_card _ _ _ _ c.args.device.whole c.in-Some.ensures

pub slice_bounds-mark-end : goal.slice_bounds-mark-end
slice_bounds-mark-end c = let l = on_card _ _ _ _ c.args.device.whole c.in-Some.ensures in omega (arith, c.words_at.ensures.end)

pub mark-requires : goal.mark-requires
mark-requires c = rw (c.words_at.ensures.end, c.words_at.ensures.start) (run_of _ _ _ _ _ c.requires.solid c.args.device.whole (omega arith) c.in-Some.ensures)

pub returns : goal.returns
unfolding splice
returns c =
    let p = c.requires in
    let t = c.in-Some.ensures in
    block_marked _ _ _ _ _ p.solid c.args.device.whole (omega arith) t _ _ _ (rw (c.words_at.ensures.end, c.words_at.ensures.start) at c.mark.ensures)
    (c.mark.auto.words ∙ (rw (c.words_at.ensures.end, c.words_at.ensures.start) (lent_length _ _ (omega arith) (on_card _ _ _ _ c.args.device.whole t)))) (rw (c.words_at.ensures.end, c.words_at.ensures.start, add-sub_cancel_left))
