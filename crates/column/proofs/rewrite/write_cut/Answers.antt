-- Answers of `column::rewrite::write_cut`.
use Rattle.std.proofs.Common.{refl}
use Rattle.column.specs.Laws.Writing.{on, cut_start, cut_next, cut_end, keep_room}
use Rattle.column.proofs.rewrite.write_cut.Goals as goal

pub loop-i-init : goal.loop-i-init
loop-i-init c = cut_start _ _ _ _ c.requires.empty

pub keep-requires-clause-room : goal.keep-requires-clause-room
keep-requires-clause-room c =
    let w = cut_next _ _ c.loop-i.invariant c.loop-i-test.true c.interval-next.ensures c.min.ensures refl in
    keep_room _ _ _ w c.requires.room.room

pub keep-requires-in-loop-i-clause-room : goal.keep-requires-in-loop-i-clause-room
keep-requires-in-loop-i-clause-room c =
    let w = cut_next _ _ c.loop-i.invariant c.loop-i-test.true c.interval-next.ensures c.min.ensures c.max.ensures in
    keep_room _ _ _ (on w c.keep.ensures) c.requires.room.room

pub loop-i-preserved : goal.loop-i-preserved
loop-i-preserved c =
    let w = cut_next _ _ c.loop-i.invariant c.loop-i-test.true c.interval-next.ensures c.min.ensures c.max.ensures in
    on (on w c.keep.ensures) c.keep-in-loop-i.ensures

pub returns : goal.returns
returns c = cut_end _ _ _ c.loop-i-test.false c.loop-i.invariant
