-- Answers of `fragments::connected::join_all`.
use Rattle.std.proofs.Common.{arith}
use Rattle.fragments.specs.Laws.Sweep.{joins_length}
use Rattle.fragments.specs.Laws.OnBytes.{walking_start, walking_room, walking_on, walking_end}
use Rattle.fragments.proofs.connected.join_all.Goals as goal

pub loop-c-init : goal.loop-c-init
loop-c-init c = walking_start _ c.args.record.sound _

pub sweep-joins-requires : goal.sweep-joins-requires
sweep-joins-requires c =
    let room = walking_room _ c.args.record.sound _ _ _ _ _ c.loop-c.invariant (omega (arith, c.columns-last.ensures.count)) in
    omega (arith, room, c.requires, c.column-left.ensures.count, c.column.ensures.count, joins_length _ _ _ _ c.loop-c.invariant.so_far)

pub loop-c-preserved : goal.loop-c-preserved
loop-c-preserved c =
    let left = c.column-left.ensures in
    let right = c.column.ensures in
    let swept = rw (left.part, right.part, left.count, right.count) at c.sweep-joins.ensures in
    rw left.count (walking_on _ c.args.record.sound _ _ _ _ _ c.loop-c.invariant (omega (arith, c.columns-last.ensures.count)) _ _ swept.few swept.joins)

pub returns : goal.returns
returns c = walking_end _ c.args.record.sound _ _ _ _ _ c.loop-c.invariant (omega (arith, c.columns-last.ensures.count))
