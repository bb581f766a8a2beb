-- `record::leave::free_blocks`: each block's run is joined to its column (`join_room`, `block_freed`). Assumes nothing.
use Rattle.std.proofs.Common.{◌+◌, ◌∙◌, rules, arith}
use Rattle.runs.specs.Intervals.{unite}
use Rattle.model.specs.Limits.{column_size}
use Rattle.model.specs.Record.{part, column_at}
use Rattle.model.specs.Sound.{count_of}
use Rattle.column.specs.Part.{Changed}
use Rattle.task.specs.Blocks.{rows_of}
use Rattle.record.specs.Laws.Columns.{put_changed}
use Rattle.record.proofs.Laws.Leave.{entry_on, task_stays, on_task, seated, join_room, block_freed, all_freed}
use Rattle.record.proofs.leave.free_blocks.Goals as goal

pub invariant_of-entry : goal.invariant_of-entry
invariant_of-entry c = record { room = entry_on _ _ c.requires }

pub task-requires-in-loop-k : goal.task-requires-in-loop-k
task-requires-in-loop-k c = task_stays _ _ _ _ _ _ _ c.requires c.fits-record c.loop-k.invariant

pub block-block-requires : goal.block-block-requires
block-block-requires c = on_task _ _ _ _ _ _ _ c.requires c.fits-record c.loop-k.invariant (omega arith) _ c.task-in-loop-k.ensures

pub edit_block-requires-clause-seated : goal.edit_block-requires-clause-seated
edit_block-requires-clause-seated c =
    seated _ _ _ _ _ _ _ c.requires c.fits-record c.loop-k.invariant (omega arith) _ c.task-in-loop-k.ensures _ c.block-block.ensures

pub edit_block-requires-clause-edits : goal.edit_block-requires-clause-edits
edit_block-requires-clause-edits c =
    let m = join_room _ _ _ _ _ _ _ c.requires c.fits-record c.loop-k.invariant (omega arith) _ c.task-in-loop-k.ensures _ c.block-block.ensures in
    search rules

pub edit_block-requires-clause-few : goal.edit_block-requires-clause-few
edit_block-requires-clause-few c = λ q n k.
    let i = rows_of c.block-block.result.extent c.position-at.result.bottom in
    let p = c.position-at.result.column + c.block-block.result.extent.column in
    let x : Changed (unite i.bottom i.top) (part c.loop-k.record (column_at p) column_size) (count_of c.loop-k.record p) q n = search rules in
    let m = join_room _ _ _ _ _ _ _ c.requires c.fits-record c.loop-k.invariant (omega arith) _ c.task-in-loop-k.ensures _ c.block-block.ensures in
    omega (arith, x.count_is, m.has_room.room)

pub loop-k-preserved : goal.loop-k-preserved
loop-k-preserved c =
    let i = rows_of c.block-block.result.extent c.position-at.result.bottom in
    let p = c.position-at.result.column + c.block-block.result.extent.column in
    let (q, m, k, e) = c.edit_block.ensures in
    let x : Changed (unite i.bottom i.top) (part c.loop-k.record (column_at p) column_size) (count_of c.loop-k.record p) q m = search rules in
    block_freed _ _ _ _ _ _ _ c.requires c.fits-record c.loop-k.invariant (omega arith) _ c.task-in-loop-k.ensures _ c.block-block.ensures
    _ (e ∙ put_changed _ _ _ _ _ x)

pub returns : goal.returns
returns c = all_freed _ _ _ _ _ _ _ c.loop-k.invariant (omega arith) (omega arith)
