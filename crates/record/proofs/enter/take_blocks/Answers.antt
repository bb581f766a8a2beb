-- `record::enter::take_blocks`: each block's run is cut out of its column (`cut_room`, `block_taken`). Assumes nothing.
use Rattle.std.proofs.Common.{◌+◌, ◌∙◌, rules, arith}
use Rattle.runs.specs.Intervals.{subtract}
use Rattle.model.specs.Limits.{column_size}
use Rattle.model.specs.Record.{part, column_at}
use Rattle.model.specs.Sound.{count_of}
use Rattle.column.specs.Part.{Changed}
use Rattle.task.specs.Blocks.{rows_of}
use Rattle.record.specs.Laws.Columns.{put_changed}
use Rattle.record.specs.Laws.Enter.{cut_room, block_taken}
use Rattle.record.proofs.enter.take_blocks.Goals as goal

pub edit_block-requires-clause-edits : goal.edit_block-requires-clause-edits
edit_block-requires-clause-edits c = let m = cut_room _ _ _ _ _ _ c.loop-k.invariant (omega arith) _ c.block.ensures in search rules

pub edit_block-requires-clause-few : goal.edit_block-requires-clause-few
edit_block-requires-clause-few c = λ q n k.
    let i = rows_of c.block.result.extent c.args.at.bottom in
    let p = c.args.at.column + c.block.result.extent.column in
    let x : Changed (subtract i.bottom i.top) (part c.loop-k.record (column_at p) column_size) (count_of c.loop-k.record p) q n = search rules in
    let m = cut_room _ _ _ _ _ _ c.loop-k.invariant (omega arith) _ c.block.ensures in
    omega (arith, x.count_is, m.room)

pub loop-k-preserved : goal.loop-k-preserved
loop-k-preserved c =
    let i = rows_of c.block.result.extent c.args.at.bottom in
    let p = c.args.at.column + c.block.result.extent.column in
    let (q, n, k, e) = c.edit_block.ensures in
    let x : Changed (subtract i.bottom i.top) (part c.loop-k.record (column_at p) column_size) (count_of c.loop-k.record p) q n = search rules in
    block_taken _ _ _ _ _ _ c.loop-k.invariant (omega arith) _ c.block.ensures _ (e ∙ put_changed _ _ _ _ _ x)
