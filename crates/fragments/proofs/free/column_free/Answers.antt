-- `fragments::free::column_free`: half rows by the height of a cell. Assumes nothing.
use Rattle.model.proofs.Laws.Columns.{height_pos}
use Rattle.fragments.specs.Laws.OnBytes.{column_place}
use Rattle.fragments.specs.Laws.Free.{listed_canon}
use Rattle.fragments.proofs.free.column_free.Goals as goal

pub column-requires : goal.column-requires
column-requires c = (column_place _ c.args.record.sound _ c.requires).0

pub free_in-requires-clause-apart : goal.free_in-requires-clause-apart
free_in-requires-clause-apart c =
    rw (c.column.ensures.part, c.column.ensures.count) (listed_canon _ c.args.record.sound _ (column_place _ c.args.record.sound _ c.requires).0)

pub nonzero_div-result : goal.nonzero_div-result
nonzero_div-result c = rw c.height.ensures (height_pos _)
