-- `marks::cells_of`: where all tests pass, the block is on those cells (`on_cells`). Assumes nothing.
use Rattle.std.proofs.Common.{refl}
use Rattle.marks.specs.Laws.Marks.{on_cells}
use Rattle.marks.proofs.cells_of.Goals as goal

pub returns : goal.returns
returns c =
    on_cells _ _ _ _ _ _ _ refl (c.has_kind.ensures.0 c.if-not-has_kind.false) (c.on_grid.ensures.0 c.if-not-on_grid.false)
    (rw c.rows_at-rows.ensures at c.cell.ensures) (rw c.rows_at-rows.ensures at c.cell-2.ensures) (rw c.rows_at-rows.ensures at c.if-rows-device.false)
