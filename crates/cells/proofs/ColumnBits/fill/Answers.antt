-- `cells::ColumnBits::fill` meets its contract. Assumes nothing.
use Rattle.std.proofs.Common.{arith}
use Rattle.cells.specs.Laws.Writes.{filling_start, filling_room, filling_next, filling_end}
use Rattle.cells.proofs.ColumnBits.fill.Goals as goal

pub loop-q-init : goal.loop-q-init
loop-q-init c = filling_start _ _ _ _ c.requires

pub write_ends-written-requires : goal.write_ends-written-requires
write_ends-written-requires c =
    let s = c.args.self in
    (filling_room _ _ _ s.listable c.loop-q.invariant _ _ c.first_cell.ensures c.changes.ensures (omega arith), omega (arith, s.listable.short))

pub loop-q-preserved : goal.loop-q-preserved
loop-q-preserved c = filling_next _ _ _ c.args.self.listable c.loop-q.invariant _ _ c.first_cell.ensures c.changes.ensures _ _ c.write_ends-written.ensures

pub returns : goal.returns
returns c = filling_end _ _ _ c.args.self.listable c.loop-q.invariant (omega arith)
