-- `cells::write_ends` meets its contract. Assumes nothing.
use native.Mathlib.Omega.{arith}
use Rattle.cells.specs.Laws.Walks.{left_room, left_small}
use Rattle.cells.specs.Laws.Writes.{writing_next, writing_end}
use Rattle.cells.proofs.write_ends.Goals as goal

pub overflow_mul-height : goal.overflow_mul-height
overflow_mul-height c = omega (arith, left_small c.loop-rest.invariant.left (omega arith))

pub put16-requires : goal.put16-requires
put16-requires c =
    let left = c.loop-rest.invariant.left in
    (omega (arith, left.room.size, left_room left (omega arith)), left_small left (omega arith))

pub loop-rest-preserved : goal.loop-rest-preserved
loop-rest-preserved c = writing_next c.loop-rest.invariant (omega arith) _ c.put16.ensures

pub returns : goal.returns
returns c = writing_end c.loop-rest.invariant c.loop-rest-test.false
