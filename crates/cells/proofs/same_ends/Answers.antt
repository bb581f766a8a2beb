-- `cells::same_ends` meets its contract. Assumes nothing.
use Rattle.std.proofs.Common.{sym, ◌∙◌}
use native.Mathlib.Omega.{arith}
use Rattle.cells.specs.Laws.Walks.{left_room, left_small}
use Rattle.cells.specs.Laws.Compares.{comparing_next, comparing_differs, comparing_end}
use Rattle.cells.proofs.same_ends.Goals as goal

pub get16-requires : goal.get16-requires
get16-requires c = let left = c.loop-rest.invariant.left in omega (arith, left.room.size, left_room left (omega arith))

pub overflow_mul-height : goal.overflow_mul-height
overflow_mul-height c = omega (arith, left_small c.loop-rest.invariant.left (omega arith))

pub returns-then-get16-height : goal.returns-then-get16-height
returns-then-get16-height c = comparing_differs c.loop-rest.invariant (omega arith) (λ e. c.if-get16-height.true (c.get16.ensures.is ∙ e))

pub loop-rest-preserved : goal.loop-rest-preserved
loop-rest-preserved c = comparing_next c.loop-rest.invariant (omega arith) (sym c.get16.ensures.is ∙ c.if-get16-height.false)

pub returns : goal.returns
returns c = comparing_end c.loop-rest.invariant c.loop-rest-test.false
