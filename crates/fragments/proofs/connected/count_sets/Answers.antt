-- `fragments::connected::count_sets` meets its contract: what is left of the intervals when each join takes one away. Assumes nothing.
use Rattle.std.proofs.Common.{arith}
use Rattle.fragments.specs.Laws.OnBytes.{sets_bytes}
use Rattle.fragments.proofs.connected.count_sets.Goals as goal

pub overflow_sub-result : goal.overflow_sub-result
overflow_sub-result c =
    let s = sets_bytes _ c.args.record.sound _ _ _ (rw c.total-n.ensures.total at c.set_apart.ensures.alone) c.join_all.ensures in
    omega (arith, s, c.total-n.ensures.total)

pub returns-clause-sets : goal.returns-clause-sets
returns-clause-sets c =
    let s = sets_bytes _ c.args.record.sound _ _ _ (rw c.total-n.ensures.total at c.set_apart.ensures.alone) c.join_all.ensures in
    omega (arith, s, c.total-n.ensures.total)
