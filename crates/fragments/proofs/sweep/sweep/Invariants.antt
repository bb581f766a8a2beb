-- `fragments::sweep::sweep` meets its contract. Assumes nothing.
use Rattle.std.proofs.Common.{◌≡◌, ◌+◌, ◌-◌}
use Rattle.fragments.specs.Sweep.{sides, Sweeping}
use Rattle.fragments.proofs.sweep.sweep.Given as goal

abbrev pub invariant-loop-i : goal.invariant-loop-i
invariant-loop-i l = (l.forest.parents.ghost_name ≡ l.initial.forest.parents.ghost_name) × Sweeping (sides l.left.part.now l.right.part.now l.left.count l.right.count l.base) l.initial.forest.parents.now l.forest.parents.now l.joins l.i l.j

abbrev pub decreases-loop-i : goal.decreases-loop-i
decreases-loop-i l = l.left.count - l.i + (l.right.count - l.j)
