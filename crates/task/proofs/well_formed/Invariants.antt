-- `task::well_formed`: the loop's invariant says that the blocks so far pass and which was the last (`Tested`). Assumes nothing.
use Rattle.task.specs.Laws.Tasks.{Tested}
use Rattle.task.proofs.well_formed.Given as goal

abbrev pub invariant-loop-i : goal.invariant-loop-i
invariant-loop-i l = Tested l.task l.i l.last
