-- `marks::mark_task` meets its contract. The invariant: the blocks passed fit, and are marked. Assumes nothing.
use Rattle.record.specs.Device.{as_device}
use Rattle.marks.specs.Laws.Marks.{TaskMarking}
use Rattle.marks.proofs.mark_task.Given as goal

abbrev pub invariant-loop-k : goal.invariant-loop-k
invariant-loop-k l = TaskMarking (as_device l.device) l.initial.held l.task.bytes.now l.at.column l.at.bottom l.held l.k
