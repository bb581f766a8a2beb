-- `record::leave::free_blocks`: the first k blocks are freed (`Freeing`). Assumes nothing.
use Rattle.record.proofs.Laws.Leave.{Freeing}
use Rattle.record.proofs.leave.free_blocks.Given as goal

abbrev pub invariant-loop-k : goal.invariant-loop-k
invariant-loop-k l = Freeing l.initial.record l.j l.at.column l.at.bottom l.count l.record l.k
