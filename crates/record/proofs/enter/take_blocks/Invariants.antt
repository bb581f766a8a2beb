-- `record::enter::take_blocks`: the first k blocks are taken (`Taken`). Assumes nothing.
use Rattle.record.specs.Enter.{Taken}
use Rattle.record.proofs.enter.take_blocks.Given as goal

abbrev pub invariant-loop-k : goal.invariant-loop-k
invariant-loop-k l = Taken l.initial.record l.task.bytes.now l.at.column l.at.bottom l.k l.record
