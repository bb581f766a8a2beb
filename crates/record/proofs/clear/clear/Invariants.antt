-- `record::clear::clear`: the columns so far are open (`Opened`). Assumes nothing.
use Rattle.record.specs.Device.{as_device}
use Rattle.record.specs.Laws.Clear.{Opened}
use Rattle.record.proofs.clear.clear.Given as goal

abbrev pub invariant-loop-c : goal.invariant-loop-c
invariant-loop-c l = Opened (as_device l.device) l.c l.record
