-- `fragments::connected::join_all` meets its contract. Assumes nothing.
use Rattle.fragments.specs.OnBytes.{Walking}
use Rattle.fragments.proofs.connected.join_all.Given as goal

abbrev pub invariant-loop-c : goal.invariant-loop-c
invariant-loop-c l = Walking l.record.bytes.now l.initial.forest.parents.now l.forest.parents.now l.joins l.base l.c
