-- `listing::columns::InColumn::lifted_bottoms` meets its contract: the blocks below k are met. Assumes nothing.
use Rattle.listing.specs.Columns.{FirstStanding}
use Rattle.listing.proofs.columns.InColumn.lifted_bottoms.Given as goal

abbrev pub invariant-loop-k : goal.invariant-loop-k
invariant-loop-k l = FirstStanding l.self.record.bytes.now l.self.task.bytes.now l.self.p l.k l.step l.now
