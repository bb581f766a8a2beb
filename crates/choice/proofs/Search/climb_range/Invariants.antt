-- `choice::Search::climb_range` meets its contract. The invariant: `best` is the best below this bottom (`Climbing`). Assumes nothing.
use Prim.Native.Nat.{◌+◌, ◌-◌}
use Rattle.model.specs.Record.{device_of, book_of}
use Rattle.choice.specs.Laws.Climbs.{Climbing}
use Rattle.choice.proofs.Search.climb_range.Given as goal

abbrev pub invariant-loop-bottom : goal.invariant-loop-bottom
invariant-loop-bottom l = Climbing (device_of l.self.record.bytes.now) (book_of l.self.record.bytes.now) l.self.task.bytes.now l.column l.range l.initial.best l.bottom l.best

abbrev pub decreases-loop-bottom : goal.decreases-loop-bottom
decreases-loop-bottom l = l.range.last + 1 - l.bottom
