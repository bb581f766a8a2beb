-- `choice::Search::climb_column` meets its contract. The invariant: `best` is the best below this range (`Passed`). Assumes nothing.
use Rattle.model.specs.Record.{device_of, book_of}
use Rattle.choice.specs.Laws.Columns.{Passed}
use Rattle.choice.proofs.Search.climb_column.Given as goal

abbrev pub invariant-loop-run : goal.invariant-loop-run
invariant-loop-run l = Passed (device_of l.self.record.bytes.now) (book_of l.self.record.bytes.now) l.self.task.bytes.now l.column l.run-index l.initial.best l.best
