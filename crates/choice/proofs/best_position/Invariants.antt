-- `choice::best_position` meets its contract. The invariant: `best` is the best of the columns passed (`Best_of`). Assumes nothing.
use Rattle.model.specs.Record.{device_of, book_of}
use Rattle.choice.specs.Laws.Columns.{Best_of}
use Rattle.choice.proofs.best_position.Given as goal

abbrev pub invariant-loop-column : goal.invariant-loop-column
invariant-loop-column l = Best_of (device_of l.record.bytes.now) (book_of l.record.bytes.now) l.task.bytes.now l.column l.best
