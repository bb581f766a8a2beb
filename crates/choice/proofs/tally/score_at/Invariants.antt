-- `choice::tally::score_at` meets its contract. The invariant: k blocks are scored (`Scoring`). Assumes nothing.
use Rattle.model.specs.Book.{placed, intervals}
use Rattle.model.specs.Record.{device_of, book_of}
use Rattle.choice.specs.Choosing.{Scoring}
use Rattle.choice.proofs.tally.score_at.Given as goal

abbrev pub invariant-loop-k : goal.invariant-loop-k
invariant-loop-k l = Scoring (placed l.task.bytes.now l.at.column l.at.bottom) (intervals (device_of l.record.bytes.now) (book_of l.record.bytes.now)) l.k l.tally
