-- `cells::ColumnBits::fill` meets its contract. The invariant: the changes in the words passed are written. Assumes nothing.
use Rattle.cells.specs.Laws.Writes.{Filling}
use Rattle.cells.proofs.ColumnBits.fill.Given as goal

abbrev pub invariant-loop-q : goal.invariant-loop-q
invariant-loop-q l = Filling l.self.words.now l.self.cells l.self.height l.part l.written l.q
