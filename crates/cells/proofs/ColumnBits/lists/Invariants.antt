-- `cells::ColumnBits::lists` meets its contract. The invariant: the changes in the words passed are numbers that the part has. Assumes nothing.
use Rattle.cells.specs.Laws.Compares.{Listing}
use Rattle.cells.proofs.ColumnBits.lists.Given as goal

abbrev pub invariant-loop-q : goal.invariant-loop-q
invariant-loop-q l = Listing l.self.words.now l.self.cells l.self.height l.part l.met l.q
