-- `cells::mark_words` meets its contract. The invariant: the run is marked in the words passed. Assumes nothing.
use Rattle.cells.specs.Laws.Marks.{RunMarking}
use Rattle.cells.proofs.mark_words.Given as goal

abbrev pub invariant-loop-q : goal.invariant-loop-q
invariant-loop-q l = RunMarking l.initial.words l.run.start l.run.end l.words l.q l.hit
