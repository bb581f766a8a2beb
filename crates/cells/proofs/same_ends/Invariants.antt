-- `cells::same_ends` meets its contract. The invariant: the ends passed are those that the part has. Assumes nothing.
use Rattle.cells.specs.Bits.{word_bits}
use Rattle.cells.specs.Ends.{spots}
use Rattle.cells.specs.Laws.Compares.{Comparing}
use Rattle.cells.proofs.same_ends.Given as goal

abbrev pub invariant-loop-rest : goal.invariant-loop-rest
invariant-loop-rest l = Comparing l.height l.part l.from (spots l.base word_bits l.word) l.base l.i l.rest

abbrev pub decreases-loop-rest : goal.decreases-loop-rest
decreases-loop-rest l = l.rest
