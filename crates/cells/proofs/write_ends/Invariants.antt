-- `cells::write_ends` meets its contract. The invariant: the ends passed are written. Assumes nothing.
use Rattle.cells.specs.Bits.{word_bits}
use Rattle.cells.specs.Ends.{spots}
use Rattle.cells.specs.Laws.Writes.{Writing}
use Rattle.cells.proofs.write_ends.Given as goal

abbrev pub invariant-loop-rest : goal.invariant-loop-rest
invariant-loop-rest l = Writing l.height l.initial.part l.from (spots l.base word_bits l.word) l.base l.part l.i l.rest

abbrev pub decreases-loop-rest : goal.decreases-loop-rest
decreases-loop-rest l = l.rest
