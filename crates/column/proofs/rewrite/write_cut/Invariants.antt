-- `column::rewrite::write_cut`: what is written and what the intervals from i on leave are the whole result. Assumes nothing.
use Rattle.std.proofs.Common.{◌-◌}
use Rattle.runs.specs.Intervals.{subtract}
use Rattle.column.specs.Part.{listed_from, listed_in}
use Rattle.column.specs.Laws.Writing.{Writing}
use Rattle.column.proofs.rewrite.write_cut.Given as goal

abbrev pub invariant-loop-i : goal.invariant-loop-i
invariant-loop-i l =
    let p = l.column.part.now in
    let f = subtract l.run.bottom l.run.top in
    Writing (f (listed_in p l.column.count)) l.left.bytes.now l.left.count (f (listed_from p l.i (l.column.count - l.i)))
