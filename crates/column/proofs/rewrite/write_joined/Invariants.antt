-- `column::rewrite::write_joined`: what is written, and the interval carried on merged with those from i on, are the whole result. Assumes nothing.
use Rattle.std.proofs.Common.{◌-◌}
use Rattle.runs.specs.Intervals.{unite}
use Rattle.column.specs.Part.{listed_from, listed_in, merged, Short}
use Rattle.column.specs.Laws.Writing.{Writing}
use Rattle.column.proofs.rewrite.write_joined.Given as goal

abbrev pub invariant-loop-i : goal.invariant-loop-i
invariant-loop-i l =
    let p = l.column.part.now in
    record {
      short : Short l.carried;
      writing : Writing (unite l.fn.run.bottom l.fn.run.top (listed_in p l.column.count)) l.joined.bytes.now l.joined.count (merged l.carried.bottom l.carried.top (listed_from p l.i (l.column.count - l.i)));
    }
