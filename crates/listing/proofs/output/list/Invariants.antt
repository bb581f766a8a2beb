-- `listing::output::list` meets its contract: the ranges of the columns below the next are written, and counted. Assumes nothing.
use Rattle.std.proofs.Common.{◌≡◌}
use Rattle.listing.specs.Laws.Output.{Written}
use Rattle.listing.proofs.output.list.Given as goal

abbrev pub invariant-loop-column : goal.invariant-loop-column
invariant-loop-column l = record {
  written : Written l.record.bytes.now l.task.bytes.now l.fn.output l.column l.listing.count l.listing.output.now;
  same_output : l.listing.output.ghost_name ≡ l.initial.listing.output.ghost_name;
}
