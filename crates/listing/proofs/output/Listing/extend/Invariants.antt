-- `listing::output::Listing::extend` meets its contract, one range after the other. Assumes nothing.
use Rattle.std.proofs.Common.{◌≡◌, ◌+◌}
use Rattle.listing.specs.Laws.Output.{Writing}
use Rattle.listing.proofs.output.Listing.extend.Given as goal

abbrev pub invariant-loop-run : goal.invariant-loop-run
invariant-loop-run l = record {
  bytes : Writing l.initial.self.output.now l.initial.self.count l.at.column l.at.step l.runs l.run-index l.self.output.now;
  count : l.self.count ≡ l.initial.self.count + l.run-index;
  same_output : l.self.output.ghost_name ≡ l.initial.self.output.ghost_name;
}
