-- `listing::run::lower_runs` meets its contract, one run after the other. Assumes nothing.
use Rattle.std.proofs.Common.{◌≡◌, ◌++◌, map, take, drop}
use Rattle.listing.specs.Bottoms.{lowered}
use Rattle.listing.proofs.run.lower_runs.Given as goal

abbrev pub invariant-loop-run : goal.invariant-loop-run
invariant-loop-run l = l.runs ≡ map lowered (take l.run-index l.initial.runs) ++ drop l.run-index l.initial.runs
