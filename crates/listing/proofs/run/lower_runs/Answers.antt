use Rattle.std.proofs.Common.{arith}
use Rattle.std.proofs.lemmas.List.Edits.{map_over_more}
use Rattle.runs.specs.Runs.{run}
use Rattle.listing.specs.Bottoms.{lowered}
use Rattle.listing.proofs.run.lower_runs.Goals as goal

pub loop-run-preserved : goal.loop-run-preserved
loop-run-preserved c =
    map_over_more lowered c.args.runs.now c.loop-run.runs c.loop-run.run-index (run c.run.inside.first c.run.inside.last) (omega arith) c.loop-run.invariant cc
