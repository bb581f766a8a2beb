-- `listing::run::push` meets its contract where the last run goes on. Assumes nothing.
use Rattle.std.proofs.Common.{◌∙◌, arith}
use Rattle.runs.specs.Runs.{run}
use Rattle.listing.specs.Laws.Lists.{longer}
use Rattle.listing.proofs.run.push.Goals as goal

pub returns-then-goes_on : goal.returns-then-goes_on
returns-then-goes_on c = record {
  runs = longer c.args.r.step (run c.args.r.first c.args.r.last) c.args.runs.now c.args.n (omega arith) (c.goes_on.ensures.0 c.if-goes_on.true) _ _ (c.end.view_is ∙ c.index-runs-last.is);
  few = c.requires.few;
}
