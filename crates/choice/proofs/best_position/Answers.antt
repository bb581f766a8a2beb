-- `choice::best_position` meets its contract. Assumes nothing.
use Rattle.std.proofs.Common.{arith}
use Rattle.listing.specs.Laws.Column.{given_of}
use Rattle.choice.specs.Laws.Columns.{best_none, chooses}
use Rattle.choice.proofs.best_position.Goals as goal

pub loop-column-init : goal.loop-column-init
loop-column-init c = best_none _ _ _

pub returns : goal.returns
returns c = chooses _ _ (given_of c.args.record c.args.task) _ _ (omega arith) c.loop-column.invariant
