-- `choice::tally::Place::search_start`: below an interval that begins at the block's bottom or below it, all end below the block. Assumes nothing.
use Rattle.column.specs.Laws.Reaching.{reaching_first}
use Rattle.choice.proofs.tally.Place.search_start.Goals as goal

pub returns-then-interval-self : goal.returns-then-interval-self
returns-then-interval-self c =
    reaching_first _ _ _ _ c.requires.full c.requires.canon _ _ c.if-near-column.true c.interval.ensures c.if-interval-self.true
