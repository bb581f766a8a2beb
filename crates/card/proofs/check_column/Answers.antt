-- `check_column`: −3. Assumes nothing.
use Rattle.card.specs.Laws.Intervals.{count_none}
use Rattle.card.proofs.check_column.Goals as goal

pub returns-else-column-columns : goal.returns-else-column-columns
returns-else-column-columns c =
    let k = c.in_ok-record in
    count_none _ _ (rw k.ensures at k.record.sound) (rw (c.columns.ensures.count, k.ensures) at c.if-column-columns.false)
