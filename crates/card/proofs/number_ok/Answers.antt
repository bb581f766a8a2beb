-- `number_ok`: its two tests. Assumes nothing.
use Rattle.card.specs.Laws.Answers.{number_zero, number_some}
use Rattle.card.proofs.number_ok.Goals as goal

pub returns-then-number-ge1 : goal.returns-then-number-ge1
returns-then-number-ge1 c = number_some _ c.if-number-ge1.true

pub returns-else-number-ge1 : goal.returns-else-number-ge1
returns-else-number-ge1 c = number_zero _ c.if-number-ge1.false
