-- `fragments::sweep::meet`: an edge that is not there, or one that brings two sets together or is within a set. Assumes nothing.
use Rattle.std.proofs.Common.{sym, ◌∙◌}
use Rattle.fragments.specs.Laws.Sweep.{joins_none, joins_one}
use Rattle.fragments.proofs.sweep.meet.Goals as goal

pub returns-then-shares-clause-joins : goal.returns-then-shares-clause-joins
returns-then-shares-clause-joins c =
    let united = c.unite.ensures in
    joins_one _ _ _ _ _ _ (sym c.shares.ensures ∙ c.if-shares.true) united.united.0 united.united.1

pub returns-else-shares-clause-joins : goal.returns-else-shares-clause-joins
returns-else-shares-clause-joins c = joins_none _ _ _ _ (sym c.shares.ensures) c.if-shares.false
