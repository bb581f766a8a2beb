-- `soundness::Legible::read` meets its contract: what is not legible is no sound record. Assumes nothing.
use Rattle.marks.specs.Laws.Marks.{few_columns}
use Rattle.soundness.specs.Laws.Columns.{kinds_counted}
use Rattle.soundness.proofs.Legible.read.Goals as goal

pub invariant_of-result-clause-narrow : goal.invariant_of-result-clause-narrow
invariant_of-result-clause-narrow c = few_columns _ c.in_ok-device.device.whole

pub invariant_of-result-clause-counted : goal.invariant_of-result-clause-counted
invariant_of-result-clause-counted c = kinds_counted _ c.in_ok-device.ensures
