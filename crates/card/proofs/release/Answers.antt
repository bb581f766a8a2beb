-- `release`: a refusal, or the record without the task. Assumes nothing.
use Rattle.model.specs.Calls.{lent}
use Rattle.card.specs.Laws.Answers.{leaves, leaves_refused}
use Rattle.card.specs.Laws.Release.{release_done}
use Rattle.card.proofs.release.Goals as goal

pub returns-in_err-check_release : goal.returns-in_err-check_release
unfolding lent
returns-in_err-check_release c = leaves_refused _ c.from_residual.result _ c.from_residual.ensures.1 c.in_err-check_release.ensures

pub returns : goal.returns
returns c = rw c.leave.ensures (leaves (release_done _ _ c.in_ok-check_release.ensures))
