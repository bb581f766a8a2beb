-- `place`: a refusal, or the record with the task entered. Assumes nothing.
use Rattle.std.proofs.Common.{to_z-of_z}
use Rattle.model.specs.Calls.{lent}
use Rattle.card.specs.Laws.Answers.{leaves, leaves_refused}
use Rattle.card.specs.Laws.Place.{place_done}
use Rattle.card.proofs.place.Goals as goal

pub returns-in_err-new : goal.returns-in_err-new
unfolding lent
returns-in_err-new c = leaves_refused _ c.from_residual.result _ c.from_residual.ensures.1 (rw (to_z-of_z c.ranges.bottom) at c.in_err-new.ensures)

pub returns : goal.returns
returns c = rw c.enter.ensures (leaves (place_done _ _ _ _ _ _ (rw (to_z-of_z c.ranges.bottom) at c.in_ok-new.ensures)))
