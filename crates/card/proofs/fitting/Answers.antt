-- `fitting`: no natural number, or the test whether the task fits. Assumes nothing.
use Rattle.std.proofs.Common.{to_z-of_z, rules}
use Rattle.card.specs.Laws.Place.{fits_nowhere, fits_found}
use Rattle.card.proofs.fitting.Goals as goal

pub returns-in_err-ok : goal.returns-in_err-ok
returns-in_err-ok c =
    let whole = rw (to_z-of_z c.ranges.bottom) at c.try_from.ensures in
    rw c.from_residual.ensures (fits_nowhere _ _ _ _ _ c.try_from.result c.ranges.bottom whole (cc (c.ok.ensures.value, c.in_err-ok.was)))

pub returns : goal.returns
returns c = rw c.then_some.ensures (fits_found _ _ _ _ _ _ (search rules) (cc))
