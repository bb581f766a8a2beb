-- `check_record`: −1, −2, or a sound record. Assumes nothing.
use Rattle.card.specs.Laws.Checks.{exits, record_refused}
use Rattle.card.proofs.check_record.Goals as goal

pub returns-in_err-read : goal.returns-in_err-read
returns-in_err-read c =
    let e = c.in_err-read.ensures in
    exits _ _ c.from_residual.result _ c.from_residual.ensures.1 (record_refused _ _ e.length e.not_sound)
