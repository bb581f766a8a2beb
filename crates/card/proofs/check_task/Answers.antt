-- `check_task`: −4 and −5. Assumes nothing.
use native.Mathlib.Omega.{arith}
use Rattle.card.specs.Laws.Checks.{exits, task_refused}
use Rattle.card.proofs.check_task.Goals as goal

pub returns-in_err-read : goal.returns-in_err-read
returns-in_err-read c =
    let e = c.in_err-read.ensures in
    let r = c.in_ok-check_record in
    let x = c.from_residual-in_err-read in
    exits _ _ x.result _ x.ensures.1 (task_refused _ _ _ (λ i. omega (arith, c.type_inv.record i)) (rw r.ensures at r.field-0.sound) e.length e.form)
