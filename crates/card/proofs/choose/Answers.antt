-- `choose`: a refusal of the task, −9, or the best position. Assumes nothing.
use native.Mathlib.Omega.{arith}
use Rattle.std.specs.Prelude.{pos}
use Rattle.std.proofs.Common.{refl, ap, ◌∙◌}
use Rattle.model.specs.Calls.{choose, lent}
use Rattle.choice.specs.Choosing.{answer_of}
use Rattle.card.specs.Laws.Answers.{leaves_refused}
use Rattle.card.specs.Laws.Checks.{given}
use Rattle.card.specs.Laws.Positions.{choose_answers}
use Rattle.card.proofs.choose.Goals as goal

pub returns-in_err-record-clause-chosen : goal.returns-in_err-record-clause-chosen
unfolding lent
returns-in_err-record-clause-chosen c = leaves_refused _ c.from_residual.result _ c.from_residual.ensures.1 (c.in_err-record.ensures (choose _) refl)

pub returns-in_default-clause-chosen : goal.returns-in_default-clause-chosen
returns-in_default-clause-chosen c =
    let k = c.in_ok-record in
    choose_answers _ _ (given k.record k.task k.ensures) _ (rw (k.ensures.0, k.ensures.1) at c.best_position.ensures) (λ i. omega (arith, c.type_inv.record i)) (ap answer_of c.in_default.is)

pub returns-clause-chosen : goal.returns-clause-chosen
returns-clause-chosen c =
    let k = c.in_ok-record in
    choose_answers _ _ (given k.record k.task k.ensures) _ (rw (k.ensures.0, k.ensures.1) at c.best_position.ensures) (λ i. omega (arith, c.type_inv.record i)) (ap answer_of c.in-Some.is ∙ ap pos (omega arith))
