-- `list`: a refusal of the task, −6, −9, or the ranges and their number. Assumes nothing.
use native.Mathlib.Omega.{arith}
use Rattle.std.proofs.Common.{refl}
use Rattle.model.specs.Calls.{list, lent}
use Rattle.card.specs.Laws.Answers.{leaves_refused}
use Rattle.card.specs.Laws.Checks.{given}
use Rattle.card.specs.Laws.Positions.{list_short, listed, list_answers}
use Rattle.card.proofs.list.Goals as goal

pub returns-in_err-record : goal.returns-in_err-record
unfolding lent
returns-in_err-record c = leaves_refused _ c.from_residual.result _ c.from_residual.ensures.1 (c.in_err-record.ensures (list _ _) refl)

pub returns-then-output-lt-LIST_ROOM : goal.returns-then-output-lt-LIST_ROOM
returns-then-output-lt-LIST_ROOM c =
    let k = c.in_ok-record in
    list_short _ _ _ (given k.record k.task k.ensures) (λ i. omega (arith, c.type_inv.record i)) c.if-output-lt-LIST_ROOM.true

pub returns : goal.returns
returns c =
    let k = c.in_ok-record in
    list_answers _ _ _ (given k.record k.task k.ensures) _ _ (rw (k.ensures.0, k.ensures.1) at c.list.ensures) (λ i. omega (arith, c.type_inv.record i)) (listed _ _ c.ok_or.ensures.value)
