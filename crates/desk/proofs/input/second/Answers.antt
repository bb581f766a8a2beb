-- `second`: no card, or the third line. Assumes nothing.
use Rattle.std.proofs.Common.{rules}
use Rattle.std.proofs.lemmas.Result.{err_from_is_err_and}
use Rattle.desk.specs.Laws.Input.{second_refused, second_opened}
use Rattle.desk.proofs.input.second.Goals as goal

pub returns-in_err-new_card : goal.returns-in_err-new_card
returns-in_err-new_card c =
    let x = c.from_residual-in_err-new_card in
    let p = err_from_is_err_and x.result x.ensures.1 in
    rw (p.1, p.2) (second_refused _ _ _ c.in_ok-device.ensures c.in_err-new_card.field-0.0 c.in_err-new_card.ensures)

pub returns : goal.returns
returns c = second_opened _ _ _ c.in_ok-device.ensures _ c.in_ok-new_card.ensures c.names.result c.names.ensures (λ l b h. rw (← h.2) (search rules))
