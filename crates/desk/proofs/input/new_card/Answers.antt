-- `new_card`: the device of a line, handed to new. Assumes nothing.
use Rattle.std.proofs.Common.{rules}
use Rattle.std.proofs.lemmas.Result.{err_from_is_err_and}
use Rattle.desk.specs.Laws.Input.{opened}
use Rattle.desk.proofs.input.new_card.Goals as goal

pub returns-in_err-new : goal.returns-in_err-new
returns-in_err-new c =
    let x = c.from_residual-in_err-new in
    let p = err_from_is_err_and x.result x.ensures.1 in
    rw (p.1, p.2) (rw c.in_err-new.was at (opened c.args.card.now (search rules) _ c.in_ok-device.device (rw c.in_ok-device.ensures.ok_part at c.device_line.ensures) c.new.result (rw c.as_slice.ensures.value at c.new.ensures)))

pub returns : goal.returns
returns c = rw c.in_ok-new.was at (opened c.args.card.now (search rules) _ c.in_ok-device.device (rw c.in_ok-device.ensures.ok_part at c.device_line.ensures) c.new.result (rw c.as_slice.ensures.value at c.new.ensures))
