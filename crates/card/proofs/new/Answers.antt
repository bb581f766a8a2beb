-- `new`: −1, −3, or the record of the device with all cells free. Assumes nothing.
use Rattle.model.proofs.Laws.OnRecord.{new_wrong_length, new_bad_device, new_done}
use Rattle.card.specs.Laws.Answers.{leaves}
use Rattle.card.proofs.new.Goals as goal

pub returns-in_default : goal.returns-in_default
returns-in_default c = leaves (new_wrong_length _ _ _ (rw c.in_default.is at c.as_mut_array.ensures.cases))

pub returns-in_default-new : goal.returns-in_default-new
returns-in_default-new c =
    let k = rw c.in-Some.is at c.as_mut_array.ensures.cases in
    rw k.same (leaves (new_bad_device _ _ _ k.long c.in_default-new.ensures))

pub returns : goal.returns
returns c =
    let k = rw c.in-Some.is at c.as_mut_array.ensures.cases in
    let d = c.in-Some-new in
    rw (c.clear.ensures, d.ensures) (leaves (new_done _ _ _ k.long (rw d.ensures at d.device.whole)))
