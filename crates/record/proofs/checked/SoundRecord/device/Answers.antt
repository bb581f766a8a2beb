-- `record::checked::SoundRecord::device`: rows and kinds as the bytes say them (`device_said`). Assumes nothing.
use Rattle.std.proofs.Common.{◌∙◌, arith}
use Rattle.model.proofs.Laws.Sound.{sound_length, columns_said}
use Rattle.record.specs.Laws.Checked.{device_whole}
use Rattle.record.specs.Laws.Device.{device_said}
use Rattle.record.proofs.checked.SoundRecord.device.Goals as goal

pub invariant_of-result : goal.invariant_of-result
invariant_of-result c =
    let r = c.args.self.bytes.now in
    let k = c.columns-end.ensures.few in
    record { whole = rw (device_said r _ _ (sound_length r c.args.self.sound) c.get16.ensures.is (c.columns-end.ensures.count ∙ columns_said r) (omega arith)) (device_whole r c.args.self.sound) }

pub returns : goal.returns
returns c =
    let r = c.args.self.bytes.now in
    let k = c.columns-end.ensures.few in
    device_said r _ _ (sound_length r c.args.self.sound) c.get16.ensures.is (c.columns-end.ensures.count ∙ columns_said r) (omega arith)
