-- `Buffer::push`: text behind text is text. Assumes nothing.
use Rattle.std.proofs.Common.{arith}
use Rattle.std.proofs.lemmas.Grind.{common_steps}
use Rattle.desk.specs.Laws.Buffer.{text_behind}
use Rattle.desk.proofs.buffer.Buffer.push.Goals as goal

pub returns-clause-text : goal.returns-clause-text
returns-clause-text c = text_behind _ _ _ (grind (arith, common_steps))
