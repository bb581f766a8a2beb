-- `start_in`: the fourth line, or no line after the first three. Assumes nothing.
use Rattle.std.proofs.Common.{◌∙◌}
use Rattle.desk.specs.Laws.Program.{started}
use Rattle.desk.proofs.program.start_in.Goals as goal

pub returns-in-Ok-clause-starts : goal.returns-in-Ok-clause-starts
returns-in-Ok-clause-starts c =
    let x = c.in-Ok.ensures in
    started _ _ _ _ x.0 x.2 (rw (c.push.ensures.bytes, c.clear.ensures.empty) (c.as_bytes.ensures.value ∙ c.names.ensures)) c.at.result c.at.ensures
