-- `LentDesk::on_line`: a line's call, or a malformed line. Assumes nothing.
use Rattle.desk.specs.Laws.Lines.{leaves_called, leaves_malformed}
use Rattle.desk.proofs.LentDesk.on_line.Goals as goal

pub returns-in-Some-clause-leaves : goal.returns-in-Some-clause-leaves
returns-in-Some-clause-leaves c = leaves_called _ c.args.self.now.is_card _ _ _ c.in-Some.ensures c.on_call.ensures.leaves

pub returns-in-None-clause-leaves : goal.returns-in-None-clause-leaves
returns-in-None-clause-leaves c = rw (c.say_fault.ensures.printed, c.clear.ensures.empty) (leaves_malformed _ c.args.self.now.is_card _ _ _ c.in-None.ensures)
