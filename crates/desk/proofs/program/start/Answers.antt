-- `start`: nothing follows a line at fault. Assumes nothing.
use Rattle.desk.proofs.program.start.Goals as goal

pub returns-in_default-clause-starts : goal.returns-in_default-clause-starts
returns-in_default-clause-starts g c = rw (c.put.ensures, c.as_slice.ensures) c.in_default.ensures.starts
