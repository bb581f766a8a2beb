-- `soundness::Legible::mark_entries` meets its contract. The invariant: the tasks passed are marked. Assumes nothing.
use Rattle.soundness.specs.Soundness.{TasksHeld}
use Rattle.soundness.proofs.Legible.mark_entries.Given as goal

abbrev pub invariant-loop-j : goal.invariant-loop-j
invariant-loop-j l = TasksHeld l.self.bytes.now l.held.words l.j
