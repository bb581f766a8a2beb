-- `Forest::set_apart` meets its contract. The loop's invariant: those passed are alone. Assumes nothing.
use Rattle.std.proofs.Common.{◌≡◌, length}
use Rattle.sets.specs.Forest.{Alone}
use Rattle.sets.proofs.Forest.set_apart.Given as goal

abbrev pub invariant-loop-i : goal.invariant-loop-i
invariant-loop-i l = (l.self.parents.ghost_name ≡ l.initial.self.parents.ghost_name) × (length l.self.parents.now ≡ length l.initial.self.parents.now) × Alone l.i l.self.parents.now
