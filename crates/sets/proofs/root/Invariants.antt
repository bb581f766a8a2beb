-- `root` meets its contract. The loop's invariant: the node reached has the root of the node asked for. Assumes nothing.
use Rattle.std.proofs.Common.{◌≡◌, ◌≤◌}
use Rattle.sets.specs.Forest.{root as root_of}
use Rattle.sets.proofs.root.Given as goal

abbrev pub invariant-loop-i : goal.invariant-loop-i
invariant-loop-i l = (l.i ≤ l.node) × (root_of l.parents l.i ≡ root_of l.parents l.node)

abbrev pub decreases-loop-i : goal.decreases-loop-i
decreases-loop-i l = l.i
