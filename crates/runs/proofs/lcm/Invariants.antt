-- `runs::lcm` meets its contract. The loop's invariant: `m` is a multiple of `a`, and no lower one is a multiple of `b` (`Sought`). The measure is what is left
-- up to `a * b`. Assumes nothing.
use Prim.Native.Nat.{◌*◌, ◌-◌}
use Rattle.runs.specs.Laws.Lcm.{Sought}
use Rattle.runs.proofs.lcm.Given as goal

abbrev pub invariant-loop-m : goal.invariant-loop-m
invariant-loop-m l = Sought l.a l.b l.m

abbrev pub decreases-loop-m : goal.decreases-loop-m
decreases-loop-m l = l.a * l.b - l.m
