-- `listing::walk::meet_in` meets its contract: the walk along two lists, by the laws of Laws/Walk. Assumes nothing.
use Rattle.std.proofs.Common.{◌+◌, ◌-◌, ◌≤◌, length, take}
use Rattle.task.specs.Blocks.{seen}
use Rattle.column.specs.Part.{listed_in}
use Rattle.listing.specs.Lists.{max_runs}
use Rattle.listing.specs.Laws.Walk.{Walking}
use Rattle.listing.proofs.walk.meet_in.Given as goal

-- where the walk is at run i and interval j
abbrev pub invariant-loop-i : goal.invariant-loop-i
invariant-loop-i l = record {
  walking : Walking (listed_in l.column.part.now l.column.count) (seen l.b) l.step l.list l.i l.j (take l.n l.met);
  few : l.n ≤ max_runs;
}

abbrev pub decreases-loop-i : goal.decreases-loop-i
decreases-loop-i l = (length l.list - l.i) + (l.column.count - l.j)
