-- `sheet::run` ends: each turn leaves one line less. What the turns are lent has room for them. Assumes nothing.
use Rattle.std.proofs.Common.{◌≡◌, ◌≤◌, length}
use Rattle.model.specs.Limits.{list_room}
use Rattle.desk.specs.Buffer.{room}
use Rattle.desk.specs.Desk.{output_room}
use Rattle.desk.specs.Run.{left_in}
use Rattle.sheet.proofs.run.Given as goal

abbrev pub invariant-loop-stand : goal.invariant-loop-stand
invariant-loop-stand g l = (length l.listing ≡ list_room) × (output_room ≤ room l.out)

abbrev pub decreases-loop-stand : goal.decreases-loop-stand
decreases-loop-stand g l = length (left_in l.stand)
