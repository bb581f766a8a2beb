-- `column::rewrite::rewrite`: it begins with a part of zeros, and copies what was written. Assumes nothing.
use Rattle.std.proofs.Common.{refl}
use Rattle.column.specs.Laws.Writing.{zeros}
use Rattle.column.proofs.rewrite.rewrite.Goals as goal

pub write-requires : goal.write-requires
write-requires g c = c.requires.writes _ _ refl refl zeros

pub returns : goal.returns
returns g c = record { column = _; draft = _; part_is = refl; count_is = refl; empty = zeros; left = _; called = c.write.ensures; leaves = c.copy_from_slice.ensures.after; answers = refl }
