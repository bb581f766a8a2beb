-- `print_ranges`: the lines of the ranges so far are printed. Assumes nothing.
use Rattle.std.proofs.Common.{◌≡◌, ◌+◌, ◌*◌, ◌≤◌, ◌++◌, pos, map, take}
use Rattle.model.specs.Program.{shows}
use Rattle.line.specs.Print.{line_room}
use Rattle.desk.specs.Buffer.{filled, IsText, SameLent}
use Rattle.desk.specs.Desk.{range_of}
use Rattle.desk.proofs.ranges.print_ranges.Given as goal

abbrev pub invariant-loop-range : goal.invariant-loop-range
invariant-loop-range l = record {
  printed : filled l.out ≡ filled l.initial.out ++ shows l.number (pos l.count) (map range_of (take l.range-index l.range-items));
  fits : l.out.len ≤ l.initial.out.len + line_room * l.range-index;
  text : IsText l.initial.out → IsText l.out;
  same_lent : SameLent l.initial.out l.out;
}
