-- `soundness::Marked::column_ok` meets its contract. Assumes nothing.
use Rattle.std.proofs.Math.Nat.{add-sub_cancel_left}
use Rattle.model.specs.Record.{part}
use Rattle.soundness.proofs.Marked.column_ok.Goals as goal

pub returns : goal.returns
unfolding part
returns c = let at = c.part_at.ensures in rw (at.start, at.end, add-sub_cancel_left, c.from.ensures, c.bits.ensures) at c.lists.ensures
