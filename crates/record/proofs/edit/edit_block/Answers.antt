-- `record::edit::edit_block`: the part is lent out of the record's middle. Assumes nothing.
use Rattle.std.proofs.Common.{refl, arith}
use native.Mathlib.Nat.{add-sub_cancel_left}
use Rattle.model.specs.Record.{part}
use Rattle.model.specs.Parts.{splice}
use Rattle.record.proofs.edit.edit_block.Goals as goal

pub edit-left-requires : goal.edit-left-requires
unfolding part
edit-left-requires g c = rw (c.from-count.ensures, c.rows_at.ensures) (c.requires.edits _ (rw (c.part_at.ensures.end, c.part_at.ensures.start, add-sub_cancel_left)))

pub overflow_cast-record : goal.overflow_cast-record
unfolding part
overflow_cast-record g c = let l = c.requires.few _ _ (record { shown = _; shows = rw (c.part_at.ensures.end, c.part_at.ensures.start, add-sub_cancel_left); left = _; called = rw (c.from-count.ensures, c.rows_at.ensures) at c.edit-left.ensures; leaves = refl }) in omega arith

pub returns : goal.returns
unfolding part splice
returns g c = (_, _, record { shown = _; shows = rw (c.part_at.ensures.end, c.part_at.ensures.start, add-sub_cancel_left); left = _; called = rw (c.from-count.ensures, c.rows_at.ensures) at c.edit-left.ensures; leaves = refl }, rw (c.part_at.ensures.end, c.part_at.ensures.start, add-sub_cancel_left))
