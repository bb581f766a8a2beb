-- `record::checked::SoundRecord::block_fits`: on the grid of a column of its kind, the search decides (`held_seen`). Assumes nothing.
use Rattle.std.proofs.Common.{sym, ◌∙◌}
use Rattle.model.proofs.Laws.Bounded.{clash}
use Rattle.record.specs.Laws.Fits.{held_seen}
use Rattle.record.proofs.checked.SoundRecord.block_fits.Goals as goal
use Rattle.record.proofs.checked.SoundRecord.block_fits.Goals.{then-has_kind, else-has_kind}

pub returns-then-on_grid : goal.returns-then-on_grid
returns-then-on_grid c = elim c.if-has_kind.branch [
  | then-has_kind w ↦
      let (q, e) = c.has_kind.ensures.0 w.if-has_kind.true in
      let (a, g) = w.on_grid.ensures.0 (sym w.value-is ∙ c.if-on_grid.true) in
      held_seen _ _ _ _ _ _ _ _ c.args.task.well_formed c.requires.block c.block-block.ensures q e a g c.rows_at.ensures c.holds.ensures
  | else-has_kind w ↦ clash c.if-on_grid.true (w.value-is ∙ w.if-has_kind.false)
]
