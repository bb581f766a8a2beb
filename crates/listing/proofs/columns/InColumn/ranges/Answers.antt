-- `listing::columns::InColumn::ranges` meets its contract: lifted bottoms can be lowered; that these are the model's ranges, its tactics find. Assumes nothing.
use Rattle.listing.specs.Laws.Column.{all_lifted}
use Rattle.listing.proofs.columns.InColumn.ranges.Goals as goal

pub lower-requires : goal.lower-requires
lower-requires c = all_lifted _ _ _ _ c.lifted_bottoms-ranges.ensures
