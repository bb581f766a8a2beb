-- `listing::columns::InColumn::meet_next` meets its contract, by `meetable` before the walk and `next_listed` after it. Assumes nothing.
use Rattle.task.specs.Blocks.{seen}
use Rattle.listing.specs.Laws.Column.{given_of, meetable, next_steps, next_listed}
use Rattle.listing.proofs.columns.InColumn.meet_next.Goals as goal

pub meet_block-requires : goal.meet_block-requires
meet_block-requires c =
    meetable _ _ _ _ _ _ (given_of c.args.self.record c.args.self.task) c.requires.next c.requires.on c.requires.listed _ c.block-b.ensures
    _ _ c.column-column.ensures.part c.column-column.ensures.count

pub lcm-requires : goal.lcm-requires
lcm-requires c = next_steps c.requires.listed (seen c.block-b.result).kind c.height.result c.height.ensures

pub returns : goal.returns
returns c =
    next_listed _ _ _ _ _ _ (given_of c.args.self.record c.args.self.task) c.requires.next c.requires.on c.requires.listed _ c.block-b.ensures
    _ _ c.column-column.ensures.part c.column-column.ensures.count _ _ _ c.meet_block.ensures c.height.ensures c.lcm.ensures
