-- `choice::tally::Place::home` meets its contract: what is found is the home, and the block ends inside it. Assumes nothing.
use Rattle.std.proofs.Common.{◌∙◌, arith}
use Rattle.choice.specs.Laws.Homes.{listed_apart, home_below, home_found, stands_housed}
use Rattle.choice.proofs.tally.Place.home.Goals as goal

pub search_start-requires : goal.search_start-requires
search_start-requires c =
    record { full = c.requires.full; canon = listed_apart _ c.args.record.sound _ c.requires _ _ c.column-column.ensures.part c.column-column.ensures.count }

pub interval-requires : goal.interval-requires
interval-requires c =
    let below = home_below _ c.args.record.sound _ c.requires _ _ c.column-column.ensures.part c.column-column.ensures.count _ (c.reaching-number.ensures ∙ c.search_start.ensures) in
    omega (arith, below, c.column-column.result.listed.few)

pub returns : goal.returns
returns c =
    let found = home_found _ c.args.record.sound _ c.requires _ _ c.column-column.ensures.part c.column-column.ensures.count _ (c.reaching-number.ensures ∙ c.search_start.ensures) _ c.interval.ensures in
    record { home = cc; housed = stands_housed _ c.args.record.sound _ c.requires _ found }
