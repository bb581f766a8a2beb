-- Answers of `choice::Search::climb_range`.
use Rattle.model.proofs.Laws.Tasks.{sized_to}
use Rattle.choice.specs.Laws.Climbs.{climbing_next, climbing_done}
use Rattle.choice.proofs.Search.climb_range.Goals as goal

pub loop-bottom-preserved : goal.loop-bottom-preserved
loop-bottom-preserved c =
    let t = c.args.self.task in
    climbing_next _ _ _ t.well_formed (sized_to _ t.sized).some_blocks _ _ c.requires _ _ _ _ _ _
    c.loop-bottom-test.true c.score_at-rating.ensures c.rise-bottom.ensures c.or_best-best.ensures c.loop-bottom.invariant

pub returns : goal.returns
returns c =
    let t = c.args.self.task in
    climbing_done _ _ _ t.well_formed (sized_to _ t.sized).some_blocks _ _ c.requires _ _ _ c.loop-bottom-test.false c.loop-bottom.invariant
