-- Answers of `choice::Search::climb_column`.
use Rattle.model.proofs.Laws.Tasks.{sized_to}
use Rattle.choice.specs.Laws.Columns.{passed_none, range_read, range_fits, passed_next}
use Rattle.choice.proofs.Search.climb_column.Goals as goal

pub loop-run-init : goal.loop-run-init
loop-run-init c = let t = c.args.self.task in passed_none _ _ _ t.well_formed (sized_to _ t.sized).some_blocks _ _

pub climb_range-best-requires : goal.climb_range-best-requires
climb_range-best-requires c =
    let t = c.args.self.task in
    let some = (sized_to _ t.sized).some_blocks in
    let ranges = c.column_ranges-ranges.ensures.ranges in
    let read = range_read _ _ _ t.well_formed some _ _ _ _ ranges c.loop-run-test.true c.run-item.is in
    range_fits _ _ _ t.well_formed some _ _ _ (rw ranges at c.loop-run-test.true) read _ _ c.in_steps.ensures c.args.self.step_is

pub loop-run-preserved : goal.loop-run-preserved
loop-run-preserved c =
    let t = c.args.self.task in
    let some = (sized_to _ t.sized).some_blocks in
    let ranges = c.column_ranges-ranges.ensures.ranges in
    let read = range_read _ _ _ t.well_formed some _ _ _ _ ranges c.loop-run-test.true c.run-item.is in
    passed_next _ _ _ t.well_formed some _ _ _ (rw ranges at c.loop-run-test.true) read _ _ c.in_steps.ensures _ _ _ c.loop-run.invariant c.climb_range-best.ensures
