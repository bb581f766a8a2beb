-- Answers of `listing::output::list`.
use Rattle.std.proofs.Common.{refl, ◌∙◌, arith, rules}
use Rattle.listing.specs.Laws.Column.{given_of}
use Rattle.listing.specs.Laws.Output.{written_none, all_writable, written_next, answer_none, answer_some}
use Rattle.listing.proofs.output.list.Goals as goal

pub loop-column-init : goal.loop-column-init
loop-column-init c = record { written = written_none _ _ (given_of c.args.record c.args.task) _ c.requires; same_output = refl }

pub extend-requires : goal.extend-requires
extend-requires c =
    all_writable _ _ (given_of c.args.record c.args.task) _ c.requires _ _ _ c.column_ranges-ranges.ensures.ranges c.column_ranges-ranges.ensures.few
    _ c.loop-column.invariant.written (omega arith)

pub loop-column-preserved : goal.loop-column-preserved
loop-column-preserved c = record {
  written =
      rw c.extend.ensures.count
      (written_next _ _ (given_of c.args.record c.args.task) _ c.requires _ _ _ c.column_ranges-ranges.ensures.ranges c.column_ranges-ranges.ensures.few
      _ c.loop-column.invariant.written (omega arith) _ c.step-step.ensures _ c.extend.ensures.bytes);
  same_output = c.extend.ensures.same_output ∙ c.loop-column.invariant.same_output;
}

pub returns-then-listing-eq0 : goal.returns-then-listing-eq0
returns-then-listing-eq0 c =
    answer_none _ _ (given_of c.args.record c.args.task) _ c.requires _ _ c.loop-column.listing.output.now _ (search rules) (omega arith) c.loop-column.invariant.written c.if-listing-eq0.true

pub returns : goal.returns
returns c =
    answer_some _ _ (given_of c.args.record c.args.task) _ c.requires _ _ c.loop-column.listing.output.now _ (search rules) (omega arith) c.loop-column.invariant.written c.if-listing-eq0.false
