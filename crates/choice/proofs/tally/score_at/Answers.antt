-- Answers of `choice::tally::score_at`.
use mathlib.Core.Path.{refl}
use Rattle.model.proofs.Laws.Tasks.{sized_to}
use Rattle.listing.specs.Laws.Column.{given_of, some_blocks}
use Rattle.choice.specs.Laws.Homes.{on_device}
use Rattle.choice.specs.Laws.Scores.{block_stands, block_addable, scoring_first, next_shared, block_next, scored}
use Rattle.choice.proofs.tally.score_at.Goals as goal

pub new-requires : goal.new-requires
new-requires c = let a = given_of c.args.record c.args.task in on_device _ _ a _ _ _ c.requires (some_blocks _ _ a) _ c.extent.ensures

pub new-tally-requires : goal.new-tally-requires
new-tally-requires c = let a = given_of c.args.record c.args.task in block_stands _ _ a _ _ _ c.requires (some_blocks _ _ a) _ c.extent.ensures _ c.new.ensures

pub loop-k-init : goal.loop-k-init
loop-k-init c =
    let a = given_of c.args.record c.args.task in
    let first = c.new-tally.ensures in
    scoring_first _ _ a _ _ _ c.requires (some_blocks _ _ a) _ c.extent.ensures _ c.new.ensures refl _ first.rating first.last

pub new-requires-in-loop-k : goal.new-requires-in-loop-k
new-requires-in-loop-k c =
    let l = rw c.count-k-end.ensures.count at c.loop-k-test.true in
    on_device _ _ (given_of c.args.record c.args.task) _ _ _ c.requires l _ c.extent-in-loop-k.ensures

pub add_block-requires : goal.add_block-requires
add_block-requires c =
    let a = given_of c.args.record c.args.task in
    let l = rw c.count-k-end.ensures.count at c.loop-k-test.true in
    let scoring = c.loop-k.invariant in
    record {
      addable = block_addable _ _ a _ _ _ c.requires l _ c.extent-in-loop-k.ensures _ c.new-in-loop-k.ensures _ scoring.rated;
      home_is = next_shared _ _ a _ _ _ c.requires l _ c.extent-in-loop-k.ensures _ c.new-in-loop-k.ensures c.loop-k.auto.k _ scoring;
    }

pub loop-k-preserved : goal.loop-k-preserved
loop-k-preserved c =
    let l = rw c.count-k-end.ensures.count at c.loop-k-test.true in
    let added = c.add_block.ensures in
    block_next _ _ (given_of c.args.record c.args.task) _ _ _ c.requires l _ c.extent-in-loop-k.ensures _ c.new-in-loop-k.ensures
    c.loop-k.auto.k _ c.loop-k.invariant _ added.rating added.last

pub returns : goal.returns
returns c =
    scored _ _ _ _ _ _ _ c.args.task.well_formed (sized_to _ c.args.task.sized).few c.requires (rw c.count-k-end.ensures.count at c.loop-k-test.false) c.loop-k.invariant.rated
