-- Answers of `listing::output::Listing::extend`.
use Rattle.std.proofs.Common.{refl, sym, ◌∙◌, arith}
use Rattle.listing.specs.Laws.Output.{writing_start, writable, writing_next}
use Rattle.listing.proofs.output.Listing.extend.Goals as goal

pub loop-run-init : goal.loop-run-init
loop-run-init c = record { bytes = writing_start _ _ c.args.at.column c.args.at.step _ c.requires; count = omega arith; same_output = refl }

pub push-requires : goal.push-requires
push-requires c =
    let i = c.loop-run.invariant in
    rw i.count (writable _ _ c.args.at.column c.args.at.step _ c.requires _ c.run-item.result c.loop-run-test.true (sym c.run-item.is) _ i.bytes)

pub loop-run-preserved : goal.loop-run-preserved
loop-run-preserved c =
    let i = c.loop-run.invariant in
    record {
      bytes = writing_next _ _ c.args.at.column c.args.at.step _ c.requires _ c.run-item.result c.loop-run-test.true (sym c.run-item.is) _ _ i.bytes (rw i.count at c.push.ensures.bytes);
      count = omega (arith, i.count, c.push.ensures.count);
      same_output = c.push.ensures.same_output ∙ i.same_output;
    }
