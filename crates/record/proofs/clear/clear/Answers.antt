-- `record::clear::clear`: zeros, the head, and then one column after the other (`opened_none`, `opened_more`). Assumes nothing.
use Rattle.std.proofs.Common.{refl, arith, add-one}
use Rattle.model.specs.Columns.{columns, kind}
use Rattle.record.specs.Laws.Clear.{opened_none, opened_closed, opened_more, few_rows, few_kinds, small_kind}
use Rattle.record.proofs.clear.clear.Goals as goal

pub loop-c-init : goal.loop-c-init
unfolding columns
loop-c-init c = opened_none _ c.args.record.now _ _ (omega arith) (c.fill.ensures.after (λ y e. e)) c.put16.ensures

pub open_column-requires : goal.open_column-requires
unfolding columns kind
open_column-requires c =
    let q = few_kinds _ _ c.args.device.whole in
    (opened_closed _ _ _ c.loop-c.invariant (omega arith), few_rows _ _ c.args.device.whole, small_kind _ _ c.args.device.whole c.loop-c.c)

pub loop-c-preserved : goal.loop-c-preserved
unfolding columns kind
loop-c-preserved c =
    let q = few_kinds _ _ c.args.device.whole in
    rw (c.open_column.ensures, add-one) (opened_more _ _ _ c.loop-c.invariant (omega arith) _ refl (omega arith))
