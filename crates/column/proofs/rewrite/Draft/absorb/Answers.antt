-- `column::rewrite::Draft::absorb`, in each of its three cases. Assumes nothing.
use Rattle.column.specs.Laws.Writing.{absorbed_below, absorbed_above, absorbed_met}
use Rattle.column.proofs.rewrite.Draft.absorb.Goals as goal

pub returns-then-next-carried : goal.returns-then-next-carried
returns-then-next-carried c = absorbed_below _ _ c.if-next-carried.true c.push.ensures c.requires.carried_short

pub returns-then-carried-next : goal.returns-then-carried-next
returns-then-carried-next c = absorbed_above _ _ c.if-next-carried.false c.if-carried-next.true c.push-then-carried-next.ensures c.requires.next_short

pub returns : goal.returns
returns c =
    let q = c.requires in
    absorbed_met _ _ _ c.if-next-carried.false c.if-carried-next.false c.min.ensures c.max.ensures q.carried_short q.next_short
