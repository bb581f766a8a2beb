-- `view`: the part of the column. Assumes nothing.
use native.Mathlib.Omega.{arith}
use Rattle.card.specs.Laws.Intervals.{view_part}
use Rattle.card.proofs.view.Goals as goal

pub returns : goal.returns
returns c =
    let k = c.in-Ok.ensures in
    rw (k.count_is, k.part_is) (view_part _ _ k.sound k.on (λ i. omega (arith, c.type_inv.record i)))
