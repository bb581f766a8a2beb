-- `interval_count`: the count byte of the column. Assumes nothing.
use native.Mathlib.Omega.{arith}
use Rattle.card.specs.Laws.Intervals.{count_told}
use Rattle.card.proofs.interval_count.Goals as goal

pub returns : goal.returns
returns c =
    let k = c.in_ok-listed.ensures in
    count_told _ _ k.sound k.on (λ i. omega (arith, c.type_inv.record i)) (omega (arith, k.count_is))
