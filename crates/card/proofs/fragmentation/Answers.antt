-- `fragmentation`: the three numbers. Assumes nothing.
use Rattle.card.specs.Laws.Fragments.{fragmentation_told}
use Rattle.card.proofs.fragmentation.Goals as goal

pub returns-clause-tells : goal.returns-clause-tells
returns-clause-tells c =
    let k = c.in_ok-record in
    rw (← k.ensures) (fragmentation_told _ k.record.sound _ _ _ c.count_sets-sets.ensures.sets c.count_free-free.ensures.cells c.degree_of.ensures.degree)
