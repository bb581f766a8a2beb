-- `cells::count` meets its contract. Assumes nothing.
use Rattle.std.proofs.Common.{◌∙◌, arith, rules}
use Rattle.std.specs.Int.Count.{ones}
use Rattle.std.proofs.lemmas.Iterator.{YieldsList-from_slice, YieldsList-from_map}
use Rattle.std.proofs.lemmas.Iterator.Consumers.{sum_by_from_yields_List}
use Rattle.cells.specs.Laws.Count.{count_words}
use Rattle.cells.proofs.count.Goals as goal

pub returns : goal.returns
returns c =
    let ws = c.args.words.now in
    sum_by_from_yields_List ones ws _ _ c.sum.ensures.ran (YieldsList-from_map _ ones (YieldsList-from_slice ws (cc)) c.map.ensures.closure (λ x r q k. search rules))
    ∙ count_words ws (λ k. omega (arith, c.type_inv.words k))
