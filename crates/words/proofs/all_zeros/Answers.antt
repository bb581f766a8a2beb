-- `words::all_zeros`: the bytes or-ed together (`ored_tells`). Assumes nothing.
use Rattle.std.proofs.Common.{rules}
use Rattle.std.specs.Int.Bits.{bit_or}
use Rattle.std.proofs.lemmas.Iterator.{YieldsList-from_slice}
use Rattle.std.proofs.lemmas.Iterator.Consumers.{fold_from_yields_List}
use Rattle.words.specs.Laws.Zeros.{ored_tells}
use Rattle.words.proofs.all_zeros.Goals as goal

pub returns : goal.returns
returns c =
    let p = c.args.s.now in
    rw (fold_from_yields_List _ bit_or _ _ c.fold.ensures.ran (YieldsList-from_slice p (cc)) (λ a x b q k. search rules)) (ored_tells p)
