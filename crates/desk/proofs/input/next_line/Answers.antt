-- `next_line`: the line ends before the next newline. Assumes nothing.
use Rattle.std.proofs.Common.{rules, tests, eqb, arith, ◌∙◌}
use Rattle.std.proofs.lemmas.Bool.Decides.{nat_tests}
use Rattle.std.proofs.lemmas.Iterator.{YieldsList-from_slice}
use Rattle.std.proofs.lemmas.Iterator.Search.{position_from_yields_List}
use Rattle.desk.specs.Laws.Input.{found_end, parts}
use Rattle.desk.proofs.input.next_line.Goals as goal

pub returns : goal.returns
returns c =
    let found = position_from_yields_List (λ x. eqb x 10) _ _ c.position.result c.position.ensures.ran (YieldsList-from_slice _ c.iter.ensures.rest) (λ x b q k. search (rules, tests)) in
    parts _ _ _ (grind (arith, nat_tests)) (c.unwrap_or-end.ensures ∙ found_end c.args.input.now found) c.min-next.ensures
