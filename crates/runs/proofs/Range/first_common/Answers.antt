-- `Range::first_common`: the numbers from `start` on, one after the other (`found_common`). Assumes nothing.
use Rattle.std.proofs.Common.{rules, tests}
use Rattle.runs.specs.Laws.Stepped.{found_common}
use Rattle.runs.proofs.Range.first_common.Goals as goal

pub returns : goal.returns
returns c =
    let p = c.requires in
    let other = c.args.other in
    found_common _ c.args.start c.args.self.step other.first other.step c.args.top p.0 p.1 p.2 p.4 (λ x q k. search (rules, tests)) (λ x q k. search (rules, tests))
    _ _ _ c.step_by.ensures.step_minus_one c.step_by.ensures.first_take c.step_by.ensures.source p.3 c.find.ensures.ran
