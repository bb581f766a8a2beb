-- `Range::meet_unequal` meets its contract, by `different_yes` and `different_no`. Assumes nothing.
use Rattle.std.proofs.Common.{◌≡◌, ◌+◌, ◌-◌, min, arith}
use Rattle.runs.specs.Laws.Meet.{different_no}
use Rattle.runs.proofs.Range.meet_unequal.Goals as goal

pub returns-in_err-first : goal.returns-in_err-first
returns-in_err-first c =
    let a = c.args.self in
    let b = c.args.other in
    let st = c.step_from-start.result in
    let l = c.lcm-step.result in
    let top : c.min-top.result ≡ min (min a.last b.last) (st + l - 1) = omega arith in
    rw c.from_residual.ensures (different_no a b c.requires.0 c.requires.1 st l (rw c.max.ensures at c.step_from-start.ensures) c.lcm-step.ensures (rw top at c.in_err-first.ensures))
