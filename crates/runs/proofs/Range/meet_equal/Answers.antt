-- `Range::meet_equal` meets its contract, by `equal_yes` and `equal_no`. Assumes nothing.
use Rattle.std.proofs.Common.{◌≡◌, ◌-◌, ◌%◌, min, max, arith}
use Rattle.runs.specs.Laws.Steps.{mod_steps}
use Rattle.runs.specs.Laws.Meet.{equal_yes, equal_no}
use Rattle.runs.proofs.Range.meet_equal.Goals as goal
use Rattle.runs.proofs.Range.meet_equal.Goals.{else-apart-ne0-via-then-apart-ne0+else-apart-self-ne0, else-apart-ne0-via-else-apart-ne0}

pub returns-then-apart-self-ne0 : goal.returns-then-apart-self-ne0
returns-then-apart-self-ne0 c =
    let a = c.args.self in
    let b = c.args.other in
    let p = c.requires in
    let apart : max a.first b.first - min a.first b.first ≡ c.abs_diff-apart.result = omega arith in
    equal_no a b p.0 p.1 p.2 (λ m. c.if-apart-self-ne0.true (rw apart at m))

pub returns : goal.returns
returns c =
    let a = c.args.self in
    let b = c.args.other in
    let p = c.requires in
    let apart : max a.first b.first - min a.first b.first ≡ c.abs_diff-apart.result = omega arith in
    let alike : (max a.first b.first - min a.first b.first) % a.step ≡ 0 = elim c.else-apart-ne0.branch [
      | else-apart-ne0-via-then-apart-ne0+else-apart-self-ne0 w ↦ rw apart w.if-apart-self-ne0.false
      | else-apart-ne0-via-else-apart-ne0 w ↦ mod_steps a.step (min a.first b.first) (max a.first b.first) (0, omega (arith, w.if-apart-ne0.false))
    ] in
    rw (c.max.ensures, c.min.ensures) (equal_yes a b p.0 p.1 p.2 alike p.3 p.4)
