-- Answers of `fragments::sweep::sweep`.
use Rattle.std.proofs.Common.{refl, ◌∙◌, arith, inl, inr}
use Rattle.fragments.specs.Laws.Sweep.{sweeping_start, sweeping_length, sweeping_left, sweeping_right, sweeping_end}
use Rattle.fragments.proofs.sweep.sweep.Goals as goal

pub loop-i-init : goal.loop-i-init
loop-i-init c = (refl, sweeping_start _ _)

pub meet-requires : goal.meet-requires
meet-requires c = let e = sweeping_length _ _ _ _ _ _ c.loop-i.invariant.1 in (omega (arith, e), omega (arith, e))

pub loop-i-preserved-then-x-y : goal.loop-i-preserved-then-x-y
loop-i-preserved-then-x-y c = (
  c.meet.ensures.same_reference ∙ c.loop-i.invariant.0,
  rw c.from-joins.ensures
      (sweeping_left _ _ _ _ _ _ c.loop-i.invariant.1 c.loop-i-test.true c.if-j-right.true _ _ c.interval.ensures.is c.interval-in-loop-i.ensures.is _ _ c.meet.ensures.joins c.if-x-y.true),
)

pub loop-i-preserved : goal.loop-i-preserved
loop-i-preserved c = (
  c.meet.ensures.same_reference ∙ c.loop-i.invariant.0,
  rw c.from-joins.ensures
      (sweeping_right _ _ _ _ _ _ c.loop-i.invariant.1 c.loop-i-test.true c.if-j-right.true _ _ c.interval.ensures.is c.interval-in-loop-i.ensures.is _ _ c.meet.ensures.joins c.if-x-y.false),
)

pub returns-else-j-right-clause-joins : goal.returns-else-j-right-clause-joins
returns-else-j-right-clause-joins c = sweeping_end _ _ _ _ _ _ c.loop-i.invariant.1 (inr c.if-j-right.false)

pub returns-after-loop-i-clause-joins : goal.returns-after-loop-i-clause-joins
returns-after-loop-i-clause-joins c = sweeping_end _ _ _ _ _ _ c.loop-i.invariant.1 (inl c.loop-i-test.false)

pub returns-else-j-right-clause-same_length : goal.returns-else-j-right-clause-same_length
returns-else-j-right-clause-same_length c = sweeping_length _ _ _ _ _ _ c.loop-i.invariant.1

pub returns-after-loop-i-clause-same_length : goal.returns-after-loop-i-clause-same_length
returns-after-loop-i-clause-same_length c = sweeping_length _ _ _ _ _ _ c.loop-i.invariant.1
