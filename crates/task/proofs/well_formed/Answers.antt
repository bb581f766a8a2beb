-- Answers of `task::well_formed`.
use Rattle.std.proofs.Common.{◌∙◌, rules}
use Rattle.model.specs.Tasks.{blocks}
use Rattle.task.specs.Laws.Blocks.{bad_block, tested}
use Rattle.task.specs.Laws.Tasks.{ill_block, ill_pair}
use Rattle.task.proofs.well_formed.Goals as goal

pub returns-in_default : goal.returns-in_default
unfolding blocks
returns-in_default c = ill_block _ _ c.loop-i-test.true (bad_block _ c.in_default.ensures)

pub returns-then-not-is_solid : goal.returns-then-not-is_solid
unfolding blocks
returns-then-not-is_solid c = ill_block _ _ c.loop-i-test.true (tested _ _ _ c.in-Some.ensures c.is_solid.ensures ∙ c.if-not-is_solid.true)

pub returns-then-is_some_and : goal.returns-then-is_some_and
unfolding blocks
returns-then-is_some_and c =
    ill_pair _ _ _ _ _ c.loop-i.invariant c.loop-i-test.true c.in-Some.ensures (λ a h. search rules) c.is_some_and.ensures c.if-is_some_and.true
