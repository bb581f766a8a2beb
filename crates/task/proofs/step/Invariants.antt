-- `task::step`: what kinds the blocks below i have. Assumes nothing.
use Rattle.std.proofs.Common.{◌≡◌, not, eqb}
use Rattle.model.specs.Bounded.{any_below}
use Rattle.model.specs.Columns.{kind_C}
use Rattle.model.specs.Tasks.{block}
use Rattle.task.proofs.step.Given as goal

abbrev pub invariant-loop-i : goal.invariant-loop-i
invariant-loop-i l = record {
  logic : l.logic ≡ any_below l.i (λ k. eqb (block l.task k).kind kind_C);
  other : l.other ≡ any_below l.i (λ k. not (eqb (block l.task k).kind kind_C));
}
