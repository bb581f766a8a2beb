-- Answers of `runs::lcm`.
use Rattle.runs.specs.Laws.Lcm.{lcm_done}
use Rattle.runs.proofs.lcm.Goals as goal

pub returns : goal.returns
returns c = lcm_done c.args.a c.args.b c.loop-m.m c.requires.0.0 c.loop-m.invariant c.requires.1.0 c.loop-m-test.false
