-- `fragments::connected::total`: the counts of all columns (`total_base`). Assumes nothing.
use Rattle.std.proofs.Common.{◌≡◌, ◌∙◌, arith, rules}
use Rattle.model.specs.Columns.{columns}
use Rattle.model.specs.Record.{device_of}
use Rattle.model.specs.Sound.{count_of}
use Rattle.fragments.specs.Nodes.{base}
use Rattle.fragments.specs.OnBytes.{runs_of}
use Rattle.fragments.specs.Laws.Summed.{sum_fits, sum_is}
use Rattle.fragments.specs.Laws.OnBytes.{total_base, total_few}
use Rattle.fragments.proofs.connected.total.Goals as goal

pub sum-requires-clause-fits : goal.sum-requires-clause-fits
sum-requires-clause-fits c =
    let given = c.args.record in
    sum_fits (count_of given.bytes.now) _ c.map.ensures.source c.map.ensures.closure (λ x y q k. search rules) _
    (omega (arith, total_base _ given.sound _ c.columns.ensures.count, total_few _ given.sound))

pub returns : goal.returns
returns c =
    let given = c.args.record in
    let r = c.args.record.bytes.now in
    let e : c.sum.result ≡ base (runs_of r) (columns (device_of r)) =
    sum_is (count_of r) _ c.map.ensures.source c.map.ensures.closure (λ x y q k. search rules) _ c.sum.ensures.ran
    ∙ total_base _ given.sound _ c.columns.ensures.count in
    record { total = e; few = omega (arith, total_few _ given.sound) }
