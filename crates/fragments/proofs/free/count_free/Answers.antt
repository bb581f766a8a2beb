-- `fragments::free::count_free`: the free cells of all columns (`total_spans`). Assumes nothing.
use Rattle.std.proofs.Common.{◌≡◌, ◌∙◌, length, arith, rules}
use Rattle.model.specs.Record.{device_of, book_of}
use Rattle.model.specs.Fragments.{free_cells}
use Rattle.fragments.specs.Free.{spans}
use Rattle.fragments.specs.OnBytes.{runs_of}
use Rattle.fragments.specs.Laws.Summed.{sum_fits, sum_is}
use Rattle.fragments.specs.Laws.Free.{total_spans, total_few}
use Rattle.fragments.proofs.free.count_free.Goals as goal

pub sum-requires-clause-fits : goal.sum-requires-clause-fits
sum-requires-clause-fits c =
    let given = c.args.record in
    sum_fits (λ k. spans (runs_of given.bytes.now k)) _ c.map.ensures.source c.map.ensures.closure (λ x y q k. search rules) _
    (omega (arith, total_spans _ given.sound _ c.columns.ensures.count, total_few _ given.sound))

pub returns : goal.returns
returns c =
    let given = c.args.record in
    let r = given.bytes.now in
    let e : c.sum.result ≡ length (free_cells (device_of r) (book_of r)) =
    sum_is (λ k. spans (runs_of r k)) _ c.map.ensures.source c.map.ensures.closure (λ x y q k. search rules) _ c.sum.ensures.ran
    ∙ total_spans _ given.sound _ c.columns.ensures.count in
    record { cells = e; few = omega (arith, total_few _ given.sound) }
