-- `fragments::free::free_in`: the half rows of one interval after the other (`listed_spans`). Assumes nothing.
use Rattle.std.proofs.Common.{◌≡◌, ◌∙◌, arith, rules}
use Rattle.std.proofs.lemmas.Iterator.{serves_from_Range}
use Rattle.column.specs.Part.{interval_at}
use Rattle.fragments.specs.Free.{span}
use Rattle.fragments.specs.Laws.Summed.{sum_fits, sum_is}
use Rattle.fragments.specs.Laws.Free.{ordered, read_span, listed_spans}
use Rattle.fragments.proofs.free.free_in.Goals as goal

pub sum-requires-clause-can : goal.sum-requires-clause-can
sum-requires-clause-can c =
    let n = c.args.column.count in
    let e : c.map.result.iter.end ≡ n = cc in
    (tt, serves_from_Range (λ x q k. search rules) (λ x low high. let o = ordered _ n c.requires.apart x (omega arith) in search rules))

pub sum-requires-clause-fits : goal.sum-requires-clause-fits
sum-requires-clause-fits c =
    let p = c.args.column.part.now in
    sum_fits (λ i. span (interval_at p i)) _ c.map.ensures.source c.map.ensures.closure (λ x y q k. search (rules, read_span)) _
    (omega (arith, listed_spans p c.args.column.count, c.requires.few))

pub returns : goal.returns
returns c =
    let p = c.args.column.part.now in
    sum_is (λ i. span (interval_at p i)) _ c.map.ensures.source c.map.ensures.closure (λ x y q k. search (rules, read_span)) _ c.sum.ensures.ran
    ∙ listed_spans p c.args.column.count
