-- `column::Column::reaching`: it looks for the first from number `from` on. Assumes nothing.
use Rattle.std.proofs.Common.{◌∙◌, ◌+◌, ◌*◌, ◌≤◌, ◌<◌, rules, tests}
use Rattle.std.proofs.lemmas.Iterator.{first_from_Range}
use Rattle.model.specs.Limits.{interval_size}
use Rattle.model.specs.Tasks.{word}
use Rattle.column.specs.Laws.Reaching.{reaching_found}
use Rattle.column.proofs.Column.reaching.Goals as goal

pub returns : goal.returns
returns c =
    let p = c.args.self.part.now in
    let t = c.args.top in
    c.unwrap_or.ensures
    ∙ reaching_found p c.args.self.count c.args.from t _
    (first_from_Range _ _ _ _ (λ i. t ≤ word p (interval_size * i + 2)) (λ i. word p (interval_size * i + 2) < t) c.find.ensures.ran
    (λ x q k. search (rules, tests)) (λ x q k. search (rules, tests)))
