-- `column::Column::holder`: it reads one interval after the other. Assumes nothing.
use Rattle.std.proofs.Common.{◌∙◌, ◌&&◌, leb, sym, rules, tests, arith}
use Rattle.std.proofs.lemmas.Iterator.{YieldsList-from_range, YieldsList-from_map}
use Rattle.std.proofs.lemmas.Iterator.Adapters.{option_map_id}
use Rattle.std.proofs.lemmas.Iterator.Search.{find_from_yields_List}
use Rattle.column.specs.Laws.Held.{read_at, read_is, found_held}
use Rattle.column.proofs.Column.holder.Goals as goal

pub returns : goal.returns
returns c =
    let p = c.args.self.part.now in
    let n = c.args.self.count in
    let run = c.args.run in
    sym (option_map_id c.find.result)
    ∙ find_from_yields_List (λ x. leb x.bottom run.bottom && leb run.top x.top) _ _ _ c.find.ensures.ran
    (YieldsList-from_map _ (read_at p) (YieldsList-from_range 0 n n c.map.ensures.source (omega arith)) c.map.ensures.closure (λ x r q k. search (rules, read_is)))
    (λ x b q k. search (rules, tests))
    ∙ found_held p run.bottom run.top n
