-- `listing::columns::InColumn::all_on` meets its contract: one block after the other, by what is said of each. Assumes nothing.
use Rattle.std.proofs.Common.{refl, rules}
use Rattle.std.proofs.Math.Nat.{sub-zero}
use Rattle.std.proofs.lemmas.Iterator.{YieldsList-from_range, cases_from_all}
use Rattle.model.proofs.Laws.Each.{range_each}
use Rattle.listing.specs.Columns.{On}
use Rattle.listing.proofs.columns.InColumn.all_on.Goals as goal

pub returns : goal.returns
returns c =
    let w = c.args.self in
    let On' = On w.record.bytes.now w.task.bytes.now w.p in
    rw c.count.ensures.count at (range_each On' c.count.result _
    (cases_from_all _ _ _ On' (λ k. On' k → ⊥) c.all.ensures.ran (YieldsList-from_range 0 c.count.result c.count.result refl (sub-zero _)) (λ k q h. search rules) (λ k q h. search rules)))
