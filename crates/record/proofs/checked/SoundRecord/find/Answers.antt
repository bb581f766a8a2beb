-- `record::checked::SoundRecord::find`: the numbers of the entries one after the other (`found_is`). Assumes nothing.
use Rattle.std.proofs.Common.{◌≡◌, arith, rules, tests}
use Rattle.std.proofs.lemmas.Iterator.{first_from_Range}
use Rattle.model.specs.Tasks.{word}
use Rattle.model.specs.Record.{entry_at}
use Rattle.record.specs.Laws.Entries.{found_is}
use Rattle.record.proofs.checked.SoundRecord.find.Goals as goal

pub returns : goal.returns
returns c =
    let r = c.args.self.bytes.now in
    let n = c.args.number in
    found_is r n c.running.result c.running.ensures.count _
    (first_from_Range _ _ _ _ (λ i. word r (entry_at i) ≡ n) (λ i. word r (entry_at i) ≡ n → ⊥) c.find.ensures.ran
    (λ x q k. grind (arith, tests))
    (λ x q k. (search rules, grind (arith, tests))))
