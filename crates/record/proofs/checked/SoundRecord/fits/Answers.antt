-- `record::checked::SoundRecord::fits`: the position, and then each block (`range_all`). Assumes nothing.
use Rattle.std.proofs.Common.{ℕ, Bool, refl, ap, ◌∙◌, rules, tests}
use Rattle.std.proofs.lemmas.Iterator.{YieldsList-from_range}
use Rattle.std.proofs.lemmas.Iterator.Search.{all_from_yields_List}
use Rattle.std.proofs.Math.Nat.{sub-zero}
use Rattle.model.specs.Bounded.{all_below}
use Rattle.model.specs.Tasks.{block}
use Rattle.model.specs.Book.{block_fits, fits}
use Rattle.model.specs.Record.{device_of, book_of}
use Rattle.model.proofs.Laws.Each.{range_all}
use Rattle.record.proofs.checked.SoundRecord.fits.Goals as goal
use Rattle.record.proofs.checked.SoundRecord.fits.Goals.{then-at-columns, else-at-columns}

pub returns-then-at : goal.returns-then-at
unfolding fits
returns-then-at c =
    let r = c.args.self.bytes.now in
    let t = c.args.task.bytes.now in
    let p : ℕ → Bool = λ k. block_fits (device_of r) (book_of r) (block t k) c.args.at.column c.args.at.bottom in
    let e = all_from_yields_List p _ _ c.all.result c.all.ensures.ran (YieldsList-from_range 0 c.count.result c.count.result refl (sub-zero _)) (λ x b q k. search (rules, tests)) in
    e ∙ range_all p c.count.result ∙ ap (λ n. all_below n p) c.count.ensures.count
