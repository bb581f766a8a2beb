-- `soundness::Marked::columns_ok` meets its contract: one column after the other. Assumes nothing.
use Rattle.std.proofs.Common.{length, refl, rules}
use Rattle.std.proofs.Math.Nat.{sub-zero}
use Rattle.std.proofs.lemmas.Iterator.{YieldsList-from_range, cases_from_all}
use Rattle.model.proofs.Laws.Each.{range_each}
use Rattle.soundness.specs.Soundness.{ColumnOk}
use Rattle.soundness.proofs.Marked.columns_ok.Goals as goal

pub returns : goal.returns
returns c =
    let l = c.args.self.now.legible in
    let n = length l.device.kinds.now in
    let Ok' = ColumnOk l.bytes.now in
    range_each Ok' n _ (cases_from_all _ _ _ Ok' (λ k. Ok' k → ⊥) c.all.ensures.ran (YieldsList-from_range 0 n n refl (sub-zero _)) (λ k q h. search rules) (λ k q h. search rules))
