-- `record::entries::remove_entry`: later entries moved, the last wiped, the count lowered (`removed_by`). Assumes nothing.
use Rattle.std.proofs.Common.{◌+◌, ◌-◌, ◌∙◌, arith, take, drop}
use native.Mathlib.Nat.{add-sub_cancel_left}
use borrow.Rule.Slice.PartMut.{mid_len}
use Rattle.model.specs.Limits.{entry_size}
use Rattle.model.specs.Record.{entry_at}
use Rattle.model.specs.Parts.{splice}
use Rattle.record.specs.Laws.Moved.{removed_by}
use Rattle.record.proofs.entries.remove_entry.Goals as goal

pub returns : goal.returns
unfolding splice
returns c =
    let last = c.running-last.result - 1 in
    let a = entry_at last in
    let t = c.lower_entries.new.record in
    removed_by _ t _ _ last (take (a + entry_size - a) (drop a t)) _ (omega arith) (omega arith) (omega arith) c.lower_entries.ensures
    (mid_len a (a + entry_size) t (omega arith) ∙ add-sub_cancel_left a entry_size) (rw c.entry_at-z.ensures at (c.fill.ensures.after (λ y e. e))) (rw (c.entry_at-z.ensures, add-sub_cancel_left))
