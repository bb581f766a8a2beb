-- `record::entries::insert_entry`: later entries moved, the entry written, the count raised (`entered_by`). Assumes nothing.
use Rattle.std.proofs.Common.{arith}
use native.Mathlib.Nat.{add-sub_cancel_left}
use Rattle.model.specs.Parts.{splice}
use Rattle.record.specs.Laws.Moved.{entered_by}
use Rattle.record.proofs.entries.insert_entry.Goals as goal

pub returns : goal.returns
unfolding splice
returns c =
    entered_by _ _ _ _ _ _ _ c.running-n.ensures (omega arith) (omega arith) c.write_entry.ensures c.raise_entries.ensures (rw (c.entry_at-a.ensures, add-sub_cancel_left))
