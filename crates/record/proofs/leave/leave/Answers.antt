-- `record::leave::leave`: with the blocks freed the entry can be taken out (`entry_there`). Assumes nothing.
use Rattle.std.proofs.Common.{sym, ◌∙◌}
use Rattle.record.specs.Laws.Entries.{found_place}
use Rattle.record.proofs.Laws.Leave.{entry_there}
use Rattle.record.proofs.leave.leave.Goals as goal

pub remove_entry-requires : goal.remove_entry-requires
remove_entry-requires c =
    let same = (rw c.unwrap-record.ensures at c.as_mut_array.ensures.cases).same in
    let (l, e) = found_place _ _ _ (sym c.find.ensures ∙ c.unwrap-j.ensures) in
    let (entry, few) = entry_there _ _ (record { sound = c.requires.0; place = l }) _ (rw same at c.free_blocks.ensures) in
    record { entry = entry; few = few }
