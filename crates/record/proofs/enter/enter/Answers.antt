-- `record::enter::enter`: with the blocks taken the entry can be put in (`entry_ready`). Assumes nothing.
use Rattle.record.specs.Laws.Enter.{entry_ready}
use Rattle.record.proofs.enter.enter.Goals as goal

pub insert_entry-requires-clause-enterable : goal.insert_entry-requires-clause-enterable
insert_entry-requires-clause-enterable c =
    let same = (rw c.unwrap-record.ensures at c.as_mut_array.ensures.cases).same in
    entry_ready _ _ _ _ _ _ _ _ c.take_blocks.ensures same c.requires.numbered c.requires.room c.place_of-k.ensures
