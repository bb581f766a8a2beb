-- `record::checked::SoundRecord::place_of`: all entries from j on have a higher number. Assumes nothing.
use Rattle.record.specs.Laws.Entries.{Above}
use Rattle.record.proofs.checked.SoundRecord.place_of.Given as goal

abbrev pub invariant-loop-j : goal.invariant-loop-j
invariant-loop-j l = Above l.self.bytes.now l.number l.j
