-- `record::entries::lower_entries`: the entries up to j are moved (`Copied`). Assumes nothing.
use Rattle.std.specs.Prelude.{◌+◌, ◌-◌}
use Rattle.model.specs.Record.{entry_at}
use Rattle.record.specs.Entries.{Copied}
use Rattle.record.proofs.entries.lower_entries.Given as goal

abbrev pub invariant-loop-j : goal.invariant-loop-j
invariant-loop-j l = Copied l.initial.record l.record (entry_at (l.k + 1)) (entry_at l.k) (entry_at l.j - entry_at l.k)
