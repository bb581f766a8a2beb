-- `record::entries::raise_entries`: the entries from j on are moved (`Copied`). Assumes nothing.
use Rattle.std.specs.Prelude.{◌+◌, ◌-◌, ◌≤◌}
use Rattle.model.specs.Record.{entry_at}
use Rattle.record.specs.Entries.{Copied}
use Rattle.record.proofs.entries.raise_entries.Given as goal

abbrev pub invariant-loop-j : goal.invariant-loop-j
invariant-loop-j l = (l.k ≤ l.j) × Copied l.initial.record l.record (entry_at l.j) (entry_at (l.j + 1)) (entry_at l.n - entry_at l.j)
