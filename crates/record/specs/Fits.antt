-- MODEL 6: what the contracts of `fits` and of what it calls say. Assumes nothing.
use Rattle.std.specs.Prelude.{ℕ, ◌≤◌, ◌<◌, ◌≡◌, ◌↔◌, Bool, true, List, length}
use Rattle.runs.specs.Intervals.{Holds}
use Rattle.model.specs.Limits.{max_columns, max_intervals, record_size}
use Rattle.model.specs.Book.{intervals}
use Rattle.model.specs.Record.{device_of, book_of}
use Rattle.model.specs.Sound.{count_of}
use Rattle.column.specs.declared.Interval.{Interval}

-- r has the length of a record, and column c's part lists no more intervals than it has room for
pub record Listed (r : List ℕ) (c : ℕ) : Type 0 where
  pub size : length r ≡ record_size
  pub column : c < max_columns
  pub few : count_of r c ≤ max_intervals

-- MODEL 6.5: ok says whether one free interval of column c of r holds all half rows of a run
pub record SaysHeld (r : List ℕ) (c : ℕ) (run : Interval) (ok : Bool) : Type 0 where
  pub held : (ok ≡ true) ↔ Holds run.bottom run.top (intervals (device_of r) (book_of r) c)
