-- MODEL 7 and 8.3: the intervals of a column, what a record lists, and the runs of half rows that pass a test. Assumes nothing.
use Rattle.std.specs.Prelude.{ℕ, ◌+◌, Bool, List, set}
use Rattle.runs.specs.Intervals.{Interval, intervals as maximal_runs}
use Rattle.model.specs.Limits.{counts_at, column_size}
use Rattle.model.specs.Columns.{Device, top}
use Rattle.model.specs.Record.{part, column_at}
use Rattle.model.specs.Parts.{splice}
use Rattle.model.specs.Sound.{count_of}
use Rattle.column.specs.Part.{listed_in}

-- MODEL 8.3: the intervals that column c of r lists
abbrev pub column_list : List ℕ → ℕ → List Interval
column_list r c = listed_in (part r (column_at c) column_size) (count_of r c)

-- column c's part and count replaced by p and n
abbrev pub put_part : List ℕ → ℕ → List ℕ → ℕ → List ℕ
put_part r c p n = set (splice r (column_at c) column_size p) (counts_at + c) n

-- the maximal runs of the half rows of column c that pass f
abbrev pub runs_of : Device → (ℕ → ℕ → Bool) → ℕ → List Interval
runs_of d f c = maximal_runs (f c) (top d c)
