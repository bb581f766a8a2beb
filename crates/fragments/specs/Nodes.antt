-- MODEL 22: the runs of free cells of a card, one node for each, and the edges between those of neighbouring columns that share a half row.
-- h c is the height of the cells of column c, R c are its runs. Assumes nothing.
use Rattle.std.specs.Prelude.{ℕ, suc, ◌*◌, ◌-◌, List, length, get_or}
use Rattle.runs.specs.Intervals.{Interval, interval, intervals as maximal_runs}
use Rattle.model.specs.Bounded.{sum_below, join_below}
use Rattle.model.specs.Columns.{Device, cells}
use Rattle.model.specs.Book.{Book, cell_free}
use Rattle.fragments.specs.Sweep.{Sides, edges}

-- the maximal runs of free cells of column c
unfoldable pub free_runs : Device → Book → ℕ → List Interval
free_runs d b c = maximal_runs (cell_free d b c) (cells d c)

-- the node of the first run of column c: as many runs stand in the columns before it
unfoldable pub base : (ℕ → List Interval) → ℕ → ℕ
base R c = sum_below c (λ i. length (R i))

-- run i of column c, and its half rows
abbrev pub run_at : (ℕ → List Interval) → ℕ → ℕ → Interval
run_at R c i = get_or (R c) i (interval 0 0)

abbrev pub half_rows_at : (ℕ → ℕ) → (ℕ → List Interval) → ℕ → ℕ → Interval
half_rows_at h R c i = interval (h c * (run_at R c i).bottom) (h c * (run_at R c i).top)

-- columns c and c + 1
abbrev pub beside : (ℕ → ℕ) → (ℕ → List Interval) → ℕ → Sides
beside h R c = record {
  left = half_rows_at h R c;
  lefts = length (R c);
  left_base = base R c;
  right = half_rows_at h R (suc c);
  rights = length (R (suc c));
  right_base = base R (suc c);
}

-- the edges of all neighbouring columns among the first C
unfoldable pub card_edges : (ℕ → ℕ) → (ℕ → List Interval) → ℕ → List (ℕ × ℕ)
card_edges h R C = join_below (C - 1) (λ c. edges (beside h R c))
