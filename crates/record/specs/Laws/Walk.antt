-- What taking a task's blocks and freeing them share: they go block by block, each in its own column. Assumes nothing.
use Rattle.std.specs.Prelude.{ℕ, zero, suc, ◌≤◌, ◌<◌, ◌≡◌, ◌≢◌, Bool, true, List, length}
use Rattle.std.proofs.Common.{arith}
use Rattle.std.proofs.Math.Decide.{ℕ_discrete}
use Rattle.runs.specs.Intervals.{Interval, OnGrid}
use Rattle.model.specs.Limits.{max_columns, max_intervals, column_size}
use Rattle.model.specs.Columns.{Device, height, kind, top}
use Rattle.model.specs.Book.{Book, Placed, free}
use Rattle.model.specs.Record.{part, column_at, image}
use Rattle.model.specs.Sound.{within, count_of}
use Rattle.model.specs.InPlace.{put_column}
use Rattle.model.proofs.Laws.Limits.{limits_to}
use Rattle.column.specs.Laws.Part.{Encodes, encodes}
use Rattle.record.specs.Columns.{column_list, runs_of}
use Rattle.record.specs.Laws.Columns.{runs_same, Gridded, free_gridded, few_runs, encoded, column_changed}

-- f k passes the half rows that are free once the first k of n blocks are done, and g k is what block k does to the intervals of its column
pub record Walk (d : Device) (b : Book) (B : Placed) (n : ℕ) (f : ℕ → ℕ → ℕ → Bool) (g : ℕ → List Interval → List Interval) : Type 0 where
  pub none : (c z : ℕ) → f 0 c z ≡ free d b c z
  pub other : (k c : ℕ) → c ≢ B.column k → (z : ℕ) → f k c z ≡ f (suc k) c z
  pub own : (k : ℕ) → k < n → g k (runs_of d (f k) (B.column k)) ≡ runs_of d (f (suc k)) (B.column k)
  pub grid : (k : ℕ) → k < n → (L : List Interval) → OnGrid (height (kind d (B.column k))) L → OnGrid (height (kind d (B.column k))) (g k L)

module _ {d : Device} {b : Book} {B : Placed} {n : ℕ} {f : ℕ → ℕ → ℕ → Bool} {g : ℕ → List Interval → List Interval} (w : within d b ≡ true) (x : Walk d b B n f g) where
  -- the runs stay on the grids
  gridded : (k : ℕ) → k ≤ n → Gridded d (f k)
  gridded zero l c = rw (runs_same (f 0 c) (free d b c) (top d c) (x.none c)) (free_gridded d b w c)
  gridded (suc k) l c = go (gridded k (omega arith) c)
    where
      go : OnGrid (height (kind d c)) (runs_of d (f k) c) → OnGrid (height (kind d c)) (runs_of d (f (suc k)) c)
      go ih = elim (ℕ_discrete c (B.column k)) [
        | yes e ↦ rw (e, ← x.own k (omega arith)) (x.grid k (omega arith) _ (rw e at ih))
        | no ne ↦ rw (← runs_same (f k c) (f (suc k) c) (top d c) (x.other k c ne)) ih
      ]

  module _ (r : List ℕ) (k : ℕ) (e : r ≡ image d b (runs_of d (f k))) (l : k < n) (q : B.column k < max_columns) where
    -- what r lists in the column of block k
    pub walk_lists : Encodes (part r (column_at (B.column k)) column_size) (count_of r (B.column k)) (runs_of d (f k) (B.column k))
    walk_lists = encoded d b (f k) r (B.column k) (limits_to d b w).rows (gridded k (omega arith)) e q

    -- there is room for what it lists after block k
    pub walk_few : length (g k (runs_of d (f k) (B.column k))) ≤ max_intervals
    walk_few = rw (x.own k l) (few_runs d (f (suc k)) (limits_to d b w).rows (gridded (suc k) l) (B.column k))

    -- one block more
    pub walk_more : put_column r (B.column k) (g k (column_list r (B.column k))) ≡ image d b (runs_of d (f (suc k)))
    walk_more = rw (encodes walk_lists) (column_changed d b (f k) (f (suc k)) r (B.column k) _ e q (x.own k l) (x.other k))
