-- MODEL 5, 6 and 7: the running tasks, the cells that they hold, free cells, fitting, and free intervals.
-- All is said of half rows, and at the end of cells too. That it is the same, since blocks are whole cells (MODEL 5.4), is proved in Laws.Cells.
-- Assumes nothing.
use Rattle.std.specs.Prelude.{ℕ, ◌+◌, ◌-◌, ◌*◌, ◌%◌, Bool, false, not, ◌&&◌, List, leb, ltb, eqb, ℤ, pos, negsuc}
use Rattle.runs.specs.Intervals.{Interval, intervals as maximal_runs}
use Rattle.model.specs.Limits.{reach}
use Rattle.model.specs.Bounded.{all_below, any_below, any_in}
use Rattle.model.specs.Columns.{Device, columns, kind, cells, top, height}
use Rattle.model.specs.Tasks.{Block, blocks, block}

-- MODEL 5.1: a running task. Its bottom is never negative, since it fits there (MODEL 6.6).
pub record Running : Type 0 where
  pub number : ℕ
  pub column : ℕ
  pub bottom : ℕ
  pub task : List ℕ

-- MODEL 5.1: the running tasks, by rising number
abbrev pub Book : Type 0
Book = List Running

-- Blocks where they stand: how many, and of each its column, its bottom and its top, excluded.
pub record Placed : Type 0 where
  pub count : ℕ
  pub column : ℕ → ℕ
  pub bottom : ℕ → ℕ
  pub top : ℕ → ℕ

-- MODEL 4.11: the blocks of task t, moved to column p and bottom y. What would lie below half row 0 is cut off: there is nothing to cover (MODEL 5.2).
unfoldable pub placed : List ℕ → ℕ → ℕ → Placed
placed t p y = record {
  count = blocks t;
  column = λ k. p + (block t k).column;
  bottom = λ k. y + (block t k).low - reach;
  top = λ k. y + (block t k).high - reach;
}

-- MODEL 5.2: block k covers half row z of column c
unfoldable pub covers : Placed → ℕ → ℕ → ℕ → Bool
covers B c z k = eqb (B.column k) c && leb (B.bottom k) z && ltb z (B.top k)

-- MODEL 5.2: one of the blocks covers it
unfoldable pub covered : Placed → ℕ → ℕ → Bool
covered B c z = any_below B.count (covers B c z)

-- MODEL 5.2: a running task's blocks, moved to its position
abbrev pub standing : Running → Placed
standing e = placed e.task e.column e.bottom

-- MODEL 5.3 and 5.4: a running task holds half row z of column c
unfoldable pub held : Book → ℕ → ℕ → Bool
held b c z = any_in (λ e. covered (standing e) c z) b

-- MODEL 5.3 and 5.4: half row z of column c lies in a cell of the device, and no running task holds it
unfoldable pub free : Device → Book → ℕ → ℕ → Bool
free d b c z = ltb c (columns d) && ltb z (top d c) && not (held b c z)

-- MODEL 6.2 to 6.5: what is asked of each block of a task, moved to column p and bottom y
unfoldable pub block_fits : Device → Book → Block → ℕ → ℕ → Bool
block_fits d b k p y =
    ltb (p + k.column) (columns d) && eqb (kind d (p + k.column)) k.kind
    && leb reach (y + k.low) && eqb ((y + k.low - reach) % height k.kind) 0
    && leb (y + k.high) (top d (p + k.column) + reach)
    && all_below (k.high - k.low) (λ i. free d b (p + k.column) (y + k.low - reach + i))

-- MODEL 6.1: task t fits at column p and bottom y
unfoldable pub fits : Device → Book → List ℕ → ℕ → ℕ → Bool
fits d b t p y = all_below (blocks t) (λ k. block_fits d b (block t k) p y)

-- MODEL 6.6: the same for a bottom that may be negative, where no task fits
unfoldable pub fits_at : Device → Book → List ℕ → ℕ → ℤ → Bool
fits_at d b t p (pos y) = fits d b t p y
fits_at d b t p (negsuc y) = false

-- MODEL 7.1 to 7.3: the intervals of column c
unfoldable pub intervals : Device → Book → ℕ → List Interval
intervals d b c = maximal_runs (free d b c) (top d c)

-- ---- by cells: cell k is the half rows from height × k on, as many as the height (MODEL 3.5)

-- MODEL 5.2: a running task holds cell k of column c, as it covers a half row of it
unfoldable pub holds_cell : Device → Running → ℕ → ℕ → Bool
holds_cell d e c k = any_below (height (kind d c)) (λ i. covered (standing e) c (height (kind d c) * k + i))

-- MODEL 5.3: cell k of column c is free
unfoldable pub cell_free : Device → Book → ℕ → ℕ → Bool
cell_free d b c k = ltb c (columns d) && ltb k (cells d c) && not (any_in (λ e. holds_cell d e c k) b)
