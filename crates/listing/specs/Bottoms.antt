-- MODEL 6 and 10: where a block stands free in the intervals of its column, and where the first blocks of a task all do. Bottoms are counted from
-- `lift` below half row 0 on, so that a block far above the first gives no negative number. Assumes nothing.
use Rattle.std.specs.Prelude.{ℕ, ◌+◌, ◌-◌, ◌*◌, ◌≤◌, ◌<◌, max, ◌≡◌, true, cond, List, [], ◌∷◌, ltb}
use Rattle.runs.specs.Runs.{Run, run, Mem, Canon}
use Rattle.runs.specs.Intervals.{Interval, Multiple}
use Rattle.runs.specs.declared.Range.{Range}
use Rattle.model.specs.Limits.{reach, max_rows}
use Rattle.model.specs.Columns.{Device, height}
use Rattle.model.specs.Tasks.{block}
use Rattle.model.specs.Book.{Book, block_fits}
use Rattle.model.specs.Blocks.{Common}

-- how far bottoms are lifted: a block's bottom is at most `reach` above its task's, and is itself `reach` higher in the model
abbrev pub lift : ℕ
lift = 2 * reach

-- a run of lifted bottoms, as it is
abbrev pub lowered : Run → Run
lowered r = run (r.first - lift) (r.last - lift)

-- the lifted bottoms of a block from low to high that stands in the interval i, in steps of its height
abbrev pub bottoms_in : ℕ → ℕ → Interval → Run
bottoms_in low high i = run (i.bottom + lift + reach - low) (i.top + lift + reach - high)

-- the same as a range of the code, for an interval from bottom to top
abbrev pub range_in : ℕ → ℕ → ℕ → ℕ → ℕ → Range
range_in low high h bottom top = record { first = bottom + lift + reach - low; last = top + lift + reach - high; step = h }

-- the same for each interval that is high enough
unfoldable pub bottoms : ℕ → ℕ → List Interval → List Run
bottoms low high [] = []
bottoms low high (i ∷ L) = let rest = bottoms low high L in cond (ltb (i.top - i.bottom) (high - low)) rest (bottoms_in low high i ∷ rest)

-- the first k blocks of the task stand free at the lifted bottom y; y is a lifted half row, and on the first block's grid
pub record Stand (d : Device) (b : Book) (t : List ℕ) (p k y : ℕ) : Type 0 where
  pub low : lift ≤ y
  pub high : y < lift + 2 * max_rows
  pub grid : Multiple (height (block t 0).kind) (y - lift)
  pub fits : (i : ℕ) → i < k → block_fits d b (block t i) p (y - lift) ≡ true

-- L lists, in steps of s, the lifted bottoms at which the first k blocks of the task stand free
pub record Standing (d : Device) (b : Book) (t : List ℕ) (p k s : ℕ) (L : List Run) : Type 0 where
  pub common : Common t (max 1 k) s
  pub canon : Canon s L
  pub named_to : (y : ℕ) → Mem s y L → Stand d b t p k y
  pub named_of : (y : ℕ) → Stand d b t p k y → Mem s y L
