-- MODEL 10: the ranges of a task, and the positions that they name. Assumes nothing.
use Rattle.std.specs.Prelude.{ℕ, suc, ◌+◌, ◌-◌, ◌*◌, ◌/◌, List, map}
use Rattle.runs.specs.Runs.{Run, runs}
use Rattle.model.specs.Bounded.{join_below, list_below, those_below}
use Rattle.model.specs.Columns.{Device, columns, half_rows}
use Rattle.model.specs.Tasks.{step}
use Rattle.model.specs.Book.{Book, fits}

-- MODEL 10.3: a range
pub record Range : Type 0 where
  pub column : ℕ
  pub step : ℕ
  pub first : ℕ
  pub last : ℕ

-- a run of bottoms in column p, in steps of s, as a range
abbrev pub range_of : ℕ → ℕ → Run → Range
range_of p s r = record { column = p; step = s; first = r.first; last = r.last }

-- MODEL 10.4 and 10.5: the listing of a task. No task fits at the height of the device or above, so bottoms below that are all.
unfoldable pub ranges : Device → Book → List ℕ → List Range
ranges d b t = join_below (columns d) (λ p. map (range_of p (step t)) (runs (step t) (fits d b t p) (half_rows d)))

-- ---- what a listing names

-- MODEL 4.11: a position
pub record Position : Type 0 where
  pub column : ℕ
  pub bottom : ℕ

abbrev pub position : ℕ → ℕ → Position
position p y = record { column = p; bottom = y }

-- MODEL 10.3: the positions that a range names
unfoldable pub named : Range → List Position
named r = list_below (suc ((r.last - r.first) / r.step)) (λ i. position r.column (r.first + i * r.step))

-- MODEL 10.5: the positions at which the task fits, by column and then by bottom
unfoldable pub fitting : Device → Book → List ℕ → List Position
fitting d b t = join_below (columns d) (λ p. map (position p) (those_below (half_rows d) (fits d b t p)))
