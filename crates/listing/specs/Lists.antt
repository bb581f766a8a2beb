-- Lists of runs (MODEL 10.3) that are brought down, written to, and met with the intervals of a column, as the contracts say it. Assumes nothing.
use Rattle.std.specs.Prelude.{ℕ, ◌-◌, ◌*◌, ◌+◌, ◌≤◌, ◌<◌, ◌≡◌, ◌⊎◌, List, length, slice_get, All, Some, None}
use Rattle.runs.specs.Runs.{Run, run, Mem, Canon, push}
use Rattle.runs.specs.Intervals.{Interval, Apart, Multiple, OnGrid}
use Rattle.runs.specs.Meet.{Step, Proper, Lcm, Both_of, Spaced, Meeting}
use Rattle.runs.specs.Meet.{Meets}
use Rattle.runs.specs.declared.Range.{Range}
use Rattle.model.specs.Limits.{words, max_rows, max_intervals, reach}
use Rattle.model.specs.Columns.{height}
use Rattle.model.specs.Tasks as model
use Rattle.listing.specs.Bottoms.{lift, bottoms}

-- a column has no more runs than intervals
abbrev pub max_runs : ℕ
max_runs = max_intervals

-- the run r, in steps of s
abbrev pub range : ℕ → Run → Range
range s r = record { first = r.first; last = r.last; step = s }

-- a run of lifted numbers
abbrev pub IsLifted : Run → Type 0
IsLifted r = (lift ≤ r.first) × (lift ≤ r.last)

-- there is room for the range r at the end of the list L
pub record Pushable (L : List Run) (r : Range) : Type 0 where
  pub fits : length (push r.step (run r.first r.last) L) ≤ max_runs
  pub step : r.step < words
  pub last : (q : Run) → slice_get L (length L - 1) ≡ Some q → q.last < words

-- and for what two ranges both name
pub record Puttable (L : List Run) (a b : Range) : Type 0 where
  pub left : Proper a
  pub right : Proper b
  pub pushable : (r : Range) → Both_of a b r → Pushable L r

-- the runs O' are O, with what a and b both name put at the end
abbrev pub Joined : Range → Range → List Run → List Run → Type 0
Joined a b O O' = (Meets a b None × (O' ≡ O)) ⊎ ((r : Range) × Both_of a b r × (O' ≡ push r.step (run r.first r.last) O))

-- The intervals I of a column are of cells of the block k, which is whole cells; the list L is in steps of s.
pub record Meetable (I : List Interval) (k : model.Block) (L : List Run) (s : ℕ) : Type 0 where
  pub apart : Apart 0 I
  pub grid : OnGrid (height k.kind) I
  pub ends : All (λ (i : Interval). (i.bottom < i.top) × (i.top ≤ 2 * max_rows)) I
  pub full : k.low < k.high
  pub below : k.high ≤ 2 * reach
  pub whole : Multiple (height k.kind) (k.high - k.low)
  pub step : Step s
  pub canon : Canon s L
  pub spaced : Spaced s L
  pub bound : (y : ℕ) → Mem s y L → (lift ≤ y) × (y < lift + 2 * max_rows)

-- MODEL 6.5: of the bottoms A, the runs O are those at which the block k stands free too, in the intervals I of its column
abbrev pub Met : List Interval → model.Block → ℕ → List Run → List Run → Type 0
Met I k s A O = (l : ℕ) → Lcm s (height k.kind) l → Meeting s (height k.kind) l A (bottoms k.low k.high I) O
