-- MODEL 11: n and s of a position, and the choice. Assumes nothing.
use Rattle.std.specs.Prelude.{ℕ, zero, suc, ◌*◌, ◌-◌, Bool, not, cond, ◌&&◌, List, leb, ltb, eqb, length}
use Rattle.runs.specs.Intervals.{Interval, intervals as maximal_runs}
use Rattle.model.specs.Bounded.{any_below, sum_below, sum_in}
use Rattle.model.specs.Columns.{Device, columns, half_rows}
use Rattle.model.specs.Book.{Book, Placed, placed, covered, fits, intervals}

-- ---- the intervals that hold a block

-- MODEL 11.1: block k lies in the interval i of column c
unfoldable pub lies : Placed → ℕ → Interval → ℕ → Bool
lies B c i k = eqb (B.column k) c && leb i.bottom (B.bottom k) && leb (B.top k) i.top

-- MODEL 11.1: the interval i of column c holds a block of the task: one lies in it
unfoldable pub holds_block : Placed → ℕ → Interval → Bool
holds_block B c i = any_below B.count (lies B c i)

-- ---- s, MODEL 11.2

-- MODEL 11.2: the height of the interval i of column c, if it holds a block
unfoldable pub span : Placed → ℕ → Interval → ℕ
span B c i = cond (holds_block B c i) (i.top - i.bottom) 0

-- MODEL 11.2: s, over the C columns, where L c are the intervals of column c before the task is placed
unfoldable pub stretch : Placed → ℕ → (ℕ → List Interval) → ℕ
stretch B C L = sum_below C (λ c. sum_in (span B c) (L c))

-- ---- n, MODEL 11.3

-- MODEL 11.3: what is left, as intervals, of the interval i of column c: the maximal runs of its half rows that no block covers
unfoldable pub left_in : Placed → ℕ → Interval → List Interval
left_in B c i = maximal_runs (λ z. leb i.bottom z && not (covered B c z)) i.top

-- MODEL 11.3: their number, if the interval holds a block
unfoldable pub remaining : Placed → ℕ → Interval → ℕ
remaining B c i = let left = length (left_in B c i) in cond (holds_block B c i) left 0

-- MODEL 11.3: n, over the same columns and intervals
unfoldable pub pieces : Placed → ℕ → (ℕ → List Interval) → ℕ
pieces B C L = sum_below C (λ c. sum_in (remaining B c) (L c))

-- ---- the choice

-- how positions are judged: whether column p, bottom y fits, and its n and s
pub record Judge : Type 0 where
  pub fit : ℕ → ℕ → Bool
  pub n : ℕ → ℕ → ℕ
  pub s : ℕ → ℕ → ℕ

-- MODEL 11.1: the judge of a task on a device with a book
unfoldable pub judge : Device → Book → List ℕ → Judge
judge d b t = record {
  fit = fits d b t;
  n = λ p y. pieces (placed t p y) (columns d) (intervals d b);
  s = λ p y. stretch (placed t p y) (columns d) (intervals d b);
}

-- a position, if there is one
pub data Found : Type 0 where
  nothing : Found
  at : (column bottom : ℕ) → Found

-- MODEL 11.4: (p, y) is better than (q, z)
unfoldable pub better : Judge → ℕ → ℕ → ℕ → ℕ → Bool
better J p y q z = ltb (J.n p y * J.s q z) (J.n q z * J.s p y)

-- MODEL 11.5: the best so far, once (p, y) is seen too. Among equals the earlier one stays.
unfoldable pub see : Judge → ℕ → ℕ → Found → Found
see J p y nothing = at p y
see J p y (at q z) = cond (better J p y q z) (at p y) (at q z)

-- the best so far, once the fitting bottoms below y of column p are seen too, from the lowest up
unfoldable pub climb : Judge → ℕ → ℕ → Found → Found
climb J p zero f = f
climb J p (suc y) f = let r = climb J p y f in cond (J.fit p y) (see J p y r) r

-- MODEL 11.5: the best of the first c columns, at bottoms below h. Lower columns are seen first, and in a column lower bottoms.
unfoldable pub choice : Judge → ℕ → ℕ → Found
choice J h zero = nothing
choice J h (suc c) = climb J c h (choice J h c)

-- MODEL 11.5: the choice for a task
unfoldable pub chosen : Device → Book → List ℕ → Found
chosen d b t = choice (judge d b t) (half_rows d) (columns d)
