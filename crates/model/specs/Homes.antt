-- Blocks in the intervals in which they lie (MODEL 11.1), as the contracts of crate `choice` say it. Assumes nothing.
use Rattle.std.specs.Prelude.{ℕ, zero, suc, ◌+◌, ◌-◌, ◌≤◌, ◌<◌, Bool, true, false, not, cond, ◌&&◌, List, [], ◌∷◌, leb, ltb, eqb}
use Rattle.runs.specs.Intervals.{Interval, interval}
use Rattle.model.specs.Book.{Placed}

-- 1 where the test passes, 0 where it does not
abbrev pub bit : Bool → ℕ
bit true = 1
bit false = 0

-- the interval of L in which half row z lies; an empty one where there is none
unfoldable pub holder : List Interval → ℕ → Interval
holder [] z = interval 0 0
holder (i ∷ L) z = cond (leb i.bottom z && ltb z i.top) i (holder L z)

-- MODEL 11.1: the interval in which block k lies, its home
unfoldable pub home : Placed → (ℕ → List Interval) → ℕ → Interval
home B L k = holder (L (B.column k)) (B.bottom k)

-- each block of B has u half rows or more above it in its interval
abbrev pub Room : ℕ → Placed → (ℕ → List Interval) → Type 0
Room u B L = (k : ℕ) → k < B.count → B.top k + u ≤ (home B L k).top

-- block k lies in the same interval as the block before it
unfoldable pub joined : Placed → (ℕ → List Interval) → ℕ → Bool
joined B L zero = false
joined B L (suc j) = eqb (B.column j) (B.column (suc j)) && eqb (home B L j).bottom (home B L (suc j)).bottom

-- MODEL 11.3: what block k adds to n: the piece below it, if it is the first in its interval, and the piece above it
unfoldable pub adds : Placed → (ℕ → List Interval) → ℕ → ℕ
adds B L k = bit (not (joined B L k) && ltb (home B L k).bottom (B.bottom k)) + bit (ltb (B.top k) (home B L k).top)

-- MODEL 11.2: what block k adds to s: the height of its interval, if it is the first in it
unfoldable pub first_span : Placed → (ℕ → List Interval) → ℕ → ℕ
first_span B L k = cond (joined B L k) 0 ((home B L k).top - (home B L k).bottom)
