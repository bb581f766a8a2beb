-- MODEL 12.4 and 12.5: what the contract of `edit_block` says of the edit that it is given, and of a block that is read. Assumes nothing.
use Rattle.std.specs.Prelude.{ℕ, ◌+◌, ◌*◌, ◌≤◌, ◌<◌, ◌≡◌, List}
use Rattle.std.specs.Borrow.{MutBor}
use Rattle.std.specs.Fn.{Once}
use Rattle.model.specs.Limits.{max_rows, max_columns, reach}
use Rattle.task.specs.declared.Block.{Block}
use Rattle.column.specs.declared.Interval.{Interval}

module _ {F : Type 0} (g : Once F (MutBor (List ℕ) × (ℕ × (Interval × Unit {0}))) (ℕ × (MutBor (List ℕ) × Unit {0}))) (f : F) (p : List ℕ) (n : ℕ) (i : Interval) where
  -- f may be called with a column's part p, its count n, and a run i
  abbrev pub Edits : Type 0
  Edits = (y : MutBor (List ℕ)) → y.now ≡ p → g.pre f (y, (n, (i, tt)))

  -- such a call may leave the part q, and answer the count m
  pub record Edited (q : List ℕ) (m : ℕ) : Type 0 where
    pub shown : MutBor (List ℕ)
    pub shows : shown.now ≡ p
    pub left : MutBor (List ℕ)
    pub called : g.post f (shown, (n, (i, tt))) (m, (left, tt))
    pub leaves : left.now ≡ q

-- a block of a task that fits at column p and bottom y, so that it can be moved there
pub record Seated (p y : ℕ) (n : Block) : Type 0 where
  pub column : p + n.extent.column < max_columns
  pub low : reach ≤ y + n.extent.low
  pub full : n.extent.low < n.extent.high
  pub high : y + n.extent.high ≤ 2 * max_rows + reach
