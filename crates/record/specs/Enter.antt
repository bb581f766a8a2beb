-- MODEL 12.4: what the contracts of `enter` say. A task's blocks are taken from the free intervals one after the other. Assumes nothing.
use Rattle.std.specs.Prelude.{ℕ, ◌≡◌, Bool, true, not, ◌&&◌, List}
use Rattle.model.specs.Bounded.{any_below}
use Rattle.model.specs.Columns.{Device}
use Rattle.model.specs.Tasks.{sized, well_formed}
use Rattle.model.specs.Book.{Book, Placed, placed, covers, free, fits}
use Rattle.model.specs.Record.{image, device_of, book_of}
use Rattle.model.specs.Sound.{sound}
use Rattle.record.specs.Columns.{runs_of}

-- free, and not covered by the first k blocks
unfoldable pub free_cut : Device → Book → Placed → ℕ → ℕ → ℕ → Bool
free_cut d b B k c z = free d b c z && not (any_below k (covers B c z))

-- the record of d and b, but that the first k blocks of B are taken
unfoldable pub taken : Device → Book → Placed → ℕ → List ℕ
taken d b B k = image d b (runs_of d (free_cut d b B k))

-- a well-formed task that fits at column p, bottom y of the sound record r
pub record Placeable (r t : List ℕ) (p y : ℕ) : Type 0 where
  pub sound : sound r ≡ true
  pub sized : sized t ≡ true
  pub well_formed : well_formed t ≡ true
  pub fits : fits (device_of r) (book_of r) t p y ≡ true

-- s is r with the first k blocks of t taken, which fits there
pub record Taken (r t : List ℕ) (p y k : ℕ) (s : List ℕ) : Type 0 where
  pub placeable : Placeable r t p y
  pub taken_are : s ≡ taken (device_of r) (book_of r) (placed t p y) k
