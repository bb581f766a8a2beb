-- MODEL 12.5: what the contracts of `leave` say. A running task's blocks are joined to the free intervals one after the other. Assumes nothing.
use Rattle.std.specs.Prelude.{ℕ, ◌<◌, ◌≡◌, Bool, true, ◌||◌, List, length}
use Rattle.model.specs.Bounded.{any_below}
use Rattle.model.specs.Columns.{Device}
use Rattle.model.specs.Tasks.{blocks}
use Rattle.model.specs.Book.{Book, Placed, covers, standing, free}
use Rattle.model.specs.Record.{image, device_of, book_of}
use Rattle.model.specs.Sound.{sound}
use Rattle.record.specs.Columns.{runs_of}
use Rattle.record.specs.Entries.{entry_of}

-- free, or covered by one of the first k blocks
unfoldable pub free_join : Device → Book → Placed → ℕ → ℕ → ℕ → Bool
free_join d b B k c z = any_below k (covers B c z) || free d b c z

-- the record of d and b, but that the first k blocks of B are free
unfoldable pub freed : Device → Book → Placed → ℕ → List ℕ
freed d b B k = image d b (runs_of d (free_join d b B k))

-- entry j of r is that of a running task
pub record Runs (r : List ℕ) (j : ℕ) : Type 0 where
  pub sound : sound r ≡ true
  pub place : j < length (book_of r)

-- the record with all blocks of entry j freed
unfoldable pub freed_entry : List ℕ → ℕ → List ℕ
freed_entry r j = freed (device_of r) (book_of r) (standing (entry_of r j)) (blocks (entry_of r j).task)
