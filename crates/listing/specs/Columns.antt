-- MODEL 10: what the contracts of this crate say of a task in one column of a sound record. Assumes nothing.
use Rattle.std.specs.Prelude.{ℕ, ◌+◌, ◌<◌, ◌≡◌, true, List, []}
use Rattle.runs.specs.Runs.{Run, runs}
use Rattle.model.specs.Columns.{Device, columns, half_rows, kind}
use Rattle.model.specs.Tasks.{blocks, block, step, sized, well_formed}
use Rattle.model.specs.Book.{Book, fits}
use Rattle.model.specs.Record.{device_of, book_of}
use Rattle.model.specs.Sound.{sound}
use Rattle.listing.specs.Bottoms.{Standing}
use Rattle.listing.specs.declared.columns.Room.{Room}

-- the two lists of a room are without runs
abbrev pub AreEmpty : Room → Type 0
AreEmpty r = (r.now ≡ []) × (r.next ≡ [])

-- a sound record, and a well-formed task
pub record Given (r t : List ℕ) : Type 0 where
  pub sound : sound r ≡ true
  pub sized : sized t ≡ true
  pub formed : well_formed t ≡ true

-- MODEL 6.2: the column of block k, moved by p, is one of the device and has its kind
abbrev pub On : List ℕ → List ℕ → ℕ → ℕ → Type 0
On r t p k = (p + (block t k).column < columns (device_of r)) × (kind (device_of r) (p + (block t k).column) ≡ (block t k).kind)

-- the column of each block
abbrev pub OnEach : List ℕ → List ℕ → ℕ → Type 0
OnEach r t p = (k : ℕ) → k < blocks t → On r t p k

-- in steps of s, the runs L are the lifted bottoms of the first k blocks of the task in column p
abbrev pub FirstStanding : List ℕ → List ℕ → ℕ → ℕ → ℕ → List Run → Type 0
FirstStanding r t p k s L = Standing (device_of r) (book_of r) t p k s L

-- in some step, those of all blocks
pub record AllStanding (r t : List ℕ) (p : ℕ) (L : List Run) : Type 0 where
  pub step : ℕ
  pub listed : FirstStanding r t p (blocks t) step L

-- MODEL 10.4 and 10.5: the ranges of a task in column p, as the model lists them
abbrev pub ranges_in : Device → Book → List ℕ → ℕ → List Run
ranges_in d b t p = runs (step t) (fits d b t p) (half_rows d)
