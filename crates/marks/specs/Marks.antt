-- The blocks of a task, marked in the bits of a card's columns. Assumes nothing.
use Rattle.std.specs.Prelude.{ℕ, suc, ◌+◌, ◌-◌, ◌*◌, ◌/◌, ◌%◌, ◌≤◌, ◌<◌, ◌≡◌, Bool, true, false, List}
use Rattle.model.specs.Limits.{bytes, max_rows, max_columns, reach, words}
use Rattle.model.specs.Columns.{Device, columns, kind, cells, height}
use Rattle.model.specs.Tasks.{Block, blocks, block, well_formed}
use Rattle.model.specs.Book.{Book, placed, held, block_fits, fits}
use Rattle.model.specs.Record.{part}
use Rattle.cells.specs.Bits.{word_bits}
use Rattle.cells.specs.Shown.{Shown, held_with}

-- the words of a column: a bit for each cell that it may have
abbrev pub column_words : ℕ
column_words = max_rows / word_bits

-- those of all columns
abbrev pub all_words : ℕ
all_words = column_words * max_columns

-- the words of column c
abbrev pub words_of : List ℕ → ℕ → List ℕ
words_of H c = part H (column_words * c) column_words

-- a position that can be read from an entry
pub record EntryPosition (p y : ℕ) : Type 0 where
  pub column : p < bytes
  pub bottom : y < words

-- MODEL 6.2 to 6.4: the block k, which is whole cells, moved to column p and bottom y, stands on the grid of a column of its kind, and within it: on the
-- cells from a up to e
pub record OnCells (d : Device) (k : Block) (p y a e : ℕ) : Type 0 where
  pub column : p + k.column < columns d
  pub kind : kind d (p + k.column) ≡ k.kind
  pub above : reach ≤ y + k.low
  pub grid : (y + k.low - reach) % height k.kind ≡ 0
  pub first : a ≡ (y + k.low - reach) / height k.kind
  pub last : e ≡ (y + k.high - reach) / height k.kind
  pub below : e ≤ cells d (p + k.column)

-- moved there, the block k fits on no book of d, whatever is free
abbrev pub FitsNowhere : Device → Block → ℕ → ℕ → Type 0
FitsNowhere d k p y = (b : Book) → block_fits d b k p y ≡ false

-- block j of t is k, and what the book b and the blocks before j hold is marked in H
pub record BlockDue (d : Device) (H : List ℕ) (k : Block) (p y : ℕ) (b : Book) (t : List ℕ) (j : ℕ) : Type 0 where
  pub formed : well_formed t ≡ true
  pub among : j < blocks t
  pub is : block t j ≡ k
  pub shown : Shown d (held_with b (placed t p y) j) (words_of H)

-- ok says whether the block k fits on each book that the bits show, and if so it is marked; if not, the words are of no more use. Where the bits show no
-- book, nothing is said
pub record BlockMarked (d : Device) (H : List ℕ) (k : Block) (p y : ℕ) (U : List ℕ) (ok : Bool) : Type 0 where
  pub answers : (b : Book) (t : List ℕ) (j : ℕ) → BlockDue d H k p y b t j → ok ≡ block_fits d b k p y
  pub marks : (b : Book) (t : List ℕ) (j : ℕ) → BlockDue d H k p y b t j → ok ≡ true → Shown d (held_with b (placed t p y) (suc j)) (words_of U)

-- ok says whether the task t fits on each book that the bits show, and if so its blocks are marked; if not, the words are of no more use. Where the bits
-- show no book, nothing is said
pub record TaskMarked (d : Device) (H t : List ℕ) (p y : ℕ) (U : List ℕ) (ok : Bool) : Type 0 where
  pub answers : (b : Book) → Shown d (held b) (words_of H) → ok ≡ fits d b t p y
  pub marks : (b : Book) → Shown d (held b) (words_of H) → ok ≡ true → Shown d (held_with b (placed t p y) (blocks t)) (words_of U)
