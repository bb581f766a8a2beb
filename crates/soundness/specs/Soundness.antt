-- MODEL 9: a record checked in one pass over its bytes, as the contracts of `sound` and of what it calls have it. Assumes nothing.
use Rattle.std.specs.Prelude.{ℕ, zero, suc, ◌+◌, ◌*◌, ◌≤◌, ◌<◌, ◌≡◌, Bool, true, false, List, get_or, take}
use Rattle.model.specs.Limits.{max_blocks, block_size, record_size, columns_at, running_at, kinds_at, counts_at, intervals_at, column_size, entries_at, blocks_at, entry_size}
use Rattle.model.specs.Book.{Book, held, intervals}
use Rattle.model.specs.Record.{part, column_at, entry_at, device_of, book_of}
use Rattle.model.specs.Sound.{within, block_count, count_of, sound}
use Rattle.model.specs.InPlace.{no_entry}
use Rattle.model.proofs.Laws.Clauses.{Zero}
use Rattle.cells.specs.Ends.{PartIs}
use Rattle.cells.specs.Shown.{Shown}
use Rattle.record.specs.Entries.{entry_of}
use Rattle.marks.specs.Marks.{words_of}

-- the number of the task before task j of a book, or m where there is none before it
unfoldable pub prior : ℕ → Book → ℕ → ℕ
prior m b zero = m
prior m b (suc j) = (get_or b j no_entry).number

-- MODEL 9.8: the bytes of running entry i behind its last block are 0
abbrev pub RestZero : List ℕ → ℕ → Type 0
RestZero r i = Zero r (entry_at i + blocks_at + block_size * block_count r i) (entry_at i + entry_size)

-- the cells that r's first j tasks hold are marked in H; these tasks are within the limits, have 1 to `max_blocks` blocks each, and zeros behind them
pub record TasksHeld (r H : List ℕ) (j : ℕ) : Type 0 where
  pub limits : within (device_of r) (take j (book_of r)) ≡ true
  pub shown : Shown (device_of r) (held (take j (book_of r))) (words_of H)
  pub rests : (i : ℕ) → i < j → RestZero r i
  pub some_blocks : (i : ℕ) → i < j → 1 ≤ block_count r i
  pub few_blocks : (i : ℕ) → i < j → block_count r i ≤ max_blocks

-- MODEL 9.7, and 9.8 for the places behind: column c lists the free intervals of r's book
abbrev pub ColumnOk : List ℕ → ℕ → Type 0
ColumnOk r c = PartIs (part r (column_at c) column_size) (count_of r c) (intervals (device_of r) (book_of r) c)

-- and so do the first n columns
abbrev pub ColumnsOk : List ℕ → ℕ → Type 0
ColumnsOk r n = (c : ℕ) → c < n → ColumnOk r c

-- MODEL 9.8: the bytes behind the kinds, the counts, the parts and the entries that are in use are 0 (of the rest of a part `ColumnOk` speaks, of that
-- of an entry `RestZero`)
pub record Unused (r : List ℕ) : Type 0 where
  pub kinds : Zero r (kinds_at + get_or r columns_at 0) counts_at
  pub counts : Zero r (counts_at + get_or r columns_at 0) intervals_at
  pub parts : Zero r (column_at (get_or r columns_at 0)) entries_at
  pub entries : Zero r (entry_at (get_or r running_at 0)) record_size

-- where ok, P holds; and where not, r is not sound, for this or for another reason
pub record Judged (r : List ℕ) (P : Type 0) (ok : Bool) : Type 0 where
  pub holds : ok ≡ true → P
  pub refused : ok ≡ false → sound r ≡ false
