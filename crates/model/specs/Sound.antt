-- MODEL 9: when a string of bytes is sound, clause by clause. Assumes nothing.
use Rattle.std.specs.Prelude.{ℕ, ◌+◌, ◌-◌, ◌*◌, Bool, true, false, not, cond, ◌&&◌, List, [], ◌∷◌, leb, ltb, eqb, length, get_or}
use Rattle.runs.specs.Intervals.{Interval}
use Rattle.model.specs.Limits.{max_columns, max_running, max_number, max_blocks, max_intervals, block_size, record_size, columns_at, running_at, kinds_at, counts_at, column_size, interval_size, entry_size, entry_count_at, blocks_at}
use Rattle.model.specs.Bounded.{all_below, any_below, all_in}
use Rattle.model.specs.Columns.{Device, columns, cells, device_ok}
use Rattle.model.specs.Tasks.{sized, well_formed}
use Rattle.model.specs.Book.{Running, Book, fits, intervals, holds_cell}
use Rattle.model.specs.Record.{device_of, book_of, listed_intervals, column_at, entry_at}

-- ---- the running tasks

-- MODEL 5.1 and 9.4: a number of a task
unfoldable pub number_ok : ℕ → Bool
number_ok n = leb 1 n && leb n max_number

-- MODEL 9.4: each number is greater than the one before it
unfoldable pub rising : Book → Bool
rising [] = true
rising (e ∷ []) = true
rising (e ∷ f ∷ b) = ltb e.number f.number && rising (f ∷ b)

-- MODEL 9.5: a running task is well-formed, and fits at its position when no task runs
unfoldable pub task_ok : Device → Running → Bool
task_ok d e = sized e.task && well_formed e.task && fits d [] e.task e.column e.bottom

-- MODEL 9.6: two tasks hold one cell of the device
unfoldable pub share : Device → Running → Running → Bool
share d e f = any_below (columns d) (λ c. any_below (cells d c) (λ k. holds_cell d e c k && holds_cell d f c k))

-- MODEL 9.6: no two tasks of the book do
unfoldable pub apart : Device → Book → Bool
apart d [] = true
apart d (e ∷ b) = all_in (λ f. not (share d e f)) b && apart d b

-- MODEL 9.3 to 9.6: what is asked of the book
unfoldable pub book_ok : Device → Book → Bool
book_ok d b = leb (length b) max_running && all_in (λ e. number_ok e.number) b && rising b && all_in (task_ok d) b && apart d b

-- MODEL 9.2 to 9.6: what is asked of the device and the book, which are then within the limits
unfoldable pub within : Device → Book → Bool
within d b = device_ok d && book_ok d b

-- ---- the bytes

-- MODEL 8.2: the count of intervals of column c, as written
abbrev pub count_of : List ℕ → ℕ → ℕ
count_of r c = get_or r (counts_at + c) 0

-- MODEL 8.4: the count of blocks of entry j, as written
abbrev pub block_count : List ℕ → ℕ → ℕ
block_count r j = get_or r (entry_at j + entry_count_at) 0

-- MODEL 9.3: the counts of running tasks, of the blocks of each, and of the intervals of each column
unfoldable pub counts_ok : List ℕ → Bool
counts_ok r =
    leb (get_or r running_at 0) max_running
    && all_below (get_or r running_at 0) (λ j. leb 1 (block_count r j) && leb (block_count r j) max_blocks)
    && all_below max_columns (λ c. leb (count_of r c) max_intervals)

-- two lists of intervals are the same
unfoldable pub same_intervals : List Interval → List Interval → Bool
same_intervals [] [] = true
same_intervals [] (j ∷ M) = false
same_intervals (i ∷ L) [] = false
same_intervals (i ∷ L) (j ∷ M) = eqb i.bottom j.bottom && eqb i.top j.top && same_intervals L M

-- MODEL 9.7: the intervals that are written are those of the device and the book
unfoldable pub intervals_ok : List ℕ → Bool
intervals_ok r = all_below (columns (device_of r)) (λ c. same_intervals (listed_intervals r c) (intervals (device_of r) (book_of r) c))

-- the bytes from a on and below e are 0
unfoldable pub zeros : List ℕ → ℕ → ℕ → Bool
zeros r a e = all_below (e - a) (λ i. eqb (get_or r (a + i) 0) 0)

-- MODEL 8.4: how many bytes of entry j are in use
unfoldable pub used : List ℕ → ℕ → ℕ
used r j = cond (ltb j (get_or r running_at 0)) (blocks_at + block_size * block_count r j) 0

-- MODEL 9.8: bytes that nothing uses are 0 (MODEL 8.5): kinds, then counts, then places for intervals, then entries and places for blocks
unfoldable pub unused_ok : List ℕ → Bool
unused_ok r =
    zeros r (kinds_at + get_or r columns_at 0) (kinds_at + max_columns)
    && zeros r (counts_at + get_or r columns_at 0) (counts_at + max_columns)
    && all_below max_columns (λ c. zeros r (column_at c + interval_size * count_of r c) (column_at c + column_size))
    && all_below max_running (λ j. zeros r (entry_at j + used r j) (entry_at j + entry_size))

-- MODEL 9.1: the length of a record, and all of the above
unfoldable pub sound : List ℕ → Bool
sound r = eqb (length r) record_size && counts_ok r && within (device_of r) (book_of r) && intervals_ok r && unused_ok r
