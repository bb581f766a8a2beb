-- MODEL 8: the record of a device and a book, byte for byte, and what bytes say. Assumes nothing.
use Rattle.std.specs.Prelude.{ℕ, ◌+◌, ◌*◌, ◌/◌, ◌%◌, List, [], ◌∷◌, ◌++◌, map, length, get_or, take, drop, replicate}
use Rattle.runs.specs.Intervals.{Interval, interval}
use Rattle.model.specs.Limits.{max_columns, max_running, max_intervals, block_size, bytes, rows_at, columns_at, running_at, kinds_at, counts_at, intervals_at, column_size, interval_size, interval_top_at, entries_at, entry_size, entry_column_at, entry_count_at, entry_bottom_at, blocks_at}
use Rattle.model.specs.Bounded.{join_below, list_below}
use Rattle.model.specs.Columns.{Device, columns, kind}
use Rattle.model.specs.Tasks.{word, blocks}
use Rattle.model.specs.Book.{Running, Book, intervals}

-- ---- writing

-- MODEL 4.3: a number in two bytes
unfoldable pub bytes16 : ℕ → List ℕ
bytes16 n = n % bytes ∷ n / bytes % bytes ∷ []

-- MODEL 8.5: n bytes that begin with l; those that it does not use are 0
unfoldable pub padded : ℕ → List ℕ → List ℕ
padded n l = take n (l ++ replicate n 0)

-- MODEL 8.5: the i-th of places of k bytes that hold the pieces ps in their order, and then zeros
unfoldable pub slot : ℕ → List (List ℕ) → ℕ → List ℕ
slot k ps i = padded k (get_or ps i [])

-- n such places
unfoldable pub slots : ℕ → ℕ → List (List ℕ) → List ℕ
slots n k ps = join_below n (slot k ps)

-- MODEL 8.2: rows, number of columns and number of running tasks
unfoldable pub head_bytes : Device → Book → List ℕ
head_bytes d b = bytes16 d.rows ++ (columns d ∷ length b ∷ [])

-- MODEL 8.3: the bytes of an interval
unfoldable pub interval_bytes : Interval → List ℕ
interval_bytes i = bytes16 i.bottom ++ bytes16 i.top

-- MODEL 8.2 and 8.3: a column's part, with its intervals
unfoldable pub column_part : List Interval → List ℕ
column_part is = slots max_intervals interval_size (map interval_bytes is)

-- MODEL 8.4: the bytes of an entry that are in use
unfoldable pub entry_bytes : Running → List ℕ
entry_bytes e = bytes16 e.number ++ (e.column ∷ blocks e.task ∷ []) ++ bytes16 e.bottom ++ e.task

-- MODEL 8.4 and 8.5: running entry j
abbrev pub entry_part : Book → ℕ → List ℕ
entry_part b = slot entry_size (map entry_bytes b)

-- MODEL 8.2: the parts of a record in their order
unfoldable pub layout : List ℕ → (ℕ → ℕ) → (ℕ → ℕ) → (ℕ → List ℕ) → (ℕ → List ℕ) → List ℕ
layout head kinds counts columns entries =
    head ++ list_below max_columns kinds ++ list_below max_columns counts ++ join_below max_columns columns ++ join_below max_running entries

-- the record of a device and a book, but that column c has the intervals `is c`
unfoldable pub image : Device → Book → (ℕ → List Interval) → List ℕ
image d b is = layout (head_bytes d b) (kind d) (λ c. length (is c)) (λ c. column_part (is c)) (entry_part b)

-- MODEL 8.6 and 14.6: the record of a device and a book
unfoldable pub record_of : Device → Book → List ℕ
record_of d b = image d b (intervals d b)

-- ---- reading

-- n bytes from `at` on
unfoldable pub part {ℓ} : {A : Type ℓ} → List A → ℕ → ℕ → List A
part r at n = take n (drop at r)

-- MODEL 8.2: where the part of column c begins
abbrev pub column_at : ℕ → ℕ
column_at c = intervals_at + column_size * c

-- MODEL 8.2: where entry j begins
abbrev pub entry_at : ℕ → ℕ
entry_at j = entries_at + entry_size * j

-- MODEL 8.7: the device that bytes say
unfoldable pub device_of : List ℕ → Device
device_of r = record { rows = word r rows_at; kinds = list_below (get_or r columns_at 0) (λ c. get_or r (kinds_at + c) 0) }

-- MODEL 8.4 and 8.7: the running task that an entry says
unfoldable pub running_of : List ℕ → Running
running_of p = record {
  number = word p 0;
  column = get_or p entry_column_at 0;
  bottom = word p entry_bottom_at;
  task = part p blocks_at (block_size * get_or p entry_count_at 0);
}

-- MODEL 8.7: the book that bytes say
unfoldable pub book_of : List ℕ → Book
book_of r = list_below (get_or r running_at 0) (λ j. running_of (part r (entry_at j) entry_size))

-- MODEL 8.3: the intervals that are written for column c
unfoldable pub listed_intervals : List ℕ → ℕ → List Interval
listed_intervals r c =
    list_below (get_or r (counts_at + c) 0) (λ i. interval (word r (column_at c + interval_size * i)) (word r (column_at c + interval_size * i + interval_top_at)))
