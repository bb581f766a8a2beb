-- MODEL 2: the limits; and the sizes and byte offsets of the layouts, and the ranges of a sheet's fields. Each stands here once, and everything else
-- uses its name. Assumes nothing.
use Rattle.std.specs.Prelude.{ℕ}

-- ---- devices, tasks and books

-- MODEL 2.2: rows of a device
abbrev pub max_rows : ℕ
max_rows = 128

-- MODEL 2.3: its columns
abbrev pub max_columns : ℕ
max_columns = 64

-- MODEL 3.3: the highest number of a kind
abbrev pub max_kind : ℕ
max_kind = 2

-- MODEL 2.4: blocks of a task
abbrev pub max_blocks : ℕ
max_blocks = 32

-- MODEL 4.2: the bytes of a block, and where all but its column stand
abbrev pub block_size : ℕ
block_size = 6

abbrev pub block_kind_at : ℕ
block_kind_at = 1

abbrev pub block_bottom_at : ℕ
block_bottom_at = 2

abbrev pub block_top_at : ℕ
block_top_at = 4

-- MODEL 2.5: how far a block may go below and above the bottom of its task
abbrev pub reach : ℕ
reach = 256

-- MODEL 2.6: tasks that run at one time
abbrev pub max_running : ℕ
max_running = 64

-- MODEL 2.7: the highest number of a task
abbrev pub max_number : ℕ
max_number = 65535

-- how many numbers one byte holds, and two bytes (MODEL 4.3)
abbrev pub bytes : ℕ
bytes = 256

abbrev pub words : ℕ
words = 65536

-- ---- the record

-- MODEL 8.1: its length
abbrev pub record_size : ℕ
record_size = 29188

-- MODEL 8.2: where the rows, the number of columns and the number of running tasks stand, and the bytes up to the kinds
abbrev pub rows_at : ℕ
rows_at = 0

abbrev pub columns_at : ℕ
columns_at = 2

abbrev pub running_at : ℕ
running_at = 3

abbrev pub head_size : ℕ
head_size = 4

-- MODEL 8.2: where the kinds stand, and the numbers of intervals
abbrev pub kinds_at : ℕ
kinds_at = 4

abbrev pub counts_at : ℕ
counts_at = 68

-- MODEL 8.2: where the part of column 0 stands, and the bytes of a part
abbrev pub intervals_at : ℕ
intervals_at = 132

abbrev pub column_size : ℕ
column_size = 256

-- MODEL 2.8: places for intervals in a column
abbrev pub max_intervals : ℕ
max_intervals = 64

-- MODEL 8.3: the bytes of an interval, and where its top stands
abbrev pub interval_size : ℕ
interval_size = 4

abbrev pub interval_top_at : ℕ
interval_top_at = 2

-- MODEL 8.2: where entry 0 stands, and the bytes of an entry
abbrev pub entries_at : ℕ
entries_at = 16516

abbrev pub entry_size : ℕ
entry_size = 198

-- MODEL 8.4: where all of an entry but its number stands
abbrev pub entry_column_at : ℕ
entry_column_at = 2

abbrev pub entry_count_at : ℕ
entry_count_at = 3

abbrev pub entry_bottom_at : ℕ
entry_bottom_at = 4

abbrev pub blocks_at : ℕ
blocks_at = 6

-- ---- the calls

-- MODEL 2.9: bytes that the output of list has at least
abbrev pub list_room : ℕ
list_room = 24576

-- MODEL 10.6: the bytes of a range, and where all but its column stand
abbrev pub range_size : ℕ
range_size = 6

abbrev pub range_step_at : ℕ
range_step_at = 1

abbrev pub range_first_at : ℕ
range_first_at = 2

abbrev pub range_last_at : ℕ
range_last_at = 4

-- MODEL 11.6: what a column counts for in a choice
abbrev pub column_weight : ℕ
column_weight = 1024

-- MODEL 22.4: all of it, in hundredths of a percent
abbrev pub whole_degree : ℕ
whole_degree = 10000

-- ---- the sheet

-- MODEL 2.10: bytes in a line, without its newline
abbrev pub max_line : ℕ
max_line = 80

-- MODEL 2.11: bytes of a sheet
abbrev pub max_sheet : ℕ
max_sheet = 32768

-- MODEL 17.7: the highest task, rows and column, and the highest bottom or top; the lowest bottom or top is −32,768
abbrev pub max_task_field : ℕ
max_task_field = 65535

abbrev pub max_rows_field : ℕ
max_rows_field = 65535

abbrev pub max_column_field : ℕ
max_column_field = 255

abbrev pub max_height_field : ℕ
max_height_field = 32767
