-- MODEL 12.3: what the contracts of `clear` say. Assumes nothing.
use Rattle.std.specs.Prelude.{ℕ, ◌+◌, ◌<◌, ◌≡◌, List, [], length, get_or}
use Rattle.model.specs.Limits.{max_columns, record_size, counts_at, column_size}
use Rattle.model.specs.Record.{column_part, part, column_at}

-- column c of r lists no interval
pub record Closed (r : List ℕ) (c : ℕ) : Type 0 where
  pub size : length r ≡ record_size
  pub column : c < max_columns
  pub part_is : part r (column_at c) column_size ≡ column_part []
  pub count_is : get_or r (counts_at + c) 0 ≡ 0
