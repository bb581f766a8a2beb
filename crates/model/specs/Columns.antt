-- MODEL 3: devices, columns and their kinds, heights and cells. Heights are in half rows (MODEL 3.1). Assumes nothing.
use Rattle.std.specs.Prelude.{ℕ, ◌*◌, ◌/◌, Bool, cond, ◌&&◌, List, leb, eqb, length, get_or}
use Rattle.model.specs.Limits.{max_rows, max_columns, max_kind}
use Rattle.model.specs.Bounded.{all_in}

-- MODEL 3.3: the numbers of the kinds
abbrev pub kind_C : ℕ
kind_C = 0

abbrev pub kind_B : ℕ
kind_B = 1

abbrev pub kind_D : ℕ
kind_D = 2

-- MODEL 3.3: how high the cells of a kind are
unfoldable pub height : ℕ → ℕ
height k = cond (eqb k kind_C) 2 5

-- MODEL 3.4: how many cells a column of kind k has, on a device of that many rows
unfoldable pub cells_in : ℕ → ℕ → ℕ
cells_in rows k = 2 * rows / height k

-- MODEL 3.6: where the last of them ends
unfoldable pub top_in : ℕ → ℕ → ℕ
top_in rows k = height k * cells_in rows k

-- MODEL 3.2 and 3.3: a device has rows, and columns from 0 up, each with its kind
pub record Device : Type 0 where
  pub rows : ℕ
  pub kinds : List ℕ

-- MODEL 3.1: its height, at two half rows to a row
abbrev pub half_rows : Device → ℕ
half_rows d = 2 * d.rows

-- MODEL 3.2: how many columns it has
unfoldable pub columns : Device → ℕ
columns d = length d.kinds

-- MODEL 3.3: the kind of column c, 0 where there is no such column
unfoldable pub kind : Device → ℕ → ℕ
kind d c = get_or d.kinds c 0

-- MODEL 3.4: the number of cells of column c
unfoldable pub cells : Device → ℕ → ℕ
cells d c = cells_in d.rows (kind d c)

-- MODEL 3.6: the top of column c
unfoldable pub top : Device → ℕ → ℕ
top d c = top_in d.rows (kind d c)

-- MODEL 3.2 and 3.3: rows, number of columns and kinds are those of a device
unfoldable pub device_ok : Device → Bool
device_ok d =
    leb 1 d.rows && leb d.rows max_rows && leb 1 (columns d) && leb (columns d) max_columns && all_in (λ k. leb k max_kind) d.kinds
