-- A record changed in place, column by column and entry by entry: what the contracts of crate `record` say of the steps of a call. Assumes nothing.
use Rattle.std.specs.Prelude.{ℕ, suc, ◌+◌, ◌<◌, ◌≡◌, cond, List, [], ◌∷◌, ltb, length, get_or, set}
use Rattle.runs.specs.Intervals.{Interval}
use Rattle.model.specs.Limits.{max_columns, max_running, record_size, head_size, kinds_at, counts_at, column_size, entry_size}
use Rattle.model.specs.Book.{Running, Book}
use Rattle.model.specs.Record.{column_part, part, column_at, entry_at}
use Rattle.model.specs.Parts.{splice}

-- MODEL 8.2: r is laid out from these parts: the head, and of each column its kind, its count and its part, and each entry
pub record Reads (r : List ℕ) (head : List ℕ) (kinds counts : ℕ → ℕ) (columns entries : ℕ → List ℕ) : Type 0 where
  pub size : length r ≡ record_size
  pub head_is : part r 0 head_size ≡ head
  pub kind_is : (c : ℕ) → c < max_columns → get_or r (kinds_at + c) 0 ≡ kinds c
  pub count_is : (c : ℕ) → c < max_columns → get_or r (counts_at + c) 0 ≡ counts c
  pub column_is : (c : ℕ) → c < max_columns → part r (column_at c) column_size ≡ columns c
  pub entry_is : (j : ℕ) → j < max_running → part r (entry_at j) entry_size ≡ entries j

-- column c's part and count replaced by those of the intervals js
unfoldable pub put_column : List ℕ → ℕ → List Interval → List ℕ
put_column r c js = set (splice r (column_at c) column_size (column_part js)) (counts_at + c) (length js)

-- what is read for an entry that a book does not have
pub no_entry : Running
no_entry = record { number = 0; column = 0; bottom = 0; task = [] }

-- where a task of number n is put into a book (MODEL 8.4): how many entries stand before the first one with a higher number
unfoldable pub place : ℕ → Book → ℕ
place n [] = 0
place n (f ∷ b) = cond (ltb n f.number) 0 (suc (place n b))
