-- MODEL 8.2 and 8.3: a column's part as it is lent out of a record. What it lists is what the record lists for the column. Assumes nothing.
use Rattle.std.proofs.Common.{ℕ, ◌+◌, ◌-◌, ◌*◌, ◌≤◌, ◌<◌, ◌≡◌, List, length, take, drop, sym, arith, add_assoc, zero-add}
use Rattle.runs.specs.Intervals.{interval}
use Rattle.model.specs.Limits.{max_columns, max_intervals, record_size, column_size, interval_size}
use Rattle.model.specs.Record.{part, column_at, listed_intervals}
use Rattle.model.specs.Sound.{count_of}
use Rattle.model.proofs.Laws.Parts.{length_part, get_d_list}
use Rattle.model.proofs.Laws.ColumnPart.{word_part}
use Rattle.model.proofs.Laws.WriteBack.{said, count_listed}
use Rattle.column.specs.Part.{interval_at, listed_in, Part}
use Rattle.column.specs.Laws.Part.{listed_is}

-- column c's part, as `&record[a..e]` lends it
abbrev pub lent : List ℕ → ℕ → List ℕ
lent r c = take (column_at c + column_size - column_at c) (drop (column_at c) r)

lent_part : (r : List ℕ) (c : ℕ) → lent r c ≡ part r (column_at c) column_size
unfolding part
lent_part r c = let e : column_at c + column_size - column_at c ≡ column_size = omega arith in rw e

module _ (r : List ℕ) (c : ℕ) (size : length r ≡ record_size) (on : c < max_columns) (few : count_of r c ≤ max_intervals) where
  pub lent_is : Part (lent r c) (count_of r c)
  lent_is = rw lent_part (record { size = length_part r (column_at c) column_size (omega arith); few = few })

  pub listed_lent : listed_in (lent r c) (count_of r c) ≡ listed_intervals r c
  unfolding listed_in interval_at listed_intervals
  listed_lent =
      let p = part r (column_at c) column_size in
      let none = interval 0 0 in
      rw (lent_part r c) (rw (count_listed r c) at (listed_is p (listed_intervals r c) none 0 (λ j l.
      let q : j < count_of r c = omega (arith, count_listed r c) in
      rw (zero-add, word_part r (column_at c) column_size (interval_size * j) (omega arith), word_part r (column_at c) column_size (interval_size * j + 2) (omega arith), ← add_assoc)
      (sym (get_d_list (said r c) (count_of r c) j none q)))))
