-- MODEL 10 and 12.6: the bytes of a listing, and what `list` answers. Assumes nothing.
use Rattle.std.specs.Prelude.{ℕ, ◌+◌, ◌*◌, ◌≤◌, ◌<◌, ◌≡◌, List, map, ℤ, pos, neg_ℤ, length, All, Option, Some, None}
use Rattle.runs.specs.Runs.{Run}
use Rattle.model.specs.Limits.{words, range_size}
use Rattle.model.specs.Bounded.{join_in, join_below}
use Rattle.model.specs.Columns.{Device}
use Rattle.model.specs.Tasks.{step}
use Rattle.model.specs.Book.{Book}
use Rattle.model.specs.Listing.{Range, range_of}
use Rattle.model.specs.Record.{device_of, book_of}
use Rattle.model.specs.Calls.{list, range_bytes, on_book}
use Rattle.listing.specs.Columns.{ranges_in}

-- a run of two-byte numbers
abbrev pub IsSmall : Run → Type 0
IsSmall q = (q.first < words) × (q.last < words)

-- MODEL 10.6: a range fits its bytes, and has room as number n of an output of that size
pub record Writable (size n : ℕ) (q : Run) : Type 0 where
  pub room : range_size * n + range_size ≤ size
  pub fits : IsSmall q

-- the runs L, as numbers n and up
pub record AllWritable (size n : ℕ) (L : List Run) : Type 0 where
  pub room : range_size * (n + length L) ≤ size
  pub fits : All IsSmall L

-- MODEL 10.6: the bytes of the ranges of a column
abbrev pub column_bytes : ℕ → ℕ → List Run → List ℕ
column_bytes p s L = join_in range_bytes (map (range_of p s) L)

-- MODEL 10.5: the ranges of the columns below p
abbrev pub ranges_below : List ℕ → List ℕ → ℕ → List Range
ranges_below r t p = join_below p (λ q. map (range_of q (step t)) (ranges_in (device_of r) (book_of r) t q))

-- MODEL 21.6: the number of each case, which is that of the ranges (MODEL 12.1) or −9 (MODEL 13.1)
abbrev pub answer_of : Option ℕ → ℤ
answer_of (Some n) = pos n
answer_of None = neg_ℤ (pos 9)

-- MODEL 14.4 and 14.5: what `list` answers, and its output before and after, by the model's call on the book
pub record Answers (a : Option ℕ) (d : Device) (b : Book) (t o o' : List ℕ) : Type 0 where
  pub answer_is : answer_of a ≡ (on_book d b (list t o)).answer
  pub output_is : o' ≡ (on_book d b (list t o)).output
