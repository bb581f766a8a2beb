-- MODEL 11: what the functions that look for the choice answer. Assumes nothing.
use Rattle.std.specs.Prelude.{ℕ, suc, ◌+◌, ◌-◌, ◌*◌, ◌≤◌, ◌<◌, min, ◌≡◌, ◌⊎◌, Bool, true, false, not, cond, ◌&&◌, List, Option, Some, None, leb, ltb, eqb, ℤ, pos, neg_ℤ}
use Rattle.runs.specs.Runs.{run, Steps, In}
use Rattle.runs.specs.Intervals.{Interval, Holds}
use Rattle.runs.specs.declared.Range.{Range}
use Rattle.model.specs.Limits.{max_rows, max_columns, column_weight, words, reach}
use Rattle.model.specs.Bounded.{sum_below}
use Rattle.model.specs.Columns.{Device}
use Rattle.model.specs.Tasks.{step}
use Rattle.model.specs.Book.{Book, Placed, placed, fits, intervals}
use Rattle.model.specs.Choice.{Judge, judge, Found, nothing, at, climb, chosen}
use Rattle.model.specs.Calls.{choose, on_book}
use Rattle.model.specs.Record.{device_of, book_of}
use Rattle.model.specs.Homes.{bit, holder, home, adds, first_span, Room}
use Rattle.column.specs.declared.Interval.{Interval as Rows}
use Rattle.task.specs.declared.Extent.{Extent}
use Rattle.task.specs.Blocks.{rows_of}
use Rattle.choice.specs.Bounds.{max_pieces, max_stretch}
use Rattle.choice.specs.declared.score.Choice.{Choice}
use Rattle.choice.specs.declared.tally.Place.{Place}
use Rattle.choice.specs.declared.tally.Rating.{Rating}
use Rattle.choice.specs.declared.tally.Tally.{Tally}

-- ---- one block

-- MODEL 6.5: the free intervals of each column of the record r
abbrev pub free_in : List ℕ → ℕ → List Interval
free_in r = intervals (device_of r) (book_of r)

-- the half rows of i in column c, as the code has them
abbrev pub place_at : ℕ → Interval → Place
place_at c i = record { column = c; rows = record { bottom = i.bottom; top = i.top } }

-- MODEL 6.1: where the block x is, with its task at column p, bottom y
abbrev pub moved : Extent → ℕ → ℕ → Place
moved x p y = record { column = p + x.column; rows = rows_of x y }

-- a block that is not empty stands on a device within the limits, with the task at column p, bottom y
pub record OnDevice (x : Extent) (p y : ℕ) : Type 0 where
  pub column : p + x.column < max_columns
  pub low : reach ≤ y + x.low
  pub full : x.low < x.high
  pub high : y + x.high ≤ 2 * max_rows + reach

-- a block b that is not empty stands in a free interval L c of its column c
pub record Stands (L : ℕ → List Interval) (b : Place) : Type 0 where
  pub on_device : b.column < max_columns
  pub full : b.rows.bottom < b.rows.top
  pub held : Holds b.rows.bottom b.rows.top (L b.column)

-- MODEL 11.1: and that interval is its home
abbrev pub home_of : (ℕ → List Interval) → Place → Place
home_of L b = place_at b.column (holder (L b.column) b.rows.bottom)

-- the block b stands in the home h of the block before it: it ends there
abbrev pub shared : Place → Place → Bool
shared h b = eqb h.column b.column && leb b.rows.top h.rows.top

-- the block b ends inside the interval h, which is within the limits of a device
pub record Housed (b h : Rows) : Type 0 where
  pub low : h.bottom ≤ h.top
  pub above : b.top ≤ h.top
  pub roof_small : h.top ≤ 2 * max_rows

-- MODEL 11.3: the pieces that a block b in the interval h adds: the one that is left below it, unless it is joined to the block before it in one
-- interval, and the one above it
abbrev pub pieces_of : Bool → Rows → Rows → ℕ
pieces_of joined b h = bit (not joined && ltb h.bottom b.bottom) + bit (ltb b.top h.top)

-- MODEL 11.2: the height of its interval, unless the block before it has counted it
abbrev pub span_of : Bool → Rows → ℕ
span_of joined h = cond joined 0 (h.top - h.bottom)

-- n, s and the room of a block b by itself, in the interval h, and joined there to the block before it or not
pub record Alone (joined : Bool) (b h : Rows) (y : Rating) : Type 0 where
  pub pieces : y.score.pieces ≡ pieces_of joined b h
  pub stretch : y.score.stretch ≡ span_of joined h
  pub room : y.room ≡ h.top - b.top

-- n, s and the least room of the blocks of x and those of y
pub record Together (x y z : Rating) : Type 0 where
  pub pieces : z.score.pieces ≡ x.score.pieces + y.score.pieces
  pub stretch : z.score.stretch ≡ x.score.stretch + y.score.stretch
  pub room : z.room ≡ min x.room y.room

-- what is asked of a block more: it stands free, and n and s are not yet at their bounds
pub record Addable (L : ℕ → List Interval) (x : Rating) (b : Place) : Type 0 where
  pub stands : Stands L b
  pub few : x.score.pieces + 2 ≤ max_pieces
  pub short : x.score.stretch + 2 * max_rows ≤ max_stretch

-- n, s and the least room with a block b more, in the interval h, and joined there to the block before it or not
pub record Added (x : Rating) (joined : Bool) (b h : Rows) (y : Rating) : Type 0 where
  pub pieces : y.score.pieces ≡ x.score.pieces + pieces_of joined b h
  pub stretch : y.score.stretch ≡ x.score.stretch + span_of joined h
  pub room : y.room ≡ min x.room (h.top - b.top)

-- ---- the blocks so far

-- k blocks are scored: n and s so far, and a room that each of them has above it in its interval
pub record Rated (B : Placed) (L : ℕ → List Interval) (k : ℕ) (x : Rating) : Type 0 where
  pub within : k ≤ B.count
  pub pieces : x.score.pieces ≡ sum_below k (adds B L)
  pub stretch : x.score.stretch ≡ sum_below k (first_span B L)
  pub room : (j : ℕ) → j < k → B.top j + x.room ≤ (home B L j).top
  pub pieces_few : x.score.pieces ≤ 2 * k
  pub stretch_small : x.score.stretch ≤ 2 * max_rows * k
  pub room_small : x.room < words

-- and the home of the last of them
pub record Scoring (B : Placed) (L : ℕ → List Interval) (k : ℕ) (x : Tally) : Type 0 where
  pub rated : Rated B L k x.rating
  pub last : x.last ≡ place_at (B.column (k - 1)) (home B L (k - 1))

-- ---- one position

-- MODEL 11.2 and 11.3: the n and s of column p, bottom y, and a room that each block has above it in its interval
pub record Scored (d : Device) (b : Book) (t : List ℕ) (p y : ℕ) (x : Rating) : Type 0 where
  pub pieces : x.score.pieces ≡ (judge d b t).n p y
  pub stretch : x.score.stretch ≡ (judge d b t).s p y
  pub room : Room x.room (placed t p y) (intervals d b)
  pub room_small : x.room < words

-- ---- the best so far

-- b is the position f, with its n and s
abbrev pub Is : Judge → Found → Option Choice → Type 0
Is J f None = f ≡ nothing
Is J f (Some c) =
    (f ≡ at c.position.column c.position.bottom) × (c.score.pieces ≡ J.n c.position.column c.position.bottom) × (c.score.stretch ≡ J.s c.position.column c.position.bottom)

-- MODEL 11.4 and 11.5: the best of b and of the choice c; b where they are equal
abbrev pub better_of : Option Choice → Choice → Option Choice
better_of None c = Some c
better_of (Some b) c = cond (ltb (c.score.pieces * b.score.stretch) (b.score.pieces * c.score.stretch)) (Some c) (Some b)

-- ---- the way up a column

-- what `rise` answers: j steps and one more, where j steps are below the room, or are none
pub record Rises (room step v : ℕ) : Type 0 where
  pub steps : ℕ
  pub is : v ≡ suc steps * step
  pub inside : (steps ≡ 0) ⊎ (steps * step < room)
  pub small : v ≤ room + step

-- where b is the best below bottom y of column p, c is the best below bottom x
abbrev pub Climbed : Judge → ℕ → ℕ → ℕ → Option Choice → Option Choice → Type 0
Climbed J p y x b c = (f : Found) → Is J (climb J p y f) b → Is J (climb J p x f) c

-- MODEL 10.4: R is a range of column p; all that it names fits, and not one step more
pub record FitsRange (d : Device) (b : Book) (t : List ℕ) (p : ℕ) (R : Range) : Type 0 where
  pub step_is : R.step ≡ step t
  pub last_in : Steps (step t) R.first R.last
  pub all_fit : (y : ℕ) → In (step t) y (run R.first R.last) → fits d b t p y ≡ true
  pub ends : fits d b t p (R.last + step t) ≡ false

-- ---- the answer

-- MODEL 21.6: the number of each case, which is that of the choice (MODEL 11.6) or −9 (MODEL 13.1)
abbrev pub answer_of : Option Choice → ℤ
answer_of None = neg_ℤ (pos 9)
answer_of (Some c) = pos (c.position.column * column_weight + c.position.bottom)

-- the position is on a device within the limits
abbrev pub Near : Option Choice → Type 0
Near None = Unit {0}
Near (Some c) = (c.position.column < max_columns) × (c.position.bottom < 2 * max_rows)

-- MODEL 11.5 and 14.4: e is the choice with its n and s, or nothing, and its number is the answer of the model's call on the book
pub record Chooses (d : Device) (b : Book) (t : List ℕ) (e : Option Choice) : Type 0 where
  pub answer_is : answer_of e ≡ (on_book d b (choose t)).answer
  pub position_is : Is (judge d b t) (chosen d b t) e
  pub near : Near e
