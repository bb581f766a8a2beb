-- MODEL 15: the claim about a whole history (demand 3), in words of cells, positions and bytes. That it holds of every history is the theorem
-- `history` in Laws.History. Assumes nothing.
use Rattle.std.specs.Prelude.{ℕ, ◌+◌, ◌-◌, ◌*◌, ◌%◌, ◌≤◌, ◌<◌, ◌≡◌, ◌⊎◌, ◌↔◌, true, List, [], ◌∷◌, ℤ, pos, neg_ℤ, length}
use Rattle.model.specs.Limits.{reach, list_room}
use Rattle.model.specs.Bounded.{In, join_in}
use Rattle.model.specs.Columns.{Device, columns, kind, height}
use Rattle.model.specs.Tasks.{Block, blocks, block, sized, well_formed}
use Rattle.model.specs.Book.{Running, Book, holds_cell, cell_free}
use Rattle.model.specs.Listing.{ranges, Position, position, named, fitting}
use Rattle.model.specs.Record.{record_of}
use Rattle.model.specs.Sound.{rising}
use Rattle.model.specs.Calls.{Call, list, choose, Outcome, range_bytes, ranges_in, over}
use Rattle.model.specs.OnRecord.{on_record, new, measured, fragmentation}
use Rattle.model.specs.History.{Trace, on_records, book_of_history}

-- MODEL 6.2, 6.3 and 6.5 of block k, moved to column p and bottom y, on cells: it covers the cells m that begin, at height × m (MODEL 3.5), from its
-- bottom on and below its top. That it does not go above the top of the column (MODEL 6.4) follows, since a free cell is a cell of the device.
pub record OnCells (d : Device) (b : Book) (k : Block) (p y : ℕ) : Type 0 where
  pub column : p + k.column < columns d
  pub kind : kind d (p + k.column) ≡ k.kind
  pub above : reach ≤ y + k.low
  pub grid : (y + k.low - reach) % height k.kind ≡ 0
  pub free : (m : ℕ) → y + k.low - reach ≤ height k.kind * m → height k.kind * m < y + k.high - reach → cell_free d b (p + k.column) m ≡ true

-- MODEL 6.1: all blocks of the task do
abbrev pub AllOnCells : Device → Book → List ℕ → ℕ → ℕ → Type 0
AllOnCells d b t p y = (k : ℕ) → k < blocks t → OnCells d b (block t k) p y

-- MODEL 14.3: the device that new got
abbrev pub device : ℕ → List ℕ → Device
device rows kinds = record { rows = rows; kinds = kinds }

-- MODEL 15.6: position u comes before v, by column and then by bottom
abbrev pub Before : Position → Position → Type 0
Before u v = (u.column < v.column) ⊎ ((u.column ≡ v.column) × (u.bottom < v.bottom))

-- MODEL 15.6: each position comes before all that stand behind it, so each stands once
abbrev pub InOrder : List Position → Type 0
InOrder [] = Unit {0}
InOrder (u ∷ L) = ((v : Position) → In v L → Before u v) × InOrder L

-- L is what a list of task t with output o leaves, on a record r with the book b
pub record Listed (d : Device) (b : Book) (r t o : List ℕ) (L : Outcome (List ℕ)) : Type 0 where
  -- MODEL 12.1, 12.6 and 12.7: the number of ranges, their bytes at the front of the output, and the record as it was
  pub answer : L.answer ≡ pos (length (ranges d b t))
  pub output : L.output ≡ over (join_in range_bytes (ranges d b t)) o
  pub state : L.state ≡ r
  -- MODEL 15.6: its bytes say these ranges, and they name the positions at which the task fits
  pub said : ranges_in (length (ranges d b t)) L.output ≡ ranges d b t
  pub names : join_in named (ranges d b t) ≡ fitting d b t

-- MODEL 15.1: R is what the calls gave on the record, B what they gave in the book
pub record History (d : Device) (R : Trace (List ℕ)) (B : Trace Book) : Type 0 where
  -- MODEL 15.2: answers and outputs are the book's
  pub answers : R.answers ≡ B.answers
  pub outputs : R.outputs ≡ B.outputs
  -- MODEL 15.3: no call finds a bad record
  pub no_bad_record : (a : ℤ) → In a R.answers → ¬ (a ≡ neg_ℤ (pos 1)) × ¬ (a ≡ neg_ℤ (pos 2))
  -- MODEL 15.4: no number runs twice, and no cell is held by two tasks
  pub rising : rising B.final ≡ true
  pub apart : (e f : Running) → In e B.final → In f B.final → ¬ (e.number ≡ f.number)
      → (c k : ℕ) → holds_cell d e c k ≡ true → holds_cell d f c k ≡ true → ⊥
  -- MODEL 15.5: the record is the book's
  pub same_bytes : R.final ≡ record_of d B.final
  -- MODEL 15.6: a list that follows, where there is a position (MODEL 15.7 has the other case)
  pub listing : (t o : List ℕ) → sized t ≡ true → well_formed t ≡ true → list_room ≤ length o → (p y : ℕ) → AllOnCells d B.final t p y
      → Listed d B.final R.final t o (on_record R.final (list t o))
  -- MODEL 15.6: the positions that it names are those at which every block fits on cells free in the book
  pub positions : (t : List ℕ) → sized t ≡ true → well_formed t ≡ true → (p y : ℕ) → In (position p y) (fitting d B.final t) ↔ AllOnCells d B.final t p y
  -- MODEL 15.6: each once, and in order
  pub in_order : (t : List ℕ) → InOrder (fitting d B.final t)
  -- MODEL 15.7: list and choose answer −9 just where there is no such position
  pub list_none : (t o : List ℕ) → sized t ≡ true → well_formed t ≡ true → list_room ≤ length o
      → ((on_record R.final (list t o)).answer ≡ neg_ℤ (pos 9)) ↔ ((p y : ℕ) → ¬ (AllOnCells d B.final t p y))
  pub choose_none : (t : List ℕ) → sized t ≡ true → well_formed t ≡ true
      → ((on_record R.final (choose t)).answer ≡ neg_ℤ (pos 9)) ↔ ((p y : ℕ) → ¬ (AllOnCells d B.final t p y))
  -- MODEL 15.8: any other history on this device that ends with the same tasks ends with the same record
  pub alike : (r : List ℕ) → (new r d.rows d.kinds).answer ≡ pos 0 → (cs : List Call)
      → ((e : Running) → In e B.final ↔ In e (book_of_history d cs).final) → R.final ≡ (on_records (new r d.rows d.kinds).state cs).final
  -- MODEL 15.9: a fragmentation that follows gives the numbers of the book
  pub fragments : fragmentation R.final ≡ measured d B.final R.final
