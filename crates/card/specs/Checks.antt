-- MODEL 13.1 and 21.6: what the checks before a call answer, that they passed, or a refusal of the table. Assumes nothing.
use Rattle.std.specs.Prelude.{ℕ, ◌<◌, ◌≡◌, true, false, List, [], ℤ, pos, length, Option, Some, None}
use Rattle.model.specs.Limits.{max_running}
use Rattle.model.specs.Columns.{Device, columns}
use Rattle.model.specs.Book.{Book, fits, fits_at}
use Rattle.model.specs.Record.{device_of, book_of}
use Rattle.model.specs.Sound.{sound, count_of, number_ok}
use Rattle.model.specs.Calls.{Call, list, choose, place, release, lent, runs_in}
use Rattle.model.specs.OnRecord.{on_record, interval_count, view, fragmentation}
use Rattle.column.specs.declared.Column.{Column}
use Rattle.column.specs.Laws.Lent.{lent as lent_part}
use Rattle.record.specs.declared.bytes.Entry.{Entry}
use Rattle.listing.specs.Columns.{Given}
use Rattle.task.specs.declared.Position.{Position}
use Rattle.card.specs.declared.refusal.Refusal.{Refusal}
use Rattle.card.specs.Refusals.{number_of}

-- MODEL 13.3: the call c on the record r is refused with e, and changes nothing
abbrev pub Refused : List ℕ → Call → Refusal → Type 0
Refused r c e = on_record r c ≡ record { answer = number_of e; output = lent c; state = r }

-- MODEL 16.3: the interval count of column k is refused with e and changes nothing, and its view is empty
abbrev pub Uncounted : List ℕ → ℕ → Refusal → Type 0
Uncounted r k e = (interval_count r k ≡ record { answer = number_of e; output = []; state = r }) × ([] ≡ view r k)

-- MODEL 16.1: column k is one of the device of the sound record r, and c is its part and its count
pub record Lists (r : List ℕ) (k : ℕ) (c : Column) : Type 0 where
  pub sound : sound r ≡ true
  pub on : k < columns (device_of r)
  pub part_is : c.part.now ≡ lent_part r k
  pub count_is : c.count ≡ count_of r k

-- MODEL 22.6: the fragmentation is refused with e, gives two zeros, and changes nothing of the record
abbrev pub Unmeasured : List ℕ → Refusal → Type 0
Unmeasured r e = fragmentation r ≡ record { answer = number_of e; free = pos 0; degree = pos 0; state = r }

-- MODEL 13.1, −1 and −2: a refusal of the record is that of every call on it
abbrev pub RefusesRecord : List ℕ → Refusal → Type 0
RefusesRecord r e = ((c : Call) → Refused r c e) × ((k : ℕ) → Uncounted r k e) × Unmeasured r e

-- the call has the task t
abbrev pub HasTask : List ℕ → Call → Type 0
HasTask t (list u o) = u ≡ t
HasTask t (choose u) = u ≡ t
HasTask t (place u n p y) = u ≡ t
HasTask t (release n) = ⊥

-- MODEL 13.1, −4 and −5: a refusal of the task is that of every call with it, on that record
abbrev pub RefusesTask : List ℕ → List ℕ → Refusal → Type 0
RefusesTask r t e = (c : Call) → HasTask t c → Refused r c e

-- MODEL 6.6: the position of column p and bottom y, which may be any numbers, where the task t fits there
abbrev pub FindsFit : Device → Book → List ℕ → ℕ → ℤ → Option Position → Type 0
FindsFit d b t p y (Some at) = (at.column ≡ p) × (pos at.bottom ≡ y) × (fits d b t at.column at.bottom ≡ true)
FindsFit d b t p y None = fits_at d b t p y ≡ false

-- MODEL 13.1: place is called with these arguments, and no row holds; e is what enters the record
pub record Placing (r t : List ℕ) (n p : ℕ) (y : ℤ) (e : Entry) : Type 0 where
  pub given : Given r t
  pub number : number_ok n ≡ true
  pub new : runs_in (book_of r) n ≡ false
  pub room : length (book_of r) < max_running
  pub number_is : e.number ≡ n
  pub task_is : e.task.bytes.now ≡ t
  pub column_is : e.at.column ≡ p
  pub bottom_is : pos e.at.bottom ≡ y
  pub fits : fits (device_of r) (book_of r) t e.at.column e.at.bottom ≡ true

-- MODEL 13.1: release is called with that number, and no row holds
pub record Releasing (r : List ℕ) (n : ℕ) : Type 0 where
  pub sound : sound r ≡ true
  pub runs : runs_in (book_of r) n ≡ true
