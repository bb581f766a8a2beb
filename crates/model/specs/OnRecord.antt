-- MODEL 12, 13, 16 and 22: the calls on any string of bytes, which the exported functions promise (crate `card`). `on_record` is the step of every history.
-- Assumes nothing.
use Rattle.std.specs.Prelude.{ℕ, ◌*◌, not, List, [], ◌∷◌, ltb, eqb, ℤ, pos, negsuc, neg_ℤ, length}
use Rattle.std.proofs.Math.Option.{Option, none, some}
use Rattle.model.specs.Limits.{record_size, interval_size}
use Rattle.model.specs.Columns.{Device, columns, device_ok}
use Rattle.model.specs.Book.{Book, intervals}
use Rattle.model.specs.Fragments.{free_cells, connected_sets, degree}
use Rattle.model.specs.Record.{record_of, device_of, book_of, part, column_at}
use Rattle.model.specs.Sound.{sound}
use Rattle.model.specs.Calls.{Call, Outcome, Refusal, refuse, refused, unless, lent, on_book}

-- MODEL 13.1, −1: another length than a record's
abbrev pub wrong_length : List ℕ → Refusal
wrong_length r = refuse 1 (not (eqb (length r) record_size))

-- MODEL 13.1, −2: not sound
abbrev pub not_sound : List ℕ → Refusal
not_sound r = refuse 2 (not (sound r))

-- MODEL 12.2: the outcome on a book as one on a record, which is then the record of the book after the call
unfoldable pub written : Device → Outcome Book → Outcome (List ℕ)
written d l = record { answer = l.answer; output = l.output; state = record_of d l.state }

-- MODEL 12.2 and 13.1 to 13.3: list, choose, place and release, on the device and the book that the record says
unfoldable pub on_record : List ℕ → Call → Outcome (List ℕ)
on_record r c = unless (refused (wrong_length r ∷ not_sound r ∷ [])) (lent c) r (written (device_of r) (on_book (device_of r) (book_of r) c))

-- MODEL 12.3: new, and its refusals −1 and −3 (MODEL 13.1)
unfoldable pub new : List ℕ → ℕ → List ℕ → Outcome (List ℕ)
new r rows kinds =
    let d : Device = record { rows = rows; kinds = kinds } in
    unless (refused (wrong_length r ∷ refuse 3 (not (device_ok d)) ∷ [])) [] r (record { answer = pos 0; output = []; state = record_of d [] })

-- MODEL 16.1: the interval count of column c, and its refusals −1, −2 and −3 (MODEL 13.1 and 13.5)
unfoldable pub interval_count : List ℕ → ℕ → Outcome (List ℕ)
interval_count r c =
    unless (refused (wrong_length r ∷ not_sound r ∷ refuse 3 (not (ltb c (columns (device_of r)))) ∷ [])) [] r
    (record { answer = pos (length (intervals (device_of r) (book_of r) c)); output = []; state = r })

-- MODEL 16.2 and 16.3: the view by what the interval count answers, empty where it is refused
unfoldable pub view_of : ℤ → List ℕ → ℕ → List ℕ
view_of (pos n) r c = part r (column_at c) (interval_size * n)
view_of (negsuc n) r c = []

-- MODEL 16.2: the view of column c
unfoldable pub view : List ℕ → ℕ → List ℕ
view r c = view_of (interval_count r c).answer r c

-- MODEL 22.5: what the fragmentation leaves: its answer, the two numbers that it writes, and the record
pub record Fragmentation : Type 0 where
  pub answer : ℤ
  pub free : ℤ
  pub degree : ℤ
  pub state : List ℕ

-- MODEL 22.5: the three numbers of a device and a book, and the record r as it was
unfoldable pub measured : Device → Book → List ℕ → Fragmentation
measured d b r =
    let n = connected_sets d b in
    let f = length (free_cells d b) in
    record { answer = pos n; free = pos f; degree = pos (degree n f); state = r }

-- MODEL 22.6: a refusal n is the answer − n and two zeros; without one it is m
unfoldable pub unless_refused : Option ℕ → List ℕ → Fragmentation → Fragmentation
unless_refused none r m = m
unless_refused (some n) r m = record { answer = neg_ℤ (pos n); free = pos 0; degree = pos 0; state = r }

-- MODEL 22.5 and 22.6: the fragmentation, and its refusals −1 and −2 (MODEL 13.1)
unfoldable pub fragmentation : List ℕ → Fragmentation
fragmentation r = unless_refused (refused (wrong_length r ∷ not_sound r ∷ [])) r (measured (device_of r) (book_of r) r)
