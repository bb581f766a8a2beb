-- MODEL 12, 13 and 14: each call on the book, its refusals, its answer, the bytes that it writes, and the book after it. Nothing here reads a record.
-- Assumes nothing.
use Rattle.std.specs.Prelude.{ℕ, zero, suc, ◌+◌, ◌*◌, Bool, not, cond, ◌||◌, List, [], ◌∷◌, ◌++◌, ltb, eqb, leb, ℤ, pos, negsuc, neg_ℤ, length, get_or, drop}
use Rattle.std.proofs.Math.Option.{Option, none, some}
use Rattle.model.specs.Limits.{max_running, range_size, range_step_at, range_first_at, range_last_at, list_room, column_weight}
use Rattle.model.specs.Bounded.{any_below, any_in, join_in}
use Rattle.model.specs.Columns.{Device, columns, half_rows}
use Rattle.model.specs.Tasks.{word, sized, well_formed}
use Rattle.model.specs.Book.{Running, Book, fits, fits_at}
use Rattle.model.specs.Listing.{Range, ranges}
use Rattle.model.specs.Choice.{Found, nothing, at, chosen}
use Rattle.model.specs.Record.{bytes16}
use Rattle.model.specs.Sound.{number_ok}

-- MODEL 12.1 and 14.1: the calls of a history with their arguments, on which there is no condition (MODEL 14.2)
pub data Call : Type 0 where
  list : (task output : List ℕ) → Call
  choose : (task : List ℕ) → Call
  place : (task : List ℕ) (number column : ℕ) (bottom : ℤ) → Call
  release : (number : ℕ) → Call

-- MODEL 12.9: the bytes that a call is lent to write to, besides the record
unfoldable pub lent : Call → List ℕ
lent (list t o) = o
lent (choose t) = []
lent (place t n p y) = []
lent (release n) = []

-- what a call leaves: its answer, those bytes, and the state, a book or a record
pub record Outcome (S : Type 0) : Type 0 where
  pub answer : ℤ
  pub output : List ℕ
  pub state : S

-- ---- refusals

-- MODEL 13.1: a row of the table. The call answers − number when the row holds for it.
pub record Refusal : Type 0 where
  pub number : ℕ
  pub when : Bool

abbrev pub refuse : ℕ → Bool → Refusal
refuse n w = record { number = n; when = w }

-- MODEL 13.2: the first row that holds. The numbers of each list of rows rise, so it is the one closest to 0.
unfoldable pub refused : List Refusal → Option ℕ
refused [] = none
refused (r ∷ rs) = cond r.when (some r.number) (refused rs)

-- MODEL 13.1 and 13.7, −9: the task fits at no position of the device
unfoldable pub no_position : Device → Book → List ℕ → Bool
no_position d b t = not (any_below (columns d) (λ p. any_below (half_rows d) (λ y. fits d b t p y)))

-- MODEL 5.1: a task runs under that number
unfoldable pub runs_in : Book → ℕ → Bool
runs_in b n = any_in (λ e. eqb e.number n) b

-- MODEL 13.1 and 14.5: the rows of each call from −4 on; which tasks run, and what fits, is seen in the book
unfoldable pub refusals : Device → Book → Call → List Refusal
refusals d b (list t o) =
    refuse 4 (not (sized t)) ∷ refuse 5 (not (well_formed t)) ∷ refuse 6 (ltb (length o) list_room) ∷ refuse 9 (no_position d b t) ∷ []
refusals d b (choose t) = refuse 4 (not (sized t)) ∷ refuse 5 (not (well_formed t)) ∷ refuse 9 (no_position d b t) ∷ []
refusals d b (place t n p y) =
    refuse 4 (not (sized t)) ∷ refuse 5 (not (well_formed t)) ∷ refuse 7 (not (number_ok n) || runs_in b n)
    ∷ refuse 8 (leb max_running (length b)) ∷ refuse 10 (not (fits_at d b t p y)) ∷ []
refusals d b (release n) = refuse 11 (not (runs_in b n)) ∷ []

-- ---- what each call does where it is not refused

-- MODEL 14.4: a task entered in the book, before the first one with a higher number (MODEL 5.1)
unfoldable pub insert : Running → Book → Book
insert e [] = e ∷ []
insert e (f ∷ b) = cond (ltb e.number f.number) (e ∷ f ∷ b) (f ∷ insert e b)

-- MODEL 14.4: the task with that number struck out
unfoldable pub without : ℕ → Book → Book
without n [] = []
without n (f ∷ b) = cond (eqb f.number n) (without n b) (f ∷ without n b)

-- a bottom at which a task fits is not negative (MODEL 6.6), so this is it
unfoldable pub natural : ℤ → ℕ
natural (pos y) = y
natural (negsuc y) = 0

-- MODEL 5.1: what place enters
abbrev pub running : List ℕ → ℕ → ℕ → ℤ → Running
running t n p y = record { number = n; column = p; bottom = natural y; task = t }

-- MODEL 10.6: the bytes of a range
unfoldable pub range_bytes : Range → List ℕ
range_bytes r = (r.column ∷ r.step ∷ []) ++ bytes16 r.first ++ bytes16 r.last

-- MODEL 10.6: the first n ranges that bytes say
unfoldable pub ranges_in : ℕ → List ℕ → List Range
ranges_in zero o = []
ranges_in (suc n) o =
    record { column = get_or o 0 0; step = get_or o range_step_at 0; first = word o range_first_at; last = word o range_last_at } ∷ ranges_in n (drop range_size o)

-- MODEL 12.6: the bytes of o with l written over their front; those behind stay
unfoldable pub over : List ℕ → List ℕ → List ℕ
over l o = l ++ drop (length l) o

-- MODEL 11.6: a choice as a number. Where there is none the call is refused, so that the 0 is no answer.
unfoldable pub position_number : Found → ℕ
position_number nothing = 0
position_number (at p y) = p * column_weight + y

-- MODEL 12.1, 12.4 to 12.7 and 14.4: what each call answers and writes, and the book after it, where it is not refused
unfoldable pub done : Device → Book → Call → Outcome Book
done d b (list t o) = record { answer = pos (length (ranges d b t)); output = over (join_in range_bytes (ranges d b t)) o; state = b }
done d b (choose t) = record { answer = pos (position_number (chosen d b t)); output = []; state = b }
done d b (place t n p y) = record { answer = pos 0; output = []; state = insert (running t n p y) b }
done d b (release n) = record { answer = pos 0; output = []; state = without n b }

-- MODEL 13.3 and 14.5: a refusal n is the answer − n and changes nothing; without one it is the outcome r
unfoldable pub unless : {S : Type 0} → Option ℕ → List ℕ → S → Outcome S → Outcome S
unless none o s r = r
unless (some n) o s r = record { answer = neg_ℤ (pos n); output = o; state = s }

-- MODEL 14.3 to 14.5: each call on a device and a book
unfoldable pub on_book : Device → Book → Call → Outcome Book
on_book d b c = unless (refused (refusals d b c)) (lent c) b (done d b c)
