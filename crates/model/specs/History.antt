-- MODEL 14: a list of calls on one record, and the book of a history. Assumes nothing.
use Rattle.std.specs.Prelude.{ℕ, List, [], ◌∷◌, ℤ}
use Rattle.model.specs.Columns.{Device}
use Rattle.model.specs.Book.{Book}
use Rattle.model.specs.Calls.{Call, Outcome, on_book}
use Rattle.model.specs.OnRecord.{on_record}

-- what a list of calls gave: each call's answer, the bytes that it was lent as it left them, and the last state
pub record Trace (S : Type 0) : Type 0 where
  pub answers : List ℤ
  pub outputs : List (List ℕ)
  pub final : S

-- MODEL 14.2: each call finds the state as the previous one left it
unfoldable pub trace : {S : Type 0} → (S → Call → Outcome S) → S → List Call → Trace S
trace step s [] = record { answers = []; outputs = []; final = s }
trace step s (c ∷ cs) =
    let l = step s c in
    let rest = trace step l.state cs in
    record { answers = l.answer ∷ rest.answers; outputs = l.output ∷ rest.outputs; final = rest.final }

-- MODEL 14.1 and 14.2: the calls on a record
unfoldable pub on_records : List ℕ → List Call → Trace (List ℕ)
on_records r cs = trace on_record r cs

-- MODEL 14.3: the same calls on the book, which begins with no task
unfoldable pub book_of_history : Device → List Call → Trace Book
book_of_history d cs = trace (on_book d) [] cs
