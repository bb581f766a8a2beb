-- MODEL 12.4: columns in which the task has no block keep their intervals' bytes, whatever bytes place is lent. Assumes nothing.
use Rattle.std.specs.Prelude.{ℕ, ◌+◌, ◌<◌, ◌≡◌, refl, false, List, ℤ}
use Rattle.std.proofs.Common.{sym, ap, ◌∙◌, ne_eqb}
use Rattle.runs.specs.Laws.Intervals.{intervals_free, free_intervals}
use Rattle.model.specs.Limits.{max_columns, column_size}
use Rattle.model.specs.Columns.{Device, top}
use Rattle.model.specs.Tasks.{blocks, block}
use Rattle.model.specs.Book.{Running, Book, placed, covers, covered, free, intervals}
use Rattle.model.specs.Record.{part, column_at, column_part, device_of, book_of}
use Rattle.model.specs.Calls.{place, running, insert, done}
use Rattle.model.specs.OnRecord.{on_record}
use Rattle.model.proofs.Laws.Bounded.{any_none}
use Rattle.model.proofs.Laws.WriteBack.{Bytes}
use Rattle.model.proofs.Laws.Record.{record_column}
use Rattle.model.proofs.Laws.Sound.{sound_record}
use Rattle.model.proofs.Laws.Freed.{free_insert}
use Rattle.model.proofs.Laws.OnRecord.{left}

-- no block of task t, moved by p, stands in column c
abbrev pub Clear : List ℕ → ℕ → ℕ → Type 0
Clear t p c = (k : ℕ) → k < blocks t → ¬ (p + (block t k).column ≡ c)

uncovered : (t : List ℕ) (p y c : ℕ) → Clear t p c → (z : ℕ) → covered (placed t p y) c z ≡ false
unfolding covered covers placed
uncovered t p y c h z = any_none (blocks t) (covers (placed t p y) c z) (λ k l. rw (ne_eqb (p + (block t k).column) c (h k l)))

-- a task that is entered leaves the intervals of the columns that it does not cover
pub intervals_kept : (d : Device) (b : Book) (e : Running) (c : ℕ) → Clear e.task e.column c → intervals d (insert e b) c ≡ intervals d b c
unfolding intervals
intervals_kept d b e c h =
    let g = intervals_free (free d (insert e b) c) (top d c) in
    free_intervals (free d b c) (top d c) (intervals d (insert e b) c)
    (record {
      canon = g.canon;
      named = λ y. (
        λ n. let (l, f) = (g.named y).0 n in (l, ((free_insert d b e c y).0 f).0),
        λ (l, f). (g.named y).1 (l, (free_insert d b e c y).1 (f, uncovered e.task e.column e.bottom c h y)),
      );
    })

-- THEOREM: whatever bytes place is lent, and whatever it answers, column c's 256 bytes stay
pub columns_kept : (r t : List ℕ) (n p : ℕ) (y : ℤ) (c : ℕ) → Bytes r → c < max_columns → Clear t p c
    → part (on_record r (place t n p y)).state (column_at c) column_size ≡ part r (column_at c) column_size
unfolding done
columns_kept r t n p y c B l h =
    left r (place t n p y) B (λ s. column_of s ≡ column_of r) refl
    (λ s.
    record_column d (insert e b) c l ∙ ap column_part (intervals_kept d b e c h) ∙ sym (record_column d b c l) ∙ ap column_of (sym (sound_record r B s)))
  where
    column_of : List ℕ → List ℕ
    column_of s = part s (column_at c) column_size

    d : Device
    d = device_of r

    b : Book
    b = book_of r

    e : Running
    e = running t n p y
