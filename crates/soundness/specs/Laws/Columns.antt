-- Why the columns' pass is right. Assumes nothing.
use Rattle.std.specs.Prelude.{ℕ, ◌+◌, ◌*◌, ◌≤◌, ◌<◌, ◌≡◌, true, List, length, get_or, take, Result, Ok, Err, IsOk}
use Rattle.std.proofs.Common.{refl, ap, ◌∙◌, arith, take_all}
use Rattle.std.proofs.Math.Nat.{mul-div-le}
use Rattle.model.specs.Limits.{max_columns, max_kind, column_size, columns_at, counts_at, running_at}
use Rattle.model.specs.Columns.{Device, columns, kind, cells, cells_in, height, device_ok}
use Rattle.model.specs.Kinds.{number_of, kind_of}
use Rattle.model.specs.declared.Kind.{Kind}
use Rattle.model.specs.declared.UnknownKind.{UnknownKind}
use Rattle.model.proofs.Laws.Kinds.{kind_known, kind_unknown}
use Rattle.model.specs.Book.{intervals}
use Rattle.model.specs.Record.{part, column_at, device_of, book_of}
use Rattle.model.specs.Sound.{within, sound}
use Rattle.model.proofs.Laws.Record.{record_column, record_count}
use Rattle.model.proofs.Laws.WriteBack.{Bytes}
use Rattle.model.proofs.Laws.Sound.{columns_said, running_said, sound_record}
use Rattle.cells.specs.Ends.{Listable, bit_intervals}
use Rattle.cells.specs.Laws.Book.{shown_intervals}
use Rattle.marks.specs.Marks.{column_words, words_of}
use Rattle.marks.specs.Laws.Marks.{few_rows, few_cells}
use Rattle.soundness.specs.Soundness.{TasksHeld, ColumnOk}

-- the device that was read of r
module _ (r : List ℕ) {d : Device} (e : d ≡ device_of r) where
  pub kinds_said : length d.kinds ≡ columns (device_of r)
  unfolding columns
  kinds_said = ap columns e

  pub kinds_counted : length d.kinds ≡ get_or r columns_at 0
  kinds_counted = kinds_said ∙ columns_said r

  pub kind_said : (c : ℕ) → get_or d.kinds c 0 ≡ kind (device_of r) c
  unfolding kind
  kind_said c = ap (λ (d : Device). kind d c) e

module _ (r H : List ℕ) (m : TasksHeld r H (get_or r running_at 0)) where
  all : take (get_or r running_at 0) (book_of r) ≡ book_of r
  all = take_all (get_or r running_at 0) (book_of r) (omega (arith, running_said r))

  pub all_within : within (device_of r) (book_of r) ≡ true
  all_within = rw all at m.limits

  module _ (c : ℕ) {d : Device} (e : d ≡ device_of r) (q : c < length d.kinds) where
    runs_are : intervals (device_of r) (book_of r) c ≡ bit_intervals (words_of H c) (cells (device_of r) c) (height (kind (device_of r) c))
    runs_are = shown_intervals (device_of r) (book_of r) (words_of H) (rw all at m.shown) c (omega (arith, kinds_said r e))

    module _ (t : Kind) (o : Ok t ≡ kind_of (get_or d.kinds c 0)) {n h : ℕ} (f : n ≡ cells_in d.rows (number_of t)) (g : h ≡ height (number_of t)) where
      kind_is : number_of t ≡ kind (device_of r) c
      kind_is = kind_known (get_or d.kinds c 0) (Ok t) t o refl ∙ kind_said r e c

      same_cells : n ≡ cells (device_of r) c
      unfolding cells
      same_cells = rw (kind_is, ap (λ (d : Device). d.rows) e) at f

      same_height : h ≡ height (kind (device_of r) c)
      same_height = rw kind_is at g

      pub listable : {w : List ℕ} → device_ok d ≡ true → length w ≡ column_words → Listable w n h
      unfolding cells cells_in
      listable ok l =
          let m = rw e at ok in
          let b = few_cells (device_of r) m c in
          let u = mul-div-le (2 * (device_of r).rows) (height (kind (device_of r) c)) in
          record {
            few = omega (arith, same_cells);
            room = omega (arith, same_cells);
            short = omega arith;
            small = rw (same_cells, same_height) (omega (arith, few_rows (device_of r) m));
          }

      pub bits_are : bit_intervals (words_of H c) n h ≡ intervals (device_of r) (book_of r) c
      bits_are = rw (runs_are, ← same_height, ← same_cells)

-- a column of a sound record lists its free intervals
pub sound_column : (r : List ℕ) → Bytes r → sound r ≡ true → (c : ℕ) → c < max_columns → ColumnOk r c
sound_column r B s c q =
    let d = device_of r in
    let b = book_of r in
    let is = sound_record r B s in
    record {
      bytes_are = ap (λ (l : List ℕ). part l (column_at c) column_size) is ∙ record_column d b c q;
      count_is = ap (λ (l : List ℕ). get_or l (counts_at + c) 0) is ∙ record_count d b c q;
    }

-- the number of a kind is read as one
pub kind_read : (n : ℕ) {k : Result Kind UnknownKind} → k ≡ kind_of n → n ≤ max_kind → IsOk k
kind_read n {k = Ok t} e q = refl
kind_read n {k = Err u} e q = absurd (omega (arith, (kind_unknown n (Err u) u e refl).1))
