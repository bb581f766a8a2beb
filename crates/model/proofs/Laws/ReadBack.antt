-- MODEL 8.5 to 8.7: what the record of a device and a book within the limits says: the device, the book, the intervals, each entry's block count, and
-- zeros. Assumes nothing.
use Rattle.std.specs.Prelude.{ℕ, zero, suc, ◌+◌, ◌-◌, ◌*◌, ◌/◌, ◌≤◌, ◌<◌, ◌≡◌, refl, true, length}
use Rattle.std.proofs.Math.Path.{sym, ap}
use Rattle.std.proofs.Common.{ap₂, ◌∙◌, inl, inr, arith}
use mathlib.Core.List.{List, [], ◌∷◌, map}
use Rattle.std.proofs.Math.ListN.{get_or, get_or-eq_default}
use Rattle.std.proofs.lemmas.List.{length-map, get_or-replicate}
use Rattle.runs.specs.Intervals.{Interval, interval}
use Rattle.model.specs.Limits.{max_rows, max_columns, max_intervals, block_size, column_size, interval_size, entry_size, blocks_at}
use Rattle.model.specs.Columns.{Device, columns, half_rows}
use Rattle.model.specs.Tasks.{word, blocks}
use Rattle.model.specs.Book.{Running, Book, intervals}
use Rattle.model.specs.Record.{bytes16, padded, interval_bytes, entry_bytes, column_part, record_of, column_at, entry_at, device_of, book_of, listed_intervals}
use Rattle.model.specs.Sound.{within, block_count}
use Rattle.model.specs.Bounded.{In}
use Rattle.model.specs.InPlace.{no_entry}
use Rattle.model.proofs.Laws.Columns.{top_le}
use Rattle.model.proofs.Laws.Tasks.{Sized, sized_to}
use Rattle.model.proofs.Laws.Fits.{fits_below}
use Rattle.model.proofs.Laws.Limits.{Entry, limits_to}
use Rattle.model.proofs.Laws.Cells.{few_intervals, interval_ends}
use Rattle.model.proofs.Laws.Parts.{get_d_part, part_byte, join_cong, listed}
use Rattle.model.proofs.Laws.Slots.{get_d_padded, slot_out, part_slots}
use Rattle.model.proofs.Laws.Record.{Writable, device_back, book_back, record_shows, record_count, record_column, record_entry}
use Rattle.model.proofs.Laws.ColumnPart.{word_part, interval_bottom, interval_top}
use Rattle.model.proofs.Laws.Clauses.{Zero}
use Rattle.model.proofs.Laws.WriteBack.{said}

-- an element of a list is in it
pub get_d_in : {A : Type 0} (l : List A) (i : ℕ) (d : A) → i < length l → In (get_or l i d) l
get_d_in [] i d h = absurd (omega arith)
get_d_in (x ∷ l) zero d h = inl refl
get_d_in (x ∷ l) (suc i) d h = inr (get_d_in l i d (omega arith))

-- ---- the unused bytes of a part

-- a column's part past its intervals
pub column_rest : (is : List Interval) → Zero (column_part is) (interval_size * length is) column_size
unfolding column_part
column_rest is i h q =
    let k = i / interval_size in
    let ps = map interval_bytes is in
    part_byte (column_part is) (interval_size * k) interval_size i 0 (omega arith) (omega arith)
    ∙ ap (λ (p : List ℕ). get_or p (i - interval_size * k) 0) (part_slots max_intervals interval_size ps k (omega arith)
    ∙ slot_out interval_size ps k (omega (arith, length-map is interval_bytes)))
    ∙ get_or-replicate interval_size (i - interval_size * k) 0 0 (omega arith)

-- an entry past its blocks
pub entry_rest : (e : Running) → length e.task ≡ block_size * blocks e.task
    → Zero (padded entry_size (entry_bytes e)) (blocks_at + block_size * blocks e.task) entry_size
unfolding entry_bytes bytes16
entry_rest e w i h q =
    let out : length (entry_bytes e) ≤ i = omega arith in
    get_d_padded entry_size (entry_bytes e) i q ∙ get_or-eq_default (entry_bytes e) 0 out

-- ---- within the limits

-- MODEL 9.10: a running task within the limits stands on the device
pub entry_on : (d : Device) (e : Running) → Entry d e → (e.column < columns d) × (e.bottom < half_rows d)
entry_on d e h = fits_below d [] e.task e.column e.bottom h.well_formed (sized_to e.task h.sized).some_blocks h.fits

-- and an entry's bytes can hold it
pub writable : (d : Device) (e : Running) → d.rows ≤ max_rows → Entry d e → Writable e
writable d e r h =
    let on = entry_on d e h in
    let n = h.number in
    let z = sized_to e.task h.sized in
    record { number_fits = omega arith; bottom_fits = omega arith; whole = z.whole; short = z.few }

module _ (d : Device) (b : Book) (w : within d b ≡ true) where
  -- entry j of the book
  pub entry_in : (j : ℕ) → j < length b → Entry d (get_or b j no_entry)
  entry_in j q = (limits_to d b w).entries (get_or b j no_entry) (get_d_in b j no_entry q)

  -- it fills whole blocks
  pub task_sized : (j : ℕ) → j < length b → Sized (get_or b j no_entry).task
  task_sized j q = sized_to (get_or b j no_entry).task (entry_in j q).sized

  -- the device and the book, read back
  pub device_of_record : device_of (record_of d b) ≡ d
  device_of_record = let l = limits_to d b w in let rows = l.rows in device_back d b (record_shows d b) (omega arith) l.columns

  pub book_of_record : book_of (record_of d b) ≡ b
  book_of_record = let l = limits_to d b w in book_back d b (record_shows d b) l.few (λ j q. writable d (get_or b j no_entry) l.rows (entry_in j q))

  -- the block count of entry j
  pub blocks_of_record : (j : ℕ) → j < length b → block_count (record_of d b) j ≡ blocks (get_or b j no_entry).task
  unfolding entry_bytes bytes16
  blocks_of_record j l =
      let few = (limits_to d b w).few in
      sym (get_d_part (record_of d b) (entry_at j) entry_size 3 0 (omega arith))
      ∙ ap (λ (p : List ℕ). get_or p 3 0) (record_entry d b j no_entry (omega arith) l) ∙ get_d_padded entry_size (entry_bytes (get_or b j no_entry)) 3 (omega arith)

  word_of_record : (c m : ℕ) → c < max_columns → m + 1 < column_size → word (record_of d b) (column_at c + m) ≡ word (column_part (intervals d b c)) m
  word_of_record c m q h = sym (word_part (record_of d b) (column_at c) column_size m h) ∙ ap (λ (p : List ℕ). word p m) (record_column d b c q)

  interval_of_record : (c i : ℕ) → c < max_columns → i < length (intervals d b c) → said (record_of d b) c i ≡ get_or (intervals d b c) i (interval 0 0)
  interval_of_record c i q h =
      let is = intervals d b c in
      let none = interval 0 0 in
      let few = few_intervals d b w c in
      let rows = (limits_to d b w).rows in
      let top = top_le d c in
      let ends = interval_ends d b c (get_or is i none) (get_d_in is i none h) in
      let e : column_at c + interval_size * i + 2 ≡ column_at c + (interval_size * i + 2) = omega arith in
      ap₂ interval
      (word_of_record c (interval_size * i) q (omega arith) ∙ interval_bottom is i none h few (omega arith))
      (ap (word (record_of d b)) e ∙ word_of_record c (interval_size * i + 2) q (omega arith) ∙ interval_top is i none h few (omega arith))

  -- the intervals, read back
  pub listed_of_record : (c : ℕ) → c < max_columns → listed_intervals (record_of d b) c ≡ intervals d b c
  unfolding listed_intervals
  listed_of_record c q =
      let is = intervals d b c in
      let none = interval 0 0 in
      rw (record_count d b c q)
      (join_cong (λ i. said (record_of d b) c i ∷ []) (λ i. get_or is i none ∷ []) (length is) (λ i h. ap (λ (x : Interval). x ∷ []) (interval_of_record c i q h)) ∙ listed is none)
