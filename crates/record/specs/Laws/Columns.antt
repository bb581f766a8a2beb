-- A record whose columns list the half rows that pass a test, and a block where it stands: what placing and releasing share. Assumes nothing.
use Rattle.std.specs.Prelude.{ℕ, suc, ◌+◌, ◌*◌, ◌≤◌, ◌<◌, ◌≡◌, ◌⊎◌, ◌≢◌, Bool, true, false, List, leb, ltb, eqb, length, get_or}
use Rattle.std.proofs.Common.{sym, ◌∙◌, inl, inr, arith, mul-le-mul_left}
use Rattle.std.proofs.Math.Decide.{ℕ_discrete}
use borrow.Author.Tests.{eq-eqb, ne_eqb, le-leb, lt-ltb}
use Rattle.runs.specs.Intervals.{Interval, Named, Apart, OnGrid, intervals as maximal_runs}
use Rattle.runs.specs.Laws.Tests.{tests, lt_or_ge}
use Rattle.runs.specs.Laws.Intervals.{intervals_free, free_intervals}
use Rattle.runs.specs.Laws.Grid.{grid_count}
use Rattle.model.specs.Limits.{max_rows, max_columns, max_kind, max_intervals, block_size, reach, counts_at, column_size}
use Rattle.model.specs.Columns.{Device, columns, height, kind, top}
use Rattle.model.specs.Tasks.{block, blocks, sized, well_formed}
use Rattle.model.specs.Book.{Book, Placed, covers, free, fits, intervals}
use Rattle.model.specs.Record.{part, column_at, image, record_of, device_of, book_of}
use Rattle.model.specs.Sound.{within, count_of, sound}
use Rattle.model.specs.InPlace.{put_column}
use Rattle.model.proofs.Laws.Bounded.{and3_to}
use Rattle.model.proofs.Laws.Columns.{height_two, top_le}
use Rattle.model.proofs.Laws.Tasks.{sized_to, solid_block}
use Rattle.model.proofs.Laws.Fits.{fits_to, fits_below}
use Rattle.model.proofs.Laws.Cells.{intervals_grid}
use Rattle.model.proofs.Laws.Changed.{changed, changed_same, changed_other}
use Rattle.model.proofs.Laws.Record.{image_shows, image_column, image_cong}
use Rattle.model.proofs.Laws.WriteBack.{Bytes}
use Rattle.model.proofs.Laws.Sound.{sound_record}
use Rattle.task.specs.declared.Block.{Block as Read}
use Rattle.task.specs.Blocks.{Same}
use Rattle.column.specs.Part.{Changed}
use Rattle.column.specs.Laws.Part.{Encodes, free_small}
use Rattle.record.specs.Edit.{Seated}
use Rattle.record.specs.Columns.{column_list, put_part, runs_of}

-- ---- a record whose columns list the half rows that pass a test

-- tests that pass alike have the same runs
pub runs_same : (f g : ℕ → Bool) (n : ℕ) → ((y : ℕ) → f y ≡ g y) → maximal_runs f n ≡ maximal_runs g n
runs_same f g n h =
    let r = intervals_free f n in
    free_intervals g n (maximal_runs f n) (record {
      canon = r.canon;
      named = λ y. (λ k. let (l, v) = (r.named y).0 k in (l, sym (h y) ∙ v), λ k. (r.named y).1 (k.0, h y ∙ k.1));
    })

-- the runs of every column begin and end on the grid of its kind
abbrev pub Gridded : Device → (ℕ → ℕ → Bool) → Type 0
Gridded d f = (c : ℕ) → OnGrid (height (kind d c)) (runs_of d f c)

-- the free intervals of a book do
pub free_gridded : (d : Device) (b : Book) → within d b ≡ true → Gridded d (free d b)
unfolding intervals
free_gridded d b w c = intervals_grid d b w c

-- and then there are at most 64
grid_few : (h n : ℕ) (L : List Interval) → 2 ≤ h → n ≤ 2 * max_rows → Apart 0 L → OnGrid h L → ((y : ℕ) → Named y L → y < n) → length L ≤ max_intervals
grid_few h n L p q c g u = go (lt_or_ge max_intervals (length L))
  where
    go : (max_intervals < length L) ⊎ (length L ≤ max_intervals) → length L ≤ max_intervals
    go (inr l) = l
    go (inl l) = absurd (omega (arith, grid_count h n L c g u, mul-le-mul_left {m = suc max_intervals} {n = length L} (2 * h) l))

pub few_runs : (d : Device) (f : ℕ → ℕ → Bool) → d.rows ≤ max_rows → Gridded d f → (c : ℕ) → length (runs_of d f c) ≤ max_intervals
few_runs d f r g c =
    let x = intervals_free (f c) (top d c) in
    grid_few (height (kind d c)) (top d c) (runs_of d f c) (height_two (kind d c)) (omega (arith, top_le d c)) x.canon (g c) (λ y k. ((x.named y).0 k).0)

-- column c's part and count byte list them
pub encoded : (d : Device) (b : Book) (f : ℕ → ℕ → Bool) (r : List ℕ) (c : ℕ) → d.rows ≤ max_rows → Gridded d f → r ≡ image d b (runs_of d f) → c < max_columns
    → Encodes (part r (column_at c) column_size) (get_or r (counts_at + c) 0) (runs_of d f c)
encoded d b f r c l g e q =
    let x = image_shows d b (runs_of d f) in
    rw e (record {
      bytes_are = x.column_is c q;
      count_is = x.count_is c q;
      few = few_runs d f l g c;
      small = free_small (f c) (top d c) (runs_of d f c) (omega (arith, top_le d c)) (intervals_free (f c) (top d c));
    })

-- one column changed, and only there another test
pub column_changed : (d : Device) (b : Book) (f g : ℕ → ℕ → Bool) (r : List ℕ) (c : ℕ) (L : List Interval) → r ≡ image d b (runs_of d f) → c < max_columns
    → L ≡ runs_of d g c → ((i : ℕ) → i ≢ c → (z : ℕ) → f i z ≡ g i z) → put_column r c L ≡ image d b (runs_of d g)
column_changed d b f g r c L e q h k =
    rw e (image_column d b (runs_of d f) c L q ∙ image_cong d b (changed (runs_of d f) c L) (runs_of d g) (λ i p. elim (ℕ_discrete i c) [
      | yes u ↦ rw (u, changed_same (runs_of d f) c L) h
      | no u ↦ rw (changed_other (runs_of d f) c i L u) (runs_same (f i) (g i) (top d i) (k i u))
    ]))

-- a sound record lists its free half rows
pub sound_runs : (r : List ℕ) (f : ℕ → ℕ → Bool) → Bytes r → sound r ≡ true → ((c z : ℕ) → f c z ≡ free (device_of r) (book_of r) c z)
    → r ≡ image (device_of r) (book_of r) (runs_of (device_of r) f)
unfolding record_of intervals
sound_runs r f x s h =
    let d = device_of r in
    let b = book_of r in
    sound_record r x s ∙ image_cong d b (intervals d b) (runs_of d f) (λ c q. sym (runs_same (f c) (free d b c) (top d c) (h c)))

-- ---- a block where it stands

module _ (B : Placed) (c z k : ℕ) where
  -- it covers nothing of another column
  pub covers_not : c ≢ B.column k → covers B c z k ≡ false
  unfolding covers
  covers_not h = rw (ne_eqb (B.column k) c (λ e. h (sym e)))

  -- of its own column what is between its bottom and its top
  pub covers_to : covers B c z k ≡ true → (B.bottom k ≤ z) × (z < B.top k)
  unfolding covers
  covers_to h = let (u, v, w) = and3_to (eqb (B.column k) c) (leb (B.bottom k) z) (ltb z (B.top k)) h in (omega tests, omega tests)

  pub covers_of : B.column k ≡ c → B.bottom k ≤ z → z < B.top k → covers B c z k ≡ true
  unfolding covers
  covers_of e l h = rw (eq-eqb (B.column k) c e, le-leb (B.bottom k) z l, lt-ltb z (B.top k) h)

-- block k of a task where the task fits: what is read, and what the code reckons with
pub record Stands (t : List ℕ) (p y k : ℕ) : Type 0 where
  pub whole : block_size * k + block_size ≤ length t
  pub kind : (block t k).kind ≤ max_kind
  pub column : p + (block t k).column < max_columns
  pub bottom : y < 2 * max_rows
  pub low : reach ≤ y + (block t k).low
  pub full : (block t k).low < (block t k).high
  pub high : y + (block t k).high ≤ 2 * max_rows + reach

pub stands : (d : Device) (a : Book) (t : List ℕ) (p y : ℕ) → d.rows ≤ max_rows → columns d ≤ max_columns → sized t ≡ true → well_formed t ≡ true → fits d a t p y ≡ true
    → (k : ℕ) → k < blocks t → Stands t p y k
stands d a t p y r q s w f k l =
    let o = sized_to t s in
    let x = solid_block t w k l in
    let g = fits_to d a t p y f k l in
    let on = fits_below d a t p y w o.some_blocks f in
    record {
      whole = omega (arith, o.whole);
      kind = x.kind;
      column = omega (arith, g.column);
      bottom = omega arith;
      low = g.above;
      full = x.full;
      high = omega (arith, g.below, top_le d (p + (block t k).column));
    }

-- and so as it was read
pub seat : {t : List ℕ} {p y k : ℕ} {n : Read} → Stands t p y k → Same n (block t k) → Seated p y n
seat x s =
    let e = s.extent in
    record { column = rw e.column x.column; low = rw e.low x.low; full = rw (e.low, e.high) x.full; high = rw e.high x.high }

-- ---- a column's part and count as an edit leaves them

pub put_changed : (r : List ℕ) (c : ℕ) (f : List Interval → List Interval) (q : List ℕ) (n : ℕ) → Changed f (part r (column_at c) column_size) (count_of r c) q n
    → put_part r c q n ≡ put_column r c (f (column_list r c))
unfolding put_column
put_changed r c f q n x = rw (x.bytes_are, x.count_is)
