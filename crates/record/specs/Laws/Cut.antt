-- MODEL 12.4: a task's blocks taken from the free intervals one after the other; at the end these are those of the book with the task in it.
-- Assumes nothing.
use Rattle.std.specs.Prelude.{ℕ, suc, ◌+◌, ◌≤◌, ◌<◌, ◌≡◌, ◌⊎◌, ◌↔◌, ◌≢◌, true, not, ◌||◌, List}
use Rattle.std.proofs.Math.Path.{refl}
use Rattle.std.proofs.Math.Logic.{inl, inr}
use Rattle.std.proofs.Math.Bool.{false, and-true, or-false}
use Rattle.std.proofs.Common.{arith}
use borrow.Author.Tests.{not-true}
use Rattle.runs.specs.Intervals.{subtract}
use Rattle.runs.specs.Laws.Tests.{lt_or_ge}
use Rattle.runs.specs.Laws.Intervals.{Outside, intervals_free, free_intervals, subtract_free}
use Rattle.runs.specs.Laws.Grid.{subtract_grid}
use Rattle.model.specs.Limits.{column_size}
use Rattle.model.specs.Bounded.{any_below}
use Rattle.model.specs.Columns.{Device, height, kind, top}
use Rattle.model.specs.Tasks.{block, blocks, sized, well_formed}
use Rattle.model.specs.Book.{Running, Book, Placed, placed, covers, covered, free, fits, intervals}
use Rattle.model.specs.Record.{part, column_at, device_of, book_of}
use Rattle.model.specs.Calls.{insert}
use Rattle.model.specs.Sound.{within, count_of, sound}
use Rattle.model.specs.InPlace.{put_column}
use Rattle.model.proofs.Laws.Bounded.{and_to, same_test, is_false, clash}
use Rattle.model.proofs.Laws.Limits.{limits_to}
use Rattle.model.proofs.Laws.Cells.{block_grid}
use Rattle.model.proofs.Laws.Split.{neither}
use Rattle.model.proofs.Laws.Freed.{free_insert}
use Rattle.model.proofs.Laws.WriteBack.{Bytes}
use Rattle.column.specs.Part.{Room}
use Rattle.column.specs.Laws.Part.{room_of}
use Rattle.record.specs.Columns.{column_list, runs_of}
use Rattle.record.specs.Enter.{free_cut, taken}
use Rattle.record.specs.Laws.Columns.{runs_same, sound_runs, covers_not, covers_to, covers_of, Stands, stands}
use Rattle.record.specs.Laws.Walk.{Walk, walk_lists, walk_few, walk_more}

-- ---- blocks taken

module _ (d : Device) (b : Book) (B : Placed) where
  -- none taken
  cut_none : (c z : ℕ) → free_cut d b B 0 c z ≡ free d b c z
  unfolding free_cut any_below
  cut_none c z = and-true (free d b c z)

  module _ (k : ℕ) where
    -- one more, in other columns and in its own
    cut_other : (c : ℕ) → c ≢ B.column k → (z : ℕ) → free_cut d b B k c z ≡ free_cut d b B (suc k) c z
    unfolding free_cut any_below
    cut_other c h z = rw (covers_not B c z k h, or-false)

    cut_own : (z : ℕ) → (free_cut d b B (suc k) (B.column k) z ≡ true) ↔ ((free_cut d b B k (B.column k) z ≡ true) × Outside (B.bottom k) (B.top k) z)
    unfolding free_cut any_below
    cut_own z =
        let c = B.column k in
        let before = any_below k (covers B c z) in (
          λ h.
              let (u, v) = and_to (free d b c z) (not (before || covers B c z k)) h in
              let (x, y) = neither before (covers B c z k) (not-true (before || covers B c z k) v) in
              (rw (u, x), out y (lt_or_ge z (B.bottom k)) (lt_or_ge z (B.top k))),
          λ (h, o).
              let (u, v) = and_to (free d b c z) (not before) h in
              rw (u, not-true before v, not_covered o),
        )
      where
        out : covers B (B.column k) z k ≡ false → (z < B.bottom k) ⊎ (B.bottom k ≤ z) → (z < B.top k) ⊎ (B.top k ≤ z) → Outside (B.bottom k) (B.top k) z
        out y (inl l) m = inl l
        out y (inr l) (inr m) = inr m
        out y (inr l) (inl m) = clash (covers_of B (B.column k) z k refl l m) y

        not_covered : Outside (B.bottom k) (B.top k) z → covers B (B.column k) z k ≡ false
        not_covered o = is_false (covers B (B.column k) z k) (λ h. let (u, v) = covers_to B (B.column k) z k h in no o u v)
          where
            no : Outside (B.bottom k) (B.top k) z → B.bottom k ≤ z → z < B.top k → ⊥
            no (inl l) u v = omega arith
            no (inr l) u v = omega arith

    -- the intervals of its own column, without it
    pub cut_runs : B.bottom k < B.top k
        → subtract (B.bottom k) (B.top k) (runs_of d (free_cut d b B k) (B.column k)) ≡ runs_of d (free_cut d b B (suc k)) (B.column k)
    cut_runs l =
        let c = B.column k in
        free_intervals (free_cut d b B (suc k) c) (top d c) (subtract (B.bottom k) (B.top k) (runs_of d (free_cut d b B k) c))
        (subtract_free (free_cut d b B k c) (free_cut d b B (suc k) c) (top d c) (B.bottom k) (B.top k) (runs_of d (free_cut d b B k) c) l
        (intervals_free (free_cut d b B k c) (top d c)) (λ z q. cut_own z))

-- ---- the blocks of a task that fits

module _ (d : Device) (b : Book) (w : within d b ≡ true) (t : List ℕ) (s : sized t ≡ true) (v : well_formed t ≡ true) (p y : ℕ) (f : fits d b t p y ≡ true) where
  stands_at : (k : ℕ) → k < blocks t → Stands t p y k
  stands_at k l = let x = limits_to d b w in stands d b t p y x.rows x.columns s v f k l

  full_at : (k : ℕ) → k < blocks t → (placed t p y).bottom k < (placed t p y).top k
  unfolding placed
  full_at k l = let x = stands_at k l in omega (arith, x.low, x.full)

  cut_walk : Walk d b (placed t p y) (blocks t) (free_cut d b (placed t p y)) (λ k. subtract ((placed t p y).bottom k) ((placed t p y).top k))
  unfolding placed
  cut_walk = record {
    none = cut_none d b (placed t p y);
    other = cut_other d b (placed t p y);
    own = λ k l. cut_runs d b (placed t p y) k (full_at k l);
    grid = λ k l L g. let (m, n) = block_grid d b t v p y f k l in subtract_grid (height (kind d (p + (block t k).column))) _ _ L m n g;
  }

  module _ (r : List ℕ) (k : ℕ) (e : r ≡ taken d b (placed t p y) k) (l : k < blocks t) where
    -- there is room for what a cut leaves
    pub taken_room : Room (subtract ((placed t p y).bottom k) ((placed t p y).top k)) (part r (column_at ((placed t p y).column k)) column_size) (count_of r ((placed t p y).column k))
    unfolding taken placed
    taken_room = room_of (walk_lists w cut_walk r k e l (stands_at k l).column) (subtract _ _) (walk_few w cut_walk r k e l (stands_at k l).column)

    -- one more block taken
    pub taken_more : put_column r ((placed t p y).column k) (subtract ((placed t p y).bottom k) ((placed t p y).top k) (column_list r ((placed t p y).column k)))
        ≡ taken d b (placed t p y) (suc k)
    unfolding taken placed
    taken_more = walk_more w cut_walk r k e l (stands_at k l).column

  -- THEOREM: with all its blocks taken, the intervals are those of the book with the task in it
  pub taken_all : (n c : ℕ) → runs_of d (free_cut d b (placed t p y) (blocks t)) c ≡ intervals d (insert (record { number = n; column = p; bottom = y; task = t }) b) c
  unfolding intervals free_cut covered placed
  taken_all n c = runs_same (free_cut d b B (blocks t) c) (free d (insert e b) c) (top d c) same
    where
      B : Placed
      B = placed t p y

      e : Running
      e = record { number = n; column = p; bottom = y; task = t }

      same : (z : ℕ) → free_cut d b B (blocks t) c z ≡ free d (insert e b) c z
      same z =
          let (to, of) = free_insert d b e c z in
          same_test (free_cut d b B (blocks t) c z) (free d (insert e b) c z)
          (λ h. let (u, x) = and_to (free d b c z) (not (any_below (blocks t) (covers B c z))) h in of (u, not-true (any_below (blocks t) (covers B c z)) x))
          (λ h. let (u, x) = to h in rw (u, x))

-- the record before any is taken
pub taken_none : (r : List ℕ) (B : Placed) → Bytes r → sound r ≡ true → r ≡ taken (device_of r) (book_of r) B 0
unfolding taken
taken_none r B x s = sound_runs r (free_cut (device_of r) (book_of r) B 0) x s (cut_none (device_of r) (book_of r) B)
