-- MODEL 12.5: a running task's blocks joined to the free intervals one after the other; at the end these are those of the book without the task.
-- Assumes nothing.
use Prim.Native.Nat.{ℕ, suc, ◌+◌, ◌≤◌, ◌<◌}
use Rattle.std.specs.Prelude.{◌≡◌, ◌⊎◌, ◌↔◌, ◌≢◌, Bool, true, ◌||◌}
use Rattle.std.proofs.Math.Path.{refl}
use Rattle.std.proofs.Common.{inl, inr, arith}
use Rattle.std.proofs.Math.Bool.{or-false}
use mathlib.Core.List.{List, []}
use Rattle.runs.specs.Intervals.{unite}
use Rattle.runs.specs.Laws.Intervals.{intervals_free, free_intervals, unite_free}
use Rattle.runs.specs.Laws.Grid.{unite_grid}
use Rattle.model.specs.Limits.{column_size}
use Rattle.model.specs.Bounded.{any_below, In}
use Rattle.model.specs.Columns.{Device, height, kind, top}
use Rattle.model.specs.Tasks.{block, blocks}
use Rattle.model.specs.Book.{Running, Book, Placed, placed, covers, covered, standing, free, intervals}
use Rattle.model.specs.Record.{part, column_at, device_of, book_of}
use Rattle.model.specs.Calls.{without}
use Rattle.model.specs.Sound.{within, count_of, sound}
use Rattle.model.specs.InPlace.{put_column}
use Rattle.model.proofs.Laws.Bounded.{or_to, or_of, same_test}
use Rattle.model.proofs.Laws.Fits.{fits_to}
use Rattle.model.proofs.Laws.Limits.{Entry, limits_to}
use Rattle.model.proofs.Laws.Cells.{block_grid}
use Rattle.model.proofs.Laws.Freed.{free_without}
use Rattle.model.proofs.Laws.WriteBack.{Bytes}
use Rattle.column.specs.Part.{Joinable}
use Rattle.column.specs.Laws.Part.{joinable_of}
use Rattle.record.specs.Columns.{column_list, runs_of}
use Rattle.record.specs.Leave.{free_join, freed}
use Rattle.record.specs.Laws.Columns.{runs_same, sound_runs, covers_not, covers_to, covers_of, Stands, stands}
use Rattle.record.specs.Laws.Walk.{Walk, walk_lists, walk_few, walk_more}

-- ---- blocks freed

module _ (d : Device) (b : Book) (B : Placed) where
  -- none freed
  join_none : (c z : ℕ) → free_join d b B 0 c z ≡ free d b c z
  unfolding free_join any_below
  join_none c z = refl

  module _ (k : ℕ) where
    -- one more, in other columns and in its own
    join_other : (c : ℕ) → c ≢ B.column k → (z : ℕ) → free_join d b B k c z ≡ free_join d b B (suc k) c z
    unfolding free_join any_below
    join_other c h z = rw (covers_not B c z k h, or-false)

    join_own : (z : ℕ) → (free_join d b B (suc k) (B.column k) z ≡ true) ↔ (((B.bottom k ≤ z) × (z < B.top k)) ⊎ (free_join d b B k (B.column k) z ≡ true))
    unfolding free_join any_below
    join_own z = (λ h. to (or_to (before || covers B c z k) (free d b c z) h), of)
      where
        c : ℕ
        c = B.column k

        before : Bool
        before = any_below k (covers B c z)

        split : (before || covers B c z k) ≡ true → ((B.bottom k ≤ z) × (z < B.top k)) ⊎ ((before || free d b c z) ≡ true)
        split h = go (or_to before (covers B c z k) h)
          where
            go : (before ≡ true) ⊎ (covers B c z k ≡ true) → ((B.bottom k ≤ z) × (z < B.top k)) ⊎ ((before || free d b c z) ≡ true)
            go (inl u) = inr (or_of before (free d b c z) (inl u))
            go (inr u) = inl (covers_to B c z k u)

        to : ((before || covers B c z k) ≡ true) ⊎ (free d b c z ≡ true) → ((B.bottom k ≤ z) × (z < B.top k)) ⊎ ((before || free d b c z) ≡ true)
        to (inl u) = split u
        to (inr u) = inr (or_of before (free d b c z) (inr u))

        keep : (before ≡ true) ⊎ (free d b c z ≡ true) → ((before || covers B c z k) || free d b c z) ≡ true
        keep (inl u) = or_of (before || covers B c z k) (free d b c z) (inl (or_of before (covers B c z k) (inl u)))
        keep (inr u) = or_of (before || covers B c z k) (free d b c z) (inr u)

        of : ((B.bottom k ≤ z) × (z < B.top k)) ⊎ ((before || free d b c z) ≡ true) → ((before || covers B c z k) || free d b c z) ≡ true
        of (inl u) = or_of (before || covers B c z k) (free d b c z) (inl (or_of before (covers B c z k) (inr (covers_of B c z k refl u.0 u.1))))
        of (inr u) = keep (or_to before (free d b c z) u)

    -- the intervals of its own column, with it
    pub join_runs : B.bottom k < B.top k → B.top k ≤ top d (B.column k)
        → unite (B.bottom k) (B.top k) (runs_of d (free_join d b B k) (B.column k)) ≡ runs_of d (free_join d b B (suc k)) (B.column k)
    join_runs l h =
        let c = B.column k in
        free_intervals (free_join d b B (suc k) c) (top d c) (unite (B.bottom k) (B.top k) (runs_of d (free_join d b B k) c))
        (unite_free (free_join d b B k c) (free_join d b B (suc k) c) (top d c) (B.bottom k) (B.top k) (runs_of d (free_join d b B k) c) l h
        (intervals_free (free_join d b B k c) (top d c)) (λ z q. join_own z))

-- ---- the blocks of a running task

module _ (d : Device) (b : Book) (w : within d b ≡ true) (e : Running) (i : In e b) where
  entry : Entry d e
  entry = (limits_to d b w).entries e i

  pub stands_in : (k : ℕ) → k < blocks e.task → Stands e.task e.column e.bottom k
  stands_in k l =
      let x = limits_to d b w in
      stands d [] e.task e.column e.bottom x.rows x.columns entry.sized entry.well_formed entry.fits k l

  full_in : (k : ℕ) → k < blocks e.task → (standing e).bottom k < (standing e).top k
  unfolding placed
  full_in k l = let x = stands_in k l in omega (arith, x.low, x.full)

  below_in : (k : ℕ) → k < blocks e.task → (standing e).top k ≤ top d ((standing e).column k)
  unfolding placed
  below_in k l = omega (arith, (fits_to d [] e.task e.column e.bottom entry.fits k l).below)

  join_walk : Walk d b (standing e) (blocks e.task) (free_join d b (standing e)) (λ k. unite ((standing e).bottom k) ((standing e).top k))
  unfolding placed
  join_walk = record {
    none = join_none d b (standing e);
    other = join_other d b (standing e);
    own = λ k l. join_runs d b (standing e) k (full_in k l) (below_in k l);
    grid = λ k l L g.
        let (m, n) = block_grid d [] e.task entry.well_formed e.column e.bottom entry.fits k l in
        unite_grid (height (kind d (e.column + (block e.task k).column))) _ _ L m n g;
  }

  module _ (r : List ℕ) (k : ℕ) (h : r ≡ freed d b (standing e) k) (l : k < blocks e.task) where
    -- a block can be joined
    pub freed_room : Joinable ((standing e).bottom k) ((standing e).top k) (part r (column_at ((standing e).column k)) column_size) (count_of r ((standing e).column k))
    unfolding freed placed
    freed_room =
        let B = standing e in
        let s = stands_in k l in
        joinable_of (walk_lists w join_walk r k h l s.column) (B.bottom k) (B.top k)
        (intervals_free (free_join d b B k (B.column k)) (top d (B.column k))).canon (omega (arith, s.full, s.high)) (omega (arith, s.high))
        (walk_few w join_walk r k h l s.column)

    -- one more block freed
    pub freed_more : put_column r ((standing e).column k) (unite ((standing e).bottom k) ((standing e).top k) (column_list r ((standing e).column k)))
        ≡ freed d b (standing e) (suc k)
    unfolding freed placed
    freed_more = walk_more w join_walk r k h l (stands_in k l).column

  -- THEOREM: with all its blocks freed, the intervals are those of the book without the task
  pub freed_all : (c : ℕ) → runs_of d (free_join d b (standing e) (blocks e.task)) c ≡ intervals d (without e.number b) c
  unfolding intervals free_join covered placed
  freed_all c = runs_same (free_join d b B (blocks e.task) c) (free d (without e.number b) c) (top d c) same
    where
      B : Placed
      B = standing e

      same : (z : ℕ) → free_join d b B (blocks e.task) c z ≡ free d (without e.number b) c z
      same z =
          let (to, of) = free_without d b w e i c z in
          let t = any_below (blocks e.task) (covers B c z) in
          same_test (free_join d b B (blocks e.task) c z) (free d (without e.number b) c z)
          (λ h. of (or_to t (free d b c z) h)) (λ h. or_of t (free d b c z) (to h))

-- the record before any is freed
pub freed_none : (r : List ℕ) (B : Placed) → Bytes r → sound r ≡ true → r ≡ freed (device_of r) (book_of r) B 0
unfolding freed
freed_none r B x s = sound_runs r (free_join (device_of r) (book_of r) B 0) x s (join_none (device_of r) (book_of r) B)
