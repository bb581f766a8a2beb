-- MODEL 11.1: where a block of a task that fits stands, and its home, from the bytes of a sound record. Assumes nothing.
use Prim.Native.Nat.{ℕ, zero, suc, ◌+◌, ◌-◌, ◌*◌, ◌≤◌, ◌<◌}
use Rattle.std.specs.Prelude.{◌≡◌, true, List, eqb}
use Rattle.std.proofs.Math.Path.{sym, ap, ap₂, ◌∙◌}
use Rattle.std.proofs.Common.{arith}
use Rattle.runs.specs.Intervals.{Interval, interval, Apart}
use Rattle.runs.specs.Laws.Tests.{tests, and_to}
use Rattle.model.specs.Limits.{max_rows}
use Rattle.model.specs.Tasks.{blocks, block}
use Rattle.model.specs.Book.{Placed, fits, intervals}
use Rattle.model.specs.Homes.{holder, home, joined}
use Rattle.model.specs.Record.{device_of, book_of}
use Rattle.model.specs.Sound.{count_of, sound}
use Rattle.model.proofs.Laws.Columns.{top_le}
use Rattle.model.proofs.Laws.Tasks.{full_block}
use Rattle.model.proofs.Laws.Fits.{fits_to}
use Rattle.model.proofs.Laws.Limits.{limits_to}
use Rattle.model.proofs.Laws.Cells.{interval_ends}
use Rattle.model.proofs.Laws.Clauses.{clauses_to}
use Rattle.model.proofs.Laws.Sound.{sound_within, listed_said}
use Rattle.model.proofs.Laws.Homes.{Stands as Free, found, at_home}
use Rattle.model.proofs.Laws.Firsts.{shared_home, joined_top}
use Rattle.model.proofs.Laws.Ends.{column_free}
use Rattle.column.specs.Part.{listed_in, ReadAt, first_reaching}
use Rattle.column.specs.declared.Interval.{Interval as Rows}
use Rattle.column.specs.Laws.Lent.{lent, listed_lent}
use Rattle.column.specs.Laws.Reaching.{reaching_below, reaching_holder}
use Rattle.task.specs.declared.Extent.{Extent}
use Rattle.task.specs.Blocks.{SameExtent}
use Rattle.listing.specs.Columns.{Given}
use Rattle.choice.specs.Choosing.{place_at, OnDevice, Stands, home_of, Housed, shared}
use Rattle.choice.specs.declared.tally.Place.{Place}

-- ---- a block that stands free

module _ (r : List ℕ) (s : sound r ≡ true) (b : Place) (g : Stands (intervals (device_of r) (book_of r)) b) where
  L : List Interval
  L = intervals (device_of r) (book_of r) b.column

  -- the part of its column lists the free intervals there
  module _ (p : List ℕ) (n : ℕ) (e : p ≡ lent r b.column) (m : n ≡ count_of r b.column) where
    free_listed : listed_in p n ≡ L
    unfolding L
    free_listed = let x = clauses_to r s in rw (e, m, listed_lent r b.column x.size g.on_device (x.few_intervals b.column g.on_device), listed_said r x b.column g.on_device)

    pub listed_apart : Apart 0 (listed_in p n)
    unfolding L
    listed_apart = rw free_listed (column_free (device_of r) (book_of r) b.column).canon

    -- and what a search of it finds is the home
    module _ (i : ℕ) (q : i ≡ first_reaching 0 b.rows.top (listed_in p n)) where
      pub home_below : i < n
      unfolding L
      home_below = reaching_below p n b.rows.bottom b.rows.top g.full listed_apart i q (rw free_listed g.held)

      pub home_found : (h : Rows) → ReadAt p i h → h ≡ (home_of (intervals (device_of r) (book_of r)) b).rows
      unfolding L
      home_found h a =
          let found = reaching_holder p n b.rows.bottom b.rows.top g.full listed_apart i q (rw free_listed g.held) in
          ap (λ (x : Interval). record { bottom = x.bottom; top = x.top }) (a.is ∙ found ∙ rw free_listed)

  -- it ends inside its home
  pub stands_housed : (h : Rows) → h ≡ (home_of (intervals (device_of r) (book_of r)) b).rows → Housed b.rows h
  unfolding L
  stands_housed i e =
      let d = device_of r in
      let k = book_of r in
      let h = found b.rows.bottom b.rows.top g.full 0 L (column_free d k b.column).canon g.held in
      rw e (record {
        low = omega (arith, h.below, h.above, g.full);
        above = h.above;
        roof_small = omega (arith, interval_ends d k b.column (holder L b.rows.bottom) h.member, top_le d b.column, (limits_to d k (sound_within r s)).rows);
      })

-- ---- the home of the block before

module _ (B : Placed) (L : ℕ → List Interval) where
  -- block k and its home, as the code has them
  abbrev pub block_of : ℕ → Place
  block_of k = place_at (B.column k) (interval (B.bottom k) (B.top k))

  abbrev pub home_at : ℕ → Place
  home_at k = place_at (B.column k) (home B L k)

  module _ (C : ℕ) (s : Free B C L) where
    -- a block ends inside its home
    pub housed : (k : ℕ) → k < B.count → (home B L k).top ≤ 2 * max_rows → Housed (block_of k).rows (home_at k).rows
    housed k l small = let h = at_home B C L s k l in record { low = omega (arith, h.below, h.above, s.full k l); above = h.above; roof_small = small }

    -- it is shared where the next block is joined to its own
    pub joined_shared : (k : ℕ) → 1 ≤ k → k < B.count → joined B L k ≡ shared (home_at (k - 1)) (block_of k)
    unfolding joined
    joined_shared zero m l = absurd (omega arith)
    joined_shared (suc j) m l = let e : suc j - 1 ≡ j = omega arith in rw e (joined_top B C L s j l)

    -- and is then its home
    pub shared_is : (k : ℕ) → 1 ≤ k → k < B.count → shared (home_at (k - 1)) (block_of k) ≡ true → home_at (k - 1) ≡ home_at k
    shared_is zero m l = absurd (omega arith)
    shared_is (suc j) m l =
        let e : suc j - 1 ≡ j = omega arith in
        rw e (λ q.
        let (x, y) = and_to (eqb (B.column j) (B.column (suc j))) _ q in
        ap₂ place_at {x = B.column j} {y = B.column (suc j)} (omega tests) (sym (shared_home B C L s j l (omega tests) (omega tests))))

-- ---- a block of a task that fits

module _ (r t : List ℕ) (a : Given r t) (p y k : ℕ) (f : fits (device_of r) (book_of r) t p y ≡ true) (l : k < blocks t) (x : Extent) (s : SameExtent x (block t k)) where
  -- where it stands, as numbers
  pub on_device : OnDevice x p y
  on_device =
      let d = device_of r in
      let b = book_of r in
      let m = limits_to d b (sound_within r a.sound) in
      let g = fits_to d b t p y f k l in
      let full = full_block t a.formed k l in
      record {
        column = omega (arith, s.column, g.column, m.columns);
        low = omega (arith, s.low, g.above);
        full = omega (arith, s.low, s.high);
        high = omega (arith, s.high, g.below, top_le d (p + (block t k).column), m.rows);
      }
