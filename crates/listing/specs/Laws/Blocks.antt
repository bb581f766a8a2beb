-- MODEL 10.4: the bottoms of the first blocks of a task, none met, one block more, and all. At the end they are, lowered again, the model's ranges.
-- Assumes nothing.
use Rattle.std.specs.Prelude.{ℕ, suc, ◌+◌, ◌-◌, ◌*◌, ◌/◌, ◌≤◌, ◌<◌, max, ◌≡◌, refl, ◌⊎◌, true, List, [], ◌∷◌, map}
use Rattle.std.proofs.Common.{sym, ap, inl, inr, mul-le-mul_right, div-add-mod', mod-lt}
use native.Mathlib.Omega.{arith}
use Rattle.runs.specs.Laws.Tests.{lt_or_ge}
use Rattle.runs.specs.Runs.{Run, run, In, Mem, From, Lists, runs}
use Rattle.runs.specs.Laws.Runs.{lists_runs}
use Rattle.runs.specs.Intervals.{Apart, Multiple, OnGrid}
use Rattle.runs.specs.Laws.Intervals.{intervals_free}
use Rattle.runs.specs.Meet.{Lcm, Spaced, Meeting}
use Rattle.runs.specs.Laws.Steps.{multiple_mod, multiple_times, multiple_le, multiple_sub, multiple_steps}
use Rattle.runs.specs.Laws.Canon.{from_weaken, from_least}
use Rattle.model.specs.Limits.{reach, max_rows}
use Rattle.model.specs.Columns.{Device, half_rows, height, columns, kind}
use Rattle.model.specs.Tasks.{blocks, block, step, well_formed}
use Rattle.model.specs.Book.{Book, free, block_fits, fits, intervals}
use Rattle.model.specs.Sound.{within}
use Rattle.model.specs.Blocks.{Common}
use Rattle.model.proofs.Laws.Bounded.{all_to, all_of}
use Rattle.model.proofs.Laws.Columns.{height_pos}
use Rattle.model.proofs.Laws.Tasks.{solid_block, first_block}
use Rattle.model.proofs.Laws.Fits.{fitting_to, fits_to, fits_below}
use Rattle.model.proofs.Laws.Steps.{common_step, common_bounds, step_bounds, block_apart, fits_steps}
use Rattle.model.proofs.Laws.Limits.{limits_to}
use Rattle.model.proofs.Laws.Cells.{intervals_grid}
use Rattle.listing.specs.Bottoms.{lift, lowered, bottoms, Stand, Standing}
use Rattle.listing.specs.Laws.Bottoms.{bottoms_to, bottoms_of, whole_cells, fits_stood, stood_fits}

-- ---- the intervals of a column

pub column_apart : (d : Device) (b : Book) (c : ℕ) → Apart 0 (intervals d b c)
unfolding intervals
column_apart d b c = (intervals_free (free d b c) _).canon

pub column_grid : (d : Device) (b : Book) (c : ℕ) → within d b ≡ true → OnGrid (height (kind d c)) (intervals d b c)
column_grid d b c w = intervals_grid d b w c

-- ---- the least common multiple of the heights of the first blocks

module _ (t : List ℕ) where
  pub common_unique : (m s l : ℕ) → Common t m s → Common t m l → s ≡ l
  common_unique m s l c e =
      omega (arith, multiple_le s l e.pos (c.least l e.all), multiple_le l s c.pos (e.least s c.all))

  common_one : Common t 1 (height (block t 0).kind)
  common_one = record {
    pos = height_pos (block t 0).kind;
    all = λ i l. let e : i ≡ 0 = omega arith in rw e (1, omega arith);
    least = λ x h. h 0 (omega arith);
  }

  common_next : (k s l : ℕ) → Common t (max 1 k) s → Lcm s (height (block t k).kind) l → Common t (suc k) l
  common_next k s l c m = record { pos = m.pos; all = λ i g. at i g (lt_or_ge i k); least = λ x h. m.least x (c.least x (λ i g. h i (omega arith))) (h k (omega arith)) }
    where
      at : (i : ℕ) → i < suc k → (i < k) ⊎ (k ≤ i) → Multiple (height (block t i).kind) l
      at i g (inl h) = multiple_times (height (block t i).kind) s l (c.all i (omega arith)) m.left
      at i g (inr h) = let e : i ≡ k = omega arith in rw e m.right

-- ---- lists of lifted bottoms

-- the multiples of h from a on that are no more than n above it
grid_in : (h a n : ℕ) → 1 ≤ h → (y : ℕ) → a ≤ y → y ≤ a + n → Multiple h (y - a) → In h y (run a (a + n / h * h))
grid_in h a n p y l g (j, e) = ((j, omega arith), last (lt_or_ge (n / h) j))
  where
    last : (n / h < j) ⊎ (j ≤ n / h) → y ≤ a + n / h * h
    last (inl k) = omega (arith, div-add-mod' n h, mod-lt n {m = h} p, mul-le-mul_right {m = suc (n / h)} {n = j} h k)
    last (inr k) = omega (arith, mul-le-mul_right {m = j} {n = n / h} h k)

module _ (d : Device) (b : Book) (t : List ℕ) (p : ℕ) where
  -- two bottoms at which the first k blocks stand are multiples of each of their heights apart
  stand_apart : (k x y i : ℕ) → Stand d b t p k x → Stand d b t p k y → x < y → i < max 1 k → Multiple (height (block t i).kind) (y - x)
  stand_apart k x y i u v l g =
      let a = u.low in
      let c = v.low in
      go a c (lt_or_ge i k)
    where
      go : lift ≤ x → lift ≤ y → (i < k) ⊎ (k ≤ i) → Multiple (height (block t i).kind) (y - x)
      go a c (inl h) =
          let (j, q) = block_apart d b (block t i) p (x - lift) (y - lift) (fitting_to d b (block t i) p (x - lift) (u.fits i h)) (fitting_to d b (block t i) p (y - lift) (v.fits i h)) (omega arith) in
          (j, omega arith)
      go a c (inr h) =
          let n : i ≡ 0 = omega arith in
          let (j, q) = multiple_sub (height (block t 0).kind) (y - lift) (x - lift) v.grid u.grid (omega arith) in
          rw n (j, omega arith)

  module _ (k s : ℕ) (L : List Run) (g : Standing d b t p k s L) where
    -- so in steps of what is listed
    pub listed_spaced : Spaced s L
    listed_spaced x y m n l =
        multiple_steps s x y l (g.common.least (y - x) (λ i h. stand_apart k x y i (g.named_to x m) (g.named_to y n) l h))

    pub listed_bound : (y : ℕ) → Mem s y L → (lift ≤ y) × (y < lift + 2 * max_rows)
    listed_bound y m = let u = g.named_to y m in (u.low, u.high)

    pub listed_step : (2 ≤ s) × (s ≤ 10)
    listed_step = common_bounds t (max 1 k) s (omega arith) g.common

  -- no block met: the lifted half rows on the grid of the first block
  pub listed_start : (h : ℕ) → h ≡ height (block t 0).kind → Standing d b t p 0 h (run lift (lift + (2 * max_rows - 1) / h * h) ∷ [])
  listed_start h e =
      let pos : 1 ≤ h = omega (arith, height_pos (block t 0).kind) in
      record {
        common = rw e (common_one t);
        canon = (omega arith, ((2 * max_rows - 1) / h, refl), tt);
        named_to = λ y m. to y m pos;
        named_of = λ y u. inl (grid_in h lift (2 * max_rows - 1) pos y u.low (omega (arith, u.high)) (rw e u.grid));
      }
    where
      to : (y : ℕ) → Mem h y (run lift (lift + (2 * max_rows - 1) / h * h) ∷ []) → 1 ≤ h → Stand d b t p 0 y
      to y (inl (u, l)) pos =
          let q = div-add-mod' (2 * max_rows - 1) h in
          record { low = omega arith; high = omega arith; grid = (u.0, omega (arith, ap (λ (x : ℕ). u.0 * x) (sym e))); fits = λ i r. absurd (omega arith) }
      to y (inr x'') pos = elim x'' [ ]

  -- one block more
  module _ (w : within d b ≡ true) (f : well_formed t ≡ true) (k : ℕ) (l : k < blocks t)
      (on : p + (block t k).column < columns d) (same : kind d (p + (block t k).column) ≡ (block t k).kind) where
    grid_here : OnGrid (height (block t k).kind) (intervals d b (p + (block t k).column))
    grid_here = rw same at (column_grid d b (p + (block t k).column) w)

    stand_next : (y : ℕ) → Stand d b t p k y → Mem (height (block t k).kind) y (bottoms (block t k).low (block t k).high (intervals d b (p + (block t k).column))) → Stand d b t p (suc k) y
    stand_next y u q =
        let z = solid_block t f k l in
        let a = u.low in
        let x : y - lift + lift ≡ y = omega arith in
        let st =
        bottoms_to (height (block t k).kind) (block t k).low (block t k).high z.full (omega (arith, z.below)) (whole_cells (block t k) z) 0 y
        (intervals d b (p + (block t k).column)) (column_apart d b (p + (block t k).column)) grid_here q in
        let fit = stood_fits d b (block t k) z p on same (y - lift) (rw x st) in
        record { low = u.low; high = u.high; grid = u.grid; fits = λ i r. at i r (lt_or_ge i k) fit }
      where
        at : (i : ℕ) → i < suc k → (i < k) ⊎ (k ≤ i) → block_fits d b (block t k) p (y - lift) ≡ true → block_fits d b (block t i) p (y - lift) ≡ true
        at i r (inl j) fit = u.fits i j
        at i r (inr j) fit = let n : i ≡ k = omega arith in rw n fit

    stand_named : (y : ℕ) → lift ≤ y → block_fits d b (block t k) p (y - lift) ≡ true
        → Mem (height (block t k).kind) y (bottoms (block t k).low (block t k).high (intervals d b (p + (block t k).column)))
    stand_named y a q =
        let z = solid_block t f k l in
        let x : y - lift + lift ≡ y = omega arith in
        bottoms_of (height (block t k).kind) (block t k).low (block t k).high z.full (omega (arith, z.below)) (whole_cells (block t k) z) 0 y
        (intervals d b (p + (block t k).column)) (column_apart d b (p + (block t k).column)) grid_here
        (rw x at (fits_stood d b (block t k) z p on same (y - lift) q))

    pub listed_next : (s n : ℕ) (L O : List Run) → Standing d b t p k s L → Lcm s (height (block t k).kind) n
        → Meeting s (height (block t k).kind) n L (bottoms (block t k).low (block t k).high (intervals d b (p + (block t k).column))) O → Standing d b t p (suc k) n O
    listed_next s n L O g c m = record {
      common = let e : max 1 (suc k) ≡ suc k = omega arith in rw e (common_next t k s n g.common c);
      canon = m.canon;
      named_to = λ y q. let (u, v) = (m.named y).0 q in stand_next y (g.named_to y u) v;
      named_of = λ y u. (m.named y).1 (g.named_of y (record { low = u.low; high = u.high; grid = u.grid; fits = λ i q. u.fits i (omega arith) }), stand_named y u.low (u.fits k (omega arith)));
    }

-- ---- all blocks met, and the bottoms lowered again

module _ (s : ℕ) where
  lowered_from : (m : ℕ) (L : List Run) → From s (m + lift) L → From s m (map lowered L)
  lowered_from m [] c = tt
  lowered_from m (r ∷ L) (a, (k, e), c) = (omega arith, (k, omega arith), lowered_from (r.last - lift + 2 * s) L (from_weaken s _ (r.last + 2 * s) L (omega arith) c))

  lowered_to : (m y : ℕ) (L : List Run) → From s (m + lift) L → Mem s y (map lowered L) → Mem s (y + lift) L
  lowered_to m y [] c n = n
  lowered_to m y (r ∷ L) (a, (k, e), c) (inl ((j, f), l)) = inl ((j, omega arith), omega arith)
  lowered_to m y (r ∷ L) (a, (k, e), c) (inr n) = inr (lowered_to (r.last - lift + 2 * s) y L (from_weaken s _ (r.last + 2 * s) L (omega arith) c) n)

  lowered_of : (m y : ℕ) (L : List Run) → From s (m + lift) L → Mem s (y + lift) L → Mem s y (map lowered L)
  lowered_of m y [] c n = n
  lowered_of m y (r ∷ L) (a, (k, e), c) (inl ((j, f), l)) = inl ((j, omega arith), omega arith)
  lowered_of m y (r ∷ L) (a, (k, e), c) (inr n) = inr (lowered_of (r.last - lift + 2 * s) y L (from_weaken s _ (r.last + 2 * s) L (omega arith) c) n)

module _ (d : Device) (b : Book) (t : List ℕ) (p : ℕ) (w : within d b ≡ true) (f : well_formed t ≡ true) (n : 1 ≤ blocks t) where
  stand_fits : (y : ℕ) → Stand d b t p (blocks t) (y + lift) → (y < half_rows d) × (fits d b t p y ≡ true)
  unfolding fits
  stand_fits y u =
      let e : y + lift - lift ≡ y = omega arith in
      let all = all_of (blocks t) (λ k. block_fits d b (block t k) p y) (λ k l. rw e at (u.fits k l)) in
      ((fits_below d b t p y f n all).1, all)

  fits_stand : (y : ℕ) → y < half_rows d → fits d b t p y ≡ true → Stand d b t p (blocks t) (y + lift)
  unfolding fits
  fits_stand y l h =
      let e : y + lift - lift ≡ y = omega arith in
      let g = (fits_to d b t p y h 0 n).grid in
      let (c, o) = first_block t f in
      let z : y + (block t 0).low - reach ≡ y = omega arith in
      record {
        low = omega arith;
        high = omega (arith, (limits_to d b w).rows);
        grid = rw e (multiple_mod (height (block t 0).kind) y (rw z at g));
        fits = λ i q. rw e (all_to (blocks t) (λ k. block_fits d b (block t k) p y) h i q);
      }

  -- THEOREM: the bottoms of all blocks, lowered, are the task's ranges in the column
  pub listed_all : (k s : ℕ) (L : List Run) → k ≡ blocks t → Standing d b t p k s L → map lowered L ≡ runs (step t) (fits d b t p) (half_rows d)
  listed_all k s L q g =
      let m : max 1 k ≡ blocks t = omega arith in
      let e : s ≡ step t = common_unique t (blocks t) s (step t) (rw m at g.common) (common_step t n) in
      let c : From s (0 + lift) L = from_least s (0 + lift) 0 L g.canon (λ y h. (g.named_to y h).low) in
      let two = step_bounds t n in
      let r : Lists s (fits d b t p) (half_rows d) (map lowered L) = record {
        canon = lowered_from s 0 L c;
        named = λ y. (
          λ h. stand_fits y (rw q at (g.named_to (y + lift) (lowered_to s 0 y L c h))),
          λ (l, h). lowered_of s 0 y L c (g.named_of (y + lift) (rw q (fits_stand y l h))),
        );
      } in
      lists_runs (step t) (fits d b t p) (omega arith) (fits_steps d b t p n) (half_rows d) (map lowered L) (rw e at r)

  -- where a block has no column of its kind, there is no range
  pub none_stand : (((k : ℕ) → k < blocks t → (p + (block t k).column < columns d) × (kind d (p + (block t k).column) ≡ (block t k).kind)) → ⊥)
      → [] ≡ runs (step t) (fits d b t p) (half_rows d)
  none_stand h =
      let two = step_bounds t n in
      lists_runs (step t) (fits d b t p) (omega arith) (fits_steps d b t p n) (half_rows d) [] (record {
        canon = tt;
        named = λ y. (λ m. absurd m, λ (g, e). absurd (h (λ k l. let u = fits_to d b t p y e k l in (u.column, u.kind))));
      })
