-- MODEL 5.4 and 7.4: blocks are whole cells, so all half rows of a cell are held or free alike, a maximal run of free half rows is a maximal run of
-- free cells, and a column has few of them. Assumes nothing.
use Rattle.std.specs.Prelude.{ℕ, suc, ◌+◌, ◌-◌, ◌*◌, ◌/◌, ◌%◌, ◌≤◌, ◌<◌, ◌≡◌, refl, Bool, true, ◌&&◌, ◌||◌, List, [], ◌∷◌, map, leb, eqb, length}
use Rattle.std.proofs.Common.{sym, ap, ◌∙◌, inl, inr, mul_comm, div-add-mod', mod-lt, div-lt_iff_lt-mul, le-div_iff_mul-le, mul-le-mul_left, arith}
use Rattle.std.proofs.Math.Path.{ap₂}
use Rattle.std.proofs.Math.Bool.{not}
use Rattle.std.proofs.Math.Nat.{mul-div-le, div-add-mod, mul-le-mul_right, mul-lt-mul_of_pos_left, lt_of_mul-lt-mul_left}
use Rattle.std.proofs.Math.Dec.{ltb}
use Rattle.std.proofs.Math.ListN.{length-map}
use borrow.Author.Tests.{le-leb, lt-ltb, eq-eqb}
use Rattle.runs.specs.Laws.Tests.{tests}
use Rattle.runs.specs.Laws.Runs.{in_step_one, runs_count}
use Rattle.runs.specs.Intervals.{Interval, interval, Named, Apart, Multiple, OnGrid, intervals as maximal_runs}
use Rattle.runs.specs.Laws.Intervals.{apart_weaken, intervals_free, free_intervals}
use Rattle.model.specs.Limits.{reach, max_intervals}
use Rattle.model.specs.Bounded.{any_in, In}
use Rattle.model.specs.Columns.{Device, columns, half_rows, height, kind, cells_in, top_in, cells, top}
use Rattle.model.specs.Tasks.{blocks, block, well_formed}
use Rattle.model.specs.Book.{Running, Book, placed, covers, covered, standing, held, free, fits, intervals, holds_cell, cell_free}
use Rattle.model.specs.Sound.{within}
use Rattle.model.proofs.Laws.Bounded.{and3_to, any_to, any_of_one, same_test}
use Rattle.model.proofs.Laws.Columns.{height_two, height_pos}
use Rattle.model.proofs.Laws.Tasks.{solid_block}
use Rattle.model.proofs.Laws.Fits.{fits_to}
use Rattle.model.proofs.Laws.Homes.{in_named, in_bounds}
use Rattle.model.proofs.Laws.Limits.{Entry, limits_to}

-- ---- runs of cells of any height

-- the half rows of the cells that i names
abbrev pub scaled : ℕ → Interval → Interval
scaled h i = interval (h * i.bottom) (h * i.top)

scaled_grid : (h : ℕ) (L : List Interval) → OnGrid h (map (scaled h) L)
scaled_grid h [] = tt
scaled_grid h (i ∷ L) = ((i.bottom, mul_comm h i.bottom), (i.top, mul_comm h i.top), scaled_grid h L)

module _ (h : ℕ) (p : 1 ≤ h) where
  scaled_apart : (m : ℕ) (L : List Interval) → Apart m L → Apart (h * m) (map (scaled h) L)
  scaled_apart m [] c = tt
  scaled_apart m (i ∷ L) c = (
    mul-le-mul_left h c.0,
    mul-lt-mul_of_pos_left c.1 p,
    apart_weaken (suc (h * i.top)) (h * suc i.top) (map (scaled h) L) (omega arith) (scaled_apart (suc i.top) L c.2),
  )

  -- half row z is named where its cell is
  scaled_to : (z : ℕ) (L : List Interval) → Named z (map (scaled h) L) → Named (z / h) L
  scaled_to z [] n = n
  scaled_to z (i ∷ L) (inl n) = inl ((le-div_iff_mul-le p).1 (omega arith), (div-lt_iff_lt-mul p).1 (omega arith))
  scaled_to z (i ∷ L) (inr n) = inr (scaled_to z L n)

  scaled_of : (z : ℕ) (L : List Interval) → Named (z / h) L → Named z (map (scaled h) L)
  scaled_of z [] n = n
  scaled_of z (i ∷ L) (inl n) = inl (omega (arith, (le-div_iff_mul-le {x = i.bottom} {y = z} p).0 n.0), omega (arith, (div-lt_iff_lt-mul {x = z} {y = i.top} p).0 n.1))
  scaled_of z (i ∷ L) (inr n) = inr (scaled_of z L n)

  -- THEOREM: where all half rows of a cell pass alike, the maximal runs of half rows are the maximal runs of cells
  pub whole_cells : (n : ℕ) (f g : ℕ → Bool) → ((k i : ℕ) → k < n → i < h → f (h * k + i) ≡ g k) → maximal_runs f (h * n) ≡ map (scaled h) (maximal_runs g n)
  whole_cells n f g e =
      let r = intervals_free g n in
      sym (free_intervals f (h * n) (map (scaled h) (maximal_runs g n)) (record {
        canon = apart_weaken 0 (h * 0) (map (scaled h) (maximal_runs g n)) (omega arith) (scaled_apart 0 (maximal_runs g n) r.canon);
        named = λ z. (
          λ m. let (l, v) = (r.named (z / h)).0 (scaled_to z (maximal_runs g n) m) in (omega (arith, (div-lt_iff_lt-mul {x = z} {y = n} p).0 l), at z l ∙ v),
          λ (l, v). let k : z / h < n = (div-lt_iff_lt-mul p).1 (omega arith) in scaled_of z (maximal_runs g n) ((r.named (z / h)).1 (k, sym (at z k) ∙ v)),
        );
      }))
    where
      at : (z : ℕ) → z / h < n → f z ≡ g (z / h)
      at z l = ap f (sym (div-add-mod z h)) ∙ e (z / h) (z % h) l (mod-lt z p)

-- ---- what a placed task covers

-- block j of the task covers half row z of column c
abbrev pub Covers : List ℕ → ℕ → ℕ → ℕ → ℕ → ℕ → Type 0
Covers t p y c z j = (p + (block t j).column ≡ c) × (y + (block t j).low - reach ≤ z) × (z < y + (block t j).high - reach)

module _ (t : List ℕ) (p y c z : ℕ) where
  pub covered_to : covered (placed t p y) c z ≡ true → (j : ℕ) × (j < blocks t) × Covers t p y c z j
  unfolding covered covers placed
  covered_to h =
      let (j, l, e) = any_to (blocks t) (covers (placed t p y) c z) h in
      let (u, v, x) = and3_to (eqb (p + (block t j).column) c) (leb (y + (block t j).low - reach) z) (ltb z (y + (block t j).high - reach)) e in
      (j, l, (omega tests, omega tests, omega tests))

  pub covered_of : (j : ℕ) → j < blocks t → Covers t p y c z j → covered (placed t p y) c z ≡ true
  unfolding covered covers placed
  covered_of j l (u, v, x) =
      any_of_one (blocks t) (covers (placed t p y) c z) j l
      (rw (eq-eqb (p + (block t j).column) c u, le-leb (y + (block t j).low - reach) z v, lt-ltb z (y + (block t j).high - reach) x))

-- ---- the cells of a task that fits

-- what begins and ends on the grid of h holds all of a cell, or none of it
grid_cell : (h k i j a e : ℕ) → i < h → j < h → Multiple h a → Multiple h e → a ≤ h * k + i → h * k + i < e → (a ≤ h * k + j) × (h * k + j < e)
grid_cell h k i j a e l m (x, u) (z, v) f g =
    let low : x < suc k = lt_of_mul-lt-mul_left h (omega arith) in
    let high : k < z = lt_of_mul-lt-mul_left h (omega arith) in
    (omega (arith, mul-le-mul_left {m = x} {n = k} h (omega arith)), omega (arith, mul-le-mul_left {m = suc k} {n = z} h high))

module _ (d : Device) (b : Book) (t : List ℕ) (w : well_formed t ≡ true) (p y : ℕ) (f : fits d b t p y ≡ true) where
  -- both ends of a block stand on the grid of its column
  pub block_grid : (j : ℕ) → j < blocks t
      → Multiple (height (kind d (p + (block t j).column))) (y + (block t j).low - reach) × Multiple (height (kind d (p + (block t j).column))) (y + (block t j).high - reach)
  block_grid j l =
      let g = fits_to d b t p y f j l in
      let s = solid_block t w j l in
      let a = g.above in
      let u = div-add-mod' (y + (block t j).low - reach) (height (block t j).kind) in
      let v = div-add-mod' ((block t j).high - (block t j).low) (height (block t j).kind) in
      rw g.kind (
        ((y + (block t j).low - reach) / height (block t j).kind, omega (arith, g.grid)),
        ((y + (block t j).low - reach) / height (block t j).kind + ((block t j).high - (block t j).low) / height (block t j).kind, omega (arith, g.grid, s.whole, s.full)),
      )

  -- the half rows of a cell are covered alike
  pub covered_cell : (c k i j : ℕ) → i < height (kind d c) → j < height (kind d c)
      → covered (placed t p y) c (height (kind d c) * k + i) ≡ true → covered (placed t p y) c (height (kind d c) * k + j) ≡ true
  covered_cell c k i j l m h =
      let (n, q, (e, u, v)) = covered_to t p y c (height (kind d c) * k + i) h in
      let (x, z) = rw e at (block_grid n q) in
      let (a, r) = grid_cell (height (kind d c)) k i j (y + (block t n).low - reach) (y + (block t n).high - reach) l m x z u v in
      covered_of t p y c (height (kind d c) * k + j) n q (e, a, r)

-- THEOREM: a running task that fits on the empty device covers a half row just where it holds its cell
pub covered_holds : (d : Device) (e : Running) → Entry d e → (c k i : ℕ) → i < height (kind d c) → covered (standing e) c (height (kind d c) * k + i) ≡ holds_cell d e c k
unfolding holds_cell
covered_holds d e h c k i l =
    let all = covered_cell d [] e.task h.well_formed e.column e.bottom h.fits c k in
    same_test (covered (standing e) c (height (kind d c) * k + i)) _
    (any_of_one (height (kind d c)) _ i l)
    (λ a. let (j, m, q) = any_to (height (kind d c)) (λ i. covered (standing e) c (height (kind d c) * k + i)) a in all j i m l q)

-- ---- free cells

any_in_ext : {A : Type 0} (f g : A → Bool) (L : List A) → ((x : A) → In x L → f x ≡ g x) → any_in f L ≡ any_in g L
unfolding any_in
any_in_ext f g [] h = refl
any_in_ext f g (x ∷ L) h = ap₂ (λ (a b : Bool). a || b) (h x (inl refl)) (any_in_ext f g L (λ y m. h y (inr m)))

-- half row z is below the last cell's top just where its cell is one of the column
top_cells : (h n k i : ℕ) → i < h → ltb (h * k + i) (h * n) ≡ ltb k n
top_cells h n k i l =
    same_test (ltb (h * k + i) (h * n)) (ltb k n)
    (λ e. lt-ltb k n (lt_of_mul-lt-mul_left h (omega tests)))
    (λ e. lt-ltb (h * k + i) (h * n) (omega (arith, mul-le-mul_left {m = suc k} {n = n} h (omega tests))))

module _ (d : Device) (b : Book) (w : within d b ≡ true) (c : ℕ) where
  -- THEOREM: a half row is free just where its cell is (MODEL 5.4)
  pub free_cell : (k i : ℕ) → i < height (kind d c) → free d b c (height (kind d c) * k + i) ≡ cell_free d b c k
  unfolding free cell_free held top top_in cells
  free_cell k i l =
      ap₂ (λ (x y : Bool). ltb c (columns d) && x && not y)
      (top_cells (height (kind d c)) (cells d c) k i l)
      (any_in_ext _ _ b (λ e m. covered_holds d e ((limits_to d b w).entries e m) c k i l))

  -- THEOREM: a maximal run of free half rows is a maximal run of free cells (MODEL 7.1)
  pub intervals_cells : intervals d b c ≡ map (scaled (height (kind d c))) (maximal_runs (cell_free d b c) (cells d c))
  unfolding intervals top top_in cells
  intervals_cells = whole_cells (height (kind d c)) (height_pos (kind d c)) (cells d c) (free d b c) (cell_free d b c) (λ k i l g. free_cell k i g)

  -- so they begin and end on the grid
  pub intervals_grid : OnGrid (height (kind d c)) (intervals d b c)
  intervals_grid = rw intervals_cells (scaled_grid (height (kind d c)) (maximal_runs (cell_free d b c) (cells d c)))

  -- THEOREM: a column has at most 64 free intervals (MODEL 7.4)
  pub few_intervals : length (intervals d b c) ≤ max_intervals
  unfolding cells cells_in maximal_runs
  few_intervals =
      let n = mul-div-le (half_rows d) (height (kind d c)) in
      let h = mul-le-mul_right {m = 2} {n = height (kind d c)} (cells d c) (height_two (kind d c)) in
      rw intervals_cells (simp length-map (omega (arith, (limits_to d b w).rows, runs_count 1 (cell_free d b c) (in_step_one (cell_free d b c)) (cells d c))))

-- each free interval has a half row, and ends at or below the top of the column; so it is small (MODEL 9.10)
pub interval_ends : (d : Device) (b : Book) (c : ℕ) (i : Interval) → In i (intervals d b c) → (i.bottom < i.top) × (i.top ≤ top d c)
unfolding intervals
interval_ends d b c i m =
    let g = intervals_free (free d b c) (top d c) in
    let (u, l) = in_bounds 0 i (intervals d b c) g.canon m in
    (l, omega (arith, ((g.named (i.top - 1)).0 (in_named (i.top - 1) i (intervals d b c) m (omega arith) (omega arith))).0))
