-- MODEL 6 and 15.6: a task fits just where every block fits on free cells. Assumes nothing.
use Rattle.std.specs.Prelude.{ℕ, ◌+◌, ◌-◌, ◌*◌, ◌/◌, ◌%◌, ◌≤◌, ◌<◌, ◌≡◌, ◌↔◌, true, List}
use Rattle.std.proofs.Common.{sym, ap, ◌∙◌, div-add-mod', mod-lt, le-div_iff_mul-le, mul-le-mul_right, arith}
use Rattle.std.proofs.Math.Nat.{div-add-mod, mul-div-le}
use Rattle.model.specs.Limits.{reach}
use Rattle.model.specs.Columns.{Device, columns, half_rows, height, kind}
use Rattle.model.specs.Tasks.{Block, block, sized, well_formed}
use Rattle.model.specs.Book.{Book, free, fits, cell_free}
use Rattle.model.specs.Listing.{position, fitting}
use Rattle.model.specs.Calls.{no_position}
use Rattle.model.specs.Sound.{within}
use Rattle.model.specs.Claim.{OnCells, AllOnCells}
use Rattle.model.specs.Bounded.{In}
use Rattle.model.proofs.Laws.Bounded.{is_false, clash}
use Rattle.model.proofs.Laws.Columns.{height_pos}
use Rattle.model.proofs.Laws.Tasks.{full_block, sized_to}
use Rattle.model.proofs.Laws.Fits.{Fitting, fits_to, fits_of, fits_below}
use Rattle.model.proofs.Laws.Cells.{free_cell}
use Rattle.model.proofs.Laws.Split.{free_to}
use Rattle.model.proofs.Laws.Listing.{in_fitting}
use Rattle.model.proofs.Laws.NoPosition.{nowhere_to, nowhere_of}

-- what begins on the grid and at or below z begins at or below z's cell
grid_below : (h a z : ℕ) → 1 ≤ h → a % h ≡ 0 → a ≤ z → a ≤ h * (z / h)
grid_below h a z p e l =
    let u = div-add-mod' a h in
    let q : a / h ≤ z / h = (le-div_iff_mul-le p).1 (omega arith) in
    omega (arith, mul-le-mul_right h q)

module _ (d : Device) (b : Book) (w : within d b ≡ true) (k : Block) (p y : ℕ) where
  -- the half rows of a cell are free where the cell is
  row_free : kind d (p + k.column) ≡ k.kind → (m i : ℕ) → i < height k.kind → free d b (p + k.column) (height k.kind * m + i) ≡ cell_free d b (p + k.column) m
  row_free e m i l = rw e at (free_cell d b w (p + k.column) m i (rw e l))

  cells_to : Fitting d b k p y → OnCells d b k p y
  cells_to f = record {
    column = f.column;
    kind = f.kind;
    above = f.above;
    grid = f.grid;
    free = λ m l g.
        let e : y + k.low - reach + (height k.kind * m - (y + k.low - reach)) ≡ height k.kind * m + 0 = omega arith in
        sym (row_free f.kind m 0 (height_pos k.kind)) ∙ (rw e at (f.free (height k.kind * m - (y + k.low - reach)) (omega arith)));
  }

  cells_of : k.low < k.high → OnCells d b k p y → Fitting d b k p y
  cells_of full f =
      let a = f.above in
      record {
        column = f.column;
        kind = f.kind;
        above = f.above;
        grid = f.grid;
        below = omega (arith, (free_to d b (p + k.column) (y + k.high - reach - 1) (here (y + k.high - reach - 1) (omega arith) (omega arith))).1);
        free = λ i l. here (y + k.low - reach + i) (omega arith) (omega arith);
      }
    where
      here : (z : ℕ) → y + k.low - reach ≤ z → z < y + k.high - reach → free d b (p + k.column) z ≡ true
      here z l g =
          let h = height k.kind in
          let n = mul-div-le z h in
          ap (free d b (p + k.column)) (sym (div-add-mod z h)) ∙ row_free f.kind (z / h) (z % h) (mod-lt z (height_pos k.kind))
          ∙ f.free (z / h) (grid_below h (y + k.low - reach) z (height_pos k.kind) f.grid l) (omega arith)

module _ (d : Device) (b : Book) (w : within d b ≡ true) (t : List ℕ) (f : well_formed t ≡ true) where
  -- THEOREM: a task fits just where all its blocks do so, cell by cell
  pub fits_cells : (p y : ℕ) → (fits d b t p y ≡ true) ↔ AllOnCells d b t p y
  fits_cells p y = (
    λ h k l. cells_to d b w (block t k) p y (fits_to d b t p y h k l),
    λ h. fits_of d b t p y (λ k l. cells_of d b w (block t k) p y (full_block t f k l) (h k l)),
  )

  module _ (s : sized t ≡ true) where
    -- such a position is on the device
    pub cells_below : (p y : ℕ) → AllOnCells d b t p y → (p < columns d) × (y < half_rows d)
    cells_below p y h = fits_below d b t p y f (sized_to t s).some_blocks ((fits_cells p y).1 h)

    -- THEOREM: the fitting positions are those
    pub fitting_cells : (p y : ℕ) → In (position p y) (fitting d b t) ↔ AllOnCells d b t p y
    fitting_cells p y = (
      λ h. (fits_cells p y).0 ((in_fitting d b t p y).0 h).2,
      λ h. let (l, g) = cells_below p y h in (in_fitting d b t p y).1 (l, g, (fits_cells p y).1 h),
    )

    -- THEOREM: there is no position just where there is no such one
    pub nowhere_cells : (no_position d b t ≡ true) ↔ ((p y : ℕ) → ¬ (AllOnCells d b t p y))
    nowhere_cells = (
      λ n p y h. let (l, g) = cells_below p y h in clash ((fits_cells p y).1 h) (nowhere_to d b t n p y l g),
      λ n. nowhere_of d b t (λ p y l g. is_false (fits d b t p y) (λ h. n p y ((fits_cells p y).0 h))),
    )
