-- MODEL 6: where a block fits and where a task fits, as facts about numbers. Assumes nothing.
use Rattle.std.specs.Prelude.{ℕ, ◌+◌, ◌-◌, ◌%◌, ◌≤◌, ◌<◌, ◌≡◌, true, List, leb, ltb, eqb}
use Rattle.std.proofs.Common.{arith}
use borrow.Author.Tests.{le-leb, lt-ltb, eq-eqb}
use Rattle.runs.specs.Laws.Tests.{tests}
use Rattle.model.specs.Limits.{reach}
use Rattle.model.specs.Columns.{Device, half_rows, height, columns, kind, top}
use Rattle.model.specs.Tasks.{Block, blocks, block, well_formed}
use Rattle.model.specs.Book.{Book, free, block_fits, fits}
use Rattle.model.proofs.Laws.Bounded.{and6_to, all_to, all_of}
use Rattle.model.proofs.Laws.Columns.{top_le}
use Rattle.model.proofs.Laws.Tasks.{first_block, full_block}

-- MODEL 6.2 to 6.5 of a block, moved to column p and bottom y
pub record Fitting (d : Device) (b : Book) (k : Block) (p y : ℕ) : Type 0 where
  pub column : p + k.column < columns d
  pub kind : kind d (p + k.column) ≡ k.kind
  pub above : reach ≤ y + k.low
  pub grid : (y + k.low - reach) % height k.kind ≡ 0
  pub below : y + k.high ≤ top d (p + k.column) + reach
  pub free : (i : ℕ) → i < k.high - k.low → free d b (p + k.column) (y + k.low - reach + i) ≡ true

module _ (d : Device) (b : Book) (k : Block) (p y : ℕ) where
  pub fitting_to : block_fits d b k p y ≡ true → Fitting d b k p y
  unfolding block_fits
  fitting_to e =
      let (a1, a2, a3, a4, a5, a6) = and6_to (ltb (p + k.column) (columns d)) (eqb (kind d (p + k.column)) k.kind) (leb reach (y + k.low)) (eqb ((y + k.low - reach) % height k.kind) 0) (leb (y + k.high) (top d (p + k.column) + reach)) _ e in
      record {
        column = omega tests;
        kind = omega tests;
        above = omega tests;
        grid = omega tests;
        below = omega tests;
        free = all_to (k.high - k.low) (λ i. free d b (p + k.column) (y + k.low - reach + i)) a6;
      }

  pub fitting_of : Fitting d b k p y → block_fits d b k p y ≡ true
  unfolding block_fits
  fitting_of f =
      rw (
        lt-ltb (p + k.column) (columns d) f.column,
        eq-eqb (kind d (p + k.column)) k.kind f.kind,
        le-leb reach (y + k.low) f.above,
        eq-eqb ((y + k.low - reach) % height k.kind) 0 f.grid,
        le-leb (y + k.high) (top d (p + k.column) + reach) f.below,
      )
      (all_of (k.high - k.low) (λ i. free d b (p + k.column) (y + k.low - reach + i)) f.free)

module _ (d : Device) (b : Book) (t : List ℕ) (p y : ℕ) where
  pub fits_to : fits d b t p y ≡ true → (k : ℕ) → k < blocks t → Fitting d b (block t k) p y
  unfolding fits
  fits_to e k l = fitting_to d b (block t k) p y (all_to (blocks t) (λ i. block_fits d b (block t i) p y) e k l)

  pub fits_of : ((k : ℕ) → k < blocks t → Fitting d b (block t k) p y) → fits d b t p y ≡ true
  unfolding fits
  fits_of h = all_of (blocks t) (λ i. block_fits d b (block t i) p y) (λ k l. fitting_of d b (block t k) p y (h k l))

  -- MODEL 6.6: a fitting position is on the device
  pub fits_below : well_formed t ≡ true → 1 ≤ blocks t → fits d b t p y ≡ true → (p < columns d) × (y < half_rows d)
  fits_below w n f =
      let g = fits_to f 0 n in
      let (c, l) = first_block t w in
      let h = full_block t w 0 n in
      let gc = g.column in
      let gb = g.below in
      (omega arith, omega (arith, top_le d (p + (block t 0).column)))
