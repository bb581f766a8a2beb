-- MODEL 6 and 10: the bottoms of one block. It fits just where an interval of its column holds it and it stands on its grid; so its list of ranges,
-- made from the column's intervals, is canonical and names exactly the bottoms at which it fits. Assumes nothing.
use Rattle.std.specs.Prelude.{ℕ, suc, ◌+◌, ◌-◌, ◌*◌, ◌≤◌, ◌<◌, ◌≡◌, refl, true, ltb}
use Rattle.std.proofs.Math.Logic.{inl, inr}
use mathlib.Core.List.{List, [], ◌∷◌}
use native.Mathlib.Omega.{arith}
use Rattle.std.proofs.Common.{lt-ltb, le-ltb}
use Rattle.runs.specs.Laws.Tests.{tests, cond_ind}
use Rattle.runs.specs.Runs.{In, Mem, From}
use Rattle.runs.specs.Intervals.{Interval, Apart, Holds, Multiple, OnGrid}
use Rattle.runs.specs.Meet.{Spaced}
use Rattle.runs.specs.Laws.Steps.{multiple_mod, mod_multiple, multiple_gap, multiple_sub, multiple_steps}
use Rattle.runs.specs.Laws.Canon.{from_weaken}
use Rattle.model.specs.Limits.{reach}
use Rattle.model.specs.Columns.{Device, height, columns, kind}
use Rattle.model.specs.Tasks.{Block}
use Rattle.model.specs.Book.{Book, block_fits, intervals}
use Rattle.model.specs.Blocks.{Solid}
use Rattle.model.proofs.Laws.Fits.{fitting_to, fitting_of}
use Rattle.model.proofs.Laws.Ends.{fits_held, held_fits}
use Rattle.listing.specs.Bottoms.{lift, bottoms_in, bottoms}

-- ---- the list of ranges, one interval after the other

pub bottoms_none : (low high : ℕ) → bottoms low high [] ≡ []
unfolding bottoms
bottoms_none low high = refl

pub bottoms_short : (low high : ℕ) (i : Interval) (L : List Interval) → i.top - i.bottom < high - low → bottoms low high (i ∷ L) ≡ bottoms low high L
unfolding bottoms
bottoms_short low high i L h = rw (lt-ltb (i.top - i.bottom) (high - low) h)

pub bottoms_tall : (low high : ℕ) (i : Interval) (L : List Interval) → high - low ≤ i.top - i.bottom → bottoms low high (i ∷ L) ≡ bottoms_in low high i ∷ bottoms low high L
unfolding bottoms
bottoms_tall low high i L h = rw (le-ltb (i.top - i.bottom) (high - low) h)

-- on the grid, the next interval starts a cell or more above
apart_grid : (h m : ℕ) (L : List Interval) → Multiple h m → OnGrid h L → Apart (suc m) L → Apart (m + h) L
apart_grid h m [] x g c = tt
apart_grid h m (i ∷ L) x g c = (multiple_gap h i.bottom m g.0 x (omega arith), c.1, c.2)

-- at the lifted bottom y, one of the intervals L holds a block from low to high, and it stands on the grid of h
abbrev pub Stood : ℕ → ℕ → ℕ → ℕ → List Interval → Type 0
Stood h low high y L = (lift + reach ≤ y + low) × Holds (y + low - (lift + reach)) (y + high - (lift + reach)) L × Multiple h (y + low - (lift + reach))

-- a block from low to high, whole cells of height h
module _ (h low high : ℕ) (full : low < high) (below : high ≤ lift + reach) (whole : Multiple h (high - low)) where
  stood_later : (y : ℕ) (i : Interval) (L : List Interval) → Stood h low high y L → Stood h low high y (i ∷ L)
  stood_later y i L (a, b, c) = (a, inr b, c)

  -- the ranges are canonical
  pub bottoms_from : (m : ℕ) (L : List Interval) → Apart m L → OnGrid h L → From h (m + lift + reach - low) (bottoms low high L)
  unfolding bottoms
  bottoms_from m [] c g = tt
  bottoms_from m (i ∷ L) c (x, z, g) =
      let rest = bottoms_from (i.top + h) L (apart_grid h i.top L z g c.2) g in
      let tall : h ≤ high - low = omega (arith, multiple_gap h (high - low) 0 whole (0, omega arith) (omega arith)) in
      cond_ind (From h (m + lift + reach - low)) (ltb (i.top - i.bottom) (high - low))
      (λ e. from_weaken h (m + lift + reach - low) (i.top + h + lift + reach - low) (bottoms low high L) (omega arith) rest)
      (λ e.
      let (j, u) = multiple_sub h (i.top - i.bottom) (high - low) (multiple_sub h i.top i.bottom z x (omega arith)) whole (omega tests) in
      (omega arith, (j, omega tests), from_weaken h (i.top + lift + reach - high + 2 * h) (i.top + h + lift + reach - low) (bottoms low high L) (omega arith) rest))

  -- they name the bottoms at which one of the intervals holds the block, on the grid
  stood_in : (m y : ℕ) (i : Interval) (L : List Interval) → Apart m (i ∷ L) → OnGrid h (i ∷ L) → In h y (bottoms_in low high i) → Stood h low high y (i ∷ L)
  stood_in m y i L c g ((k, e), l) = (omega arith, inl (omega arith, omega arith), (g.0.0 + k, omega (arith, g.0)))

  pub bottoms_to : (m y : ℕ) (L : List Interval) → Apart m L → OnGrid h L → Mem h y (bottoms low high L) → Stood h low high y L
  unfolding bottoms
  bottoms_to m y [] c g n = absurd n
  bottoms_to m y (i ∷ L) c g n =
      let rest = bottoms_to (suc i.top) y L c.2 g.2 in
      cond_ind (λ K. Mem h y K → Stood h low high y (i ∷ L)) (ltb (i.top - i.bottom) (high - low)) (λ e k. stood_later y i L (rest k)) (λ e k. here rest k) n
    where
      here : (Mem h y (bottoms low high L) → Stood h low high y L) → Mem h y (bottoms_in low high i ∷ bottoms low high L) → Stood h low high y (i ∷ L)
      here rest (inl k) = stood_in m y i L c g k
      here rest (inr k) = stood_later y i L (rest k)

  pub bottoms_of : (m y : ℕ) (L : List Interval) → Apart m L → OnGrid h L → Stood h low high y L → Mem h y (bottoms low high L)
  unfolding bottoms
  bottoms_of m y [] c g (a, n, e) = absurd n
  bottoms_of m y (i ∷ L) c g (a, inl n, e) =
      let (k, u) = multiple_sub h (y + low - (lift + reach)) i.bottom e g.0 n.0 in
      cond_ind (Mem h y) (ltb (i.top - i.bottom) (high - low)) (λ t. absurd (omega tests)) (λ t. inl ((k, omega arith), omega arith))
  bottoms_of m y (i ∷ L) c g (a, inr n, e) =
      let rest = bottoms_of (suc i.top) y L c.2 g.2 (a, n, e) in
      cond_ind (Mem h y) (ltb (i.top - i.bottom) (high - low)) (λ t. rest) (λ t. inr rest)

  -- all of them in one class of the height
  pub bottoms_spaced : (m : ℕ) (L : List Interval) → Apart m L → OnGrid h L → Spaced h (bottoms low high L)
  bottoms_spaced m L c g x y n k l =
      let (a, b, u) = bottoms_to m x L c g n in
      let (e, f, v) = bottoms_to m y L c g k in
      let (j, w) = multiple_sub h (y + low - (lift + reach)) (x + low - (lift + reach)) v u (omega arith) in
      multiple_steps h x y l (j, omega arith)

-- ---- where a block fits

pub whole_cells : (k : Block) → Solid k → Multiple (height k.kind) (k.high - k.low)
whole_cells k s = multiple_mod (height k.kind) (k.high - k.low) s.whole

-- a bound of the block, from the lifted bottom
lifted_bound : (z x : ℕ) → z + lift + x - (lift + reach) ≡ z + x - reach
lifted_bound z x = omega arith

module _ (d : Device) (b : Book) (k : Block) (s : Solid k) (p : ℕ) (on : p + k.column < columns d) (same : kind d (p + k.column) ≡ k.kind) where
  -- THEOREM: the block fits at z just where an interval of its column holds it, and it is on its grid
  pub fits_stood : (z : ℕ) → block_fits d b k p z ≡ true → Stood (height k.kind) k.low k.high (z + lift) (intervals d b (p + k.column))
  fits_stood z e =
      let g = fitting_to d b k p z e in
      let a = g.above in
      rw (lifted_bound z k.low, lifted_bound z k.high) (omega arith, fits_held d b k p z s.full g, multiple_mod (height k.kind) (z + k.low - reach) g.grid)

  pub stood_fits : (z : ℕ) → Stood (height k.kind) k.low k.high (z + lift) (intervals d b (p + k.column)) → block_fits d b k p z ≡ true
  stood_fits z (a, h, m) =
      fitting_of d b k p z (held_fits d b k p z s.full on same (omega arith)
      (mod_multiple (height k.kind) (z + k.low - reach) (rw (lifted_bound z k.low) at m)) (rw (lifted_bound z k.low, lifted_bound z k.high) at h))
