-- Intervals on the grid of h: how many there are below n, and that what is cut and joined on the grid stays on it. Assumes nothing.
use Rattle.std.specs.Prelude.{◌⊎◌, ℕ, suc, ◌+◌, ◌-◌, ◌*◌, ◌≤◌, ◌<◌, min, max, length, ltb}
use Rattle.std.proofs.Common.{inl, inr, arith}
use mathlib.Core.List.{List, [], ◌∷◌}
use Rattle.runs.specs.Laws.Tests.{cond_ind, lt_or_ge}
use Rattle.runs.specs.Intervals.{Interval, Named, Apart, piece, subtract, unite, Multiple, OnGrid}
use Rattle.runs.specs.Laws.Steps.{multiple_gap}

-- ---- how many

grid_from : (h m n : ℕ) (i : Interval) (L : List Interval) → Apart m (i ∷ L) → OnGrid h (i ∷ L) → ((y : ℕ) → Named y (i ∷ L) → y < n)
    → 2 * h * length L + i.bottom + h ≤ n
grid_from h m n i [] c (b, t, g) u = omega (arith, multiple_gap h i.top i.bottom t b (omega arith), u (i.top - 1) (inl (omega arith)))
grid_from h m n i (j ∷ L) c (b, t, g) u =
    omega (arith, multiple_gap h i.top i.bottom t b (omega arith), multiple_gap h j.bottom i.top g.0 t (omega arith), grid_from h (suc i.top) n j L c.2 g (λ y k. u y (inr k)))

-- THEOREM 3 for intervals: a canonical list on the grid of h, below n
pub grid_count : (h n : ℕ) (L : List Interval) → Apart 0 L → OnGrid h L → ((y : ℕ) → Named y L → y < n) → 2 * h * length L ≤ n + h
grid_count h n [] c g u = omega arith
grid_count h n (i ∷ L) c g u = omega (arith, grid_from h 0 n i L c g u)

-- ---- the updates keep to the grid

module _ (h : ℕ) where
  min_multiple : (a b : ℕ) → Multiple h a → Multiple h b → Multiple h (min a b)
  min_multiple a b p q = go (lt_or_ge a b)
    where
      go : (a < b) ⊎ (b ≤ a) → Multiple h (min a b)
      go (inl l) = (p.0, omega arith)
      go (inr l) = (q.0, omega arith)

  max_multiple : (a b : ℕ) → Multiple h a → Multiple h b → Multiple h (max a b)
  max_multiple a b p q = go (lt_or_ge a b)
    where
      go : (a < b) ⊎ (b ≤ a) → Multiple h (max a b)
      go (inl l) = (q.0, omega arith)
      go (inr l) = (p.0, omega arith)

  piece_grid : (a b : ℕ) (K : List Interval) → Multiple h a → Multiple h b → OnGrid h K → OnGrid h (piece a b K)
  unfolding piece
  piece_grid a b K p q g = cond_ind (OnGrid h) (ltb a b) (λ e. (p, q, g)) (λ e. g)

  pub subtract_grid : (b t : ℕ) (L : List Interval) → Multiple h b → Multiple h t → OnGrid h L → OnGrid h (subtract b t L)
  unfolding subtract
  subtract_grid b t [] p q g = tt
  subtract_grid b t (i ∷ L) p q (x, z, g) =
      piece_grid i.bottom (min i.top b) _ x (min_multiple i.top b z p)
      (piece_grid (max i.bottom t) i.top _ (max_multiple i.bottom t x q) z (subtract_grid b t L p q g))

  pub unite_grid : (b t : ℕ) (L : List Interval) → Multiple h b → Multiple h t → OnGrid h L → OnGrid h (unite b t L)
  unfolding unite
  unite_grid b t [] p q g = (p, q, tt)
  unite_grid b t (i ∷ L) p q (x, z, g) =
      cond_ind (OnGrid h) (ltb i.top b)
      (λ e. (x, z, unite_grid b t L p q g))
      (λ e. cond_ind (OnGrid h) (ltb t i.bottom) (λ d. (p, q, (x, z, g)))
      (λ d. unite_grid (min b i.bottom) (max t i.top) L (min_multiple b i.bottom p x) (max_multiple t i.top q z) g))
