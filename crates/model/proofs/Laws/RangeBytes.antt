-- MODEL 10.6: the ranges of a listing are read back from its bytes, so a caller reads what is listed. Assumes nothing.
use Rattle.std.specs.Prelude.{ℕ, zero, suc, ◌+◌, ◌*◌, ◌/◌, ◌%◌, ◌≤◌, ◌<◌, ◌≡◌, refl, true, List, [], ◌∷◌, ◌++◌, map, length}
use Rattle.std.proofs.Common.{inl, inr, arith}
use Rattle.runs.specs.Runs.{Run, From, Mem, runs}
use Rattle.runs.specs.Laws.Runs.{runs_lists}
use Rattle.model.specs.Limits.{words}
use Rattle.model.specs.Bounded.{join_below, join_in}
use Rattle.model.specs.Columns.{Device, columns, half_rows}
use Rattle.model.specs.Tasks.{word, sized, step}
use Rattle.model.specs.Book.{Book, fits}
use Rattle.model.specs.Listing.{Range, range_of, ranges}
use Rattle.model.specs.Record.{bytes16}
use Rattle.model.specs.Sound.{within}
use Rattle.model.specs.Calls.{range_bytes, ranges_in, over}
use Rattle.model.proofs.Laws.Tasks.{sized_to}
use Rattle.model.proofs.Laws.Steps.{fits_steps}
use Rattle.model.proofs.Laws.Limits.{limits_to}

-- both ends of each range fit into two bytes
abbrev Small : List Range → Type 0
Small [] = Unit {0}
Small (r ∷ L) = (r.first < words) × (r.last < words) × Small L

read : (L : List Range) (o : List ℕ) → Small L → ranges_in (length L) (join_in range_bytes L ++ o) ≡ L
unfolding ranges_in join_in range_bytes bytes16 word
read [] o h = refl
read (r ∷ L) o h =
    let f : r.first % 256 + 256 * (r.first / 256 % 256) ≡ r.first = omega arith in
    let l : r.last % 256 + 256 * (r.last / 256 % 256) ≡ r.last = omega arith in
    rw (f, l, read L o h.2)

-- ---- the ranges of a listing are small

small_append : (K L : List Range) → Small K → Small L → Small (K ++ L)
small_append [] L h k = k
small_append (r ∷ K) L h k = (h.0, h.1, small_append K L h.2 k)

small_join : (n : ℕ) (f : ℕ → List Range) → ((i : ℕ) → Small (f i)) → Small (join_below n f)
unfolding join_below
small_join zero f h = tt
small_join (suc n) f h = small_append (join_below n f) (f n) (small_join n f h) (h n)

small_runs : (p s n m : ℕ) (L : List Run) → n ≤ words → From s m L → ((y : ℕ) → Mem s y L → y < n) → Small (map (range_of p s) L)
small_runs p s n m [] l c h = tt
small_runs p s n m (r ∷ L) l (a, (k, e), c) h = (
  omega (arith, h r.first (inl ((0, omega arith), omega arith))),
  omega (arith, h r.last (inl ((k, e), omega arith))),
  small_runs p s n (r.last + 2 * s) L l c (λ y i. h y (inr i)),
)

module _ (d : Device) (b : Book) (w : within d b ≡ true) (t : List ℕ) (s : sized t ≡ true) where
  small_ranges : Small (ranges d b t)
  unfolding ranges
  small_ranges =
      small_join (columns d) _
      (λ p.
      let g = runs_lists (step t) (fits d b t p) (fits_steps d b t p (sized_to t s).some_blocks) (half_rows d) in
      small_runs p (step t) (half_rows d) 0 (runs (step t) (fits d b t p) (half_rows d)) (omega (arith, (limits_to d b w).rows)) g.canon (λ y m. ((g.named y).0 m).0))

  -- THEOREM: the bytes that a listing writes say its ranges
  pub read_ranges : (o : List ℕ) → ranges_in (length (ranges d b t)) (over (join_in range_bytes (ranges d b t)) o) ≡ ranges d b t
  unfolding over
  read_ranges o = read (ranges d b t) _ small_ranges
