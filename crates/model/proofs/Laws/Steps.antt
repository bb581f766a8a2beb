-- MODEL 10.1 and 10.2: the step of a task is the least common multiple of its heights, so the fitting bottoms in one column lie in one class of it.
-- Assumes nothing.
use Rattle.std.specs.Prelude.{ℕ, suc, ◌+◌, ◌-◌, ◌*◌, ◌≤◌, ◌<◌, ◌≡◌, Bool, cond, List, eqb}
use Rattle.std.proofs.Math.Path.{refl}
use Rattle.std.proofs.Common.{ap, arith}
use Rattle.std.proofs.Math.Bool.{true, false, not}
use Rattle.std.proofs.lemmas.Bool.{not-true}
use Rattle.runs.specs.Intervals.{Multiple}
use Rattle.runs.specs.Laws.Tests.{cond_ind}
use Rattle.runs.specs.Laws.Steps.{multiple_le, multiple_steps}
use Rattle.runs.specs.Laws.Runs.{InStep, class_steps}
use Rattle.model.specs.Limits.{reach}
use Rattle.model.specs.Bounded.{any_below}
use Rattle.model.specs.Columns.{Device, height, kind_C}
use Rattle.model.specs.Tasks.{Block, blocks, block, step}
use Rattle.model.specs.Blocks.{Common}
use Rattle.model.specs.Book.{Book, fits}
use Rattle.model.proofs.Laws.Bounded.{any_to, any_of_one, is_false, clash}
use Rattle.model.proofs.Laws.Columns.{height_two, height_ten}
use Rattle.model.proofs.Laws.Fits.{Fitting, fits_to}

module _ (t : List ℕ) where
  abbrev logic : ℕ → Bool
  logic i = eqb (block t i).kind kind_C

  abbrev other : ℕ → Bool
  other i = not (logic i)

  -- THEOREM: the step (MODEL 10.1) is the least common multiple of all heights. What is said below, and elsewhere, of fitting, listing and choosing
  -- in steps rests on this, and not on the three numbers (MODEL 21.4).
  pub common_step : 1 ≤ blocks t → Common t (blocks t) (step t)
  unfolding step height
  common_step n = go (any_below (blocks t) logic) refl (any_below (blocks t) other) refl
    where
      go : (u : Bool) → any_below (blocks t) logic ≡ u → (v : Bool) → any_below (blocks t) other ≡ v → Common t (blocks t) (cond u (cond v 10 2) 5)
      go true e true r = record {
        pos = omega arith;
        all = λ i l. cond_ind (λ h. Multiple h 10) (logic i) (λ q. (5, refl)) (λ q. (2, refl));
        least = λ x h.
            let (k, l, q) = any_to (blocks t) logic e in
            let (m, g, o) = any_to (blocks t) other r in
            let (i, u) = rw q at (h k l) in
            let (j, v) = rw (not-true (logic m) o) at (h m g) in
            (i - 2 * j, omega arith);
      }
      go true e false r = record {
        pos = omega arith;
        all = λ i l. cond_ind (λ h. Multiple h 2) (logic i) (λ q. (1, refl)) (λ q. clash (any_of_one (blocks t) other i l (ap not q)) r);
        least = λ x h. let (k, l, q) = any_to (blocks t) logic e in rw q at (h k l);
      }
      go false e v r = record { pos = omega arith; all = λ i l. rw (none i l) (1, refl); least = λ x h. rw (none 0 n) at (h 0 n) }
        where
          none : (i : ℕ) → i < blocks t → logic i ≡ false
          none i l = is_false (logic i) (λ q. clash (any_of_one (blocks t) logic i l q) e)

  -- it is no less than a height, and no more than what all heights divide
  pub common_bounds : (m s : ℕ) → 1 ≤ m → Common t m s → (2 ≤ s) × (s ≤ 10)
  common_bounds m s l c = (
    omega (arith, height_two (block t 0).kind, multiple_le (height (block t 0).kind) s c.pos (c.all 0 l)),
    multiple_le s 10 (omega arith) (c.least 10 (λ i g. height_ten (block t i).kind)),
  )

  pub step_bounds : 1 ≤ blocks t → (2 ≤ step t) × (step t ≤ 10)
  step_bounds n = common_bounds (blocks t) (step t) n (common_step n)

-- two fitting bottoms of a block are a multiple of its height apart
pub block_apart : (d : Device) (b : Book) (k : Block) (p y z : ℕ) → Fitting d b k p y → Fitting d b k p z → y < z → Multiple (height k.kind) (z - y)
block_apart d b k p y z f g l =
    let fa = f.above in
    let ga = g.above in
    let (j, e) = class_steps (height k.kind) 0 (y + k.low - reach) (z + k.low - reach) f.grid g.grid (omega arith) in
    (suc j, omega arith)

module _ (d : Device) (b : Book) (t : List ℕ) (p : ℕ) where
  -- THEOREM: the fitting bottoms of a column are in steps of the least common multiple of the heights, whatever these are
  pub fits_common : (s : ℕ) → Common t (blocks t) s → InStep s (fits d b t p)
  fits_common s c y z f g l =
      multiple_steps s y z l (c.least (z - y) (λ k i. block_apart d b (block t k) p y z (fits_to d b t p y f k i) (fits_to d b t p z g k i) l))

  -- so in steps of the task's step (MODEL 10.2)
  pub fits_steps : 1 ≤ blocks t → InStep (step t) (fits d b t p)
  fits_steps n = fits_common (step t) (common_step t n)
