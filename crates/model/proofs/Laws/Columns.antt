-- MODEL 3.3 to 3.6: what holds of heights, cells and tops for every kind. Assumes nothing.
use Rattle.std.specs.Prelude.{ℕ, ◌*◌, ◌≤◌, refl, eqb}
use Rattle.std.proofs.Math.Nat.{mul-div-le}
use Rattle.std.proofs.Common.{arith}
use Rattle.runs.specs.Intervals.{Multiple}
use Rattle.runs.specs.Laws.Tests.{cond_ind}
use Rattle.model.specs.Columns.{height, kind_C, cells_in, top_in, Device, half_rows, kind, top}

-- every height is 2 or more
pub height_two : (k : ℕ) → 2 ≤ height k
unfolding height
height_two k = cond_ind (λ h. 2 ≤ h) (eqb k kind_C) (λ e. omega arith) (λ e. omega arith)

pub height_pos : (k : ℕ) → 1 ≤ height k
height_pos k = omega (arith, height_two k)

-- and divides 10
pub height_ten : (k : ℕ) → Multiple (height k) 10
unfolding height
height_ten k = cond_ind (λ h. Multiple h 10) (eqb k kind_C) (λ e. (5, refl)) (λ e. (2, refl))

-- the last cell ends on the device
pub top_in_le : (rows k : ℕ) → top_in rows k ≤ 2 * rows
unfolding top_in cells_in
top_in_le rows k = mul-div-le (2 * rows) (height k)

pub top_le : (d : Device) (c : ℕ) → top d c ≤ half_rows d
unfolding top
top_le d c = top_in_le d.rows (kind d c)
