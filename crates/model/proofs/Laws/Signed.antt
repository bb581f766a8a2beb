-- MODEL 4.3 and 4.9: `lifted` is the value of a signed number of two bytes, plus `reach`. `of_z w16 z` are the 16 bits of z, as the language has them.
-- Assumes nothing.
use Rattle.std.specs.Prelude.{ℕ, suc, ◌+◌, ◌*◌, ◌≤◌, ◌<◌, ◌≡◌, pos, negsuc}
use Rattle.std.proofs.Common.{arith, of_z}
use Rattle.std.specs.Int.{w16}
use Rattle.model.specs.Limits.{reach, max_height_field}
use Rattle.model.specs.Tasks.{lifted}

-- a value m that is not negative is m + 256: at most 512 just where m is at most 256
pub lifted_positive : (m : ℕ) → m ≤ max_height_field → lifted (of_z w16 (pos m)) ≡ m + reach
unfolding lifted
lifted_positive m h = omega arith

-- a value - (m + 1) from −256 on is 256 less that
pub lifted_negative : (m : ℕ) → m < reach → lifted (of_z w16 (negsuc m)) + suc m ≡ reach
unfolding lifted
lifted_negative m h = omega arith

-- a value below −256 is above 512
pub lifted_far : (m : ℕ) → reach ≤ m → m ≤ max_height_field → 2 * reach < lifted (of_z w16 (negsuc m))
unfolding lifted
lifted_far m h k = omega arith
