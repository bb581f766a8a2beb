-- MODEL 11.2 and 11.3: the bounds of n and s: each block adds two pieces at most, and one interval at most. Assumes nothing.
use Rattle.std.specs.Prelude.{ℕ, ◌*◌}
use Rattle.model.specs.Limits.{max_rows, max_blocks}

abbrev pub max_pieces : ℕ
max_pieces = 2 * max_blocks

abbrev pub max_stretch : ℕ
max_stretch = 2 * max_rows * max_blocks
