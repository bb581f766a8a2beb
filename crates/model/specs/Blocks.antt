-- A task's blocks, as the contracts of the steps of a call say it: a block by itself, and the step of the first blocks. Assumes nothing.
use Rattle.std.specs.Prelude.{ℕ, ◌-◌, ◌*◌, ◌%◌, ◌≤◌, ◌<◌, ◌≡◌, List}
use Rattle.runs.specs.Intervals.{Multiple}
use Rattle.model.specs.Limits.{max_columns, max_kind, reach}
use Rattle.model.specs.Columns.{height}
use Rattle.model.specs.Tasks.{Block, block}

-- MODEL 4.6 and 4.8 to 4.10: what `block_ok` tests of a block, as facts
pub record Solid (b : Block) : Type 0 where
  pub column : b.column < max_columns
  pub kind : b.kind ≤ max_kind
  pub full : b.low < b.high
  pub below : b.high ≤ 2 * reach
  pub whole : (b.high - b.low) % height b.kind ≡ 0

-- s is the least common multiple of the heights of the first m blocks: what the step (MODEL 10.1) is for any heights (MODEL 21.4)
pub record Common (t : List ℕ) (m s : ℕ) : Type 0 where
  pub pos : 1 ≤ s
  pub all : (i : ℕ) → i < m → Multiple (height (block t i).kind) s
  pub least : (x : ℕ) → ((i : ℕ) → i < m → Multiple (height (block t i).kind) x) → Multiple s x
