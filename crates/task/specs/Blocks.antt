-- MODEL 4 and 21.6: the code's blocks and the model's. Assumes nothing.
use Rattle.std.specs.Prelude.{◌≡◌, Bool, ◌&&◌, List, ℕ, ◌+◌, ◌-◌, ◌<◌, eqb, Option, Some, None}
use Rattle.model.specs.Limits.{max_kind, reach}
use Rattle.model.specs.Kinds.{number_of}
use Rattle.model.specs.Tasks as model
use Rattle.column.specs.declared.Interval.{Interval}
use Rattle.task.specs.declared.Block.{Block}
use Rattle.task.specs.declared.Extent.{Extent}

-- MODEL 4.2: a block of the code, as the model has it
abbrev pub seen : Block → model.Block
seen b = record { column = b.extent.column; kind = number_of b.kind; low = b.extent.low; high = b.extent.high }

-- e is where the model's block m is
pub record SameExtent (e : Extent) (m : model.Block) : Type 0 where
  pub column : e.column ≡ m.column
  pub low : e.low ≡ m.low
  pub high : e.high ≡ m.high

-- b is the model's block m
pub record Same (b : Block) (m : model.Block) : Type 0 where
  pub kind : number_of b.kind ≡ m.kind
  pub extent : SameExtent b.extent m

-- MODEL 6.1: the half rows of a block of a task at bottom y
abbrev pub rows_of : Extent → ℕ → Interval
rows_of e y = record { bottom = y + e.low - reach; top = y + e.high - reach }

-- MODEL 4.8: what reading the model's block m answers, a block where its kind is one, and else none
abbrev pub Reads : Option Block → model.Block → Type 0
Reads (Some b) m = Same b m
Reads None m = max_kind < m.kind

-- MODEL 4.5: column and bottom of the first block are 0
unfoldable pub starts : List ℕ → Bool
starts t = eqb (model.block t 0).column 0 && eqb (model.block t 0).low reach
