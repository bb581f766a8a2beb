-- MODEL 4.5 to 4.10: the code's blocks are the model's, and so are the tests on one, on two neighbours and on the first. Assumes nothing.
use Rattle.std.proofs.Common.{ℕ, ◌+◌, ◌*◌, ◌≤◌, ◌<◌, ◌≡◌, Bool, true, false, List, length, sym, ap, ap₂, ◌∙◌, arith}
use Rattle.model.specs.Limits.{max_kind, block_size}
use Rattle.model.specs.Tasks as model
use Rattle.model.specs.Tasks.{word, lifted, blocks, block, block_ok, follows, well_formed}
use Rattle.model.proofs.Laws.Bounded.{is_false}
use Rattle.model.proofs.Laws.Tasks.{solid, solid_block}
use Rattle.task.specs.declared.Block.{Block}
use Rattle.task.specs.Blocks.{seen, Same}

-- ---- blocks

-- what has the model's numbers is the model's block
pub same_seen : (b : Block) (m : model.Block) → Same b m → seen b ≡ m
same_seen b m s = rw (s.kind, s.extent.column, s.extent.low, s.extent.high)

-- a block stands whole in its task
pub block_within : (t : List ℕ) (i : ℕ) → i < blocks t → block_size * i + block_size ≤ length t
unfolding blocks
block_within t i l = omega arith

-- what `block_at` asks holds of the blocks of a well-formed task
pub block_ready : (t : List ℕ) (i : ℕ) → well_formed t ≡ true → i < blocks t → (block_size * i + block_size ≤ length t) × ((block t i).kind ≤ max_kind)
block_ready t i w l = (block_within t i l, (solid_block t w i l).kind)

-- a block whose kind is no kind is none of a well-formed task
pub bad_block : (m : model.Block) → max_kind < m.kind → block_ok m ≡ false
bad_block m l = is_false (block_ok m) (λ e. let s = solid m e in omega arith)

-- the tests on a block, from those on what was read of it
pub tested : (b : Block) (m : model.Block) (r : Bool) → Same b m → r ≡ block_ok (seen b) → block_ok m ≡ r
tested b m r s e = sym (e ∙ ap block_ok (same_seen b m s))

pub followed : (a b : Block) (m n : model.Block) (r : Bool) → Same a m → Same b n → r ≡ follows (seen a) (seen b) → follows m n ≡ r
followed a b m n r s u e = sym (e ∙ ap₂ follows (same_seen a m s) (same_seen b n u))
