-- MODEL 4: a task's bytes, its blocks, and when it is well-formed; and its step (MODEL 10.1). Assumes nothing.
use Rattle.std.specs.Prelude.{ℕ, ◌+◌, ◌-◌, ◌*◌, ◌/◌, ◌%◌, Bool, cond, not, ◌&&◌, ◌||◌, List, leb, ltb, eqb, length, get_or}
use Rattle.model.specs.Limits.{max_columns, max_kind, max_blocks, block_size, block_kind_at, block_bottom_at, block_top_at, reach, bytes, words}
use Rattle.model.specs.Bounded.{all_below, any_below}
use Rattle.model.specs.Columns.{height, kind_C}

-- MODEL 4.3: the number of two bytes that starts at byte i
unfoldable pub word : List ℕ → ℕ → ℕ
word l i = get_or l i 0 + bytes * get_or l (i + 1) 0

-- MODEL 4.3 and 4.9: the value that two bytes have as a signed number, `reach` higher than it is. The number n has the value n, or n - 65,536 from
-- 32,768 on. So −256 to 256 are here 0 to 512, and any other value is above 512 (Laws.Signed).
unfoldable pub lifted : ℕ → ℕ
lifted n = (n + reach) % words

-- MODEL 4.2: a block, from the task's column and bottom; its bounds are `reach` higher (MODEL 4.9)
pub record Block : Type 0 where
  pub column : ℕ
  pub kind : ℕ
  pub low : ℕ  -- its bottom, plus `reach`
  pub high : ℕ  -- its top, plus `reach`

-- MODEL 4.1: how many blocks a task has
unfoldable pub blocks : List ℕ → ℕ
blocks t = length t / block_size

-- MODEL 4.2: block i of a task
unfoldable pub block : List ℕ → ℕ → Block
block t i = record {
  column = get_or t (block_size * i) 0;
  kind = get_or t (block_size * i + block_kind_at) 0;
  low = lifted (word t (block_size * i + block_bottom_at));
  high = lifted (word t (block_size * i + block_top_at));
}

-- MODEL 4.1: the length is one of a task: not 0, not over `max_blocks` blocks, and a whole number of blocks
unfoldable pub sized : List ℕ → Bool
sized t = not (eqb (length t) 0) && leb (length t) (block_size * max_blocks) && eqb (length t % block_size) 0

-- MODEL 4.6 and 4.8 to 4.10: what a block has to be by itself. A bottom under −`reach` is above every top that is in reach.
unfoldable pub block_ok : Block → Bool
block_ok b =
    ltb b.column max_columns && leb b.kind max_kind && ltb b.low b.high && leb b.high (2 * reach)
    && eqb ((b.high - b.low) % height b.kind) 0

-- MODEL 4.6 and 4.7: block b may come right after block a
unfoldable pub follows : Block → Block → Bool
follows a b = ltb a.column b.column || (eqb a.column b.column && eqb a.kind b.kind && ltb a.high b.low)

-- MODEL 4.4 to 4.10: well-formed, for bytes of a right length. The first block starts at 0 (MODEL 4.5), and the above holds of each block and of each
-- two neighbours.
unfoldable pub well_formed : List ℕ → Bool
well_formed t =
    eqb (block t 0).column 0 && eqb (block t 0).low reach
    && all_below (blocks t) (λ i. block_ok (block t i))
    && all_below (blocks t - 1) (λ i. follows (block t i) (block t (i + 1)))

-- MODEL 10.1: the step of a task
unfoldable pub step : List ℕ → ℕ
step t =
    let logic = any_below (blocks t) (λ i. eqb (block t i).kind kind_C) in
    let other = any_below (blocks t) (λ i. not (eqb (block t i).kind kind_C)) in
    cond logic (cond other 10 2) 5
