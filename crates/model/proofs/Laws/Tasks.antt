-- MODEL 4: what it is to be a task of whole blocks, and well-formed. Assumes nothing.
use Rattle.std.specs.Prelude.{ℕ, zero, suc, ◌+◌, ◌-◌, ◌*◌, ◌%◌, ◌≤◌, ◌<◌, ◌≡◌, ◌⊎◌, true, not, ◌&&◌, List, leb, ltb, eqb, length}
use Rattle.std.proofs.Common.{inl, inr, arith, add-one}
use Rattle.std.proofs.lemmas.Bool.{eqb-false, not-true}
use Rattle.runs.specs.Laws.Tests.{tests, lt_or_ge}
use Rattle.model.specs.Limits.{max_columns, max_kind, max_blocks, block_size, reach}
use Rattle.model.specs.Bounded.{all_below}
use Rattle.model.specs.Columns.{height}
use Rattle.model.specs.Tasks.{Block, blocks, block, sized, block_ok, follows, well_formed}
use Rattle.model.specs.Blocks.{Solid}
use Rattle.model.proofs.Laws.Bounded.{and3_to, and4_to, and5_to, or_to, all_to}

-- ---- whole blocks

pub record Sized (t : List ℕ) : Type 0 where
  pub some_blocks : 1 ≤ blocks t
  pub few : blocks t ≤ max_blocks
  pub whole : length t ≡ block_size * blocks t

pub sized_to : (t : List ℕ) → sized t ≡ true → Sized t
unfolding sized blocks
sized_to t h =
    let (a, b, c) = and3_to (not (eqb (length t) 0)) (leb (length t) (block_size * max_blocks)) (eqb (length t % block_size) 0) h in
    let n : ¬ (length t ≡ 0) = eqb-false (length t) 0 (not-true (eqb (length t) 0) a) in
    record { some_blocks = omega tests; few = omega tests; whole = omega tests }

-- ---- a block by itself

pub solid : (b : Block) → block_ok b ≡ true → Solid b
unfolding block_ok
solid b e =
    let (v, w, x, y, z) = and5_to (ltb b.column max_columns) (leb b.kind max_kind) (ltb b.low b.high) (leb b.high (2 * reach)) (eqb ((b.high - b.low) % height b.kind) 0) e in
    record { column = omega tests; kind = omega tests; full = omega tests; below = omega tests; whole = omega tests }

-- ---- blocks in their order

-- a is in an earlier column, or below b in the same
abbrev pub Before : Block → Block → Type 0
Before a b = (a.column < b.column) ⊎ ((a.column ≡ b.column) × (a.high < b.low))

follows_to : (a b : Block) → follows a b ≡ true → Before a b
unfolding follows
follows_to a b e = go (or_to (ltb a.column b.column) _ e)
  where
    go : (ltb a.column b.column ≡ true) ⊎ ((eqb a.column b.column && eqb a.kind b.kind && ltb a.high b.low) ≡ true) → Before a b
    go (inl h) = inl (omega tests)
    go (inr h) = let (x, y, z) = and3_to (eqb a.column b.column) (eqb a.kind b.kind) (ltb a.high b.low) h in inr (omega tests, omega tests)

before_trans : (a b c : Block) → b.low < b.high → Before a b → Before b c → Before a c
before_trans a b c l (inl h) (inl k) = inl (omega arith)
before_trans a b c l (inl h) (inr k) = inl (omega arith)
before_trans a b c l (inr h) (inl k) = inl (omega arith)
before_trans a b c l (inr h) (inr k) = inr (omega arith, omega arith)

-- ---- well-formed tasks

module _ (t : List ℕ) (w : well_formed t ≡ true) where
  parts_of : ((block t 0).column ≡ 0) × ((block t 0).low ≡ reach)
      × (all_below (blocks t) (λ i. block_ok (block t i)) ≡ true) × (all_below (blocks t - 1) (λ i. follows (block t i) (block t (i + 1))) ≡ true)
  unfolding well_formed
  parts_of =
      let (a, b, c, d) = and4_to (eqb (block t 0).column 0) (eqb (block t 0).low reach) (all_below (blocks t) (λ i. block_ok (block t i))) _ w in
      (omega tests, omega tests, c, d)

  pub first_block : ((block t 0).column ≡ 0) × ((block t 0).low ≡ reach)
  first_block = (parts_of.0, parts_of.1)

  pub solid_block : (k : ℕ) → k < blocks t → Solid (block t k)
  solid_block k l = solid (block t k) (all_to (blocks t) (λ i. block_ok (block t i)) parts_of.2 k l)

  pub full_block : (k : ℕ) → k < blocks t → (block t k).low < (block t k).high
  full_block k l = (solid_block k l).full

  next_block : (k : ℕ) → suc k < blocks t → Before (block t k) (block t (suc k))
  next_block k l =
      follows_to (block t k) (block t (suc k)) (rw add-one at (all_to (blocks t - 1) (λ i. follows (block t i) (block t (i + 1))) parts_of.3 k (omega arith)))

  -- THEOREM: of any two blocks the earlier stands in a lower column, or below in the same column without touching (MODEL 4.6 and 4.7)
  pub in_order : (j k : ℕ) → j < k → k < blocks t → Before (block t j) (block t k)
  in_order j zero l g = absurd (omega arith)
  in_order j (suc k) l g = go (lt_or_ge j k) (λ h. in_order j k h (omega arith))
    where
      go : (j < k) ⊎ (k ≤ j) → (j < k → Before (block t j) (block t k)) → Before (block t j) (block t (suc k))
      go (inl h) rest = before_trans (block t j) (block t k) (block t (suc k)) (full_block k (omega arith)) (rest h) (next_block k g)
      go (inr h) rest = let e : j ≡ k = omega arith in rw e (next_block k g)
