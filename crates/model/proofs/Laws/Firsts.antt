-- MODEL 11: the blocks that lie in one interval are neighbours in the task's list. The first of them is not joined to the block before it, all others
-- are. So what an interval counts once is counted by its first block, and a sum over the intervals is one over the blocks. Assumes nothing.
use Prim.Native.Nat.{ℕ, zero, suc, ◌≤◌, ◌<◌}
use Rattle.std.specs.Prelude.{◌≡◌, ◌⊎◌, true, false, cond, ◌&&◌, List, leb, eqb}
use Rattle.std.proofs.Math.Path.{refl, ap}
use Rattle.std.proofs.Common.{◌∙◌, inl, inr, arith}
use borrow.Author.Tests.{le-leb, eq-eqb, ne_eqb}
use Rattle.runs.specs.Intervals.{Interval}
use Rattle.runs.specs.Laws.Tests.{tests, lt_or_ge}
use Rattle.model.specs.Bounded.{sum_below, sum_in, In}
use Rattle.model.specs.Book.{Placed}
use Rattle.model.specs.Choice.{lies}
use Rattle.model.specs.Homes.{home, joined}
use Rattle.model.proofs.Laws.Bounded.{and_to, and3_to, clash, is_false, same_test, sum_ext, sum_single, sum_swap, list_ext, list_swap, list_zero}
use Rattle.model.proofs.Laws.Homes.{Under, Stands, holder_at, Holder, one_counts, at_home}

-- ---- lying in an interval, as facts about numbers

module _ (B : Placed) (c k : ℕ) where
  pub lies_to : (i : Interval) → lies B c i k ≡ true → (B.column k ≡ c) × (i.bottom ≤ B.bottom k) × (B.top k ≤ i.top)
  unfolding lies
  lies_to i e = let (x, y, z) = and3_to (eqb (B.column k) c) (leb i.bottom (B.bottom k)) _ e in (omega tests, omega tests, omega tests)

  pub lies_of : (i : Interval) → B.column k ≡ c → i.bottom ≤ B.bottom k → B.top k ≤ i.top → lies B c i k ≡ true
  unfolding lies
  lies_of i u v w = rw (eq-eqb (B.column k) c u, le-leb i.bottom (B.bottom k) v, le-leb (B.top k) i.top w)

-- ---- one block after another

module _ (B : Placed) (C : ℕ) (L : ℕ → List Interval) (s : Stands B C L) (j k : ℕ) (l : j < k) (g : k < B.count) where
  -- of two blocks in one column the later lies above
  pub over : B.column j ≡ B.column k → B.top j < B.bottom k
  over e = go (s.rise j k l g)
    where
      go : Under B j k → B.top j < B.bottom k
      go (inl h) = absurd (omega arith)
      go (inr h) = h.1

  -- columns never fall
  no_fall : B.column j ≤ B.column k
  no_fall = go (s.rise j k l g)
    where
      go : Under B j k → B.column j ≤ B.column k
      go (inl h) = omega arith
      go (inr h) = omega arith

-- ---- the blocks of one interval

module _ (B : Placed) (C : ℕ) (L : ℕ → List Interval) (s : Stands B C L) (c : ℕ) (i : Interval) (m : In i (L c)) where
  pub home_is : (k : ℕ) → k < B.count → lies B c i k ≡ true → home B L k ≡ i
  unfolding home
  home_is k l e =
      let (u, v, w) = lies_to B c k i e in
      let f = s.full k l in
      rw u (holder_at 0 (B.bottom k) i (L c) (s.canon c) m v (omega arith))

  -- of two neighbours, one of them in the interval: they are joined just where the other is in it too
  joined_to : (j : ℕ) → suc j < B.count → lies B c i (suc j) ≡ true → joined B L (suc j) ≡ true → lies B c i j ≡ true
  unfolding joined
  joined_to j l p e =
      let (x, y) = and_to (eqb (B.column j) (B.column (suc j))) _ e in
      let h = ap (λ (w : Interval). w.bottom) (home_is (suc j) l p) in
      let a = at_home B C L s j (omega arith) in
      let q = lies_to B c (suc j) i p in
      let f = s.full (suc j) l in
      let col : B.column j ≡ c = omega tests in
      lies_of B c j i col (omega tests) (omega (arith, over B C L s j (suc j) (omega arith) l (omega arith)))

  joined_of : (j : ℕ) → suc j < B.count → lies B c i j ≡ true → lies B c i (suc j) ≡ true → joined B L (suc j) ≡ true
  unfolding joined
  joined_of j l p q =
      let u = lies_to B c j i p in
      let v = lies_to B c (suc j) i q in
      rw (eq-eqb (B.column j) (B.column (suc j)) (omega arith), home_is j (omega arith) p, home_is (suc j) l q) (eq-eqb i.bottom i.bottom refl)

  -- a block between two of the interval lies in it
  between : (j k : ℕ) → j < k → suc k < B.count → lies B c i j ≡ true → lies B c i (suc k) ≡ true → lies B c i k ≡ true
  between j k l g p q =
      let u = lies_to B c j i p in
      let v = lies_to B c (suc k) i q in
      let col : B.column k ≡ c = omega (arith, no_fall B C L s j k l (omega arith), no_fall B C L s k (suc k) (omega arith) g) in
      let x = over B C L s j k l (omega arith) (omega arith) in
      let y = over B C L s k (suc k) (omega arith) g (omega arith) in
      lies_of B c k i col (omega (arith, s.full j (omega arith))) (omega (arith, s.full (suc k) g))

  -- THEOREM: a block that comes after another of the interval is joined
  pub later : (j k : ℕ) → j < k → k < B.count → lies B c i j ≡ true → lies B c i k ≡ true → joined B L k ≡ true
  later j zero l g p q = absurd (omega arith)
  later j (suc k) l g p q = go (lt_or_ge j k)
    where
      go : (j < k) ⊎ (k ≤ j) → joined B L (suc k) ≡ true
      go (inl h) = joined_of k g (between j k h g p q) q
      go (inr h) = let e : j ≡ k = omega arith in joined_of k g (rw e at p) q

  -- THEOREM: the first block of the interval is not joined
  pub first : (j : ℕ) → j < B.count → ((k : ℕ) → k < j → lies B c i k ≡ false) → lies B c i j ≡ true → joined B L j ≡ false
  unfolding joined
  first zero l h p = refl
  first (suc j) l h p = is_false (joined B L (suc j)) (λ e. clash (joined_to j l p e) (h j (omega arith)))

-- ---- the block before

module _ (B : Placed) (C : ℕ) (L : ℕ → List Interval) (s : Stands B C L) (j : ℕ) (l : suc j < B.count) where
  -- the interval of block j is one of the next block's column, and if that block ends inside it, it lies in it
  module _ (e : B.column j ≡ B.column (suc j)) where
    held_there : Holder (home B L j) (B.bottom j) (B.top j) (L (B.column (suc j)))
    held_there = rw e at (at_home B C L s j (omega arith))

    lies_both : B.top (suc j) ≤ (home B L j).top → (lies B (B.column (suc j)) (home B L j) j ≡ true) × (lies B (B.column (suc j)) (home B L j) (suc j) ≡ true)
    lies_both u =
        let h = held_there in
        let o = over B C L s j (suc j) (omega arith) l e in (
          lies_of B (B.column (suc j)) j (home B L j) e h.below h.above,
          lies_of B (B.column (suc j)) (suc j) (home B L j) refl (omega (arith, h.below, s.full j (omega arith))) u,
        )

  -- THEOREM: a block that ends inside the interval of the block before it, in the same column, has that interval for its home
  pub shared_home : B.column j ≡ B.column (suc j) → B.top (suc j) ≤ (home B L j).top → home B L (suc j) ≡ home B L j
  shared_home e u = home_is B C L s (B.column (suc j)) (home B L j) (held_there e).member (suc j) l (lies_both e u).1

  -- THEOREM: it is joined just then
  pub joined_top : joined B L (suc j) ≡ (eqb (B.column j) (B.column (suc j)) && leb (B.top (suc j)) (home B L j).top)
  joined_top = same_test (joined B L (suc j)) _ to of
    where
      own_home : Holder (home B L (suc j)) (B.bottom (suc j)) (B.top (suc j)) (L (B.column (suc j)))
      own_home = at_home B C L s (suc j) l

      to : joined B L (suc j) ≡ true → (eqb (B.column j) (B.column (suc j)) && leb (B.top (suc j)) (home B L j).top) ≡ true
      to t =
          let h = own_home in
          let c = B.column (suc j) in
          let i = home B L (suc j) in
          let p = joined_to B C L s c i h.member j l (lies_of B c (suc j) i refl h.below h.above) t in
          let e = home_is B C L s c i h.member j (omega arith) p in
          rw (eq-eqb (B.column j) c (lies_to B c j i p).0, e) (le-leb (B.top (suc j)) i.top h.above)

      of : (eqb (B.column j) (B.column (suc j)) && leb (B.top (suc j)) (home B L j).top) ≡ true → joined B L (suc j) ≡ true
      of t =
          let (x, y) = and_to (eqb (B.column j) (B.column (suc j))) _ t in
          let e : B.column j ≡ B.column (suc j) = omega tests in
          let (p, q) = lies_both e (omega tests) in
          joined_of B C L s (B.column (suc j)) (home B L j) (held_there e).member j l p q

-- ---- sums over intervals as sums over blocks

-- what block k gives to the interval i of column c, where it gives g k to the one in which it lies
unfoldable pub term : Placed → (ℕ → ℕ) → ℕ → Interval → ℕ → ℕ
term B g c i k = cond (lies B c i k) (g k) 0

module _ (B : Placed) (C : ℕ) (L : ℕ → List Interval) (s : Stands B C L) (g : ℕ → ℕ) where
  -- a block lies in one interval of one column
  one_home : (k : ℕ) → k < B.count → sum_below C (λ c. sum_in (λ i. term B g c i k) (L c)) ≡ g k
  unfolding lies term
  one_home k l = sum_single C (B.column k) (λ c. sum_in (λ i. term B g c i k) (L c)) (s.column k l) other ∙ here
    where
      other : (c : ℕ) → c < C → ¬ (c ≡ B.column k) → sum_in (λ i. term B g c i k) (L c) ≡ 0
      other c h n = list_zero _ (L c) (λ i m. rw (ne_eqb (B.column k) c (omega arith)))

      here : sum_in (λ i. term B g (B.column k) i k) (L (B.column k)) ≡ g k
      here =
          rw (eq-eqb (B.column k) (B.column k) refl)
          (one_counts (B.bottom k) (B.top k) (s.full k l) 0 (g k) (L (B.column k)) (s.canon (B.column k)) (s.held k l))

  -- THEOREM: where each interval counts what the blocks in it give, all intervals together count what all blocks give
  pub by_blocks : (f : ℕ → Interval → ℕ) → ((c : ℕ) (i : Interval) → In i (L c) → f c i ≡ sum_below B.count (term B g c i))
      → sum_below C (λ c. sum_in (f c) (L c)) ≡ sum_below B.count g
  by_blocks f h =
      sum_ext C _ _ (λ c l. list_ext _ _ (L c) (h c) ∙ list_swap B.count (term B g c) (L c))
      ∙ sum_swap C B.count (λ c k. sum_in (λ i. term B g c i k) (L c))
      ∙ sum_ext B.count _ _ one_home
