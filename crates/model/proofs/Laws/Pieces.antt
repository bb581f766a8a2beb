-- MODEL 11.3: n, block by block. What is left of the intervals in which blocks lie is as many intervals as the blocks add. Assumes nothing.
use Prim.Native.Nat.{ℕ, zero, suc, ◌+◌, ◌≤◌, ◌<◌}
use Rattle.std.specs.Prelude.{◌≡◌, ◌⊎◌, Bool, ◌&&◌, length, leb, ltb, eqb}
use Rattle.std.proofs.Math.Path.{refl, sym, ap}
use Rattle.std.proofs.Common.{◌∙◌, inl}
use Rattle.std.proofs.Math.Logic.{inr}
use Rattle.std.proofs.Math.Bool.{true, false, not, cond}
use mathlib.Core.List.{List, [], ◌∷◌}
use native.Mathlib.Omega.{arith}
use borrow.Author.Tests.{le-leb, lt-ltb, eq-eqb, not-true}
use Rattle.runs.specs.Intervals.{Interval, interval, Named, Apart, Holds}
use Rattle.runs.specs.Laws.Tests.{tests, cond_ind, lt_or_ge}
use Rattle.model.specs.Bounded.{sum_below, In}
use Rattle.model.specs.Book.{Placed, covers, covered}
use Rattle.model.specs.Choice.{lies, holds_block, left_in, remaining, pieces}
use Rattle.model.specs.Homes.{bit, adds}
use Rattle.model.proofs.Laws.Bounded.{Some, and_to, and3_to, clash, is_false, last_or, any_to, any_of_one, any_none, sum_from, sum_front}
use Rattle.model.proofs.Laws.Gaps.{Inside, gaps, tops, gaps_intervals, gaps_length}
use Rattle.model.proofs.Laws.Homes.{Stands, adds_is, own}
use Rattle.model.proofs.Laws.Firsts.{lies_to, lies_of, over, home_is, later, first, term, by_blocks}

-- ---- the tests as facts about numbers

module _ (B : Placed) (c k : ℕ) where
  covers_to : (z : ℕ) → covers B c z k ≡ true → (B.column k ≡ c) × (B.bottom k ≤ z) × (z < B.top k)
  unfolding covers
  covers_to z e = let (x, y, w) = and3_to (eqb (B.column k) c) (leb (B.bottom k) z) _ e in (omega tests, omega tests, omega tests)

  covers_of : (z : ℕ) → B.column k ≡ c → B.bottom k ≤ z → z < B.top k → covers B c z k ≡ true
  unfolding covers
  covers_of z u v w = rw (eq-eqb (B.column k) c u, le-leb (B.bottom k) z v, lt-ltb z (B.top k) w)

-- of the n blocks from block j on, those that lie in the interval i of column c
sel : Placed → ℕ → Interval → ℕ → ℕ → List Interval
sel B c i j zero = []
sel B c i j (suc n) = cond (lies B c i j) (interval (B.bottom j) (B.top j) ∷ sel B c i (suc j) n) (sel B c i (suc j) n)

-- all that do
abbrev mine : Placed → ℕ → Interval → List Interval
mine B c i = sel B c i 0 B.count

-- 1 if the lowest of the blocks leaves a piece of i below it
abbrev lowest : Interval → List Interval → ℕ
lowest i [] = 0
lowest i (b ∷ K) = bit (ltb i.bottom b.bottom)

-- ---- one interval

module _ (B : Placed) (C : ℕ) (L : ℕ → List Interval) (s : Stands B C L) (c : ℕ) (i : Interval) (m : In i (L c)) where
  -- a block that covers a number of the interval lies in it
  whole : (z k : ℕ) → k < B.count → covers B c z k ≡ true → i.bottom ≤ z → z < i.top → lies B c i k ≡ true
  whole z k l e p q =
      let (u, v, w) = covers_to B c k z e in
      let h : Holds (B.bottom k) (B.top k) (L c) = rw u at (s.held k l) in
      let o = own (B.bottom k) (B.top k) (s.full k l) z i (L c) (s.canon c) m h v w p q in
      lies_of B c k i u o.below o.above

  -- ---- its blocks, as a list of intervals

  sel_apart : (n j lo : ℕ) → j + n ≡ B.count → ((k : ℕ) → j ≤ k → k < B.count → lies B c i k ≡ true → lo ≤ B.bottom k) → Apart lo (sel B c i j n)
  unfolding sel
  sel_apart zero j lo e h = tt
  sel_apart (suc n) j lo e h =
      cond_ind (Apart lo) (lies B c i j)
      (λ p. (
        h j (omega arith) (omega arith) p,
        s.full j (omega arith),
        sel_apart n (suc j) (suc (B.top j)) (omega arith) (λ k l g q. over B C L s j k l g (omega (arith, lies_to B c j i p, lies_to B c k i q))),
      ))
      (λ p. sel_apart n (suc j) lo (omega arith) (λ k l g q. h k (omega arith) g q))

  sel_inside : (n j : ℕ) → Inside i.top (sel B c i j n)
  unfolding sel
  sel_inside zero j = tt
  sel_inside (suc n) j = cond_ind (Inside i.top) (lies B c i j) (λ p. ((lies_to B c j i p).2, sel_inside n (suc j))) (λ p. sel_inside n (suc j))

  sel_to : (z n j : ℕ) → Named z (sel B c i j n) → Some (j + n) (covers B c z)
  unfolding sel
  sel_to z zero j h = absurd h
  sel_to z (suc n) j h =
      let rest : Named z (sel B c i (suc j) n) → Some (j + suc n) (covers B c z) = λ g. let (k, l, q) = sel_to z n (suc j) g in (k, omega arith, q) in
      cond_ind (λ K. Named z K → Some (j + suc n) (covers B c z)) (lies B c i j) (λ p. here p rest) (λ p. rest) h
    where
      here : lies B c i j ≡ true → (Named z (sel B c i (suc j) n) → Some (j + suc n) (covers B c z))
          → Named z (interval (B.bottom j) (B.top j) ∷ sel B c i (suc j) n) → Some (j + suc n) (covers B c z)
      here p rest (inl g) = (j, omega arith, covers_of B c j z (lies_to B c j i p).0 g.0 g.1)
      here p rest (inr g) = rest g

  sel_of : (z k n j : ℕ) → j ≤ k → k < j + n → lies B c i k ≡ true → B.bottom k ≤ z → z < B.top k → Named z (sel B c i j n)
  unfolding sel
  sel_of z k zero j g l p u v = absurd (omega arith)
  sel_of z k (suc n) j g l p u v = go (lt_or_ge j k) (λ h. sel_of z k n (suc j) h (omega arith) p u v)
    where
      go : (j < k) ⊎ (k ≤ j) → (j < k → Named z (sel B c i (suc j) n)) → Named z (sel B c i j (suc n))
      go (inl h) rest = cond_ind (Named z) (lies B c i j) (λ q. inr (rest h)) (λ q. rest h)
      go (inr h) rest = let e : j ≡ k = omega arith in rw (e, p) (inl (u, v))

  mine_apart : Apart i.bottom (mine B c i)
  mine_apart = sel_apart B.count 0 i.bottom (omega arith) (λ k l g p. (lies_to B c k i p).1)

  -- they name what is covered of the interval
  mine_of : (z : ℕ) → covered B c z ≡ true → i.bottom ≤ z → z < i.top → Named z (mine B c i)
  unfolding covered
  mine_of z e p q =
      let (k, l, w) = any_to B.count (covers B c z) e in
      let (u, v, x) = covers_to B c k z w in
      sel_of z k B.count 0 (omega arith) (omega arith) (whole z k l w p q) v x

  mine_to : (z : ℕ) → Named z (mine B c i) → covered B c z ≡ true
  unfolding covered
  mine_to z h = let (k, l, w) = sel_to z B.count 0 h in any_of_one B.count (covers B c z) k (omega arith) w

  -- so what they leave of it are the gaps
  left_gaps : left_in B c i ≡ gaps i.bottom i.top (mine B c i)
  unfolding left_in
  left_gaps = gaps_intervals _ i.bottom i.top (mine B c i) mine_apart (sel_inside B.count 0) (λ y l. (to y l, of y l))
    where
      to : (y : ℕ) → y < i.top → (leb i.bottom y && not (covered B c y)) ≡ true → (i.bottom ≤ y) × ¬ (Named y (mine B c i))
      to y l e = let (a, b) = and_to (leb i.bottom y) _ e in (omega tests, λ h. clash (mine_to y h) (not-true (covered B c y) b))

      of : (y : ℕ) → y < i.top → (i.bottom ≤ y) × ¬ (Named y (mine B c i)) → (leb i.bottom y && not (covered B c y)) ≡ true
      of y l h = rw (le-leb i.bottom y h.0, is_false (covered B c y) (λ e. h.1 (mine_of y e h.0 l)))

  mine_none : mine B c i ≡ [] → (k : ℕ) → k < B.count → lies B c i k ≡ false
  mine_none e k l =
      is_false (lies B c i k)
      (λ q.
      let (u, v, w) = lies_to B c k i q in
      let f = s.full k l in
      rw e at (sel_of (B.bottom k) k B.count 0 (omega arith) (omega arith) q (omega arith) f))

  mine_some : (b : Interval) (K : List Interval) → mine B c i ≡ b ∷ K → holds_block B c i ≡ true
  unfolding holds_block
  mine_some b K e =
      let a : Apart i.bottom (b ∷ K) = rw e at mine_apart in
      let n : Inside i.top (b ∷ K) = rw e at (sel_inside B.count 0) in
      let (k, l, w) = sel_to b.bottom B.count 0 (rw e (inl (omega arith))) in
      any_of_one B.count (lies B c i) k (omega arith) (whole b.bottom k (omega arith) w (omega arith) (omega arith))

  mine_count : (K : List Interval) → mine B c i ≡ K
      → cond (holds_block B c i) (length (gaps i.bottom i.top (mine B c i))) 0 ≡ lowest i (mine B c i) + tops i.top (mine B c i)
  unfolding tops holds_block
  mine_count [] e = rw (any_none B.count (lies B c i) (mine_none e), e) (omega arith)
  mine_count (b ∷ K) e = rw (mine_some b K e, e) (gaps_length i.bottom i.top b K (rw e at mine_apart) (rw e at (sel_inside B.count 0)))

  -- ---- what its blocks add

  -- the terms from block j on, once a block of the interval is passed
  seen : (n j k : ℕ) → k < j → lies B c i k ≡ true → j + n ≡ B.count → sum_from j n (term B (adds B L) c i) ≡ tops i.top (sel B c i j n)
  unfolding sel tops sum_from term
  seen zero j k l p e = refl
  seen (suc n) j k l p e = go (lies B c i j) refl (seen n (suc j) k (omega arith) p (omega arith))
    where
      go : (t : Bool) → lies B c i j ≡ t → sum_from (suc j) n (term B (adds B L) c i) ≡ tops i.top (sel B c i (suc j) n)
          → sum_from j (suc n) (term B (adds B L) c i) ≡ tops i.top (sel B c i j (suc n))
      go true q h = rw q (omega (arith, adds_is B L j i true (home_is B C L s c i m j (omega arith) q) (later B C L s c i m k j l (omega arith) p q)))
      go false q h = rw q (omega arith)

  -- and before
  unseen : (n j : ℕ) → ((k : ℕ) → k < j → lies B c i k ≡ false) → j + n ≡ B.count
      → sum_from j n (term B (adds B L) c i) ≡ lowest i (sel B c i j n) + tops i.top (sel B c i j n)
  unfolding sel tops sum_from term
  unseen zero j h e = omega arith
  unseen (suc n) j h e = go (lies B c i j) refl (λ q. unseen n (suc j) (λ k l. last_or (λ x. lies B c i x ≡ false) j k l (h k) q) (omega arith))
    where
      go : (t : Bool) → lies B c i j ≡ t
          → (lies B c i j ≡ false → sum_from (suc j) n (term B (adds B L) c i) ≡ lowest i (sel B c i (suc j) n) + tops i.top (sel B c i (suc j) n))
          → sum_from j (suc n) (term B (adds B L) c i) ≡ lowest i (sel B c i j (suc n)) + tops i.top (sel B c i j (suc n))
      go true q rest =
          rw q (omega (arith, adds_is B L j i false (home_is B C L s c i m j (omega arith) q) (first B C L s c i m j (omega arith) h q), seen n (suc j) j (omega arith) q (omega arith)))
      go false q rest = rw q (omega (arith, rest q))

  -- THEOREM: what remains in the interval is what the blocks that lie in it add
  remaining_terms : remaining B c i ≡ sum_below B.count (term B (adds B L) c i)
  unfolding remaining
  remaining_terms =
      ap (λ K. cond (holds_block B c i) (length K) 0) left_gaps
      ∙ mine_count (mine B c i) refl
      ∙ sym (sum_front B.count (term B (adds B L) c i) ∙ unseen B.count 0 (λ k l. absurd (omega arith)) (omega arith))

-- ---- all columns

module _ (B : Placed) (C : ℕ) (L : ℕ → List Interval) (s : Stands B C L) where
  -- THEOREM: n is the sum, over the blocks, of what each adds
  pub pieces_adds : pieces B C L ≡ sum_below B.count (adds B L)
  unfolding pieces
  pieces_adds = by_blocks B C L s (adds B L) (remaining B) (remaining_terms B C L s)
