-- MODEL 11.1: blocks that stand in free intervals, the interval in which each lies, its home, and what each adds to n and to s. Assumes nothing.
use Rattle.std.specs.Prelude.{ℕ, suc, ◌+◌, ◌-◌, ◌≤◌, ◌<◌, ◌≡◌, refl, ◌⊎◌, Bool, true, false, not, ◌&&◌, ltb}
use Rattle.std.proofs.Common.{sym, ◌∙◌, inl, inr, arith}
use Rattle.std.proofs.Math.Bool.{cond}
use mathlib.Core.List.{List, [], ◌∷◌}
use Rattle.std.proofs.Math.Dec.{leb}
use borrow.Author.Tests.{le-leb, lt-leb, lt-ltb, le-ltb}
use Rattle.runs.specs.Intervals.{Interval, Named, Apart, Holds}
use Rattle.runs.specs.Laws.Intervals.{named_ge, holds_of}
use Rattle.model.specs.Bounded.{sum_in, In}
use Rattle.model.specs.Book.{Placed}
use Rattle.model.specs.Homes.{bit, holder, home, joined, adds, first_span}
use Rattle.model.proofs.Laws.Bounded.{list_zero}

-- block j stands in an earlier column than block k, or below it in the same column without touching
abbrev pub Under : Placed → ℕ → ℕ → Type 0
Under B j k = (B.column j < B.column k) ⊎ ((B.column j ≡ B.column k) × (B.top j < B.bottom k))

-- the blocks are not empty, rise by column and in each column, do not touch, and each stands in a free interval L c of one of C columns c
pub record Stands (B : Placed) (C : ℕ) (L : ℕ → List Interval) : Type 0 where
  pub full : (k : ℕ) → k < B.count → B.bottom k < B.top k
  pub rise : (j k : ℕ) → j < k → k < B.count → Under B j k
  pub canon : (c : ℕ) → Apart 0 (L c)
  pub held : (k : ℕ) → k < B.count → Holds (B.bottom k) (B.top k) (L (B.column k))
  pub column : (k : ℕ) → k < B.count → B.column k < C

-- ---- what a block adds

pub bit_small : (t : Bool) → bit t ≤ 1
bit_small true = omega arith
bit_small false = omega arith

pub adds_small : (B : Placed) (L : ℕ → List Interval) (k : ℕ) → adds B L k ≤ 2
unfolding adds
adds_small B L k = omega (arith, bit_small (not (joined B L k) && ltb (home B L k).bottom (B.bottom k)), bit_small (ltb (B.top k) (home B L k).top))

-- what a loop over the blocks adds, by the tests that it makes: i is the block's interval, `same` whether the block before lies there too
pub adds_is : (B : Placed) (L : ℕ → List Interval) (k : ℕ) (i : Interval) (same : Bool) → home B L k ≡ i → joined B L k ≡ same
    → adds B L k ≡ bit (not same && ltb i.bottom (B.bottom k)) + bit (ltb (B.top k) i.top)
unfolding adds
adds_is B L k i same e f = rw (e, f)

pub first_span_is : (B : Placed) (L : ℕ → List Interval) (k : ℕ) (i : Interval) (same : Bool) → home B L k ≡ i → joined B L k ≡ same
    → first_span B L k ≡ cond same 0 (i.top - i.bottom)
unfolding first_span
first_span_is B L k i same e f = rw (e, f)

-- ---- the interval of a canonical list that holds a number

pub in_named : (z : ℕ) (i : Interval) (L : List Interval) → In i L → i.bottom ≤ z → z < i.top → Named z L
in_named z i [] m p q = m
in_named z i (j ∷ L) (inl e) p q = rw (← e) (inl (p, q))
in_named z i (j ∷ L) (inr m) p q = inr (in_named z i L m p q)

pub in_bounds : (m : ℕ) (i : Interval) (L : List Interval) → Apart m L → In i L → (m ≤ i.bottom) × (i.bottom < i.top)
in_bounds m i [] c n = absurd n
in_bounds m i (j ∷ L) c (inl e) = rw e (c.0, c.1)
in_bounds m i (j ∷ L) c (inr n) = omega (arith, in_bounds (suc j.top) i L c.2 n)

-- each number that the interval names finds it
pub holder_at : (m z : ℕ) (i : Interval) (L : List Interval) → Apart m L → In i L → i.bottom ≤ z → z < i.top → holder L z ≡ i
unfolding holder
holder_at m z i [] c n u v = absurd n
holder_at m z i (j ∷ L) c (inl e) u v = rw (← e) (rw (le-leb i.bottom z u, lt-ltb z i.top v))
holder_at m z i (j ∷ L) c (inr n) u v =
    let g = named_ge (suc j.top) z L c.2 (in_named z i L n u v) in
    rw (le-leb j.bottom z (omega arith), le-ltb z j.top (omega arith)) (holder_at (suc j.top) z i L c.2 n u v)

-- i is one of L, and holds all from b on and below t
pub record Holder (i : Interval) (b t : ℕ) (L : List Interval) : Type 0 where
  pub member : In i L
  pub below : i.bottom ≤ b
  pub above : t ≤ i.top

pub holder_of : (i : Interval) (b t : ℕ) (L : List Interval) → Holder i b t L → Holds b t L
holder_of i b t L h = go L h.member
  where
    go : (L : List Interval) → In i L → Holds b t L
    go [] m = m
    go (j ∷ L) (inl e) = rw (← e) (inl (h.below, h.above))
    go (j ∷ L) (inr m) = inr (go L m)

module _ (b t : ℕ) (p : b < t) where
  -- what holds a block is found by the block's bottom
  pub found : (m : ℕ) (L : List Interval) → Apart m L → Holds b t L → Holder (holder L b) b t L
  found m [] c h = absurd h
  found m (i ∷ L) c (inl h) =
      rw (holder_at m b i (i ∷ L) c (inl refl) h.0 (omega arith)) (record { member = inl refl; below = h.0; above = h.1 })
  found m (i ∷ L) c (inr h) =
      let r = found (suc i.top) L c.2 h in
      let e : holder (i ∷ L) b ≡ holder L b = holder_at m b (holder L b) (i ∷ L) c (inr r.member) r.below (omega (arith, r.above)) in
      rw e (record { member = inr r.member; below = r.below; above = r.above })

  -- an interval of L that meets what one interval of L holds, is the one that holds it
  pub own : (z : ℕ) (i : Interval) (L : List Interval) → Apart 0 L → In i L → Holds b t L → b ≤ z → z < t → i.bottom ≤ z → z < i.top → Holder i b t L
  own z i L c n h k l u v =
      let f = found 0 L c h in
      let e : holder L b ≡ i = sym (holder_at 0 z (holder L b) L c f.member (omega (arith, f.below)) (omega (arith, f.above))) ∙ holder_at 0 z i L c n u v in
      rw e at f

  -- of the intervals of L, one counts: the one that holds the block
  pub one_counts : (m x : ℕ) (L : List Interval) → Apart m L → Holds b t L → sum_in (λ i. cond (leb i.bottom b && leb t i.top) x 0) L ≡ x
  unfolding sum_in
  one_counts m x [] c h = absurd h
  one_counts m x (i ∷ L) c (inl h) =
      let none : sum_in (λ j. cond (leb j.bottom b && leb t j.top) x 0) L ≡ 0 = list_zero _ L later in
      rw (le-leb i.bottom b h.0, le-leb t i.top h.1) (omega arith)
    where
      later : (j : Interval) → In j L → cond (leb j.bottom b && leb t j.top) x 0 ≡ 0
      later j n = rw (lt-leb j.bottom b (omega (arith, in_bounds (suc i.top) j L c.2 n)))
  one_counts m x (i ∷ L) c (inr h) =
      let g = named_ge (suc i.top) b L c.2 (holds_of b t p L h b (omega arith) p) in
      rw (le-leb i.bottom b (omega arith), lt-leb t i.top (omega arith)) (omega (arith, one_counts (suc i.top) x L c.2 h))

-- the home of a block holds it
pub at_home : (B : Placed) (C : ℕ) (L : ℕ → List Interval) → Stands B C L → (k : ℕ) → k < B.count → Holder (home B L k) (B.bottom k) (B.top k) (L (B.column k))
unfolding home
at_home B C L s k l = found (B.bottom k) (B.top k) (s.full k l) 0 (L (B.column k)) (s.canon (B.column k)) (s.held k l)
