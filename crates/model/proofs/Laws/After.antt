-- MODEL 11.3: n counts the free intervals, once the task is placed, that lie inside an interval that held a block. Assumes nothing.
use Rattle.std.specs.Prelude.{ℕ, suc, ◌+◌, ◌-◌, ◌≤◌, ◌<◌, ◌≡◌, ◌⊎◌, ◌↔◌, Bool, true, false, cond, ◌&&◌, ◌||◌, length}
use Rattle.std.proofs.Math.Path.{refl, ap, ap₂}
use Rattle.std.proofs.Common.{sym, ◌∙◌, inl, inr, arith}
use Rattle.std.proofs.Math.Bool.{not}
use mathlib.Core.List.{List, [], ◌∷◌, ◌++◌}
use Rattle.std.proofs.Math.Dec.{leb}
use borrow.Author.Tests.{le-leb, lt-leb, not-true}
use Rattle.runs.specs.Intervals.{Interval, Named, Apart}
use Rattle.runs.specs.Laws.Tests.{tests}
use Rattle.runs.specs.Laws.Intervals.{apart_weaken, apart_unique, intervals_free}
use Rattle.model.specs.Bounded.{sum_below, any_in, sum_in, join_in, In}
use Rattle.model.specs.Columns.{Device, columns}
use Rattle.model.specs.Book.{Running, Book, Placed, covered, standing, intervals}
use Rattle.model.specs.Choice.{holds_block, left_in, remaining, pieces, judge}
use Rattle.model.specs.Calls.{insert}
use Rattle.model.specs.Homes.{bit}
use Rattle.model.proofs.Laws.Bounded.{and_to, sum_ext, list_ext}
use Rattle.model.proofs.Laws.Gaps.{Inside}
use Rattle.model.proofs.Laws.Homes.{in_bounds}
use Rattle.model.proofs.Laws.Ends.{column_free}
use Rattle.model.proofs.Laws.Freed.{free_insert}

-- how many of the list pass
abbrev pub count_in : (Interval → Bool) → List Interval → ℕ
count_in p K = sum_in (λ k. bit (p k)) K

-- the interval k lies inside an interval of L that held a block
unfoldable pub inside_held : Placed → ℕ → List Interval → Interval → Bool
inside_held B c L k = any_in (λ i. leb i.bottom k.bottom && leb k.top i.top && holds_block B c i) L

-- ---- lists of intervals

named_append_to : (z : ℕ) (K M : List Interval) → Named z (K ++ M) → Named z K ⊎ Named z M
named_append_to z [] M h = inr h
named_append_to z (i ∷ K) M (inl h) = inl (inl h)
named_append_to z (i ∷ K) M (inr h) = go (named_append_to z K M h)
  where
    go : Named z K ⊎ Named z M → Named z (i ∷ K) ⊎ Named z M
    go (inl k) = inl (inr k)
    go (inr k) = inr k

named_append_of : (z : ℕ) (K M : List Interval) → Named z K ⊎ Named z M → Named z (K ++ M)
named_append_of z [] M (inl h) = absurd h
named_append_of z [] M (inr h) = h
named_append_of z (i ∷ K) M (inl (inl h)) = inl h
named_append_of z (i ∷ K) M (inl (inr h)) = inr (named_append_of z K M (inl h))
named_append_of z (i ∷ K) M (inr h) = inr (named_append_of z K M (inr h))

append_apart : (m hi : ℕ) (K M : List Interval) → m ≤ suc hi → Apart m K → Inside hi K → Apart (suc hi) M → Apart m (K ++ M)
append_apart m hi [] M l c i d = apart_weaken m (suc hi) M l d
append_apart m hi (x ∷ K) M l c i d = (c.0, c.1, append_apart (suc x.top) hi K M (omega arith) c.2 i.1 d)

append_sum : (f : Interval → ℕ) (K M : List Interval) → sum_in f (K ++ M) ≡ sum_in f K + sum_in f M
unfolding sum_in
append_sum f [] M = omega arith
append_sum f (x ∷ K) M = omega (arith, append_sum f K M)

in_inside : (hi : ℕ) (k : Interval) (K : List Interval) → Inside hi K → In k K → k.top ≤ hi
in_inside hi k [] i n = absurd n
in_inside hi k (x ∷ K) i (inl e) = rw e i.0
in_inside hi k (x ∷ K) i (inr n) = in_inside hi k K i.1 n

-- where a canonical list starts and ends, by what it names
apart_from : (m : ℕ) (K : List Interval) → Apart 0 K → ((z : ℕ) → Named z K → m ≤ z) → Apart m K
apart_from m [] c h = tt
apart_from m (i ∷ K) c h = (h i.bottom (inl (omega arith)), c.1, c.2)

inside_of : (m hi : ℕ) (K : List Interval) → Apart m K → ((z : ℕ) → Named z K → z < hi) → Inside hi K
inside_of m hi [] c h = tt
inside_of m hi (i ∷ K) c h = (omega (arith, h (i.top - 1) (inl (omega arith))), inside_of (suc i.top) hi K c.2 (λ z n. h z (inr n)))

-- all pass, or none
count_same : (p : Interval → Bool) (t : Bool) (K : List Interval) → ((k : Interval) → In k K → p k ≡ t) → count_in p K ≡ cond t (length K) 0
unfolding sum_in
count_same p true [] h = refl
count_same p true (k ∷ K) h = omega (arith, ap bit (h k (inl refl)), count_same p true K (λ j n. h j (inr n)))
count_same p false [] h = refl
count_same p false (k ∷ K) h = omega (arith, ap bit (h k (inl refl)), count_same p false K (λ j n. h j (inr n)))

or_false : (a b : Bool) → b ≡ false → (a || b) ≡ a
or_false true b e = refl
or_false false b e = e

-- ---- one column

module _ (B : Placed) (c : ℕ) where
  left_to : (z : ℕ) (i : Interval) → Named z (left_in B c i) → (i.bottom ≤ z) × (z < i.top) × (covered B c z ≡ false)
  unfolding left_in
  left_to z i h =
      let (l, e) = ((intervals_free (λ z. leb i.bottom z && not (covered B c z)) i.top).named z).0 h in
      let (a, b) = and_to (leb i.bottom z) _ e in
      (omega tests, l, not-true (covered B c z) b)

  left_of : (z : ℕ) (i : Interval) → i.bottom ≤ z → z < i.top → covered B c z ≡ false → Named z (left_in B c i)
  unfolding left_in
  left_of z i p q e = ((intervals_free (λ z. leb i.bottom z && not (covered B c z)) i.top).named z).1 (q, rw (le-leb i.bottom z p, e))

  left_apart : (i : Interval) → Apart i.bottom (left_in B c i)
  unfolding left_in
  left_apart i = apart_from i.bottom (left_in B c i) (intervals_free (λ z. leb i.bottom z && not (covered B c z)) i.top).canon (λ z n. (left_to z i n).0)

  left_inside : (i : Interval) → Inside i.top (left_in B c i)
  left_inside i = inside_of i.bottom i.top (left_in B c i) (left_apart i) (λ z n. (left_to z i n).1)

  -- what is left inside the intervals K
  flat : List Interval → List Interval
  flat = join_in (left_in B c)

  flat_apart : (m : ℕ) (K : List Interval) → Apart m K → Apart m (flat K)
  unfolding flat join_in
  flat_apart m [] d = tt
  flat_apart m (i ∷ K) d =
      append_apart m i.top (left_in B c i) (flat K) (omega arith) (apart_weaken m i.bottom (left_in B c i) d.0 (left_apart i)) (left_inside i) (flat_apart (suc i.top) K d.2)

  flat_to : (z : ℕ) (K : List Interval) → Named z (flat K) → Named z K × (covered B c z ≡ false)
  unfolding flat join_in
  flat_to z [] h = absurd h
  flat_to z (i ∷ K) h = go (flat_to z K) (named_append_to z (left_in B c i) (flat K) h)
    where
      go : (Named z (flat K) → Named z K × (covered B c z ≡ false)) → Named z (left_in B c i) ⊎ Named z (flat K) → Named z (i ∷ K) × (covered B c z ≡ false)
      go rest (inl k) = let (p, q, e) = left_to z i k in (inl (p, q), e)
      go rest (inr k) = let (n, e) = rest k in (inr n, e)

  flat_of : (z : ℕ) (K : List Interval) → Named z K → covered B c z ≡ false → Named z (flat K)
  unfolding flat join_in
  flat_of z [] h e = absurd h
  flat_of z (i ∷ K) (inl h) e = named_append_of z (left_in B c i) (flat K) (inl (left_of z i h.0 h.1 e))
  flat_of z (i ∷ K) (inr h) e = named_append_of z (left_in B c i) (flat K) (inr (flat_of z K h e))

  -- an interval that starts below all of K is inside none of them
  inside_none : (k : Interval) (m : ℕ) (K : List Interval) → Apart m K → k.bottom < m → inside_held B c K k ≡ false
  unfolding inside_held any_in
  inside_none k m [] d l = refl
  inside_none k m (i ∷ K) d l = rw (lt-leb i.bottom k.bottom (omega arith)) (inside_none k (suc i.top) K d.2 (omega arith))

  -- one that is left inside i is inside i alone
  left_here : (m : ℕ) (i : Interval) (K : List Interval) → Apart m (i ∷ K) → (k : Interval) → In k (left_in B c i) → inside_held B c (i ∷ K) k ≡ holds_block B c i
  unfolding inside_held any_in
  left_here m i K d k n =
      let b = in_bounds i.bottom k (left_in B c i) (left_apart i) n in
      let t = in_inside i.top k (left_in B c i) (left_inside i) n in
      rw (le-leb i.bottom k.bottom b.0, le-leb k.top i.top t)
      (or_false (holds_block B c i) (inside_held B c K k) (inside_none k (suc i.top) K d.2 (omega arith)))

  -- one that is left inside a later interval is not inside i
  left_later : (m : ℕ) (i : Interval) (K : List Interval) → Apart m (i ∷ K) → (k : Interval) → In k (flat K) → inside_held B c (i ∷ K) k ≡ inside_held B c K k
  unfolding inside_held any_in
  left_later m i K d k n =
      let b = in_bounds (suc i.top) k (flat K) (flat_apart (suc i.top) K d.2) n in
      rw (le-leb i.bottom k.bottom (omega arith), lt-leb k.top i.top (omega arith))

  flat_count : (m : ℕ) (K : List Interval) → Apart m K → count_in (inside_held B c K) (flat K) ≡ sum_in (remaining B c) K
  unfolding flat join_in sum_in remaining
  flat_count m [] d = refl
  flat_count m (i ∷ K) d =
      append_sum (λ k. bit (inside_held B c (i ∷ K) k)) (left_in B c i) (flat K)
      ∙ ap₂ (λ (x y : ℕ). x + y)
      (count_same (inside_held B c (i ∷ K)) (holds_block B c i) (left_in B c i) (left_here m i K d))
      (list_ext (λ k. bit (inside_held B c (i ∷ K) k)) (λ k. bit (inside_held B c K k)) (flat K) (λ k n. ap bit (left_later m i K d k n)) ∙ flat_count (suc i.top) K d.2)

-- THEOREM: L c are the free intervals of column c before placing, and M c those after, which name what no block covers. Then n is the number of
-- intervals of M, over all columns, that lie inside an interval of L that held a block.
pub pieces_after : (B : Placed) (C : ℕ) (L M : ℕ → List Interval) → ((c : ℕ) → Apart 0 (L c)) → ((c : ℕ) → Apart 0 (M c))
    → ((c z : ℕ) → Named z (M c) ↔ (Named z (L c) × (covered B c z ≡ false)))
    → pieces B C L ≡ sum_below C (λ c. count_in (inside_held B c (L c)) (M c))
unfolding pieces
pieces_after B C L M p q e =
    sum_ext C _ _
    (λ c l. sym (ap (count_in (inside_held B c (L c)))
    (apart_unique (M c) (flat B c (L c)) (q c) (flat_apart B c 0 (L c) (p c))
    (λ z. (λ n. let (a, b) = (e c z).0 n in flat_of B c z (L c) a b, λ n. (e c z).1 (flat_to B c z (L c) n))))
    ∙ flat_count B c 0 (L c) (p c)))

-- ---- a task that is placed

module _ (d : Device) (b : Book) (e : Running) where
  named_insert : (c z : ℕ) → Named z (intervals d (insert e b) c) ↔ (Named z (intervals d b c) × (covered (standing e) c z ≡ false))
  named_insert c z = (
    λ n. let (l, v) = ((column_free d (insert e b) c).named z).0 n in let (x, y) = (free_insert d b e c z).0 v in (((column_free d b c).named z).1 (l, x), y),
    λ (n, y). let (l, x) = ((column_free d b c).named z).0 n in ((column_free d (insert e b) c).named z).1 (l, (free_insert d b e c z).1 (x, y)),
  )

  -- THEOREM: n of a task at a position is the number of free intervals, after placing it there, that lie inside intervals that held a block
  pub n_after : (judge d b e.task).n e.column e.bottom
      ≡ sum_below (columns d) (λ c. count_in (inside_held (standing e) c (intervals d b c)) (intervals d (insert e b) c))
  unfolding judge
  n_after =
      pieces_after (standing e) (columns d) (intervals d b) (intervals d (insert e b)) (λ c. (column_free d b c).canon) (λ c. (column_free d (insert e b) c).canon) named_insert
