-- The changes of a test are the ends of its maximal runs. Assumes nothing.
use Prim.Native.Nat.{ℕ, zero, suc, ◌+◌, ◌-◌, ◌*◌, ◌≤◌, ◌<◌}
use Rattle.std.specs.Prelude.{◌≡◌, ◌⊎◌, ◌↔◌, Bool, true, false, not, List, [], ◌∷◌, ltb}
use Rattle.std.proofs.Math.Path.{refl}
use Rattle.std.proofs.Common.{sym, ap, ◌∙◌, inl, inr, mul-le-mul_left, lt-ltb}
use native.Mathlib.Omega.{arith}
use Rattle.runs.specs.Laws.Tests.{tests, lt_or_ge}
use Rattle.runs.specs.Intervals.{Interval, Named, Apart, intervals as maximal_runs, piece}
use Rattle.runs.specs.Laws.Intervals.{named_ge, piece_apart, piece_to, piece_of, intervals_free, free_intervals}
use Rattle.model.proofs.Laws.Bounded.{and_to, and_of, is_false}
use Rattle.model.proofs.Laws.Cells.{whole_cells}
use Rattle.cells.specs.Bits.{cell_bit}
use Rattle.model.specs.Limits.{words}
use Rattle.cells.specs.Ends.{hits, one_below, differs, change, ends, is_free, free_below, bit_intervals, SmallEnds}

-- ---- the numbers that pass a test, the next one first

module _ (g : ℕ → Bool) where
  pub hits_none : (a n : ℕ) → ((y : ℕ) → a ≤ y → g y ≡ false) → hits g a n ≡ []
  unfolding hits
  hits_none a zero h = refl
  hits_none a (suc n) h = rw (h a (omega arith)) (hits_none (suc a) n (λ y l. h y (omega arith)))

  pub hits_next : (a n k : ℕ) → a ≤ k → k < a + n → ((y : ℕ) → a ≤ y → y < k → g y ≡ false) → g k ≡ true → hits g a n ≡ k ∷ hits g (suc k) (a + n - suc k)
  unfolding hits
  hits_next a zero k l m h e = absurd (omega arith)
  hits_next a (suc n) k l m h e = go (lt_or_ge a k) (λ p. hits_next (suc a) n k p (omega arith) (λ y i j. h y (omega arith) j) e)
    where
      go : (a < k) ⊎ (k ≤ a) → (a < k → hits g (suc a) n ≡ k ∷ hits g (suc k) (suc a + n - suc k)) → hits g a (suc n) ≡ k ∷ hits g (suc k) (a + suc n - suc k)
      go (inl p) rest = let f : a + suc n - suc k ≡ suc a + n - suc k = omega arith in rw (h a (omega arith) p, f) (rest p)
      go (inr p) rest =
          let q : a ≡ k = omega arith in
          let f : k + suc n - suc k ≡ n = omega arith in
          rw (q, e, f)

-- ---- changes

false_differs : (a b : Bool) → a ≡ false → b ≡ false → differs a b ≡ false
false_differs a b p q = rw (p, q)

module _ (f : ℕ → Bool) where
  same_change : (k : ℕ) → f k ≡ one_below f k → change f k ≡ false
  same_change k e = rw e (go (one_below f k))
    where
      go : (b : Bool) → differs b b ≡ false
      go true = refl
      go false = refl

  rises : (k : ℕ) → f k ≡ true → one_below f k ≡ false → change f k ≡ true
  rises k p q = rw (p, q)

  falls : (k : ℕ) → f k ≡ false → one_below f k ≡ true → change f k ≡ true
  falls k p q = rw (p, q)

  before_false : (m k : ℕ) → one_below f m ≡ false → ((y : ℕ) → m ≤ y → y < k → f y ≡ false) → m ≤ k → one_below f k ≡ false
  before_false m zero e h l = refl
  before_false m (suc k) e h l = go (lt_or_ge k m)
    where
      go : (k < m) ⊎ (m ≤ k) → f k ≡ false
      go (inl p) = let q : m ≡ suc k = omega arith in rw q at e
      go (inr p) = h k p (omega arith)

  -- THEOREM: the changes from m on are the ends of the canonical list of those that pass
  pub changes_ends : (m n : ℕ) (L : List Interval) → Apart m L → one_below f m ≡ false → ((y : ℕ) → m ≤ y → Named y L ↔ (f y ≡ true))
      → ((y : ℕ) → f y ≡ true → suc y < m + n) → hits (change f) m n ≡ ends L
  changes_ends m n [] c b h t =
      let no : (y : ℕ) → m ≤ y → f y ≡ false = λ y l. is_false (f y) (λ e. (h y l).1 e) in
      hits_none (change f) m n (λ y l. false_differs (f y) (one_below f y) (no y l) (before_false m y b (λ z i j. no z i) l))
  changes_ends m n (i ∷ L) c b h t =
      let up = i.bottom in
      let down = i.top in
      let low : (y : ℕ) → m ≤ y → y < up → f y ≡ false =
      λ y p q. is_false (f y) (λ e. below y q ((h y p).1 e)) in
      let mid : (y : ℕ) → up ≤ y → y < down → f y ≡ true = λ y p q. (h y (omega arith)).0 (inl (p, q)) in
      let top : f down ≡ false = is_false (f down) (λ e. below_next ((h down (omega arith)).1 e)) in
      let last : suc (down - 1) < m + n = t (down - 1) (mid (down - 1) (omega arith) (omega arith)) in
      let first = hits_next (change f) m n up c.0 (omega arith)
      (λ y p q. false_differs (f y) (one_below f y) (low y p q) (before_false m y b (λ z j k. low z j (omega arith)) p))
      (rises up (mid up (omega arith) c.1) (before_false m up b low c.0)) in
      let before-down : one_below f down ≡ true = pred_true down (omega arith) (mid (down - 1) (omega arith) (omega arith)) in
      let second = hits_next (change f) (suc up) (m + n - suc up) down (omega arith) (omega arith)
      (λ y p q. same_change y (mid y (omega arith) q ∙ sym (pred_true y (omega arith) (mid (y - 1) (omega arith) (omega arith)))))
      (falls down top before-down) in
      let rest = changes_ends (suc down) (suc up + (m + n - suc up) - suc down) L c.2 top
      (λ y p. (λ k. (h y (omega arith)).0 (inr k), λ e. later y p ((h y (omega arith)).1 e)))
      (λ y e. omega (arith, t y e)) in
      first ∙ ap (λ (l : List ℕ). up ∷ l) (second ∙ ap (λ (l : List ℕ). down ∷ l) rest)
    where
      below : (y : ℕ) → y < i.bottom → Named y (i ∷ L) → ⊥
      below y q (inl k) = omega arith
      below y q (inr k) = omega (arith, named_ge (suc i.top) y L c.2 k)

      below_next : Named i.top (i ∷ L) → ⊥
      below_next (inl k) = omega arith
      below_next (inr k) = omega (arith, named_ge (suc i.top) i.top L c.2 k)

      later : (y : ℕ) → suc i.top ≤ y → Named y (i ∷ L) → Named y L
      later y p (inl k) = absurd (omega arith)
      later y p (inr k) = k

      pred_true : (k : ℕ) → 0 < k → f (k - 1) ≡ true → one_below f k ≡ true
      pred_true zero p e = absurd (omega arith)
      pred_true (suc k) p e = let q : suc k - 1 ≡ k = omega arith in rw q at e

-- ---- free cells of a column

-- THEOREM: the changes of the free cells below n are the ends of their maximal runs
pub free_changes : (ws : List ℕ) (n m : ℕ) → n < m → hits (change (free_below ws n)) 0 m ≡ ends (maximal_runs (is_free ws) n)
unfolding free_below
free_changes ws n m l =
    let g = intervals_free (is_free ws) n in
    changes_ends (free_below ws n) 0 m (maximal_runs (is_free ws) n) g.canon refl
    (λ y p. (
      λ k. let (a, b) = (g.named y).0 k in and_of (ltb y n) (is_free ws y) (lt-ltb y n a) b,
      λ e. let (a, b) = and_to (ltb y n) (is_free ws y) e in (g.named y).1 (omega tests, b),
    ))
    (λ y e. let (a, b) = and_to (ltb y n) (is_free ws y) e in omega tests)

-- ends at or below n are two-byte numbers where h * n is
ends_small : (h n m : ℕ) (L : List Interval) → h * n < words → Apart m L → ((y : ℕ) → Named y L → y < n) → SmallEnds h (ends L)
ends_small h n m [] l c u = tt
ends_small h n m (i ∷ L) l c u =
    let t : i.top - 1 < n = u (i.top - 1) (inl (omega arith)) in (
      omega (arith, mul-le-mul_left {m = i.bottom} {n = n} h (omega arith)),
      (omega (arith, mul-le-mul_left {m = i.top} {n = n} h (omega arith)), ends_small h n (suc i.top) L l c.2 (λ y k. u y (inr k))),
    )

pub small_ends : (h n : ℕ) (f : ℕ → Bool) → h * n < words → SmallEnds h (ends (maximal_runs f n))
small_ends h n f l = let g = intervals_free f n in ends_small h n 0 (maximal_runs f n) l g.canon (λ y k. ((g.named y).0 k).0)

-- ---- clear bits

-- a test that each number below n passes has one run, or none where n is 0
pub runs_all : (f : ℕ → Bool) (n : ℕ) → ((k : ℕ) → k < n → f k ≡ true) → maximal_runs f n ≡ piece 0 n []
runs_all f n h =
    sym (free_intervals f n (piece 0 n []) (record {
      canon = piece_apart 0 0 n [] (λ l. (omega arith, tt)) (λ l. tt);
      named = λ y. (λ k. to y (piece_to y 0 n [] k), λ (l, e). piece_of y 0 n [] (inl (omega arith, l)));
    }))
  where
    to : (y : ℕ) → ((0 ≤ y) × (y < n)) ⊎ Named y [] → (y < n) × (f y ≡ true)
    to y (inl (a, l)) = (l, h y l)
    to y (inr k) = absurd k

-- THEOREM: where no bit below n is set, all the column is one free interval, or none where it has no cells
pub clear_runs : (ws : List ℕ) (n h : ℕ) → 1 ≤ h → ((k : ℕ) → k < n → cell_bit ws k ≡ false) → bit_intervals ws n h ≡ piece 0 (h * n) []
unfolding bit_intervals is_free
clear_runs ws n h p c =
    sym (whole_cells h p n (λ z. true) (is_free ws) (λ k i l m. sym (ap not (c k l)))) ∙ runs_all (λ z. true) (h * n) (λ k l. refl)
