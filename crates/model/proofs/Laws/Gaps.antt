-- The gaps that rising, non-touching blocks leave in an interval, and how many there are. Assumes nothing.
use Rattle.std.specs.Prelude.{◌≡◌, ◌⊎◌, ◌↔◌, Bool, true, false, cond, List, [], ◌∷◌, ℕ, suc, ◌+◌, ◌≤◌, ◌<◌, length, ltb}
use Rattle.std.proofs.Common.{sym, inl, inr, arith, lt-ltb}
use Rattle.runs.specs.Laws.Tests.{lt_or_ge}
use Rattle.runs.specs.Intervals.{Interval, interval, Named, Apart, intervals, Free, piece}
use Rattle.runs.specs.Laws.Intervals.{named_ge, apart_weaken, piece_apart, piece_to, piece_of, free_intervals}
use Rattle.model.specs.Homes.{bit}

-- each interval of L ends at hi or below
abbrev pub Inside : ℕ → List Interval → Type 0
Inside hi [] = Unit {0}
Inside hi (b ∷ L) = (b.top ≤ hi) × Inside hi L

-- what the rising blocks L leave of the numbers from lo on and below hi
unfoldable pub gaps : ℕ → ℕ → List Interval → List Interval
gaps lo hi [] = piece lo hi []
gaps lo hi (b ∷ L) = piece lo b.bottom (gaps b.top hi L)

-- how many of the blocks L have a number of the interval above them
unfoldable pub tops : ℕ → List Interval → ℕ
tops hi [] = 0
tops hi (b ∷ L) = bit (ltb b.top hi) + tops hi L

-- ---- the gaps are canonical, and name what no block names

pub gaps_apart : (m lo hi : ℕ) (L : List Interval) → m ≤ lo → Apart lo L → Inside hi L → Apart m (gaps lo hi L)
unfolding gaps
gaps_apart m lo hi [] l c i = piece_apart m lo hi [] (λ h. (l, tt)) (λ h. tt)
gaps_apart m lo hi (b ∷ L) l c i =
    let d : Apart b.top L = apart_weaken b.top (suc b.top) L (omega arith) c.2 in
    piece_apart m lo b.bottom (gaps b.top hi L)
    (λ h. (l, gaps_apart (suc b.bottom) b.top hi L (omega arith) d i.1))
    (λ h. gaps_apart m b.top hi L (omega arith) d i.1)

-- y is one of the numbers from lo on and below hi, and no block of L names it
abbrev pub Left : ℕ → ℕ → List Interval → ℕ → Type 0
Left lo hi L y = (lo ≤ y) × (y < hi) × ¬ (Named y L)

pub gaps_to : (y lo hi : ℕ) (L : List Interval) → Apart lo L → Inside hi L → Named y (gaps lo hi L) → Left lo hi L y
unfolding gaps
gaps_to y lo hi [] c i h = go (piece_to y lo hi [] h)
  where
    go : ((lo ≤ y) × (y < hi)) ⊎ ⊥ → Left lo hi [] y
    go (inl k) = (k.0, k.1, λ n. n)
    go (inr k) = absurd k
gaps_to y lo hi (b ∷ L) c i h =
    go (gaps_to y b.top hi L (apart_weaken b.top (suc b.top) L (omega arith) c.2) i.1) (piece_to y lo b.bottom (gaps b.top hi L) h)
  where
    below : y < b.bottom → ¬ (Named y (b ∷ L))
    below l (inl k) = omega arith
    below l (inr k) = omega (arith, named_ge (suc b.top) y L c.2 k)

    above : b.top ≤ y → ¬ (Named y L) → ¬ (Named y (b ∷ L))
    above l n (inl k) = omega arith
    above l n (inr k) = n k

    go : (Named y (gaps b.top hi L) → Left b.top hi L y) → ((lo ≤ y) × (y < b.bottom)) ⊎ Named y (gaps b.top hi L) → Left lo hi (b ∷ L) y
    go rest (inl k) = (k.0, omega arith, below k.1)
    go rest (inr k) = let r = rest k in (omega arith, r.1, above r.0 r.2)

pub gaps_of : (y lo hi : ℕ) (L : List Interval) → Left lo hi L y → Named y (gaps lo hi L)
unfolding gaps
gaps_of y lo hi [] h = piece_of y lo hi [] (inl (h.0, h.1))
gaps_of y lo hi (b ∷ L) h =
    piece_of y lo b.bottom (gaps b.top hi L)
    (go (λ l. gaps_of y b.top hi L (l, h.1, λ n. h.2 (inr n))) (lt_or_ge y b.bottom) (lt_or_ge y b.top))
  where
    go : (b.top ≤ y → Named y (gaps b.top hi L)) → (y < b.bottom) ⊎ (b.bottom ≤ y) → (y < b.top) ⊎ (b.top ≤ y)
        → ((lo ≤ y) × (y < b.bottom)) ⊎ Named y (gaps b.top hi L)
    go rest (inl l) k = inl (h.0, l)
    go rest (inr l) (inl k) = absurd (h.2 (inl (l, k)))
    go rest (inr l) (inr k) = inr (rest k)

-- THEOREM: the maximal runs of what the blocks leave are the gaps
pub gaps_intervals : (f : ℕ → Bool) (lo hi : ℕ) (L : List Interval) → Apart lo L → Inside hi L
    → ((y : ℕ) → y < hi → (f y ≡ true) ↔ ((lo ≤ y) × ¬ (Named y L))) → intervals f hi ≡ gaps lo hi L
gaps_intervals f lo hi L c i e = sym (free_intervals f hi (gaps lo hi L) free)
  where
    free : Free f hi (gaps lo hi L)
    free = record {
      canon = gaps_apart 0 lo hi L (omega arith) c i;
      named = λ y. (
        λ h. let (a, b, n) = gaps_to y lo hi L c i h in (b, (e y b).1 (a, n)),
        λ h. let (a, n) = (e y h.0).0 h.1 in gaps_of y lo hi L (a, h.0, n),
      );
    }

-- ---- how many

piece_length : (a b : ℕ) (K : List Interval) → length (piece a b K) ≡ bit (ltb a b) + length K
unfolding piece
piece_length a b K = go (ltb a b)
  where
    go : (t : Bool) → length (cond t (interval a b ∷ K) K) ≡ bit t + length K
    go true = omega arith
    go false = omega arith

-- THEOREM: the lowest block may leave a gap below it, and each block one above it
pub gaps_length : (lo hi : ℕ) (b : Interval) (L : List Interval) → Apart lo (b ∷ L) → Inside hi (b ∷ L)
    → length (gaps lo hi (b ∷ L)) ≡ bit (ltb lo b.bottom) + tops hi (b ∷ L)
unfolding gaps tops
gaps_length lo hi b [] c i = omega (arith, piece_length lo b.bottom (gaps b.top hi []), piece_length b.top hi [])
gaps_length lo hi b (d ∷ L) c i =
    let rest = gaps_length b.top hi d L (omega arith, c.2.1, c.2.2) i.1 in
    let one : bit (ltb b.top d.bottom) ≡ bit (ltb b.top hi) = rw (lt-ltb b.top d.bottom (omega arith), lt-ltb b.top hi (omega arith)) in
    omega (arith, piece_length lo b.bottom (gaps b.top hi (d ∷ L)))
