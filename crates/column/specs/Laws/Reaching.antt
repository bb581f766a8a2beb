-- The first interval, from a number on, that ends at t or above it: what the search of `reaching` finds. Assumes nothing.
use Rattle.std.proofs.Common.{ℕ, zero, suc, ◌+◌, ◌-◌, ◌*◌, ◌≤◌, ◌<◌, ◌≡◌, length, get_or, refl, sym, ap, ◌∙◌, inl, inr, ◌⊎◌, Option, Some, None, List, [], ◌∷◌, arith, zero-add, le-leb, lt-ltb, le-ltb}
use Rattle.std.specs.Option.{MatchOption, unwrap_or}
use borrow.Author.Tests.{lt-leb}
use Rattle.runs.specs.Intervals.{Interval, interval, Apart, Holds}
use Rattle.runs.specs.Laws.Tests.{lt_or_ge}
use Rattle.runs.specs.Laws.Intervals.{named_ge, holds_of}
use Rattle.model.specs.Limits.{interval_size}
use Rattle.model.specs.Tasks.{word}
use Rattle.model.specs.Homes.{holder}
use Rattle.model.proofs.Laws.Homes.{in_bounds}
use Rattle.model.proofs.Laws.ReadBack.{get_d_in}
use Rattle.column.specs.declared.Interval.{Interval as Read}
use Rattle.column.specs.Part.{interval_at, listed_from, listed_in, ReadAt, first_reaching}

-- ---- on a list

module _ (t : ℕ) (d : Interval) where
  -- interval i ends at t or above it
  reached : (L : List Interval) (i : ℕ) → i < length L → t ≤ (get_or L i d).top → first_reaching i t L ≡ i
  unfolding first_reaching
  reached [] i l h = absurd (omega arith)
  reached (x ∷ L) zero l h = rw (le-leb t x.top h)
  reached (x ∷ L) (suc i) l h = ap suc (reached L i (omega arith) h)

  -- it ends below t
  skipped : (L : List Interval) (i : ℕ) → i < length L → (get_or L i d).top < t → first_reaching i t L ≡ first_reaching (suc i) t L
  unfolding first_reaching
  skipped [] i l h = absurd (omega arith)
  skipped (x ∷ L) zero l h = rw (lt-leb t x.top h)
  skipped (x ∷ L) (suc i) l h = ap suc (skipped L i (omega arith) h)

  -- there is no interval i
  ended : (L : List Interval) (i : ℕ) → length L ≤ i → first_reaching i t L ≡ length L
  unfolding first_reaching
  ended [] i l = refl
  ended (x ∷ L) zero l = absurd (omega arith)
  ended (x ∷ L) (suc i) l = ap suc (ended L i (omega arith))

module _ (b t : ℕ) (l : b < t) (d : Interval) where
  -- on a canonical list the search may begin at an interval that begins at b or below it: those below end below t
  reached_first : (m : ℕ) (L : List Interval) (i : ℕ) → Apart m L → i < length L → (get_or L i d).bottom ≤ b → first_reaching i t L ≡ first_reaching 0 t L
  unfolding first_reaching
  reached_first m [] i c q h = refl
  reached_first m (x ∷ L) zero c q h = refl
  reached_first m (x ∷ L) (suc i) c q h =
      let above = (in_bounds (suc x.top) (get_or L i d) L c.2 (get_d_in L i d (omega arith))).0 in
      rw (lt-leb t x.top (omega arith)) (ap suc (reached_first (suc x.top) L i c.2 (omega arith) h))

  -- and where one of the intervals holds b..t, it finds that one: the interval in which half row b lies
  first_holder : (m : ℕ) (L : List Interval) → Apart m L → Holds b t L → (first_reaching 0 t L < length L) × (get_or L (first_reaching 0 t L) d ≡ holder L b)
  unfolding first_reaching holder
  first_holder m [] c h = absurd h
  first_holder m (x ∷ L) c (inl h) = rw (le-leb t x.top h.1, le-leb x.bottom b h.0, lt-ltb b x.top (omega arith)) (omega arith, refl)
  first_holder m (x ∷ L) c (inr h) =
      let above : suc x.top ≤ b = named_ge (suc x.top) b L c.2 (holds_of b t l L h b (omega arith) l) in
      let r = first_holder (suc x.top) L c.2 h in
      rw (lt-leb t x.top (omega arith), le-leb x.bottom b (omega arith), le-ltb b x.top (omega arith)) (omega (arith, r.0), r.1)

-- ---- on what a part lists

length_from : (p : List ℕ) (k n : ℕ) → length (listed_from p k n) ≡ n
length_from p k zero = refl
length_from p k (suc n) = ap suc (length_from p (suc k) n)

from_at : (p : List ℕ) (d : Interval) (k n i : ℕ) → i < n → get_or (listed_from p k n) i d ≡ interval_at p (k + i)
from_at p d k zero i l = absurd (omega arith)
from_at p d k (suc n) zero l = let e : k + 0 ≡ k = omega arith in rw e
from_at p d k (suc n) (suc i) l = let e : k + suc i ≡ suc k + i = omega arith in rw e (from_at p d (suc k) n i (omega arith))

none : Interval
none = interval 0 0

module _ (p : List ℕ) (n : ℕ) where
  listed_length : length (listed_in p n) ≡ n
  unfolding listed_in
  listed_length = length_from p 0 n

  listed_at : (i : ℕ) → i < n → get_or (listed_in p n) i none ≡ interval_at p i
  unfolding listed_in
  listed_at i l = rw zero-add at (from_at p none 0 n i l)

-- ---- `reaching`: those from number `from` on that end below t are passed over

module _ (p : List ℕ) (n from t : ℕ) where
  top_is : (i : ℕ) → i < n → (get_or (listed_in p n) i none).top ≡ word p (interval_size * i + 2)
  unfolding interval_at
  top_is i q = ap (λ (x : Interval). x.top) (listed_at p n i q)

  abbrev pub PassedTo : ℕ → Type 0
  PassedTo i = (k : ℕ) → from ≤ k → k < i → word p (interval_size * k + 2) < t

  passed_over : (m i : ℕ) → i ≡ from + m → i ≤ n → PassedTo i → first_reaching i t (listed_in p n) ≡ first_reaching from t (listed_in p n)
  passed_over zero i e l h = let k : i ≡ from = omega arith in rw k
  passed_over (suc m) i e l h =
      let j = from + m in
      let k : i ≡ suc j = omega arith in
      rw k (sym (skipped t none (listed_in p n) j (rw (listed_length p n) (omega arith)) (rw (top_is j (omega arith)) (h j (omega arith) (omega arith)))) ∙ passed_over m j refl (omega arith) (λ x a b. h x a (omega arith)))

  pub reaching_found : (r : Option ℕ) → MatchOption r (PassedTo n) (λ i. (from ≤ i) × (i < n) × (t ≤ word p (interval_size * i + 2)) × PassedTo i)
      → unwrap_or r n ≡ first_reaching from t (listed_in p n)
  reaching_found None h = go (lt_or_ge n from)
    where
      end : (i : ℕ) → n ≤ i → n ≡ first_reaching i t (listed_in p n)
      end i l = sym (listed_length p n) ∙ sym (ended t none (listed_in p n) i (rw (listed_length p n) l))

      go : (n < from) ⊎ (from ≤ n) → n ≡ first_reaching from t (listed_in p n)
      go (inl l) = end from (omega arith)
      go (inr l) = end n (omega arith) ∙ passed_over (n - from) n (omega arith) (omega arith) h
  reaching_found (Some i) (l, q, g, h) =
      sym (reached t none (listed_in p n) i (rw (listed_length p n) q) (rw (top_is i q) g)) ∙ passed_over (i - from) i (omega arith) (omega arith) h

-- ---- for callers

module _ (p : List ℕ) (n b t : ℕ) (l : b < t) (c : Apart 0 (listed_in p n)) where
  -- the search may begin at an interval that begins at b or below it
  pub reaching_first : (i : ℕ) (x : Read) → i < n → ReadAt p i x → x.bottom ≤ b → first_reaching i t (listed_in p n) ≡ first_reaching 0 t (listed_in p n)
  reaching_first i x q r h =
      let bottom : (get_or (listed_in p n) i none).bottom ≡ x.bottom = ap (λ (y : Interval). y.bottom) (listed_at p n i q ∙ sym r.is) in
      reached_first b t l none 0 (listed_in p n) i c (rw (listed_length p n) q) (rw bottom h)

  -- where one of the intervals holds b..t, it finds that one
  module _ (i : ℕ) (e : i ≡ first_reaching 0 t (listed_in p n)) (h : Holds b t (listed_in p n)) where
    pub reaching_below : i < n
    reaching_below = omega (arith, listed_length p n, (first_holder b t l none 0 (listed_in p n) c h).0)

    pub reaching_holder : interval_at p i ≡ holder (listed_in p n) b
    reaching_holder = sym (listed_at p n i reaching_below) ∙ rw e (first_holder b t l none 0 (listed_in p n) c h).1
