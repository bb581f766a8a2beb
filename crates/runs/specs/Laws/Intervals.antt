-- MODEL 7: the laws of half-open intervals, of cutting (MODEL 12.4) and of joining (MODEL 12.5). Assumes nothing.
use Rattle.std.specs.Prelude.{◌≡◌, refl, ◌⊎◌, ◌↔◌, Bool, true, false, ltb}
use Rattle.std.proofs.Common.{sym, ap, ap₂, ◌∙◌, inl, arith}
use Rattle.std.proofs.Math.Logic.{inr}
use mathlib.Core.List.{List, [], ◌∷◌, map}
use Prim.Native.Nat.{ℕ, suc, pred, ◌+◌, ◌-◌, ◌*◌, ◌≤◌, ◌<◌, min, max}
use Rattle.runs.specs.Laws.Tests.{tests, cond_ind, lt_or_ge}
use Rattle.runs.specs.Runs.{Run, run, Steps, Mem, From, runs}
use Rattle.runs.specs.Laws.Canon.{from_weaken, unique}
use Rattle.runs.specs.Laws.Runs.{in_step_one, runs_lists}
use Rattle.runs.specs.Intervals.{Interval, interval, Named, Apart, of_run, intervals, Free, piece, subtract, unite, Holds}

ex_subtract : subtract 10 20 (interval 0 5 ∷ interval 8 12 ∷ interval 15 30 ∷ []) ≡ interval 0 5 ∷ interval 8 10 ∷ interval 20 30 ∷ []
unfolding subtract
ex_subtract = refl

ex_unite : unite 10 20 (interval 0 5 ∷ interval 8 10 ∷ interval 20 30 ∷ interval 40 50 ∷ []) ≡ interval 0 5 ∷ interval 8 30 ∷ interval 40 50 ∷ []
unfolding unite
ex_unite = refl

-- ---- bounds

pub named_ge : (m y : ℕ) (L : List Interval) → Apart m L → Named y L → m ≤ y
named_ge m y [] c h = absurd h
named_ge m y (i ∷ L) c (inl h) = omega arith
named_ge m y (i ∷ L) c (inr h) = omega (arith, named_ge (suc i.top) y L c.2 h)

pub apart_weaken : (k m : ℕ) (L : List Interval) → k ≤ m → Apart m L → Apart k L
apart_weaken k m [] l c = tt
apart_weaken k m (i ∷ L) l c = (omega arith, c.1, c.2)

-- ---- a piece

pub piece_apart : (m a b : ℕ) (K : List Interval) → (a < b → (m ≤ a) × Apart (suc b) K) → (b ≤ a → Apart m K) → Apart m (piece a b K)
unfolding piece
piece_apart m a b K f g =
    cond_ind (Apart m) (ltb a b) (λ e. let l : a < b = omega tests in ((f l).0, l, (f l).1)) (λ e. g (omega tests))

pub piece_to : (y a b : ℕ) (K : List Interval) → Named y (piece a b K) → ((a ≤ y) × (y < b)) ⊎ Named y K
unfolding piece
piece_to y a b K h = cond_ind (λ J. Named y J → ((a ≤ y) × (y < b)) ⊎ Named y K) (ltb a b) (λ e k. k) (λ e k. inr k) h

pub piece_of : (y a b : ℕ) (K : List Interval) → ((a ≤ y) × (y < b)) ⊎ Named y K → Named y (piece a b K)
unfolding piece
piece_of y a b K h = cond_ind (λ J. Named y J) (ltb a b) (λ e. h) (λ e. skip e h)
  where
    skip : ltb a b ≡ false → ((a ≤ y) × (y < b)) ⊎ Named y K → Named y K
    skip e (inl k) = absurd (omega tests)
    skip e (inr k) = k

-- ---- subtract

-- y is not one of the numbers from b on and below t
abbrev pub Outside : ℕ → ℕ → ℕ → Type 0
Outside b t y = (y < b) ⊎ (t ≤ y)

module _ (b t : ℕ) (p : b < t) where
  pub subtract_apart : (m : ℕ) (L : List Interval) → Apart m L → Apart m (subtract b t L)
  unfolding subtract
  subtract_apart m [] c = tt
  subtract_apart m (i ∷ L) c =
      piece_apart m i.bottom (min i.top b) (piece (max i.bottom t) i.top (subtract b t L))
      (λ l. (c.0, upper (suc (min i.top b)) (omega arith) (omega arith) (subtract_apart (suc i.top) L c.2)))
      (λ l. upper m (omega arith) (omega arith) (subtract_apart (suc i.top) L c.2))
    where
      upper : (k : ℕ) → k ≤ max i.bottom t → k ≤ suc i.top → Apart (suc i.top) (subtract b t L)
          → Apart k (piece (max i.bottom t) i.top (subtract b t L))
      upper k g h r = piece_apart k (max i.bottom t) i.top (subtract b t L) (λ l. (g, r)) (λ l. apart_weaken k (suc i.top) (subtract b t L) h r)

  pub subtract_to : (y : ℕ) (L : List Interval) → Named y (subtract b t L) → Named y L × Outside b t y
  unfolding subtract
  subtract_to y [] h = absurd h
  subtract_to y (i ∷ L) h = low (subtract_to y L) (piece_to y i.bottom (min i.top b) _ h)
    where
      high : (Named y (subtract b t L) → Named y L × Outside b t y)
          → ((max i.bottom t ≤ y) × (y < i.top)) ⊎ Named y (subtract b t L) → Named y (i ∷ L) × Outside b t y
      high rest (inl k) = (inl (omega arith), inr (omega arith))
      high rest (inr k) = (inr (rest k).0, (rest k).1)

      low : (Named y (subtract b t L) → Named y L × Outside b t y)
          → ((i.bottom ≤ y) × (y < min i.top b)) ⊎ Named y (piece (max i.bottom t) i.top (subtract b t L)) → Named y (i ∷ L) × Outside b t y
      low rest (inl k) = (inl (omega arith), inl (omega arith))
      low rest (inr k) = high rest (piece_to y (max i.bottom t) i.top (subtract b t L) k)

  pub subtract_of : (y : ℕ) (L : List Interval) → Named y L → Outside b t y → Named y (subtract b t L)
  unfolding subtract
  subtract_of y [] h o = absurd h
  subtract_of y (i ∷ L) (inl h) (inl o) = piece_of y i.bottom (min i.top b) _ (inl (omega arith))
  subtract_of y (i ∷ L) (inl h) (inr o) =
      piece_of y i.bottom (min i.top b) _ (inr (piece_of y (max i.bottom t) i.top _ (inl (omega arith))))
  subtract_of y (i ∷ L) (inr h) o =
      piece_of y i.bottom (min i.top b) _ (inr (piece_of y (max i.bottom t) i.top _ (inr (subtract_of y L h o))))

-- ---- unite

pub unite_apart : (b t m : ℕ) (L : List Interval) → b < t → m ≤ b → Apart m L → Apart m (unite b t L)
unfolding unite
unite_apart b t m [] p l c = (l, p, tt)
unite_apart b t m (i ∷ L) p l c =
    cond_ind (Apart m) (ltb i.top b)
    (λ e. (c.0, c.1, unite_apart b t (suc i.top) L p (omega tests) c.2))
    (λ e. cond_ind (Apart m) (ltb t i.bottom)
    (λ f. (l, p, (omega tests, c.1, c.2)))
    (λ f. unite_apart (min b i.bottom) (max t i.top) m L (omega arith) (omega arith) (apart_weaken m (suc i.top) L (omega arith) c.2)))

-- from b on and below t, or in L
abbrev pub Either : ℕ → ℕ → ℕ → List Interval → Type 0
Either y b t L = ((b ≤ y) × (y < t)) ⊎ Named y L

-- two intervals that meet or touch, as one
module _ (y b t : ℕ) (i : Interval) (L : List Interval) (p : b ≤ i.top) (q : i.bottom ≤ t) where
  meet_to : Either y (min b i.bottom) (max t i.top) L → Either y b t (i ∷ L)
  meet_to (inl h) = go (lt_or_ge y i.bottom) (lt_or_ge y i.top)
    where
      go : (y < i.bottom) ⊎ (i.bottom ≤ y) → (y < i.top) ⊎ (i.top ≤ y) → Either y b t (i ∷ L)
      go (inl k) l = inl (omega arith)
      go (inr k) (inl l) = inr (inl (k, l))
      go (inr k) (inr l) = inl (omega arith)
  meet_to (inr h) = inr (inr h)

  meet_of : Either y b t (i ∷ L) → Either y (min b i.bottom) (max t i.top) L
  meet_of (inl h) = inl (omega arith)
  meet_of (inr (inl h)) = inl (omega arith)
  meet_of (inr (inr h)) = inr h

-- i, and what is below it in the list
pass_to : (y b t : ℕ) (i : Interval) (L : List Interval) → ((i.bottom ≤ y) × (y < i.top)) ⊎ Either y b t L → Either y b t (i ∷ L)
pass_to y b t i L (inl h) = inr (inl h)
pass_to y b t i L (inr (inl h)) = inl h
pass_to y b t i L (inr (inr h)) = inr (inr h)

pub unite_to : (y b t : ℕ) (L : List Interval) → Named y (unite b t L) → Either y b t L
unfolding unite
unite_to y b t [] h = h
unite_to y b t (i ∷ L) h =
    cond_ind (λ J. Named y J → Either y b t (i ∷ L)) (ltb i.top b)
    (λ e. later (unite_to y b t L))
    (λ e. cond_ind (λ J. Named y J → Either y b t (i ∷ L)) (ltb t i.bottom) (λ f k. k)
    (λ f k. meet_to y b t i L (omega tests) (omega tests) (unite_to y (min b i.bottom) (max t i.top) L k)))
    h
  where
    later : (Named y (unite b t L) → Either y b t L) → Named y (i ∷ unite b t L) → Either y b t (i ∷ L)
    later rest (inl k) = inr (inl k)
    later rest (inr k) = pass_to y b t i L (inr (rest k))

pub unite_of : (y b t : ℕ) (L : List Interval) → Either y b t L → Named y (unite b t L)
unfolding unite
unite_of y b t [] h = h
unite_of y b t (i ∷ L) h =
    cond_ind (Named y) (ltb i.top b)
    (λ e. later (unite_of y b t L) h)
    (λ e. cond_ind (Named y) (ltb t i.bottom) (λ f. h)
    (λ f. unite_of y (min b i.bottom) (max t i.top) L (meet_of y b t i L (omega tests) (omega tests) h)))
  where
    later : (Either y b t L → Named y (unite b t L)) → Either y b t (i ∷ L) → Named y (i ∷ unite b t L)
    later rest (inl k) = inr (rest (inl k))
    later rest (inr (inl k)) = inl k
    later rest (inr (inr k)) = inr (rest (inr k))

-- ---- containment

module _ (b t : ℕ) (p : b < t) where
  -- i's top is named by nothing of i ∷ L: so where i holds b, and all from b on and below t are named, i holds them all
  holds_here : (m : ℕ) (i : Interval) (L : List Interval) → Apart m (i ∷ L) → ((y : ℕ) → b ≤ y → y < t → Named y (i ∷ L)) → b < i.top → t ≤ i.top
  holds_here m i L c h l = let no : ¬ (i.top < t) = λ g. past (h i.top (omega arith) g) in omega arith
    where
      past : Named i.top (i ∷ L) → ⊥
      past (inl k) = omega arith
      past (inr k) = omega (arith, named_ge (suc i.top) i.top L c.2 k)

  holds_rest : (i : Interval) (L : List Interval) → i.top ≤ b → ((y : ℕ) → b ≤ y → y < t → Named y (i ∷ L)) → (y : ℕ) → b ≤ y → y < t → Named y L
  holds_rest i L g h y k l = tail (h y k l)
    where
      tail : Named y (i ∷ L) → Named y L
      tail (inl w) = absurd (omega arith)
      tail (inr w) = w

  pub holds_to : (m : ℕ) (L : List Interval) → Apart m L → ((y : ℕ) → b ≤ y → y < t → Named y L) → Holds b t L
  holds_to m [] c h = h b (omega arith) p
  holds_to m (i ∷ L) c h = go (λ g. holds_to (suc i.top) L c.2 (holds_rest i L g h)) (h b (omega arith) p)
    where
      go : (i.top ≤ b → Holds b t L) → Named b (i ∷ L) → Holds b t (i ∷ L)
      go rest (inl k) = inl (k.0, holds_here m i L c h k.1)
      go rest (inr k) = inr (rest (omega (arith, named_ge (suc i.top) b L c.2 k)))

  pub holds_of : (L : List Interval) → Holds b t L → (y : ℕ) → b ≤ y → y < t → Named y L
  holds_of [] h y k l = h
  holds_of (i ∷ L) (inl h) y k l = inl (omega arith)
  holds_of (i ∷ L) (inr h) y k l = inr (holds_of L h y k l)

-- ---- intervals and runs in steps of 1

apart_of : (m : ℕ) (R : List Run) → From 1 m R → Apart m (map of_run R)
apart_of m [] c = tt
apart_of m (r ∷ R) c = (c.0, omega arith, apart_of (suc (suc r.last)) R (from_weaken 1 _ _ R (omega arith) c.2))

named_to : (m y : ℕ) (R : List Run) → From 1 m R → Named y (map of_run R) → Mem 1 y R
named_to m y [] c h = h
named_to m y (r ∷ R) c (inl h) = inl ((y - r.first, omega arith), omega arith)
named_to m y (r ∷ R) c (inr h) = inr (named_to (r.last + 2 * 1) y R c.2 h)

named_of : (y : ℕ) (R : List Run) → Mem 1 y R → Named y (map of_run R)
named_of y [] h = h
named_of y (r ∷ R) (inl h) = inl (omega arith)
named_of y (r ∷ R) (inr h) = inr (named_of y R h)

-- canonical intervals are the intervals of canonical runs
as_runs : (m : ℕ) (L : List Interval) → Apart m L → (R : List Run) × (map of_run R ≡ L) × From 1 m R
as_runs m [] c = ([], refl, tt)
as_runs m (i ∷ L) c =
    let (R, e, f) = as_runs (suc i.top) L c.2 in
    let t : suc (pred i.top) ≡ i.top = omega arith in
    let st : Steps 1 i.bottom (pred i.top) = (pred i.top - i.bottom, omega arith) in
    let on : pred i.top + 2 * 1 ≤ suc i.top = omega arith in (
      run i.bottom (pred i.top) ∷ R,
      ap₂ (λ (x : ℕ) (l : List Interval). interval i.bottom x ∷ l) t e,
      (c.0, st, from_weaken 1 _ _ R on f),
    )

-- THEOREM 2 for intervals: two canonical lists of intervals that name the same numbers are one list
pub apart_unique : (L M : List Interval) → Apart 0 L → Apart 0 M → ((y : ℕ) → Named y L ↔ Named y M) → L ≡ M
apart_unique L M c d e = go (as_runs 0 L c) (as_runs 0 M d)
  where
    go : (R : List Run) × (map of_run R ≡ L) × From 1 0 R → (Q : List Run) × (map of_run Q ≡ M) × From 1 0 Q → L ≡ M
    go (R, a, f) (Q, b, g) = sym a ∙ ap (map of_run) (unique 1 R Q (omega arith) f g same) ∙ b
      where
        same : (y : ℕ) → Mem 1 y R ↔ Mem 1 y Q
        same y = (
          λ h. named_to 0 y Q g (rw (← b) at ((e y).0 (rw a at (named_of y R h)))),
          λ h. named_to 0 y R f (rw (← a) at ((e y).1 (rw b at (named_of y Q h)))),
        )

-- THEOREM 1 for intervals: `intervals f n` is canonical and names exactly the y < n with f y
pub intervals_free : (f : ℕ → Bool) (n : ℕ) → Free f n (intervals f n)
unfolding intervals
intervals_free f n =
    let g = runs_lists 1 f (in_step_one f) n in
    record {
      canon = apart_of 0 (runs 1 f n) g.canon;
      named = λ y. (λ h. (g.named y).0 (named_to 0 y (runs 1 f n) g.canon h), λ h. named_of y (runs 1 f n) ((g.named y).1 h));
    }

-- so whatever is canonical and names the y < n with f y is `intervals f n`
pub free_intervals : (f : ℕ → Bool) (n : ℕ) (L : List Interval) → Free f n L → L ≡ intervals f n
free_intervals f n L g =
    let h = intervals_free f n in
    apart_unique L (intervals f n) g.canon h.canon (λ y. (λ k. (h.named y).1 ((g.named y).0 k), λ k. (g.named y).1 ((h.named y).0 k)))

-- ---- the updates, by the tests that they list

pub subtract_free : (f g : ℕ → Bool) (n b t : ℕ) (L : List Interval) → b < t → Free f n L
    → ((y : ℕ) → y < n → (g y ≡ true) ↔ ((f y ≡ true) × Outside b t y)) → Free g n (subtract b t L)
subtract_free f g n b t L p h s = record {
  canon = subtract_apart b t p 0 L h.canon;
  named = λ y. (
    λ k. let (m, o) = subtract_to b t p y L k in let (l, v) = (h.named y).0 m in (l, (s y l).1 (v, o)),
    λ k. let (v, o) = (s y k.0).0 k.1 in subtract_of b t p y L ((h.named y).1 (k.0, v)) o,
  );
}

pub unite_free : (f g : ℕ → Bool) (n b t : ℕ) (L : List Interval) → b < t → t ≤ n → Free f n L
    → ((y : ℕ) → y < n → (g y ≡ true) ↔ (((b ≤ y) × (y < t)) ⊎ (f y ≡ true))) → Free g n (unite b t L)
unite_free f g n b t L p q h s = record {
  canon = unite_apart b t 0 L p (omega arith) h.canon;
  named = λ y. (λ k. to y (unite_to y b t L k), λ k. unite_of y b t L (of y k.0 ((s y k.0).0 k.1)));
}
  where
    to : (y : ℕ) → Either y b t L → (y < n) × (g y ≡ true)
    to y (inl k) = let l : y < n = omega arith in (l, (s y l).1 (inl k))
    to y (inr k) = let (l, v) = (h.named y).0 k in (l, (s y l).1 (inr v))

    of : (y : ℕ) → y < n → ((b ≤ y) × (y < t)) ⊎ (f y ≡ true) → Either y b t L
    of y l (inl k) = inl k
    of y l (inr v) = inr ((h.named y).1 (l, v))

-- one interval of the list holds the numbers from b on and below t just where all of them pass
pub holds_free : (f : ℕ → Bool) (n b t : ℕ) (L : List Interval) → b < t → t ≤ n → Free f n L → Holds b t L ↔ ((y : ℕ) → b ≤ y → y < t → f y ≡ true)
holds_free f n b t L p q h = (
  λ k y i j. ((h.named y).0 (holds_of b t p L k y i j)).1,
  λ k. holds_to b t p 0 L h.canon (λ y i j. (h.named y).1 (omega arith, k y i j)),
)
