-- What a canonical list of runs names: its bounds, that it is the only one that names the same, and how many runs it has. Assumes nothing.
use Rattle.std.specs.Prelude.{◌≡◌, refl, ◌↔◌, List, [], ◌∷◌, ℕ, suc, ◌+◌, ◌-◌, ◌*◌, ◌≤◌, ◌<◌, length}
use Rattle.std.proofs.Common.{sym, ap₂, inl, inr, arith}
use Rattle.runs.specs.Runs.{Run, run, Steps, In, Mem, From, Canon}
use Rattle.runs.specs.Laws.Steps.{steps_sub}

-- ---- bounds

-- all that it names is at its bound or above
pub mem_ge : (s m y : ℕ) (L : List Run) → From s m L → Mem s y L → m ≤ y
mem_ge s m y [] c h = absurd h
mem_ge s m y (r ∷ L) c (inl h) = omega arith
mem_ge s m y (r ∷ L) c (inr h) = omega (arith, mem_ge s (r.last + 2 * s) y L c.2 h)

-- its first run's ends are named
pub first_in : (s m : ℕ) (r : Run) (L : List Run) → From s m (r ∷ L) → In s r.first r
first_in s m r L c = ((0, omega arith), omega arith)

pub last_in : (s m : ℕ) (r : Run) (L : List Run) → From s m (r ∷ L) → In s r.last r
last_in s m r L c = (c.1, omega arith)

pub from_weaken : (s k m : ℕ) (L : List Run) → k ≤ m → From s m L → From s k L
from_weaken s k m [] l c = tt
from_weaken s k m (r ∷ L) l c = (omega arith, c.1, c.2)

-- from the least number that it names on
pub from_least : (s m k : ℕ) (L : List Run) → From s k L → ((y : ℕ) → Mem s y L → m ≤ y) → From s m L
from_least s m k [] c h = tt
from_least s m k (r ∷ L) c h = (h r.first (inl ((0, omega arith), omega arith)), c.1, c.2)

-- ---- uniqueness

module _ (s m n : ℕ) (q r : Run) (L M : List Run) (p : 1 ≤ s) (c : From s m (q ∷ L)) (d : From s n (r ∷ M)) where
  first_le : ((y : ℕ) → Mem s y (q ∷ L) → Mem s y (r ∷ M)) → r.first ≤ q.first
  first_le e = mem_ge s r.first q.first (r ∷ M) (omega arith, d.1, d.2) (e q.first (inl (first_in s m q L c)))

  -- one step above q's last is not named by q ∷ L, and would be named by r if r went on
  last_le : q.first ≡ r.first → ((y : ℕ) → Mem s y (r ∷ M) → Mem s y (q ∷ L)) → r.last ≤ q.last
  last_le a e = omega (arith, no)
    where
      out : Mem s (q.last + s) (q ∷ L) → ⊥
      out (inl h) = omega arith
      out (inr h) = omega (arith, mem_ge s (q.last + 2 * s) (q.last + s) L c.2 h)

      no : ¬ (q.last < r.last)
      no h =
          let on : Steps s (q.last + s) r.last = steps_sub s q.first q.last r.last c.1 (d.1.0, omega arith) h in
          out (e (q.last + s) (inl ((suc c.1.0, omega arith), omega arith)))

  rest_sub : q.last ≡ r.last → ((y : ℕ) → Mem s y (q ∷ L) → Mem s y (r ∷ M)) → (y : ℕ) → Mem s y L → Mem s y M
  rest_sub a e y h = go (e y (inr h))
    where
      go : Mem s y (r ∷ M) → Mem s y M
      go (inl k) = absurd (omega (arith, mem_ge s (q.last + 2 * s) y L c.2 h))
      go (inr k) = k

-- two canonical lists that name the same numbers are one list
pub unique_from : (s m n : ℕ) (L M : List Run) → 1 ≤ s → From s m L → From s n M → ((y : ℕ) → Mem s y L ↔ Mem s y M) → L ≡ M
unique_from s m n [] [] p c d e = refl
unique_from s m n [] (r ∷ M) p c d e = absurd ((e r.first).1 (inl (first_in s n r M d)))
unique_from s m n (q ∷ L) [] p c d e = absurd ((e q.first).0 (inl (first_in s m q L c)))
unique_from s m n (q ∷ L) (r ∷ M) p c d e =
    let to : (y : ℕ) → Mem s y (q ∷ L) → Mem s y (r ∷ M) = λ y. (e y).0 in
    let of : (y : ℕ) → Mem s y (r ∷ M) → Mem s y (q ∷ L) = λ y. (e y).1 in
    let a : q.first ≡ r.first = omega (arith, first_le s m n q r L M p c d to, first_le s n m r q M L p d c of) in
    let b : q.last ≡ r.last = omega (arith, last_le s m n q r L M p c d a of, last_le s n m r q M L p d c (sym a) to) in
    ap₂ (λ (x : Run) (l : List Run). x ∷ l) (ap₂ run a b)
    (unique_from s (q.last + 2 * s) (r.last + 2 * s) L M p c.2 d.2
    (λ y. (rest_sub s m n q r L M p c d b to y, rest_sub s n m r q M L p d c (sym b) of y)))

pub unique : (s : ℕ) (L M : List Run) → 1 ≤ s → Canon s L → Canon s M → ((y : ℕ) → Mem s y L ↔ Mem s y M) → L ≡ M
unique s L M = unique_from s 0 0 L M

-- ---- how many

count_from : (s m n : ℕ) (r : Run) (L : List Run) → From s m (r ∷ L) → ((y : ℕ) → Mem s y (r ∷ L) → y < n) → 2 * s * length L + r.first < n
count_from s m n r [] c b = omega (arith, b r.first (inl (first_in s m r [] c)))
count_from s m n r (q ∷ L) c b = omega (arith, count_from s (r.last + 2 * s) n q L c.2 (λ y h. b y (inr h)))

-- THEOREM 3: a canonical list below n has at most (n + 2 * s - 1) / (2 * s) runs
pub count : (s n : ℕ) (L : List Run) → Canon s L → ((y : ℕ) → Mem s y L → y < n) → 2 * s * length L ≤ n + 2 * s - 1
count s n [] c b = omega arith
count s n (r ∷ L) c b = omega (arith, count_from s 0 n r L c b)

-- the same from m on
pub count_above : (s m n : ℕ) (L : List Run) → 1 ≤ s → m ≤ n → From s m L → ((y : ℕ) → Mem s y L → y < n) → 2 * s * length L + m < n + 2 * s
count_above s m n [] p l c b = omega arith
count_above s m n (r ∷ L) p l c b = omega (arith, count_from s m n r L c b)
