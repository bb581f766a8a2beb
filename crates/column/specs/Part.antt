-- MODEL 8.3, 12.4 and 12.5: a column's part of the record, the intervals that it lists, what `cut` and `join` make of it, and the interval that holds
-- a block. Assumes nothing.
use Rattle.std.specs.Prelude.{ℕ, zero, suc, ◌+◌, ◌*◌, ◌≤◌, ◌<◌, min, max, ◌≡◌, cond, ◌&&◌, List, [], ◌∷◌, ◌++◌, leb, ltb, length, Option, Some, None}
use Rattle.runs.specs.Intervals.{Interval, interval, Apart, unite}
use Rattle.model.specs.Limits.{max_intervals, column_size, interval_size, words}
use Rattle.model.specs.Tasks.{word}
use Rattle.model.specs.Record.{column_part}
use Rattle.column.specs.declared.Interval.{Interval as Read}

-- ---- reading

-- MODEL 8.3: interval i of the part p, its bottom and its top
unfoldable pub interval_at : List ℕ → ℕ → Interval
interval_at p i = interval (word p (interval_size * i)) (word p (interval_size * i + 2))

-- the n intervals of p from interval i on, and its first n
abbrev pub listed_from : List ℕ → ℕ → ℕ → List Interval
listed_from p i zero = []
listed_from p i (suc n) = interval_at p i ∷ listed_from p (suc i) n

unfoldable pub listed_in : List ℕ → ℕ → List Interval
listed_in p n = listed_from p 0 n

-- an interval as the code has it
pub record ReadAt (p : List ℕ) (i : ℕ) (r : Read) : Type 0 where
  pub is : interval r.bottom r.top ≡ interval_at p i
  pub bottom_small : r.bottom < words
  pub top_small : r.top < words

-- p is a part with n intervals
pub record Part (p : List ℕ) (n : ℕ) : Type 0 where
  pub size : length p ≡ column_size
  pub few : n ≤ max_intervals

-- ---- what `cut` (MODEL 12.4) and `join` (MODEL 12.5) do: f is what becomes of the list of intervals

-- and there is room for what it becomes
pub record Room (f : List Interval → List Interval) (p : List ℕ) (n : ℕ) : Type 0 where
  pub is_part : Part p n
  pub room : length (f (listed_in p n)) ≤ max_intervals

-- the part q, with r intervals, is what becomes of the part p with n
pub record Changed (f : List Interval → List Interval) (p : List ℕ) (n : ℕ) (q : List ℕ) (r : ℕ) : Type 0 where
  pub bytes_are : q ≡ column_part (f (listed_in p n))
  pub count_is : r ≡ length (f (listed_in p n))

-- b..t can be joined to the intervals of p: they are canonical, and the bounds are two-byte numbers
pub record Joinable (b t : ℕ) (p : List ℕ) (n : ℕ) : Type 0 where
  pub has_room : Room (unite b t) p n
  pub canon : Apart 0 (listed_in p n)
  pub bottom_small : b < words
  pub top_small : t < words

-- ---- writing

-- the bounds of an interval are two-byte numbers
pub record Short (x : Read) : Type 0 where
  pub bottom : x.bottom < words
  pub top : x.top < words

-- the part o holds the n intervals K
pub record Holding (o : List ℕ) (n : ℕ) (K : List Interval) : Type 0 where
  pub bytes_are : o ≡ column_part K
  pub count_is : n ≡ length K

-- the intervals E were written behind those that were there
pub record Wrote (o : List ℕ) (n : ℕ) (E : List Interval) (q : List ℕ) (r : ℕ) : Type 0 where
  pub wrote : (K : List Interval) → Holding o n K → Holding q r (K ++ E)

-- ---- joining, one interval after the other: b..t is carried on, and meets the next interval i

-- what is written
unfoldable pub sent : ℕ → ℕ → Interval → List Interval
sent b t i = cond (ltb i.top b) (i ∷ []) (cond (ltb t i.bottom) (interval b t ∷ []) [])

-- what is carried on
unfoldable pub carried : ℕ → ℕ → Interval → Interval
carried b t i = cond (ltb i.top b) (interval b t) (cond (ltb t i.bottom) i (interval (min b i.bottom) (max t i.top)))

-- all that is written for the intervals L
unfoldable pub merged : ℕ → ℕ → List Interval → List Interval
merged b t [] = interval b t ∷ []
merged b t (i ∷ L) = sent b t i ++ merged (carried b t i).bottom (carried b t i).top L

-- one step of a join: c is carried on, and x is the next interval
pub record Absorbed (o : List ℕ) (n : ℕ) (c x : Read) (q : List ℕ) (m : ℕ) (r : Read) : Type 0 where
  pub wrote : Wrote o n (sent c.bottom c.top (interval x.bottom x.top)) q m
  pub carries : interval r.bottom r.top ≡ carried c.bottom c.top (interval x.bottom x.top)
  pub short : Short r

-- ---- the search

-- MODEL 11.1: the interval of a list in which all half rows from b up to t lie, the first if there are several
unfoldable pub held_in : ℕ → ℕ → List Interval → Option Read
held_in b t [] = None
held_in b t (i ∷ L) = let later = held_in b t L in cond (leb i.bottom b && leb t i.top) (Some (record { bottom = i.bottom; top = i.top })) later

-- the number of the first interval of a list, from number `from` on, that ends at t or above it; the length of the list if there is none
unfoldable pub first_reaching : ℕ → ℕ → List Interval → ℕ
first_reaching from t [] = 0
first_reaching zero t (i ∷ L) = let later = first_reaching 0 t L in cond (leb t i.top) 0 (suc later)
first_reaching (suc n) t (i ∷ L) = suc (first_reaching n t L)
