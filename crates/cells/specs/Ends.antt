-- Where free and not free change in a column: the ends of its maximal free runs, as the set bits of words and as a column's part. Assumes nothing.
use Rattle.std.specs.Prelude.{ℕ, zero, suc, ◌+◌, ◌*◌, ◌/◌, ◌%◌, ◌≤◌, ◌<◌, ◌≡◌, Bool, true, false, not, ◌&&◌, Option, MatchOption, List, [], ◌∷◌, ◌++◌, map, ltb, length}
use Rattle.model.specs.Limits.{max_intervals, column_size, words}
use Rattle.runs.specs.Intervals.{Interval, intervals as maximal_runs}
use Rattle.model.specs.Tasks.{word}
use Rattle.model.specs.Record.{padded, column_part}
use Rattle.model.proofs.Laws.Cells.{scaled}
use Rattle.cells.specs.Bits.{most_words, word_bits, is_set, cell_bit}

-- ---- the numbers that pass a test

-- k in front of L, where the test passes
abbrev pub put : Bool → ℕ → List ℕ → List ℕ
put true k L = k ∷ L
put false k L = L

-- those of the n numbers from a on that pass g, rising
unfoldable pub hits : (ℕ → Bool) → ℕ → ℕ → List ℕ
hits g a zero = []
hits g a (suc n) = put (g a) a (hits g (suc a) n)

-- the set digits among the n lowest of x, each with a added
unfoldable pub spots : ℕ → ℕ → ℕ → List ℕ
spots a zero x = []
spots a (suc n) x = put (is_set (x % 2)) a (spots (suc a) n (x / 2))

-- ---- changes of a test

-- the test one below k; nothing is below 0
abbrev pub one_below : (ℕ → Bool) → ℕ → Bool
one_below f zero = false
one_below f (suc k) = f k

-- whether two tests differ
abbrev pub differs : Bool → Bool → Bool
differs true b = not b
differs false b = b

-- whether a test changes at k: it is another there than one below
abbrev pub change : (ℕ → Bool) → ℕ → Bool
change f k = differs (f k) (one_below f k)

-- the ends of the intervals L: bottom, top, bottom, top, ..
abbrev pub ends : List Interval → List ℕ
ends [] = []
ends (i ∷ L) = i.bottom ∷ i.top ∷ ends L

-- ---- free cells

-- cell k is not held
unfoldable pub is_free : List ℕ → ℕ → Bool
is_free ws k = not (cell_bit ws k)

-- cell k is one of the n cells, and not held
unfoldable pub free_below : List ℕ → ℕ → ℕ → Bool
free_below ws n k = ltb k n && is_free ws k

-- the free intervals of a column of n cells of height h
unfoldable pub bit_intervals : List ℕ → ℕ → ℕ → List Interval
bit_intervals ws n h = map (scaled h) (maximal_runs (is_free ws) n)

-- ---- the numbers of a part

-- the two-byte numbers L
abbrev pub coded : List ℕ → List ℕ
coded [] = []
coded (k ∷ L) = k % 256 ∷ k / 256 % 256 ∷ coded L

-- each, times h, is a two-byte number
abbrev pub SmallEnds : ℕ → List ℕ → Type 0
SmallEnds h [] = Unit {0}
SmallEnds h (k ∷ L) = (h * k < words) × SmallEnds h L

-- a column's part with the numbers L, times h, and then zeros
unfoldable pub numbered : ℕ → List ℕ → List ℕ
numbered h L = padded column_size (coded (map (λ k. h * k) L))

-- L, times h, are the next numbers of the part p, from number i on; what follows them is not said
abbrev pub Agree : ℕ → List ℕ → ℕ → List ℕ → Type 0
Agree h p i [] = Unit {0}
Agree h p i (k ∷ L) = (word p (2 * i) ≡ h * k) × Agree h p (suc i) L

-- there is room in the part p for the numbers L from number i on, and each, times h, is a two-byte number
pub record HasRoom (h : ℕ) (p : List ℕ) (i : ℕ) (L : List ℕ) : Type 0 where
  pub size : length p ≡ column_size
  pub few : i + length L ≤ 2 * max_intervals
  pub small : SmallEnds h L

-- they were compared with those of p: r is none where one of them is not what p has there, and else the number of the next
abbrev pub Compared : ℕ → List ℕ → ℕ → List ℕ → Option ℕ → Type 0
Compared h p i L r = MatchOption r (Agree h p i L → ⊥) (λ n. Agree h p i L × (n ≡ i + length L))

-- they were written there, behind the numbers K that p had, and r is the number of the next
pub record EndsWritten (h : ℕ) (p : List ℕ) (i : ℕ) (L : List ℕ) (q : List ℕ) (r : ℕ) : Type 0 where
  pub count : r ≡ i + length L
  pub wrote : (K : List ℕ) → p ≡ numbered h K → i ≡ length K → q ≡ numbered h (K ++ L)

-- the part p and the count n are those of the intervals L
pub record PartIs (p : List ℕ) (n : ℕ) (L : List Interval) : Type 0 where
  pub bytes_are : p ≡ column_part L
  pub count_is : n ≡ length L

-- a column whose intervals a part has room for: there are few enough cells, the words hold them, and h times their number, so each end, is a two-byte
-- number
pub record Listable (ws : List ℕ) (n h : ℕ) : Type 0 where
  pub few : n ≤ 2 * max_intervals
  pub room : n ≤ word_bits * length ws
  pub short : length ws ≤ most_words
  pub small : h * n < words
