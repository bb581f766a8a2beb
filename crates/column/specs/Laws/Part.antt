-- MODEL 8.3: a part that holds a list of intervals, what it lists, and what `cut` and `join` ask of it and leave. Assumes nothing.
use Rattle.std.proofs.Common.{ℕ, zero, suc, ◌+◌, ◌-◌, ◌≤◌, ◌<◌, ◌≡◌, refl, Bool, List, [], ◌∷◌, length, get_or, ap, ap₂, ◌∙◌, inl, inr, arith, zero-add}
use Rattle.runs.specs.Intervals.{Interval, interval, Named, Apart, Free, unite}
use Rattle.model.specs.Limits.{max_intervals, words}
use Rattle.model.specs.Record.{column_part}
use Rattle.model.proofs.Laws.Record.{length_column}
use Rattle.model.proofs.Laws.ColumnPart.{interval_bottom, interval_top}
use Rattle.column.specs.Part.{interval_at, listed_from, listed_in, Part, Room, Joinable}

-- ---- small bounds

-- the bounds are two-byte numbers
abbrev pub Small : List Interval → Type 0
Small [] = Unit {0}
Small (i ∷ L) = (i.bottom < words) × (i.top < words) × Small L

small_at : (is : List Interval) (i : ℕ) (d : Interval) → Small is → i < length is → ((get_or is i d).bottom < words) × ((get_or is i d).top < words)
small_at [] i d s q = absurd (omega arith)
small_at (x ∷ is) zero d s q = (s.0, s.1)
small_at (x ∷ is) (suc i) d s q = small_at is i d s.2 (omega arith)

below_small : (m n : ℕ) (L : List Interval) → n < words → Apart m L → ((y : ℕ) → Named y L → y < n) → Small L
below_small m n [] l c u = tt
below_small m n (i ∷ L) l c u =
    let h : i.top - 1 < n = u (i.top - 1) (inl (omega arith)) in
    (omega arith, omega arith, below_small (suc i.top) n L l c.2 (λ y k. u y (inr k)))

-- the free intervals of a column are small
pub free_small : (f : ℕ → Bool) (n : ℕ) (L : List Interval) → n < words → Free f n L → Small L
free_small f n L l c = below_small 0 n L l c.canon (λ y k. ((c.named y).0 k).0)

-- ---- a part that holds a list

-- p is the part of the list `is`, and n its length
pub record Encodes (p : List ℕ) (n : ℕ) (is : List Interval) : Type 0 where
  pub bytes_are : p ≡ column_part is
  pub count_is : n ≡ length is
  pub few : length is ≤ max_intervals
  pub small : Small is

-- what a part lists, by what stands at each place
pub listed_is : (p : List ℕ) (is : List Interval) (d : Interval) (i : ℕ) → ((j : ℕ) → j < length is → interval_at p (i + j) ≡ get_or is j d) → listed_from p i (length is) ≡ is
listed_is p [] d i h = refl
listed_is p (x ∷ is) d i h =
    let e : i + 0 ≡ i = omega arith in
    ap₂ (λ (y : Interval) (l : List Interval). y ∷ l) (rw e at (h 0 (omega arith)))
    (listed_is p is d (suc i) (λ j q. let f : i + suc j ≡ suc i + j = omega arith in rw f at (h (suc j) (omega arith))))

-- the intervals that the part of a list lists are that list
pub encodes : {p : List ℕ} {n : ℕ} {is : List Interval} → Encodes p n is → listed_in p n ≡ is
unfolding listed_in interval_at
encodes {is = is} e =
    let none = interval 0 0 in
    rw (e.bytes_are, e.count_is)
    (listed_is (column_part is) is none 0 (λ j q. let s = small_at is j none e.small q in
    rw zero-add (ap₂ interval (interval_bottom is j none q e.few s.0) (interval_top is j none q e.few s.1))))

module _ {p : List ℕ} {n : ℕ} {is : List Interval} (e : Encodes p n is) where
  pub part_of : Part p n
  part_of = record { size = ap length e.bytes_are ∙ length_column is; few = omega (arith, e.few, e.count_is) }

  pub room_of : (f : List Interval → List Interval) → length (f is) ≤ max_intervals → Room f p n
  room_of f h = record { is_part = part_of; room = rw (encodes e) h }

  pub joinable_of : (b t : ℕ) → Apart 0 is → b < words → t < words → length (unite b t is) ≤ max_intervals → Joinable b t p n
  joinable_of b t c l m h = record { has_room = room_of (unite b t) h; canon = rw (encodes e) c; bottom_small = l; top_small = m }
