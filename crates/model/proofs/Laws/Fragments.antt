-- MODEL 22: touching goes both ways, the free cells are those of the book, each once, `connected_sets` counts the sets into which touching joins them,
-- and the degree is 0 to 10,000.
-- Assumes nothing.
use Rattle.std.specs.Prelude.{ℕ, zero, suc, ◌-◌, ◌*◌, ◌≤◌, ◌<◌, ◌≡◌, refl, ◌⊎◌, ◌↔◌, true, ◌&&◌, List, map, ltb, leb, eqb, length}
use Rattle.std.proofs.Math.Path.{sym, ap}
use Rattle.std.proofs.Common.{◌∙◌, zero-mul, arith}
use Rattle.std.proofs.Math.Logic.{inl, inr, ⊎_elim, ⊎_swap}
use Rattle.std.proofs.Math.Nat.{zero-div, mul-div_left, div-le_of_le-mul}
use borrow.Author.Tests.{eq-eqb, eqb-true, lt-ltb, ltb-true, lt-leb}
use Rattle.runs.specs.Laws.Tests.{cond_ind, lt_or_ge}
use Rattle.sets.specs.Graph.{Distinct, Joined, Represents, classes, Touching}
use Rattle.sets.specs.Laws.Lists.{in_map_to, in_map_of, distinct_map}
use Rattle.sets.specs.Laws.Classes.{class_joined, sets_number, sets_exist, sets_few}
use Rattle.model.specs.Limits.{whole_degree}
use Rattle.model.specs.Bounded.{In, those_below}
use Rattle.model.specs.Columns.{Device, columns, cells}
use Rattle.model.specs.Book.{Book, cell_free}
use Rattle.model.specs.Fragments.{Cell, cell, bottom_of, top_of, adjacent, neighbours, across, touch, heights, free_cells, connected_sets, degree}
use Rattle.model.proofs.Laws.Bounded.{and_to, and_of, or_to, or_of}
use Rattle.model.proofs.Laws.Members.{in_join_to, in_join_of, distinct_join, those_to, those_of, those_distinct}

-- ---- touching, for any heights

abbrev pub Adjacent : ℕ → ℕ → Type 0
Adjacent m n = (suc m ≡ n) ⊎ (suc n ≡ m)

abbrev pub Neighbours : Cell → Cell → Type 0
Neighbours x y = (x.column ≡ y.column) × Adjacent x.number y.number

-- a half row in common
abbrev pub Overlap : (ℕ → ℕ) → Cell → Cell → Type 0
Overlap h x y = (bottom_of h x < top_of h y) × (bottom_of h y < top_of h x)

abbrev pub Across : (ℕ → ℕ) → Cell → Cell → Type 0
Across h x y = Adjacent x.column y.column × Overlap h x y

-- a cell whose top is above something has a half row
full : (h k z : ℕ) → z < h * suc k → h * k < h * suc k
full zero k z l = absurd (omega (arith, zero-mul (suc k)))
full (suc h) k z l = omega arith

-- MODEL 22.1: some half row lies in both cells exactly where each begins below the other's top
pub overlap_shared : (h : ℕ → ℕ) (x y : Cell)
    → Overlap h x y ↔ ((z : ℕ) × (bottom_of h x ≤ z) × (z < top_of h x) × (bottom_of h y ≤ z) × (z < top_of h y))
overlap_shared h x y = (
  λ (u, v).
      ⊎_elim (λ l. (bottom_of h y, omega arith, v, omega arith, full (h y.column) y.number (bottom_of h x) u))
      (λ l. (bottom_of h x, omega arith, full (h x.column) x.number (bottom_of h y) v, l, u))
      (lt_or_ge (bottom_of h x) (bottom_of h y)),
  λ (z, a, b, c, e). (omega arith, omega arith),
)

adjacent_to : (m n : ℕ) → adjacent m n ≡ true → Adjacent m n
adjacent_to m n e = ⊎_elim (λ p. inl (eqb-true (suc m) n p)) (λ p. inr (eqb-true (suc n) m p)) (or_to (eqb (suc m) n) (eqb (suc n) m) e)

adjacent_of : (m n : ℕ) → Adjacent m n → adjacent m n ≡ true
adjacent_of m n a = or_of (eqb (suc m) n) (eqb (suc n) m) (⊎_elim (λ p. inl (eq-eqb (suc m) n p)) (λ p. inr (eq-eqb (suc n) m p)) a)

module _ (h : ℕ → ℕ) (x y : Cell) where
  pub touch_to : touch h x y ≡ true → Neighbours x y ⊎ Across h x y
  unfolding touch neighbours across
  touch_to t = ⊎_elim (λ n. inl (near (and_to _ _ n))) (λ a. inr (far (and_to _ _ a))) (or_to _ _ t)
    where
      near : (eqb x.column y.column ≡ true) × (adjacent x.number y.number ≡ true) → Neighbours x y
      near n = (eqb-true x.column y.column n.0, adjacent_to x.number y.number n.1)

      far : (adjacent x.column y.column ≡ true) × ((ltb (bottom_of h x) (top_of h y) && ltb (bottom_of h y) (top_of h x)) ≡ true) → Across h x y
      far a = let (u, v) = and_to _ _ a.1 in (adjacent_to x.column y.column a.0, (ltb-true _ _ u, ltb-true _ _ v))

  pub touch_of : Neighbours x y ⊎ Across h x y → touch h x y ≡ true
  unfolding touch neighbours across
  touch_of (inl n) = or_of _ _ (inl (and_of _ _ (eq-eqb _ _ n.0) (adjacent_of x.number y.number n.1)))
  touch_of (inr a) =
      or_of (neighbours x y) _
      (inr (and_of _ _ (adjacent_of x.column y.column a.0) (and_of _ _ (lt-ltb _ _ a.1.0) (lt-ltb _ _ a.1.1))))

-- MODEL 22.1: touching goes both ways
pub touch_both : (h : ℕ → ℕ) (x y : Cell) → touch h x y ≡ true → touch h y x ≡ true
touch_both h x y t =
    touch_of h y x
    (⊎_elim (λ n. inl (sym n.0, ⊎_swap n.1))
    (λ a. inr (⊎_swap a.0, (a.1.1, a.1.0)))
    (touch_to h x y t))

-- ---- the free cells

module _ (d : Device) (b : Book) where
  -- those of column c
  abbrev pub column_cells : ℕ → List Cell
  column_cells c = map (cell c) (those_below (cells d c) (cell_free d b c))

  column_to : (c : ℕ) (x : Cell) → In x (column_cells c) → (x.column ≡ c) × (cell_free d b c x.number ≡ true)
  column_to c x m =
      let (k, i, e) = in_map_to (cell c) (those_below (cells d c) (cell_free d b c)) x m in
      rw e (refl, (those_to (cell_free d b c) (cells d c) k i).1)

  -- a free cell is one of the device
  pub free_on : (c k : ℕ) → cell_free d b c k ≡ true → (c < columns d) × (k < cells d c)
  unfolding cell_free
  free_on c k t =
      let (u, v) = and_to _ _ (and_to _ _ t).0 in
      (ltb-true c (columns d) u, ltb-true k (cells d c) v)

  -- MODEL 22.2: the cells that the book has free ..
  pub free_cells_are : (x : Cell) → In x (free_cells d b) ↔ (cell_free d b x.column x.number ≡ true)
  unfolding free_cells
  free_cells_are x = (
    λ m. let (c, l, i) = in_join_to (columns d) column_cells x m in let (e, t) = column_to c x i in rw e t,
    λ t.
        let (l, k) = free_on x.column x.number t in
        in_join_of (columns d) column_cells x x.column l
        (in_map_of (cell x.column) (those_below (cells d x.column) (cell_free d b x.column)) x.number
        (those_of (cell_free d b x.column) (cells d x.column) x.number k t)),
  )

  -- .. each once
  pub free_cells_distinct : Distinct (free_cells d b)
  unfolding free_cells
  free_cells_distinct =
      distinct_join (columns d) column_cells
      (λ c. distinct_map (cell c) (λ k l e. ap (λ (z : Cell). z.number) e) (those_below (cells d c) (cell_free d b c)) (those_distinct (cell_free d b c) (cells d c)))
      (λ c e x m k. sym (column_to c x m).0 ∙ (column_to e x k).0)

  -- ---- connected sets

  -- MODEL 22.3: x and y are free cells that touch
  abbrev pub FreeTouching : Cell → Cell → Type 0
  FreeTouching = Touching (touch (heights d)) (free_cells d b)

  -- THEOREM (MODEL 22.3): two free cells are in one of the sets that are counted exactly where a list of free cells, each touching the next, leads
  -- from one to the other
  pub cells_joined : (x y : Cell) → In x (free_cells d b)
      → ((K : List Cell) × In K (classes (touch (heights d)) (free_cells d b)) × In x K × In y K) ↔ Joined FreeTouching x y
  cells_joined = class_joined (touch (heights d)) (touch_both (heights d)) (free_cells d b) free_cells_distinct

  -- THEOREM (MODEL 22.3): the number of connected sets is the length of every list that has one free cell of each set, and there is such a list
  pub connected_sets_number : (K : List Cell) → Represents (λ x. In x (free_cells d b)) (Joined FreeTouching) K → connected_sets d b ≡ length K
  unfolding connected_sets
  connected_sets_number = sets_number (touch (heights d)) (touch_both (heights d)) (free_cells d b) free_cells_distinct

  pub connected_sets_exist : (K : List Cell) × (length K ≡ connected_sets d b) × Represents (λ x. In x (free_cells d b)) (Joined FreeTouching) K
  unfolding connected_sets
  connected_sets_exist = sets_exist (touch (heights d)) (touch_both (heights d)) (free_cells d b) free_cells_distinct

  -- ---- the degree

  pub connected_sets_few : connected_sets d b ≤ length (free_cells d b)
  unfolding connected_sets
  connected_sets_few = sets_few (touch (heights d)) (touch_both (heights d)) (free_cells d b)

-- MODEL 22.4: one set has degree 0, sets of one cell each have the whole, and there is no more
pub degree_least : (f : ℕ) → degree 1 f ≡ 0
unfolding degree
degree_least f = cond_ind (λ n. n ≡ 0) (leb f 1) (λ e. refl) (λ e. zero-div (f - 1))

pub degree_whole : (f : ℕ) → 1 < f → degree f f ≡ whole_degree
unfolding degree
degree_whole f l = rw (lt-leb f 1 l) (mul-div_left whole_degree (omega arith))

pub degree_most : (n f : ℕ) → n ≤ f → degree n f ≤ whole_degree
unfolding degree
degree_most n f l =
    cond_ind (λ m. m ≤ whole_degree) (leb f 1) (λ e. omega arith)
    (λ e. div-le_of_le-mul (f - 1) (omega arith))

-- THEOREM (MODEL 22.4): so the degree of a card is at most the whole
pub card_degree : (d : Device) (b : Book) → degree (connected_sets d b) (length (free_cells d b)) ≤ whole_degree
card_degree d b = degree_most (connected_sets d b) (length (free_cells d b)) (connected_sets_few d b)
