-- MODEL 10.5 and 12.6: a listing names each fitting position once, by column and then by bottom, and the output has space for it. Assumes nothing.
use Prim.Native.Nat.{ℕ, zero, suc, ◌+◌, ◌-◌, ◌*◌, ◌/◌, ◌≤◌, ◌<◌}
use Rattle.std.specs.Prelude.{◌≡◌, ◌↔◌, Bool, eqb, length}
use Rattle.std.proofs.Math.Path.{refl, ap}
use Rattle.std.proofs.Common.{sym, ap₂, ◌∙◌, mul-le-mul_left, length-append}
use Rattle.std.proofs.Math.Bool.{true, false, cond}
use mathlib.Core.List.{List, [], ◌∷◌, ◌++◌, map, append_assoc, append-nil}
use Rattle.std.proofs.Math.Nat.{zero-div, div-eq_of_eq-mul_left}
use native.Mathlib.Omega.{arith}
use Rattle.std.proofs.lemmas.List.{length-map}
use Rattle.runs.specs.Laws.Tests.{tests, cond_ind}
use Rattle.runs.specs.Runs.{Run, run, Steps, From, push, runs}
use Rattle.runs.specs.Laws.Runs.{InStep, runs_lists, runs_count}
use Rattle.model.specs.Limits.{max_rows, max_intervals, list_room, range_size}
use Rattle.model.specs.Bounded.{join_below, list_below, those_below, join_in, In}
use Rattle.model.specs.Columns.{Device, columns, half_rows}
use Rattle.model.specs.Tasks.{step, sized}
use Rattle.model.specs.Book.{Book, fits}
use Rattle.model.specs.Listing.{range_of, ranges, Position, position, named, fitting}
use Rattle.model.specs.Sound.{within}
use Rattle.sets.specs.Laws.Lists.{in_map_to, in_map_of}
use Rattle.model.proofs.Laws.Bounded.{map_append}
use Rattle.model.proofs.Laws.Members.{in_join_to, in_join_of, those_to, those_of}
use Rattle.model.proofs.Laws.Parts.{join_cong}
use Rattle.model.proofs.Laws.Tasks.{sized_to}
use Rattle.model.proofs.Laws.Steps.{step_bounds, fits_steps}
use Rattle.model.proofs.Laws.Limits.{limits_to}

-- ---- lists that are joined

module _ {A B : Type 0} where
  pub join_append : (f : A → List B) (K L : List A) → join_in f (K ++ L) ≡ join_in f K ++ join_in f L
  unfolding join_in
  join_append f [] L = refl
  join_append f (x ∷ K) L = rw (join_append f K L) (sym (append_assoc (f x) (join_in f K) (join_in f L)))

  pub join_join : (f : A → List B) (g : ℕ → List A) (n : ℕ) → join_in f (join_below n g) ≡ join_below n (λ i. join_in f (g i))
  unfolding join_in join_below
  join_join f g zero = refl
  join_join f g (suc n) = join_append f (join_below n g) (g n) ∙ ap (λ (l : List B). l ++ join_in f (g n)) (join_join f g n)

  pub map_list : (f : A → B) (g : ℕ → A) (n : ℕ) → map f (list_below n g) ≡ list_below n (λ i. f (g i))
  unfolding join_below
  map_list f g zero = refl
  map_list f g (suc n) = map_append f (list_below n g) (g n ∷ []) ∙ ap (λ (l : List B). l ++ (f (g n) ∷ [])) (map_list f g n)

pub join_length : {A : Type 0} (m n : ℕ) (f : ℕ → List A) → ((i : ℕ) → length (f i) ≤ m) → length (join_below n f) ≤ m * n
unfolding join_below
join_length m zero f h = omega arith
join_length m (suc n) f h = rw (length-append (join_below n f) (f n)) (omega (arith, join_length m n f h, h n))

-- ---- the numbers that runs name, for any step

-- those of one run: from its first to its last, one step apart
unfoldable pub numbers : ℕ → Run → List ℕ
numbers s r = list_below (suc ((r.last - r.first) / s)) (λ i. r.first + i * s)

module _ (s : ℕ) (p : 1 ≤ s) where
  numbers_one : (n : ℕ) → numbers s (run n n) ≡ n ∷ []
  unfolding numbers join_below
  numbers_one n = let e : n - n ≡ 0 = omega arith in rw (e, zero-div s) (ap {B = List ℕ} (λ x. x ∷ []) (omega arith))

  -- a run that goes one step on
  numbers_next : (q : Run) (n : ℕ) → Steps s q.first q.last → q.last + s ≡ n → numbers s (run q.first n) ≡ numbers s q ++ (n ∷ [])
  unfolding numbers join_below
  numbers_next q n (k, e) h =
      let u : (n - q.first) / s ≡ suc k = div-eq_of_eq-mul_left p (omega arith) in
      let v : (q.last - q.first) / s ≡ k = div-eq_of_eq-mul_left p (omega arith) in
      let w : q.first + suc k * s ≡ n = omega arith in
      rw (u, v, w)

  -- a number put at the end is named at the end
  numbers_push : (n m : ℕ) (L : List Run) → From s m L → join_in (numbers s) (push s (run n n) L) ≡ join_in (numbers s) L ++ (n ∷ [])
  unfolding push join_in
  numbers_push n m [] c = rw (numbers_one n)
  numbers_push n m (q ∷ []) c =
      cond_ind (λ l. join_in (numbers s) l ≡ (numbers s q ++ []) ++ (n ∷ [])) (eqb (q.last + s) n)
      (λ e. rw (append-nil (numbers s q), append-nil (numbers s (run q.first n))) (numbers_next q n c.1 (omega tests)))
      (λ e. rw (append-nil (numbers s q), numbers_one n))
  numbers_push n m (q ∷ r ∷ L) c =
      rw (numbers_push n (q.last + 2 * s) (r ∷ L) c.2) (sym (append_assoc (numbers s q) (join_in (numbers s) (r ∷ L)) (n ∷ [])))

  -- THEOREM: the runs of a test name, in their order, the numbers that pass, rising
  pub numbers_runs : (f : ℕ → Bool) → InStep s f → (n : ℕ) → join_in (numbers s) (runs s f n) ≡ those_below n f
  unfolding runs those_below join_in
  numbers_runs f i zero = refl
  numbers_runs f i (suc n) =
      let rest = numbers_runs f i n in
      let add = numbers_push n 0 (runs s f n) (runs_lists s f i n).canon in
      go (f n) rest add
    where
      go : (t : Bool) → join_in (numbers s) (runs s f n) ≡ those_below n f → join_in (numbers s) (push s (run n n) (runs s f n)) ≡ join_in (numbers s) (runs s f n) ++ (n ∷ [])
          → join_in (numbers s) (cond t (push s (run n n) (runs s f n)) (runs s f n)) ≡ those_below n f ++ cond t (n ∷ []) []
      go true rest add = rw add (rw rest)
      go false rest add = rw (append-nil (those_below n f)) rest

-- in steps of 2 or more, over at most 256 half rows, there are at most 64 runs
few_runs : (s : ℕ) (f : ℕ → Bool) (n : ℕ) → 2 ≤ s → InStep s f → n ≤ 2 * max_rows → length (runs s f n) ≤ max_intervals
few_runs s f n p i l =
    let no : ¬ (max_intervals < length (runs s f n)) =
    λ m. omega (arith, mul-le-mul_left {m = suc max_intervals} {n = length (runs s f n)} (2 * s) m, runs_count s f i n) in
    omega arith

-- ---- listings

-- what the ranges of one column name
named_numbers : (p s : ℕ) (L : List Run) → join_in named (map (range_of p s) L) ≡ map (position p) (join_in (numbers s) L)
unfolding join_in named numbers
named_numbers p s [] = refl
named_numbers p s (r ∷ L) =
    rw (map_append (position p) (numbers s r) (join_in (numbers s) L), named_numbers p s L)
    (ap (λ (l : List Position). l ++ map (position p) (join_in (numbers s) L)) (sym (map_list (position p) (λ i. r.first + i * s) (suc ((r.last - r.first) / s)))))

module _ (d : Device) (b : Book) (t : List ℕ) (n : sized t ≡ true) where
  two : 2 ≤ step t
  two = (step_bounds t (sized_to t n).some_blocks).0

  in_step : (p : ℕ) → InStep (step t) (fits d b t p)
  in_step p = fits_steps d b t p (sized_to t n).some_blocks

  -- THEOREM: the ranges of a listing name each fitting position once, by column and then by bottom (MODEL 10.5)
  pub listing_names : join_in named (ranges d b t) ≡ fitting d b t
  unfolding ranges fitting
  listing_names =
      join_join named (λ p. map (range_of p (step t)) (runs (step t) (fits d b t p) (half_rows d))) (columns d)
      ∙ join_cong _ _ (columns d)
      (λ p l. named_numbers p (step t) (runs (step t) (fits d b t p) (half_rows d))
      ∙ ap (map (position p)) (numbers_runs (step t) (omega (arith, two)) (fits d b t p) (in_step p) (half_rows d)))

  module _ (w : within d b ≡ true) where
    -- THEOREM: a column has at most 64 ranges
    pub few_ranges : (p : ℕ) → length (runs (step t) (fits d b t p) (half_rows d)) ≤ max_intervals
    few_ranges p = few_runs (step t) (fits d b t p) (half_rows d) two (in_step p) (omega (arith, (limits_to d b w).rows))

    -- so a listing has at most 64 to a column, and its bytes fit into the output (MODEL 12.6)
    pub ranges_length : length (ranges d b t) ≤ max_intervals * columns d
    unfolding ranges
    ranges_length = join_length max_intervals (columns d) _ (λ p. rw (length-map (runs (step t) (fits d b t p) (half_rows d)) (range_of p (step t))) (few_ranges p))

    pub ranges_room : range_size * length (ranges d b t) ≤ list_room
    ranges_room = omega (arith, ranges_length, (limits_to d b w).columns)

-- ---- what stands in a listing

-- THEOREM: the positions named are those of the device at which the task fits
pub in_fitting : (d : Device) (b : Book) (t : List ℕ) (p y : ℕ) → In (position p y) (fitting d b t) ↔ ((p < columns d) × (y < half_rows d) × (fits d b t p y ≡ true))
unfolding fitting
in_fitting d b t p y = (
  λ h.
      let (q, l, i) = in_join_to (columns d) (λ p. map (position p) (those_below (half_rows d) (fits d b t p))) (position p y) h in
      let (z, j, e) = in_map_to (position q) (those_below (half_rows d) (fits d b t q)) (position p y) i in
      let (k, f) = those_to (fits d b t q) (half_rows d) z j in
      let u : p ≡ q = ap (λ (x : Position). x.column) e in
      let v : y ≡ z = ap (λ (x : Position). x.bottom) e in
      (omega arith, omega arith, ap₂ (fits d b t) u v ∙ f),
  λ (l, k, f).
      in_join_of (columns d) (λ p. map (position p) (those_below (half_rows d) (fits d b t p))) (position p y) p l
      (in_map_of (position p) (those_below (half_rows d) (fits d b t p)) y (those_of (fits d b t p) (half_rows d) y k f)),
)
