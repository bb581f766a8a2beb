-- MODEL 13.7: choose finds no position, and list no range, just where no position of the device fits. Assumes nothing.
use Rattle.std.specs.Prelude.{ℕ, zero, suc, ◌≤◌, ◌<◌, ◌≡◌, ◌↔◌, Bool, false}
use Rattle.std.proofs.Math.Path.{refl}
use Rattle.std.proofs.Common.{inl, arith}
use Rattle.std.proofs.Math.Bool.{true}
use mathlib.Core.List.{List, [], ◌∷◌, map, cons≢nil, append-eq-nil_iff}
use Rattle.std.proofs.lemmas.Bool.{not-true}
use Rattle.runs.specs.Runs.{Run, runs, Lists}
use Rattle.runs.specs.Laws.Runs.{runs_lists}
use Rattle.model.specs.Bounded.{any_below, join_below}
use Rattle.model.specs.Columns.{Device, columns, half_rows}
use Rattle.model.specs.Tasks.{blocks, well_formed, step}
use Rattle.model.specs.Book.{Book, fits}
use Rattle.model.specs.Listing.{ranges}
use Rattle.model.specs.Choice.{judge, Found, nothing, at, chosen}
use Rattle.model.specs.Calls.{no_position}
use Rattle.model.proofs.Laws.Bounded.{clash, is_false, last_or, any_of_one, any_none}
use Rattle.model.proofs.Laws.Steps.{fits_steps}
use Rattle.model.proofs.Laws.Ends.{chosen_at, chosen_nothing}

-- ---- lists

join_none_to : {A : Type 0} (n : ℕ) (f : ℕ → List A) → join_below n f ≡ [] → (k : ℕ) → k < n → f k ≡ []
unfolding join_below
join_none_to zero f e k l = absurd (omega arith)
join_none_to (suc n) f e k l = let (a, b) = append-eq-nil_iff.0 e in last_or (λ x. f x ≡ []) n k l (join_none_to n f a k) b

join_none_of : {A : Type 0} (n : ℕ) (f : ℕ → List A) → ((k : ℕ) → k < n → f k ≡ []) → join_below n f ≡ []
unfolding join_below
join_none_of zero f h = refl
join_none_of (suc n) f h = rw (join_none_of n f (λ k l. h k (omega arith)), h n (omega arith))

map_none : {A B : Type 0} (f : A → B) (l : List A) → map f l ≡ [] → l ≡ []
map_none f [] e = refl
map_none f (x ∷ l) e = absurd (cons≢nil e)

-- no run is listed just where no number passes
module _ (s : ℕ) (f : ℕ → Bool) (n : ℕ) where
  runs_none_to : (L : List Run) → Lists s f n L → L ≡ [] → (y : ℕ) → y < n → f y ≡ false
  runs_none_to L g e y l = is_false (f y) (λ h. rw e at ((g.named y).1 (l, h)))

  runs_none_of : (L : List Run) → Lists s f n L → ((y : ℕ) → y < n → f y ≡ false) → L ≡ []
  runs_none_of [] g h = refl
  runs_none_of (r ∷ L) g h =
      let c = g.canon.1 in
      let (l, e) = (g.named r.first).0 (inl ((0, omega arith), omega arith)) in
      clash e (h r.first l)

-- ---- no position

module _ (d : Device) (b : Book) (t : List ℕ) where
  abbrev Nowhere : Type 0
  Nowhere = (p y : ℕ) → p < columns d → y < half_rows d → fits d b t p y ≡ false

  pub nowhere_to : no_position d b t ≡ true → Nowhere
  unfolding no_position
  nowhere_to h p y l g =
      is_false (fits d b t p y)
      (λ e. clash (any_of_one (columns d) _ p l (any_of_one (half_rows d) _ y g e)) (not-true (any_below (columns d) (λ p. any_below (half_rows d) (λ y. fits d b t p y))) h))

  pub nowhere_of : Nowhere → no_position d b t ≡ true
  unfolding no_position
  nowhere_of h = rw (any_none (columns d) _ (λ p l. any_none (half_rows d) _ (λ y g. h p y l g)))

  -- THEOREM: no position is chosen just where none fits
  pub chosen_nothing_iff : well_formed t ≡ true → 1 ≤ blocks t → (chosen d b t ≡ nothing) ↔ (no_position d b t ≡ true)
  unfolding judge
  chosen_nothing_iff w n = (λ e. nowhere_of (chosen_nothing d b t w n e), λ h. go h (chosen d b t) refl)
    where
      go : no_position d b t ≡ true → (r : Found) → chosen d b t ≡ r → r ≡ nothing
      go h nothing e = refl
      go h (at q z) e = let c = chosen_at d b t w n q z e in clash c.fits (nowhere_to h q z c.column c.bottom)

  -- THEOREM: no range is listed just where no position fits
  pub ranges_none_iff : 1 ≤ blocks t → (ranges d b t ≡ []) ↔ (no_position d b t ≡ true)
  unfolding ranges
  ranges_none_iff n = (
    λ e. nowhere_of (λ p y l. runs_none_to (step t) (fits d b t p) (half_rows d) _ (listed p) (map_none _ _ (join_none_to (columns d) _ e p l)) y),
    λ h. join_none_of (columns d) _ (λ p l. rw (runs_none_of (step t) (fits d b t p) (half_rows d) _ (listed p) (λ y. nowhere_to h p y l))),
  )
    where
      listed : (p : ℕ) → Lists (step t) (fits d b t p) (half_rows d) (runs (step t) (fits d b t p) (half_rows d))
      listed p = runs_lists (step t) (fits d b t p) (fits_steps d b t p n) (half_rows d)
