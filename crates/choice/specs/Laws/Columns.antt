-- MODEL 11.5: the way up a column, range by range, and through all columns, to the choice. Assumes nothing.
use Prim.Native.Nat.{ℕ, suc, ◌+◌, ◌*◌, ◌≤◌, ◌<◌}
use Rattle.std.specs.Prelude.{◌≡◌, ◌⊎◌, true, false, List, Option, Some, None, pos, length, get_or}
use Rattle.std.proofs.Math.Path.{refl}
use Rattle.std.proofs.Common.{sym, inl, inr, arith}
use Rattle.std.proofs.Math.Numerals.{add-one}
use Rattle.std.proofs.lemmas.List.{get_or_read}
use Rattle.runs.specs.Laws.Tests.{lt_or_ge}
use Rattle.runs.specs.Runs.{Run, run, Mem, Lists}
use Rattle.runs.specs.Laws.Runs.{runs_lists}
use Rattle.runs.specs.Laws.Places.{run_named, run_at, none_before, none_between, next_above, start_past}
use Rattle.model.specs.Limits.{column_weight}
use Rattle.model.specs.Columns.{Device, columns, half_rows}
use Rattle.model.specs.Tasks.{blocks, well_formed, step}
use Rattle.model.specs.Book.{Book, fits}
use Rattle.model.specs.Choice.{judge, at, climb, choice, chosen}
use Rattle.model.specs.Record.{device_of, book_of}
use Rattle.model.specs.Calls.{choose, no_position, position_number, refused, refusals, unless, done, on_book}
use Rattle.model.proofs.Laws.Bounded.{clash, is_false}
use Rattle.model.proofs.Laws.Fits.{fits_below}
use Rattle.model.proofs.Laws.Step.{choose_none}
use Rattle.model.proofs.Laws.Steps.{step_bounds, fits_steps}
use Rattle.model.proofs.Laws.Limits.{limits_to}
use Rattle.model.proofs.Laws.Sound.{sound_within}
use Rattle.model.proofs.Laws.Climb.{climb_none}
use Rattle.model.proofs.Laws.Ends.{chosen_at}
use Rattle.model.proofs.Laws.NoPosition.{chosen_nothing_iff}
use Rattle.listing.specs.Columns.{Given, ranges_in}
use Rattle.listing.specs.Lists.{range}
use Rattle.listing.specs.Laws.Column.{some_blocks}
use Rattle.runs.specs.declared.Range.{Range}
use Rattle.choice.specs.Choosing.{Is, Climbed, FitsRange, Chooses}
use Rattle.choice.specs.declared.score.Choice.{Choice}

-- ---- one column

-- range i of column p; past the last one, the height of the device
abbrev pub range_at : Device → Book → List ℕ → ℕ → ℕ → Run
range_at d b t p i = get_or (ranges_in d b t p) i (run (half_rows d) (half_rows d))

-- i ranges of column p are passed: e is the best below the next one
pub record Passed (d : Device) (b : Book) (t : List ℕ) (p i : ℕ) (c e : Option Choice) : Type 0 where
  pub within : i ≤ length (ranges_in d b t p)
  pub climbed : Climbed (judge d b t) p 0 (range_at d b t p i).first c e

module _ (d : Device) (b : Book) (t : List ℕ) (w : well_formed t ≡ true) (n : 1 ≤ blocks t) (p : ℕ) where
  listed : Lists (step t) (fits d b t p) (half_rows d) (ranges_in d b t p)
  listed = runs_lists (step t) (fits d b t p) (fits_steps d b t p n) (half_rows d)

  -- what fits is named
  named : (y : ℕ) → fits d b t p y ≡ true → Mem (step t) y (ranges_in d b t p)
  named y f = (listed.named y).1 ((fits_below d b t p y w n f).1, f)

  -- nothing fits below the first range
  pub passed_none : (c : Option Choice) → Passed d b t p 0 c c
  unfolding judge
  passed_none c = record {
    within = omega arith;
    climbed = λ f k. rw (climb_none (judge d b t) p 0 (range_at d b t p 0).first f (omega arith)
        (λ z a l. is_false (fits d b t p z) (λ e. none_before (step t) 0 (half_rows d) (ranges_in d b t p) z listed.canon (named z e) l))) k;
  }

  -- what a walk over the ranges reads at i
  pub range_read : (L : List Run) (i : ℕ) (r : Run) → L ≡ ranges_in d b t p → i < length L → r ≡ get_or L i r → r ≡ range_at d b t p i
  range_read L i r e l q = rw (← e) (get_or_read L i r l q (run (half_rows d) (half_rows d)))

  module _ (i : ℕ) (x : Run) (l : i < length (ranges_in d b t p)) (q : x ≡ range_at d b t p i) where
    -- nothing fits above range i and below the next
    none_next : (z : ℕ) → x.last < z → z < (range_at d b t p (suc i)).first → fits d b t p z ≡ false
    none_next z a e =
        is_false (fits d b t p z)
        (λ f. none_between (step t) 0 (half_rows d) (ranges_in d b t p) i z listed.canon l (named z f) (rw q at a) e)

    last_fits : fits d b t p x.last ≡ true
    last_fits =
        let s = (run_at (step t) 0 (ranges_in d b t p) i (run (half_rows d) (half_rows d)) listed.canon l).1 in
        rw (← q) at ((listed.named _).0 (run_named (step t) (ranges_in d b t p) i (run (half_rows d) (half_rows d)) _ l (s, omega arith))).1

    -- the next range begins two steps or more above its end, or there is none
    abbrev Next : Type 0
    Next = (x.last + 2 * step t ≤ (range_at d b t p (suc i)).first) ⊎ ((range_at d b t p (suc i)).first ≡ half_rows d)

    above : Next
    above = go (lt_or_ge (suc i) (length (ranges_in d b t p)))
      where
        go : (suc i < length (ranges_in d b t p)) ⊎ (length (ranges_in d b t p) ≤ suc i) → Next
        go (inl h) = inl (rw (← q) at (next_above (step t) 0 (half_rows d) (ranges_in d b t p) i listed.canon h))
        go (inr h) = inr (start_past (half_rows d) (ranges_in d b t p) (suc i) h)

    module _ (s : ℕ) (R : Range) (r : R ≡ range s x) where
      -- range i is one of column p
      pub range_fits : s ≡ step t → FitsRange d b t p R
      range_fits e = rw r (record {
        step_is = e;
        last_in = rw (← q) at (run_at (step t) 0 (ranges_in d b t p) i (run (half_rows d) (half_rows d)) listed.canon l).1;
        all_fit = λ z m. ((listed.named z).0 (run_named (step t) (ranges_in d b t p) i (run (half_rows d) (half_rows d)) z l (rw q at m))).1;
        ends = is_false (fits d b t p (x.last + step t)) (λ f. clash f (none_next (x.last + step t) (omega (arith, step_bounds t n)) (below f above)));
      })
        where
          below : fits d b t p (x.last + step t) ≡ true → Next → x.last + step t < (range_at d b t p (suc i)).first
          below f (inl h) = omega (arith, step_bounds t n)
          below f (inr h) = rw h (fits_below d b t p (x.last + step t) w n f).1

      -- one range more
      pub passed_next : (c e e' : Option Choice) → Passed d b t p i c e → Climbed (judge d b t) p R.first (suc R.last) e e' → Passed d b t p (i + 1) c e'
      unfolding judge
      passed_next c e e' h g = rw add-one (record {
        within = l;
        climbed = λ f k.
            rw (climb_none (judge d b t) p (suc x.last) (range_at d b t p (suc i)).first f (up above) none_next) ((rw r at g) f (rw (← q) at (h.climbed f k)));
      })
        where
          up : Next → suc x.last ≤ (range_at d b t p (suc i)).first
          up (inl m) = omega (arith, step_bounds t n)
          up (inr m) = rw m (fits_below d b t p x.last w n last_fits).1

  -- all ranges are passed
  pub passed_all : (i : ℕ) (c e : Option Choice) → length (ranges_in d b t p) ≤ i → Passed d b t p i c e → Climbed (judge d b t) p 0 (half_rows d) c e
  passed_all i c e l h = rw (start_past (half_rows d) (ranges_in d b t p) i l) at h.climbed

-- ---- all columns

-- p columns are passed
pub record Best_of (d : Device) (b : Book) (t : List ℕ) (p : ℕ) (e : Option Choice) : Type 0 where
  pub within : p ≤ columns d
  pub is : Is (judge d b t) (choice (judge d b t) (half_rows d) p) e

module _ (d : Device) (b : Book) (t : List ℕ) where
  pub best_none : Best_of d b t 0 None
  unfolding choice
  best_none = record { within = omega arith; is = refl }

  pub best_next : (p : ℕ) (e e' : Option Choice) → p < columns d → Best_of d b t p e → Climbed (judge d b t) p 0 (half_rows d) e e' → Best_of d b t (p + 1) e'
  unfolding choice climb
  best_next p e e' l h g = rw add-one (record { within = l; is = g (choice (judge d b t) (half_rows d) p) h.is })

-- choose on the book where a position fits
chosen_number : (r t : List ℕ) → Given r t → (q z : ℕ) → no_position (device_of r) (book_of r) t ≡ false → chosen (device_of r) (book_of r) t ≡ at q z
    → pos (q * column_weight + z) ≡ (on_book (device_of r) (book_of r) (choose t)).answer
unfolding on_book unless refused refusals done position_number
chosen_number r t a q z e f = rw (a.sized, a.formed, e, f)

-- THEOREM: what is found in all columns is the choice
pub chooses : (r t : List ℕ) → Given r t → (p : ℕ) (e : Option Choice) → columns (device_of r) ≤ p → Best_of (device_of r) (book_of r) t p e → Chooses (device_of r) (book_of r) t e
unfolding chosen judge
chooses r t a p e l h = let q : p ≡ columns (device_of r) = omega (arith, h.within) in go e (rw q at h.is)
  where
    d : Device
    d = device_of r

    b : Book
    b = book_of r

    n : 1 ≤ blocks t
    n = some_blocks r t a

    some_position : (q z : ℕ) → chosen d b t ≡ at q z → no_position d b t ≡ false
    some_position q z e = is_false (no_position d b t) (λ k. let f = (chosen_nothing_iff d b t a.formed n).1 k in let z : ◌≡◌ {A = ℕ} 0 1 = cc in omega arith)

    go : (e : Option Choice) → Is (judge d b t) (choice (judge d b t) (half_rows d) (columns d)) e → Chooses d b t e
    go None f = record { answer_is = sym ((choose_none d b t a.sized a.formed).1 ((chosen_nothing_iff d b t a.formed n).0 f)); position_is = f; near = tt }
    go (Some c) (f, en, es) =
        let q : ℕ = c.position.column in
        let z : ℕ = c.position.bottom in
        let at = chosen_at d b t a.formed n q z f in
        let m = limits_to d b (sound_within r a.sound) in
        record { answer_is = chosen_number r t a q z (some_position q z f) f; position_is = (f, en, es); near = omega (arith, at.column, at.bottom, m.columns, m.rows) }
