-- MODEL 11: a well-formed task where it fits. Its blocks stand in free intervals, so n and s come block by block; while it rises inside these intervals s
-- stays, and n is no less until a block meets an end. So the choice need only look at the ends. Assumes nothing.
use Rattle.std.specs.Prelude.{ℕ, suc, ◌+◌, ◌-◌, ◌*◌, ◌%◌, ◌≤◌, ◌<◌, ◌≡◌, refl, ◌⊎◌, true, false, List}
use Rattle.std.proofs.Common.{ap, ◌∙◌, mul-le-mul_right, lt_of_mul-lt-mul_right}
use Rattle.std.proofs.Math.Logic.{inl, inr}
use Rattle.std.proofs.Math.Nat.{add-mul-mod_self_right}
use native.Mathlib.Omega.{arith}
use Rattle.runs.specs.Runs.{Steps}
use Rattle.runs.specs.Intervals.{Free, Holds, Multiple}
use Rattle.runs.specs.Laws.Steps.{multiple_times}
use Rattle.runs.specs.Laws.Intervals.{intervals_free, holds_free, holds_of}
use Rattle.model.specs.Limits.{reach}
use Rattle.model.specs.Bounded.{sum_below}
use Rattle.model.specs.Columns.{Device, half_rows, height, columns, kind, top}
use Rattle.model.specs.Tasks.{Block, blocks, block, well_formed, step}
use Rattle.model.specs.Book.{Book, placed, free, fits, intervals}
use Rattle.model.specs.Choice.{judge, Found, nothing, at, see, climb, chosen}
use Rattle.model.specs.Homes.{Room, joined, adds, first_span}
use Rattle.model.proofs.Laws.Bounded.{sum_ge}
use Rattle.model.proofs.Laws.Tasks.{Before, full_block, in_order}
use Rattle.model.proofs.Laws.Fits.{Fitting, fits_to, fits_of}
use Rattle.model.proofs.Laws.Steps.{common_step, step_bounds, fits_steps}
use Rattle.model.proofs.Laws.Homes.{Under, Stands, at_home}
use Rattle.model.proofs.Laws.Stretch.{stretch_firsts}
use Rattle.model.proofs.Laws.Pieces.{pieces_adds}
use Rattle.model.proofs.Laws.Raised.{Raised, raised_stands, stretch_same, pieces_more}
use Rattle.model.proofs.Laws.Climb.{climb_jump}
use Rattle.model.proofs.Laws.Choice.{Chosen, choice_at, choice_nothing}

-- the intervals of a column are canonical, and name its free half rows
pub column_free : (d : Device) (b : Book) (c : ℕ) → Free (free d b c) (top d c) (intervals d b c)
unfolding intervals
column_free d b c = intervals_free (free d b c) (top d c)

-- ---- a block fits where it is on the grid of a column of its kind, and one free interval holds it

module _ (d : Device) (b : Book) (k : Block) (p y : ℕ) (full : k.low < k.high) where
  pub fits_held : Fitting d b k p y → Holds (y + k.low - reach) (y + k.high - reach) (intervals d b (p + k.column))
  fits_held f =
      let a = f.above in
      let g = f.below in
      (holds_free (free d b (p + k.column)) (top d (p + k.column)) (y + k.low - reach) (y + k.high - reach) _ (omega arith) (omega arith) (column_free d b (p + k.column))).1
      (λ z u v.
      let e : y + k.low - reach + (z - (y + k.low - reach)) ≡ z = omega arith in
      rw e at (f.free (z - (y + k.low - reach)) (omega arith)))

  pub held_fits : p + k.column < columns d → kind d (p + k.column) ≡ k.kind → reach ≤ y + k.low → (y + k.low - reach) % height k.kind ≡ 0
      → Holds (y + k.low - reach) (y + k.high - reach) (intervals d b (p + k.column)) → Fitting d b k p y
  held_fits c e a g h = record {
    column = c;
    kind = e;
    above = a;
    grid = g;
    below = omega (arith, (here (y + k.high - reach - 1) (omega arith) (omega arith)).0);
    free = λ i l. (here (y + k.low - reach + i) (omega arith) (omega arith)).1;
  }
    where
      here : (z : ℕ) → y + k.low - reach ≤ z → z < y + k.high - reach → (z < top d (p + k.column)) × (free d b (p + k.column) z ≡ true)
      here z u v = ((column_free d b (p + k.column)).named z).0 (holds_of (y + k.low - reach) (y + k.high - reach) (omega arith) (intervals d b (p + k.column)) h z u v)

-- ---- a fitting position

module _ (d : Device) (b : Book) (t : List ℕ) (w : well_formed t ≡ true) (p y : ℕ) (f : fits d b t p y ≡ true) where
  fit : (k : ℕ) → k < blocks t → Fitting d b (block t k) p y
  fit = fits_to d b t p y f

  -- THEOREM: where a task fits, its blocks stand in the free intervals (MODEL 11.1)
  pub stands : Stands (placed t p y) (columns d) (intervals d b)
  unfolding placed
  stands = record {
    full = λ k l. omega (arith, full_block t w k l, (fit k l).above);
    rise = λ j k l g. rise j k (omega arith) g (in_order t w j k l g);
    canon = λ c. (column_free d b c).canon;
    held = λ k l. fits_held d b (block t k) p y (full_block t w k l) (fit k l);
    column = λ k l. (fit k l).column;
  }
    where
      rise : (j k : ℕ) → j < blocks t → k < blocks t → Before (block t j) (block t k) → Under (placed t p y) j k
      rise j k l g (inl h) = inl (omega arith)
      rise j k l g (inr h) = inr (omega arith, omega (arith, (fit j l).above, (fit k g).above, full_block t w j l))

  -- THEOREM: n of a fitting position is the sum, over the blocks, of what each adds
  pub n_adds : (judge d b t).n p y ≡ sum_below (blocks t) (adds (placed t p y) (intervals d b))
  unfolding judge placed
  n_adds = pieces_adds (placed t p y) (columns d) (intervals d b) stands

  -- THEOREM: s of a fitting position is the sum, over the blocks, of the height of the block's interval, if it is the first in it
  pub s_firsts : (judge d b t).s p y ≡ sum_below (blocks t) (first_span (placed t p y) (intervals d b))
  unfolding judge placed
  s_firsts = stretch_firsts (placed t p y) (columns d) (intervals d b) stands

  -- the task u half rows higher
  pub raised : (u : ℕ) → Raised u (placed t p y) (placed t p (y + u))
  unfolding placed
  raised u = record {
    count = refl;
    column = λ k l. refl;
    bottom = λ k l. omega (arith, (fit k l).above);
    top = λ k l. omega (arith, (fit k l).above, full_block t w k l);
  }

  -- THEOREM: what is a multiple of each block's height, and is room for each block, may be added to a fitting bottom
  pub raised_fits : (u : ℕ) → Room u (placed t p y) (intervals d b) → ((k : ℕ) → k < blocks t → Multiple (height (block t k).kind) u) → fits d b t p (y + u) ≡ true
  unfolding placed
  raised_fits u room m =
      fits_of d b t p (y + u)
      (λ k l.
      let g = fit k l in
      let ga = g.above in
      let (j, e) = m k l in
      let h = (raised_stands u (placed t p y) (placed t p (y + u)) (columns d) (intervals d b) stands (raised u) room).held k l in
      let s : y + u + (block t k).low - reach ≡ y + (block t k).low - reach + j * height (block t k).kind = omega arith in
      held_fits d b (block t k) p (y + u) (full_block t w k l) g.column g.kind (omega arith)
      (ap (λ (x : ℕ). x % height (block t k).kind) s ∙ add-mul-mod_self_right (y + (block t k).low - reach) j (height (block t k).kind) ∙ g.grid) h)

  -- so as many steps may be added as there is room for
  pub raised_steps : (j : ℕ) → Room (j * step t) (placed t p y) (intervals d b) → fits d b t p (y + j * step t) ≡ true
  raised_steps j room =
      raised_fits (j * step t) room
      (λ k l. multiple_times (height (block t k).kind) (step t) (j * step t) ((common_step t (omega arith)).all k l) (j, refl))

  -- THEOREM, the law of the ends: each block has `up` half rows or more above it in its interval. At a bottom above y and below y + up, s is that of y,
  -- and n is no less.
  pub ends : (up z : ℕ) → Room up (placed t p y) (intervals d b) → y < z → z < y + up → ((judge d b t).s p z ≡ (judge d b t).s p y) × ((judge d b t).n p y ≤ (judge d b t).n p z)
  unfolding judge
  ends up z room a c =
      let e : y + (z - y) ≡ z = omega arith in
      let r : Raised (z - y) (placed t p y) (placed t p z) = rw e at (raised (z - y)) in
      let near : Room (z - y) (placed t p y) (intervals d b) = λ k l. omega (arith, room k l) in (
        stretch_same (z - y) (placed t p y) (placed t p z) (columns d) (intervals d b) stands r near,
        pieces_more (z - y) (placed t p y) (placed t p z) (columns d) (intervals d b) stands r near (omega arith) (λ k l. omega (arith, room k l)),
      )

  -- THEOREM: y is seen, and the bottoms above y and below x that fit are below y + up. Then the best below x is the best with y.
  pub choose_jump : (up x : ℕ) (g : Found) → Room up (placed t p y) (intervals d b) → y < x → ((z : ℕ) → y < z → z < x → fits d b t p z ≡ true → z < y + up)
      → climb (judge d b t) p x g ≡ see (judge d b t) p y (climb (judge d b t) p y g)
  unfolding judge
  choose_jump up x g room l h = climb_jump (judge d b t) p y x g l f (λ z a c e. ends up z room a (h z a c e))

  -- the same in steps: the next bottom to look at is j + 1 steps above y, where j steps are below `up`, or j is 0
  pub choose_step : (up j : ℕ) (g : Found) → 1 ≤ blocks t → Room up (placed t p y) (intervals d b) → (j ≡ 0) ⊎ (j * step t < up)
      → climb (judge d b t) p (y + suc j * step t) g ≡ see (judge d b t) p y (climb (judge d b t) p y g)
  choose_step up j g n room h =
      choose_jump up (y + suc j * step t) g room (omega (arith, step_bounds t n)) (λ z a c e. go z c (fits_steps d b t p n y z f e a) h)
    where
      go : (z : ℕ) → z < y + suc j * step t → Steps (step t) (y + step t) z → (j ≡ 0) ⊎ (j * step t < up) → z < y + up
      go z c (i, e) (inl r) = absurd (omega (arith, ap (λ (x : ℕ). x * step t) r))
      go z c (i, e) (inr r) =
          let k : i < j = lt_of_mul-lt-mul_right (step t) (omega arith) in
          let v = mul-le-mul_right {m = suc i} {n = j} (step t) k in
          omega arith

-- ---- the choice

module _ (d : Device) (b : Book) (t : List ℕ) (w : well_formed t ≡ true) (n : 1 ≤ blocks t) where
  -- where a task fits, s is not 0
  pub s_pos : (p y : ℕ) → fits d b t p y ≡ true → 0 < (judge d b t).s p y
  unfolding placed first_span joined
  s_pos p y f =
      let s = stands d b t w p y f in
      let h = at_home (placed t p y) (columns d) (intervals d b) s 0 n in
      omega (arith, s_firsts d b t w p y f, sum_ge (blocks t) 0 (first_span (placed t p y) (intervals d b)) n, s.full 0 n, h.below, h.above)

  -- THEOREM: the position that is chosen fits, has the least n / s, and is the first of those by column and then by bottom (MODEL 11.5)
  pub chosen_at : (q z : ℕ) → chosen d b t ≡ at q z → Chosen (judge d b t) (half_rows d) (columns d) q z
  unfolding chosen judge
  chosen_at = choice_at (judge d b t) (half_rows d) s_pos (columns d)

  -- THEOREM: where none is chosen, none fits
  pub chosen_nothing : chosen d b t ≡ nothing → (p y : ℕ) → p < columns d → y < half_rows d → fits d b t p y ≡ false
  unfolding chosen judge
  chosen_nothing = choice_nothing (judge d b t) (half_rows d) s_pos (columns d)
