-- MODEL 11.5: the way up a range, one position considered, the bottoms passed over, and the end. Assumes nothing.
use Rattle.std.specs.Prelude.{ℕ, zero, suc, max, ◌+◌, ◌-◌, ◌*◌, ◌/◌, ◌%◌, ◌≤◌, ◌<◌, ◌≡◌, refl, ◌⊎◌, Bool, false, cond, List, Option, Some, None, ltb}
use Rattle.std.proofs.Common.{ap, inl, inr, ⊎_elim, mul_comm, mul-le-mul, mul-le-mul_right, lt_of_mul-lt-mul_right, arith}
use Rattle.std.proofs.Math.Bool.{true}
use Rattle.std.proofs.Math.Nat.{div-add-mod}
use Rattle.runs.specs.Laws.Tests.{lt_or_ge}
use Rattle.runs.specs.Runs.{Steps}
use Rattle.runs.specs.Meet.{Step}
use Rattle.runs.specs.declared.Range.{Range}
use Rattle.model.specs.Limits.{max_rows}
use Rattle.model.specs.Columns.{Device}
use Rattle.model.specs.Tasks.{blocks, well_formed, step}
use Rattle.model.specs.Book.{Book, placed, fits, intervals}
use Rattle.model.specs.Choice.{Judge, judge, Found, at, better, see, climb}
use Rattle.model.specs.Record.{device_of, book_of}
use Rattle.model.specs.Homes.{Room}
use Rattle.model.proofs.Laws.Bounded.{clash, is_false}
use Rattle.model.proofs.Laws.Fits.{fits_below}
use Rattle.model.proofs.Laws.Steps.{step_bounds, fits_steps}
use Rattle.model.proofs.Laws.Limits.{limits_to}
use Rattle.model.proofs.Laws.Sound.{sound_within}
use Rattle.model.proofs.Laws.Climb.{climb_none}
use Rattle.model.proofs.Laws.Ends.{raised_steps, choose_step}
use Rattle.listing.specs.Columns.{Given}
use Rattle.listing.specs.Laws.Column.{some_blocks}
use Rattle.choice.specs.Bounds.{max_pieces, max_stretch}
use Rattle.choice.specs.Choosing.{Scored, Is, better_of, Rises, Climbed, FitsRange}
use Rattle.choice.specs.declared.score.Choice.{Choice}
use Rattle.choice.specs.declared.tally.Rating.{Rating}

-- ---- one position considered

-- the products that `is_better` compares are within 32 bits
pub product_small : (n s : ℕ) → n ≤ max_pieces → s ≤ max_stretch → n * s ≤ max_pieces * max_stretch
product_small n s l m = mul-le-mul {n₁ = n} {m₁ = s} {n₂ = max_pieces} {m₂ = max_stretch} l m

-- what was found, once the choice c is seen too
see_is : (J : Judge) (f : Found) (b : Option Choice) (c : Choice) → c.score.pieces ≡ J.n c.position.column c.position.bottom
    → c.score.stretch ≡ J.s c.position.column c.position.bottom → Is J f b → Is J (see J c.position.column c.position.bottom f) (better_of b c)
unfolding see better
see_is J f None c en es h = rw h (refl, en, es)
see_is J f (Some o) c en es (e, em, et) =
    rw (e, ← em, ← et, ← en, ← es) (pick (ltb (c.score.pieces * o.score.stretch) (o.score.pieces * c.score.stretch)))
  where
    pick : (v : Bool) → Is J (cond v (at c.position.column c.position.bottom) (at o.position.column o.position.bottom)) (cond v (Some c) (Some o))
    pick true = (refl, en, es)
    pick false = (refl, em, et)

-- ---- how far up

-- a whole number of steps that is the least not below the room and 1
pub rise_is : (room step v : ℕ) → 1 ≤ step → v % step ≡ 0 → max room 1 ≤ v → v < max room 1 + step → Rises room step v
rise_is room step v l e low high =
    let whole : step * (v / step) ≡ v = omega (arith, div-add-mod v step) in
    go (v / step) (omega (arith, mul_comm step (v / step)))
  where
    go : (q : ℕ) → v ≡ q * step → Rises room step v
    go zero w = absurd (omega arith)
    go (suc j) w = record { steps = j; is = w; inside = ⊎_elim (λ g. inl (none j w g)) (λ g. inr (omega arith)) (lt_or_ge room 1); small = omega arith }
      where
        none : (j : ℕ) → v ≡ suc j * step → room < 1 → j ≡ 0
        none zero w g = refl
        none (suc i) w g = absurd (omega arith)

-- a rise in steps that are not 0 is not 0
pub rise_pos : {room step v : ℕ} → Rises room step v → 1 ≤ step → 1 ≤ v
rise_pos r l = omega (arith, r.is)

-- a bottom at which the task fits is below 256
pub bottom_small : (r t : List ℕ) → Given r t → (p y : ℕ) → fits (device_of r) (book_of r) t p y ≡ true → y < 2 * max_rows
bottom_small r t a p y f =
    let on = fits_below (device_of r) (book_of r) t p y a.formed (some_blocks r t a) f in
    omega (arith, (limits_to (device_of r) (book_of r) (sound_within r a.sound)).rows)

-- ---- one range

-- from its first bottom to bottom y, which is in its steps, and not above its end by more than one
pub record Climbing (d : Device) (b : Book) (t : List ℕ) (p : ℕ) (R : Range) (c : Option Choice) (y : ℕ) (e : Option Choice) : Type 0 where
  pub steps : Steps (step t) R.first y
  pub within : y ≤ R.last + step t
  pub climbed : Climbed (judge d b t) p R.first y c e

module _ (d : Device) (b : Book) (t : List ℕ) (w : well_formed t ≡ true) (n : 1 ≤ blocks t) (p : ℕ) (R : Range) (g : FitsRange d b t p R) where
  -- the step of a range is not 0, and a byte
  pub range_step : Step R.step
  range_step = omega (arith, g.step_is, step_bounds t n)

  pub climbing_start : (c : Option Choice) → Climbing d b t p R c R.first c
  climbing_start c = record { steps = (0, omega arith); within = omega (arith, g.last_in.1); climbed = λ f k. k }

  -- j steps up from y there is room, so these are not above the range's end
  no_further : (y room j : ℕ) → Steps (step t) R.first y → y ≤ R.last → Room room (placed t p y) (intervals d b) → (j ≡ 0) ⊎ (j * step t < room)
      → y + suc j * step t ≤ R.last + step t
  no_further y room j s l u (inl e) = omega (arith, ap (λ (x : ℕ). x * step t) e)
  no_further y room j (a, ea) l u (inr h) = go (lt_or_ge (R.last + step t) (y + suc j * step t))
    where
      go : (R.last + step t < y + suc j * step t) ⊎ (y + suc j * step t ≤ R.last + step t) → y + suc j * step t ≤ R.last + step t
      go (inr k) = k
      go (inl k) =
          let (m, em) = g.last_in in
          let am : a < suc m = lt_of_mul-lt-mul_right (step t) (omega (arith, step_bounds t n)) in
          let mi : m * step t ≡ (a + (m - a)) * step t = ap (λ (x : ℕ). x * step t) (omega arith) in
          let ij : m - a < j = lt_of_mul-lt-mul_right (step t) (omega arith) in
          let more = mul-le-mul_right {m = suc (m - a)} {n = j} (step t) ij in
          let e : y + suc (m - a) * step t ≡ R.last + step t = omega arith in
          let f = raised_steps d b t w p y (g.all_fit y ((a, ea), l)) (suc (m - a)) (λ x q. omega (arith, u x q)) in
          clash (rw e at f) g.ends

  -- bottom y is scored, and those up to y + v are passed over
  pub climbing_next : (c e e' : Option Choice) (y v : ℕ) (x : Rating) → y ≤ R.last → Scored d b t p y x → Rises x.room R.step v
      → e' ≡ better_of e (record { position = record { column = p; bottom = y }; score = x.score }) → Climbing d b t p R c y e → Climbing d b t p R c (y + v) e'
  climbing_next c e e' y v x l s u q h =
      let j = u.steps in
      let vj : v ≡ suc j * step t = rw g.step_is at u.is in
      let inside : (j ≡ 0) ⊎ (j * step t < x.room) = rw g.step_is at u.inside in
      let fit = g.all_fit y (h.steps, l) in
      let (a, ea) = h.steps in
      record {
        steps = (a + suc j, omega arith);
        within = rw vj (no_further y x.room j h.steps l s.room inside);
        climbed = λ f k.
            rw (vj, choose_step d b t w p y fit x.room j f n s.room inside, q)
            (see_is (judge d b t) (climb (judge d b t) p y f) e (record { position = record { column = p; bottom = y }; score = x.score }) s.pieces s.stretch (h.climbed f k));
      }

  -- the range is done: nothing fits between its end and y
  pub climbing_done : (c e : Option Choice) (y : ℕ) → R.last < y → Climbing d b t p R c y e → Climbed (judge d b t) p R.first (suc R.last) c e
  unfolding judge
  climbing_done c e y l h f k = rw (climb_none (judge d b t) p (suc R.last) y f l none) at (h.climbed f k)
    where
      last : fits d b t p R.last ≡ true
      last = g.all_fit R.last (g.last_in, omega arith)

      none : (z : ℕ) → suc R.last ≤ z → z < y → (judge d b t).fit p z ≡ false
      none z a q = is_false (fits d b t p z) (λ f. omega (arith, h.within, (fits_steps d b t p n R.last z last f a).1))
