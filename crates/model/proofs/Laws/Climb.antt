-- The steps of a loop that looks for the choice (MODEL 11.5): what one bottom does to the best so far, and which bottoms may be passed over.
-- Assumes nothing.
use Rattle.std.specs.Prelude.{ℕ, zero, suc, ◌+◌, ◌-◌, ◌*◌, ◌≤◌, ◌<◌, ◌≡◌, refl, Bool, true, false}
use Rattle.std.proofs.Common.{ap, ◌∙◌}
use Rattle.std.proofs.Math.Nat.{mul-le-mul_right}
use native.Mathlib.Omega.{arith}
use borrow.Author.Tests.{le-ltb}
use Rattle.runs.specs.Laws.Tests.{tests, cond_ind}
use Rattle.model.specs.Choice.{Judge, Found, nothing, at, better, see, climb}
use Rattle.model.proofs.Laws.Bounded.{clash}

-- the best so far is no worse than (p, y)
abbrev pub NoWorse : Judge → ℕ → ℕ → Found → Type 0
NoWorse J p y nothing = ⊥
NoWorse J p y (at q z) = J.n q z * J.s p y ≤ J.n p y * J.s q z

module _ (J : Judge) (p : ℕ) where
  -- one bottom: it does not fit, or it is seen
  pub climb_miss : (y : ℕ) (f : Found) → J.fit p y ≡ false → climb J p (suc y) f ≡ climb J p y f
  unfolding climb
  climb_miss y f e = rw e

  pub climb_see : (y : ℕ) (f : Found) → J.fit p y ≡ true → climb J p (suc y) f ≡ see J p y (climb J p y f)
  unfolding climb
  climb_see y f e = rw e

  -- once a position is seen, the best so far is no worse
  pub see_no_worse : (y : ℕ) (f : Found) → NoWorse J p y (see J p y f)
  unfolding see better
  see_no_worse y nothing = omega arith
  see_no_worse y (at q z) = cond_ind (NoWorse J p y) (better J p y q z) (λ e. omega arith) (λ e. omega tests)

  -- a position with the s of y, and no less n, then changes nothing
  pub see_same : (y z : ℕ) (f : Found) → NoWorse J p y f → J.s p z ≡ J.s p y → J.n p y ≤ J.n p z → see J p z f ≡ f
  unfolding see better
  see_same y z nothing h e l = absurd h
  see_same y z (at a b) h e l =
      let m = mul-le-mul_right {m = J.n p y} {n = J.n p z} (J.s a b) l in
      rw (e, le-ltb (J.n p z * J.s a b) (J.n a b * J.s p y) (omega arith))

  -- none of the d bottoms from y on changes the best so far: they may be passed over
  pub climb_skip : (y d : ℕ) (f : Found) → ((z : ℕ) → y ≤ z → z < y + d → J.fit p z ≡ true → see J p z (climb J p y f) ≡ climb J p y f) → climb J p (y + d) f ≡ climb J p y f
  climb_skip y zero f h = let e : y + 0 ≡ y = omega arith in rw e
  climb_skip y (suc d) f h =
      let e : y + suc d ≡ suc (y + d) = omega arith in
      rw e (go (J.fit p (y + d)) refl (climb_skip y d f (λ z a b. h z a (omega arith))))
    where
      go : (t : Bool) → J.fit p (y + d) ≡ t → climb J p (y + d) f ≡ climb J p y f → climb J p (suc (y + d)) f ≡ climb J p y f
      go true q r = climb_see (y + d) f q ∙ ap (see J p (y + d)) r ∙ h (y + d) (omega arith) (omega arith) q
      go false q r = climb_miss (y + d) f q ∙ r

  -- THEOREM: no bottom from y on and below x fits, so these may be passed over
  pub climb_none : (y x : ℕ) (f : Found) → y ≤ x → ((z : ℕ) → y ≤ z → z < x → J.fit p z ≡ false) → climb J p x f ≡ climb J p y f
  climb_none y x f l h =
      let e : y + (x - y) ≡ x = omega arith in
      rw e at (climb_skip y (x - y) f (λ z a b q. clash q (h z a (omega arith))))

  -- THEOREM: y fits and is seen, and the bottoms above y and below x that fit have its s and no less n, so these may be passed over
  pub climb_jump : (y x : ℕ) (f : Found) → y < x → J.fit p y ≡ true
      → ((z : ℕ) → y < z → z < x → J.fit p z ≡ true → (J.s p z ≡ J.s p y) × (J.n p y ≤ J.n p z)) → climb J p x f ≡ see J p y (climb J p y f)
  climb_jump y x f l e h =
      let q : suc y + (x - suc y) ≡ x = omega arith in
      let c = climb_see y f e in
      (rw q at (climb_skip (suc y) (x - suc y) f (λ z a b g. rw c (over z a (omega arith) g)))) ∙ c
    where
      over : (z : ℕ) → y < z → z < x → J.fit p z ≡ true → see J p z (see J p y (climb J p y f)) ≡ see J p y (climb J p y f)
      over z a b g = let (u, v) = h z a b g in see_same y z (see J p y (climb J p y f)) (see_no_worse y (climb J p y f)) u v
