-- Lists changed in place: a part replaced, and what stands in places moved by one place. What is proved of it stands in Laws.Parts and Laws.Slots.
-- Assumes nothing.
use Rattle.std.specs.Prelude.{ℕ, ◌+◌, ◌-◌, cond, List, ◌++◌, leb, ltb, take, drop}

module _ {ℓ} {A : Type ℓ} where
  -- r with its n elements from `at` on replaced by v: how a lent part comes back
  unfoldable pub splice : List A → ℕ → ℕ → List A → List A
  splice r at n v = take at r ++ (v ++ drop n (drop at r))

  -- f, but what stands at i .. n - 1 stands one place higher
  unfoldable pub raised : ℕ → ℕ → (ℕ → A) → ℕ → A
  raised i n f j = cond (ltb i j) (cond (leb j n) (f (j - 1)) (f j)) (f j)

  -- f, but what stands at i + 1 .. n stands one place lower
  unfoldable pub lowered : ℕ → ℕ → (ℕ → A) → ℕ → A
  lowered i n f j = cond (ltb j i) (f j) (cond (ltb j n) (f (j + 1)) (f j))
