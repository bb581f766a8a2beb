-- Bounded quantifiers, sums and listings: over the numbers below a bound, and over a list; being one of a list. Assumes nothing.
use Rattle.std.specs.Prelude.{ℕ, zero, suc, ◌+◌, Bool, true, false, cond, ◌&&◌, ◌||◌, List, [], ◌∷◌, ◌++◌}
-- `In x L`: x is one of the list L
pub use Rattle.sets.specs.Graph.{In}

-- p holds of each number below n
unfoldable pub all_below : ℕ → (ℕ → Bool) → Bool
all_below zero p = true
all_below (suc n) p = all_below n p && p n

-- p holds of some number below n
unfoldable pub any_below : ℕ → (ℕ → Bool) → Bool
any_below zero p = false
any_below (suc n) p = any_below n p || p n

-- the sum of f over the numbers below n
unfoldable pub sum_below : ℕ → (ℕ → ℕ) → ℕ
sum_below zero f = 0
sum_below (suc n) f = sum_below n f + f n

-- the lists f 0, f 1, .. up to f (n - 1), one after the other
unfoldable pub join_below {ℓ} : {A : Type ℓ} → ℕ → (ℕ → List A) → List A
join_below zero f = []
join_below (suc n) f = join_below n f ++ f n

-- f 0, f 1, .. up to f (n - 1)
abbrev pub list_below {ℓ} : {A : Type ℓ} → ℕ → (ℕ → A) → List A
list_below n f = join_below n (λ i. f i ∷ [])

-- the numbers below n of which p holds, rising
unfoldable pub those_below : ℕ → (ℕ → Bool) → List ℕ
those_below zero p = []
those_below (suc n) p = those_below n p ++ cond (p n) (n ∷ []) []

-- p holds of each element
unfoldable pub all_in {ℓ} : {A : Type ℓ} → (A → Bool) → List A → Bool
all_in p [] = true
all_in p (x ∷ l) = p x && all_in p l

-- p holds of some element
unfoldable pub any_in {ℓ} : {A : Type ℓ} → (A → Bool) → List A → Bool
any_in p [] = false
any_in p (x ∷ l) = p x || any_in p l

-- the sum of f over the elements
unfoldable pub sum_in {ℓ} : {A : Type ℓ} → (A → ℕ) → List A → ℕ
sum_in f [] = 0
sum_in f (x ∷ l) = f x + sum_in f l

-- the lists f x, for the elements x, one after the other
unfoldable pub join_in {ℓ κ} : {A : Type ℓ} {B : Type κ} → (A → List B) → List A → List B
join_in f [] = []
join_in f (x ∷ l) = f x ++ join_in f l
