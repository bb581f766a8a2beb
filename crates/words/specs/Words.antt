-- What the functions of `words` answer. Assumes nothing.
use Rattle.std.specs.Prelude.{ℕ, ◌<◌, ◌≡◌, Bool, true, false, List, get_or}
use Rattle.model.specs.Limits.{words}
use Rattle.model.specs.Tasks.{word}

-- MODEL 4.3: the number of two bytes of s at `at`
pub record Read16 (s : List ℕ) (at r : ℕ) : Type 0 where
  pub is : r ≡ word s at
  pub small : r < words

-- whether two lists are the same
pub record Same (xs ys : List ℕ) (r : Bool) : Type 0 where
  pub yes : r ≡ true → xs ≡ ys
  pub no : r ≡ false → xs ≡ ys → ⊥

-- whether all bytes of p are 0
pub record AllZero (p : List ℕ) (r : Bool) : Type 0 where
  pub yes : r ≡ true → (j : ℕ) → get_or p j 0 ≡ 0
  pub no : r ≡ false → ((j : ℕ) → get_or p j 0 ≡ 0) → ⊥
