-- The connected sets of nodes are the groups less the edges that brought two sets of groups together. Assumes nothing.
use Rattle.std.specs.Prelude.{◌≡◌, Bool, true, List, map, ℕ, ◌+◌, ◌<◌, length}
use Rattle.std.proofs.Common.{arith}
use Rattle.std.proofs.lemmas.List.{length-map}
use Rattle.sets.specs.Graph.{In, Distinct, Joined, set_count, Touching}
use Rattle.sets.specs.Forest.{at, unions, merges, roots, Alone, Below, Edge}
use Rattle.sets.specs.Laws.Groups.{Grouped, groups_represent}
use Rattle.sets.specs.Laws.Classes.{sets_number}
use Rattle.sets.specs.Laws.Unions.{unions_number, unions_represent}

module _ {A : Type 0} (touch : A → A → Bool) (both : (x y : A) → touch x y ≡ true → touch y x ≡ true) (L : List A) (d : Distinct L) where
  -- THEOREM: m groups, less the edges that brought two sets of them together
  pub sets_count : (m : ℕ) (U : ℕ → ℕ → Type 0) (Of : A → ℕ → Type 0) (some : ℕ → A)
      → Grouped (λ y. In y L) (Touching touch L) (λ g. g < m) U Of
      → ((g : ℕ) → g < m → In (some g) L × Of (some g) g)
      → ((i j : ℕ) → U i j → U j i)
      → (P : List ℕ) → Alone m P → (E : List (ℕ × ℕ)) → Below m E
      → ((e : ℕ × ℕ) → In e E → Joined U e.0 e.1)
      → ((i j : ℕ) → U i j → Joined (Edge E) i j)
      → merges P E + set_count touch L ≡ m
  sets_count m U Of some g s u P a E b sound complete =
      let R : List ℕ = roots (at (unions P E)) m in
      let e : set_count touch L ≡ length (map some R) =
      sets_number touch both L d (map some R)
      (groups_represent (λ y. In y L) (Touching touch L) (λ g. g < m) U Of g some s R (unions_represent m P a E b U u sound complete)) in
      omega (arith, e, length-map R some, unions_number m P a E b)
