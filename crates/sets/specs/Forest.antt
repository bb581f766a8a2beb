-- A forest of the nodes 0 to m - 1: each node has a parent that is not above it, and a root is its own parent. Nodes of one set have one
-- root. An edge puts the higher of its ends' two roots below the lower. Assumes nothing.
use Rattle.std.specs.Prelude.{◌≡◌, ◌⊎◌, cond, List, [], ◌∷◌, ℕ, zero, suc, ◌+◌, ◌≤◌, ◌<◌, min, max, eqb, length, get_or, set}
use Rattle.sets.specs.Graph.{In}

-- n parents up
abbrev pub climb : ℕ → (ℕ → ℕ) → ℕ → ℕ
climb zero p i = i
climb (suc n) p i = climb n p (p i)

-- no parent is above its node
abbrev pub Falls : (ℕ → ℕ) → Type 0
Falls p = (k : ℕ) → p k ≤ k

-- the root of i: i parents up are always enough
unfoldable pub top : (ℕ → ℕ) → ℕ → ℕ
top p i = climb i p i

-- the parents as a list
abbrev pub at : List ℕ → ℕ → ℕ
at P i = get_or P i 0

abbrev pub root : List ℕ → ℕ → ℕ
root P i = top (at P) i

-- P with the sets of i and j as one
unfoldable pub union : List ℕ → ℕ → ℕ → List ℕ
union P i j = set P (max (root P i) (root P j)) (min (root P i) (root P j))

-- P after the edges E, one after the other
unfoldable pub unions : List ℕ → List (ℕ × ℕ) → List ℕ
unions P [] = P
unions P (e ∷ E) = unions (union P e.0 e.1) E

-- how many of the edges E bring two sets together
unfoldable pub merges : List ℕ → List (ℕ × ℕ) → ℕ
merges P [] = 0
merges P (e ∷ E) = cond (eqb (root P e.0) (root P e.1)) 0 1 + merges (union P e.0 e.1) E

-- the roots below m
unfoldable pub roots : (ℕ → ℕ) → ℕ → List ℕ
roots p zero = []
roots p (suc n) =
    let r = roots p n in
    let s = n ∷ r in
    cond (eqb (p n) n) s r

-- P is a forest of m nodes
pub record Forest (m : ℕ) (P : List ℕ) : Type 0 where
  pub size : m ≤ length P
  pub falls : Falls (at P)

-- each of the m nodes is alone
pub record Alone (m : ℕ) (P : List ℕ) : Type 0 where
  pub forest : Forest m P
  pub own : (k : ℕ) → k < m → at P k ≡ k

-- both ends of every edge are below m
abbrev pub Below : ℕ → List (ℕ × ℕ) → Type 0
Below m E = (e : ℕ × ℕ) → In e E → (e.0 < m) × (e.1 < m)

-- an edge of E has the ends i and j
abbrev pub Edge : List (ℕ × ℕ) → ℕ → ℕ → Type 0
Edge E i j = In (i, j) E ⊎ In (j, i) E

-- ---- what the contracts say

-- a node is a number of two bytes (the model, above this crate, has this number as `words`)
abbrev pub max_nodes : ℕ
max_nodes = 65536

-- Q is P after the edges E, of which r brought two sets together
pub record Joins (E : List (ℕ × ℕ)) (P Q : List ℕ) (r : ℕ) : Type 0 where
  pub parents_are : Q ≡ unions P E
  pub count_is : r ≡ merges P E
