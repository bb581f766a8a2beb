-- MODEL 22.3, for nodes of any kind: what joins them, a list of nodes, each a step from the one before; the sets that this makes, and how many they are.
-- Assumes nothing.
use Rattle.std.specs.Prelude.{◌≡◌, ◌⊎◌, Bool, true, false, cond, ◌||◌, List, [], ◌∷◌, ◌++◌, ℕ, length}

module _ {A : Type 0} where
  -- x is one of L
  abbrev pub In : A → List A → Type 0
  In x [] = ⊥
  In x (y ∷ L) = (x ≡ y) ⊎ In x L

  -- nothing stands twice in L
  abbrev pub Distinct : List A → Type 0
  Distinct [] = Unit {0}
  Distinct (x ∷ L) = (In x L → ⊥) × Distinct L

  -- the nodes P lead from x to y, each a step from the one before
  abbrev pub Leads : (A → A → Type 0) → A → List A → A → Type 0
  Leads T x [] y = x ≡ y
  Leads T x (z ∷ P) y = T x z × Leads T z P y

  -- MODEL 22.3: steps join x and y: a list of nodes leads from one to the other
  abbrev pub Joined : (A → A → Type 0) → A → A → Type 0
  Joined T x y = (P : List A) × Leads T x P y

  -- no two of R are related, where J goes both ways: none to one behind it
  abbrev pub Unrelated : (A → A → Type 0) → List A → Type 0
  Unrelated J [] = Unit {0}
  Unrelated J (r ∷ R) = ((s : A) → In s R → J r s → ⊥) × Unrelated J R

-- MODEL 22.3: R has one node of each set: all are nodes, no two are joined, and every node is joined to one of them.
-- So the length of R is the number of sets (`same_number` in Laws/Represents: all such lists have one length).
pub record Represents {A : Type 0} (N : A → Type 0) (J : A → A → Type 0) (R : List A) : Type 0 where
  pub within : (r : A) → In r R → N r
  pub apart : Unrelated J R
  pub every : (x : A) → N x → (r : A) × In r R × J x r

module _ {A : Type 0} (touch : A → A → Bool) where
  -- one of C touches x
  unfoldable pub touches : A → List A → Bool
  touches x [] = false
  touches x (y ∷ C) = touch x y || touches x C

  -- the nodes of those of the sets K that x touches
  unfoldable pub met : A → List (List A) → List A
  met x [] = []
  met x (C ∷ K) =
      let r = met x K in
      let s = C ++ r in
      cond (touches x C) s r

  -- those of the sets K that x does not touch
  unfoldable pub unmet : A → List (List A) → List (List A)
  unmet x [] = []
  unmet x (C ∷ K) =
      let r = unmet x K in
      let s = C ∷ r in
      cond (touches x C) r s

  -- MODEL 22.3: the connected sets of the nodes L: node by node, each makes one set with all those that it touches
  unfoldable pub classes : List A → List (List A)
  classes [] = []
  classes (x ∷ L) = (x ∷ met x (classes L)) ∷ unmet x (classes L)

  -- MODEL 22.3: how many connected sets the nodes L have
  unfoldable pub set_count : List A → ℕ
  set_count L = length (classes L)

  -- x and y are nodes of L that touch
  abbrev pub Touching : List A → A → A → Type 0
  Touching L x y = In x L × In y L × (touch x y ≡ true)
