-- Nodes in groups: where each group is joined inside, and groups step to one another where some of their nodes do, there are as many sets
-- of nodes as of groups. Assumes nothing.
use Rattle.std.specs.Prelude.{◌≡◌, refl, ◌⊎◌, List, [], ◌∷◌, map}
use Rattle.std.proofs.Common.{sym, subst, inl, inr, ⊎_elim}
use Rattle.sets.specs.Graph.{In, Leads, Joined, Unrelated, Represents}
use Rattle.sets.specs.Laws.Lists.{in_map_to, in_map_of}
use Rattle.sets.specs.Laws.Joined.{joined_refl, joined_step, joined_trans}

-- a relation that says the same of the nodes has the same representatives
module _ {A : Type 0} (N : A → Type 0) (I J : A → A → Type 0) (to : (x y : A) → N x → N y → I x y → J x y) (of : (x y : A) → N x → N y → J x y → I x y) where
  apart_same : (R : List A) → ((r : A) → In r R → N r) → Unrelated I R → Unrelated J R
  apart_same [] n a = tt
  apart_same (r ∷ R) n a =
      (λ s m j. a.0 s m (of r s (n r (inl refl)) (n s (inr m)) j), apart_same R (λ s m. n s (inr m)) a.1)

  pub represents_same : (R : List A) → Represents N I R → Represents N J R
  represents_same R c = record {
    within = c.within;
    apart = apart_same R c.within c.apart;
    every = λ x n. let (r, m, i) = c.every x n in (r, m, to x r n (c.within r m) i);
  }

-- what the groups are to the nodes: `Of x g` says that the node x is one of the group g
pub record Grouped {A B : Type 0} (N : A → Type 0) (T : A → A → Type 0) (G : B → Type 0) (U : B → B → Type 0) (Of : A → B → Type 0) : Type 0 where
  -- every node is in a group, and in one only
  pub group : (x : A) → N x → (g : B) × G g × Of x g
  pub only : (x : A) (g h : B) → G g → G h → Of x g → Of x h → g ≡ h
  -- the nodes of a group are joined
  pub whole : (g : B) → G g → (x y : A) → Of x g → Of y g → Joined T x y
  -- a step of nodes leads to a node, and stays in the group or is a step of groups
  pub nodes : (x y : A) → T x y → N y
  pub down : (x y : A) (g h : B) → G g → G h → Of x g → Of y h → T x y → (g ≡ h) ⊎ U g h
  -- a step of groups leads to a group, and some of their nodes make it
  pub groups : (g h : B) → U g h → G h
  pub up : (g h : B) → G g → U g h → (x : A) × (y : A) × Of x g × Of y h × T x y

module _ {A B : Type 0} (N : A → Type 0) (T : A → A → Type 0) (G : B → Type 0) (U : B → B → Type 0) (Of : A → B → Type 0)
    (d : Grouped N T G U Of) where
  -- joined nodes are in joined groups
  leads_groups : (x : A) (P : List A) (y : A) (g h : B) → G g → G h → Of x g → Of y h → Leads T x P y → Joined U g h
  leads_groups x [] y g h c e i j l = rw (d.only x g h c e i (rw l j)) (joined_refl U h)
  leads_groups x (z ∷ P) y g h c e i j l =
      let (k, o, n) = d.group z (d.nodes x z l.0) in
      let r : Joined U k h = leads_groups z P y k h o e n j l.1 in
      ⊎_elim (λ q. rw q r) (λ u. joined_trans U g k h (joined_step U g k u) r) (d.down x z g k c o i n l.0)

  -- the nodes of joined groups are joined
  leads_nodes : (g : B) (P : List B) (h : B) (x y : A) → G g → Of x g → Of y h → Leads U g P h → Joined T x y
  leads_nodes g [] h x y c i j l = d.whole g c x y i (rw l j)
  leads_nodes g (k ∷ P) h x y c i j l =
      let (v, w, a, b, t) = d.up g k c l.0 in
      joined_trans T x v y (d.whole g c x v i a)
      (joined_trans T v w y (joined_step T v w t) (leads_nodes k P h w y (d.groups g k l.0) b j l.1))

  -- some node of each group
  module _ (some : B → A) (some_in : (g : B) → G g → N (some g) × Of (some g) g) where
    map_apart : (R : List B) → ((g : B) → In g R → G g) → Unrelated (Joined U) R → Unrelated (Joined T) (map some R)
    map_apart [] c a = tt
    map_apart (r ∷ R) c a = (far, map_apart R (λ g m. c g (inr m)) a.1)
      where
        far : (x : A) → In x (map some R) → Joined T (some r) x → ⊥
        far x m j =
            let (g, k, e) = in_map_to some R x m in
            let i : Of (some g) g = (some_in g (c g (inr k))).1 in
            let n : Of (some r) r = (some_in r (c r (inl refl))).1 in
            a.0 g k (leads_groups (some r) j.0 x r g (c r (inl refl)) (c g (inr k)) n (subst (λ z. Of z g) (sym e) i) j.1)

    -- THEOREM: one node of each set of groups, and some node of each of these, is one node of each set of nodes
    pub groups_represent : (R : List B) → Represents G (Joined U) R → Represents N (Joined T) (map some R)
    groups_represent R c = record {
      within = λ x m. let (g, k, e) = in_map_to some R x m in subst N (sym e) (some_in g (c.within g k)).0;
      apart = map_apart R c.within c.apart;
      every = λ x n.
          let (g, o, i) = d.group x n in
          let (r, m, j) = c.every g o in
          (some r, in_map_of some R r m, leads_nodes g j.0 r x (some r) o i (some_in r (c.within r m)).1 j.1);
    }
