-- The law of unions: from m sets, each edge that brings two sets together leaves one less, and in the end the roots are one node of each
-- connected set. Assumes nothing.
use Rattle.std.specs.Prelude.{◌≡◌, refl, ◌⊎◌, Bool, true, false, cond, eqb, length, set}
use Rattle.std.proofs.Common.{sym, ap₂, ◌∙◌, inl, inr, ⊎_elim, eq-eqb, ne_eqb, eqb-true}
use Rattle.std.proofs.Math.Path.{ap}
use Rattle.std.proofs.Math.Bool.{not}
use mathlib.Core.List.{List, [], ◌∷◌, ◌++◌}
use Prim.Native.Nat.{ℕ, zero, suc, ◌+◌, ◌≤◌, ◌<◌, min, max}
use native.Mathlib.Omega.{arith}
use Rattle.std.proofs.Math.ListN.{length-set}
use Rattle.std.proofs.lemmas.List.{set-get_or}
use Rattle.std.proofs.Math.Seq.{get_or-set_same, get_or-set_other}
use Rattle.std.proofs.lemmas.Bool.{eqb-false}
use Rattle.runs.specs.Laws.Tests.{cond_ind, lt_or_ge}
use Rattle.sets.specs.Graph.{In, Joined, Represents}
use Rattle.sets.specs.Forest.{Falls, at, root, union, unions, merges, roots, Forest, Alone, Below, Edge}
use Rattle.sets.specs.Laws.Joined.{joined_refl, joined_trans, joined_sym, joined_within}
use Rattle.sets.specs.Laws.Groups.{represents_same}
use Rattle.sets.specs.Laws.Tops.{top_le, top_up, top_root, top_fixed, Linked, link_falls, link_top, link_count, length_roots, roots_represent}

-- the lower of two, where the other is the higher
low_left : (a b : ℕ) → cond (eqb a (max a b)) (min a b) a ≡ min a b
low_left a b = cond_ind (λ x. x ≡ min a b) (eqb a (max a b)) (λ e. refl) (λ e. omega (arith, eqb-false a (max a b) e))

low_right : (a b : ℕ) → cond (eqb b (max a b)) (min a b) b ≡ min a b
low_right a b = cond_ind (λ x. x ≡ min a b) (eqb b (max a b)) (λ e. refl) (λ e. omega (arith, eqb-false b (max a b) e))

-- ---- the way to the root

pub root_step : (P : List ℕ) → Falls (at P) → (i node up : ℕ) → up ≡ at P i → root P i ≡ root P node → root P up ≡ root P node
root_step P f i node up e h = rw e (top_up (at P) f i) ∙ h

pub root_here : (P : List ℕ) → Falls (at P) → (i node : ℕ) → at P i ≡ i → root P i ≡ root P node → i ≡ root P node
root_here P f i node e h = sym (top_fixed (at P) f i e) ∙ h

-- ---- one edge

union_same : (P : List ℕ) → Falls (at P) → (i j : ℕ) → root P i ≡ root P j → union P i j ≡ P
unfolding union
union_same P f i j e =
    let a : max (root P i) (root P j) ≡ root P i = omega arith in
    let l : min (root P i) (root P j) ≡ root P i = omega arith in
    let b : min (root P i) (root P j) ≡ at P (root P i) = l ∙ sym (top_root (at P) f i) in
    ap₂ (set P) a b ∙ set-get_or P (root P i) 0

module _ (m : ℕ) (P : List ℕ) (f : Forest m P) (i j : ℕ) (li : i < m) (lj : j < m) where
  union_linked : Linked (at P) (at (union P i j)) (min (root P i) (root P j)) (max (root P i) (root P j))
  unfolding union
  union_linked = record {
    low = either (λ x. at P x ≡ x) (λ h. rw h (top_root (at P) f.falls i)) (λ h. rw h (top_root (at P) f.falls j)) lowest;
    high = either (λ x. at P x ≡ x) (λ h. rw h (top_root (at P) f.falls i)) (λ h. rw h (top_root (at P) f.falls j)) highest;
    order = omega arith;
    here = get_or-set_same P (max (root P i) (root P j)) (min (root P i) (root P j)) 0
        (omega (arith, f.size, top_le (at P) f.falls i, top_le (at P) f.falls j));
    else = λ k n. get_or-set_other P (max (root P i) (root P j)) k (min (root P i) (root P j)) 0 n;
  }
    where
      either : {a b x : ℕ} (Q : ℕ → Type 0) → (x ≡ a → Q x) → (x ≡ b → Q x) → (x ≡ a) ⊎ (x ≡ b) → Q x
      either Q g h (inl e) = g e
      either Q g h (inr e) = h e

      lowest : (min (root P i) (root P j) ≡ root P i) ⊎ (min (root P i) (root P j) ≡ root P j)
      lowest = ⊎_elim (λ h. inl (omega arith)) (λ h. inr (omega arith)) (lt_or_ge (root P i) (root P j))

      highest : (max (root P i) (root P j) ≡ root P i) ⊎ (max (root P i) (root P j) ≡ root P j)
      highest = ⊎_elim (λ h. inr (omega arith)) (λ h. inl (omega arith)) (lt_or_ge (root P i) (root P j))

  union_forest : Forest m (union P i j)
  unfolding union
  union_forest = record {
    size = rw length-set f.size;
    falls = link_falls (at P) (at (union P i j)) _ _ f.falls union_linked;
  }

  -- the root after the union
  union_root : (k : ℕ) → root (union P i j) k
      ≡ cond (eqb (root P k) (max (root P i) (root P j))) (min (root P i) (root P j)) (root P k)
  union_root = link_top (at P) (at (union P i j)) _ _ f.falls union_linked

  -- nodes of one set stay in one set
  union_keeps : (x y : ℕ) → root P x ≡ root P y → root (union P i j) x ≡ root (union P i j) y
  union_keeps x y e = union_root x ∙ (rw e) ∙ sym (union_root y)

  -- i and j are in one set
  union_joins : root (union P i j) i ≡ root (union P i j) j
  union_joins =
      union_root i ∙ low_left (root P i) (root P j) ∙ sym (low_right (root P i) (root P j)) ∙ sym (union_root j)

  -- what is related to its root stays so, where i and j are related
  union_sound : (J : ℕ → ℕ → Type 0) (sy : (x y : ℕ) → J x y → J y x) (tr : (x y z : ℕ) → J x y → J y z → J x z)
      → J i j → ((x : ℕ) → x < m → J x (root P x)) → (x : ℕ) → x < m → J x (root (union P i j) x)
  union_sound J sy tr e h x l =
      rw union_root
      (cond_ind (J x) (eqb (root P x) (max (root P i) (root P j)))
      (λ t. turn (eqb-true (root P x) (max (root P i) (root P j)) t) (lt_or_ge (root P i) (root P j)))
      (λ t. h x l))
    where
      across : J (root P i) (root P j)
      across = tr (root P i) i (root P j) (sy i (root P i) (h i li)) (tr i j (root P j) e (h j lj))

      turn : root P x ≡ max (root P i) (root P j) → (root P i < root P j) ⊎ (root P j ≤ root P i) → J x (min (root P i) (root P j))
      turn t (inl k) =
          let a : root P x ≡ root P j = omega arith in
          let b : min (root P i) (root P j) ≡ root P i = omega arith in
          rw b (tr x (root P j) (root P i) (rw a at (h x l)) (sy (root P i) (root P j) across))
      turn t (inr k) =
          let a : root P x ≡ root P i = omega arith in
          let b : min (root P i) (root P j) ≡ root P j = omega arith in
          rw b (tr x (root P i) (root P j) (rw a at (h x l)) across)

  -- one root less, where i and j had two
  union_count : length (roots (at P) m) ≡ cond (eqb (root P i) (root P j)) 0 1 + length (roots (at (union P i j)) m)
  union_count = go (eqb (root P i) (root P j)) refl
    where
      go : (t : Bool) → eqb (root P i) (root P j) ≡ t → length (roots (at P) m) ≡ cond t 0 1 + length (roots (at (union P i j)) m)
      go true e = rw (union_same P f.falls i j (eqb-true (root P i) (root P j) e)) (omega arith)
      go false e =
          let n : root P i ≡ root P j → ⊥ = eqb-false (root P i) (root P j) e in
          let c : length (roots (at P) m) ≡ suc (length (roots (at (union P i j)) m)) =
          link_count (at P) (at (union P i j)) (min (root P i) (root P j)) (max (root P i) (root P j)) union_linked (omega arith) m
          (omega (arith, top_le (at P) f.falls i, top_le (at P) f.falls j)) in
          omega arith

-- the code's three ways
module _ (P : List ℕ) (f : Falls (at P)) (i j a b : ℕ) (ea : a ≡ root P i) (eb : b ≡ root P j) where
  pub unite_same : a ≡ b → (P ≡ union P i j) × (false ≡ not (eqb (root P i) (root P j)))
  unite_same e =
      let h : root P i ≡ root P j = sym ea ∙ e ∙ eb in
      (sym (union_same P f i j h), ap not (sym (eq-eqb (root P i) (root P j) h)))

  pub unite_two : ¬ (a ≡ b) → {h l : ℕ} → h ≡ max a b → l ≡ min a b → (set P h l ≡ union P i j) × (true ≡ not (eqb (root P i) (root P j)))
  unfolding union
  unite_two n {h = h} {l = l} eh el =
      let u : h ≡ max (root P i) (root P j) = omega arith in
      let d : l ≡ min (root P i) (root P j) = omega arith in
      (ap₂ (set P) u d, ap not (sym (ne_eqb (root P i) (root P j) (λ e. n (ea ∙ e ∙ sym eb)))))

-- ---- a list of edges

module _ (m : ℕ) where
  below_rest : (e : ℕ × ℕ) (E : List (ℕ × ℕ)) → Below m (e ∷ E) → Below m E
  below_rest e E b = λ d h. b d (inr h)

  first : (P : List ℕ) → Forest m P → (e : ℕ × ℕ) (E : List (ℕ × ℕ)) → Below m (e ∷ E) → Forest m (union P e.0 e.1)
  first P f e E b = union_forest m P f e.0 e.1 (b e (inl refl)).0 (b e (inl refl)).1

  pub unions_forest : (P : List ℕ) → Forest m P → (E : List (ℕ × ℕ)) → Below m E → Forest m (unions P E)
  unfolding unions
  unions_forest P f [] b = f
  unions_forest P f (e ∷ E) b = unions_forest (union P e.0 e.1) (first P f e E b) E (below_rest e E b)

  unions_keeps : (P : List ℕ) → Forest m P → (E : List (ℕ × ℕ)) → Below m E
      → (x y : ℕ) → root P x ≡ root P y → root (unions P E) x ≡ root (unions P E) y
  unfolding unions
  unions_keeps P f [] b x y h = h
  unions_keeps P f (e ∷ E) b x y h =
      unions_keeps (union P e.0 e.1) (first P f e E b) E (below_rest e E b) x y
      (union_keeps m P f e.0 e.1 (b e (inl refl)).0 (b e (inl refl)).1 x y h)

  unions_joins : (P : List ℕ) → Forest m P → (E : List (ℕ × ℕ)) → Below m E
      → (d : ℕ × ℕ) → In d E → root (unions P E) d.0 ≡ root (unions P E) d.1
  unfolding unions
  unions_joins P f [] b d h = absurd h
  unions_joins P f (e ∷ E) b d (inl h) =
      rw h
      (unions_keeps (union P e.0 e.1) (first P f e E b) E (below_rest e E b) e.0 e.1
      (union_joins m P f e.0 e.1 (b e (inl refl)).0 (b e (inl refl)).1))
  unions_joins P f (e ∷ E) b d (inr h) = unions_joins (union P e.0 e.1) (first P f e E b) E (below_rest e E b) d h

  unions_sound : (J : ℕ → ℕ → Type 0) (sy : (x y : ℕ) → J x y → J y x) (tr : (x y z : ℕ) → J x y → J y z → J x z)
      (P : List ℕ) → Forest m P → (E : List (ℕ × ℕ)) → Below m E → ((e : ℕ × ℕ) → In e E → J e.0 e.1)
      → ((x : ℕ) → x < m → J x (root P x)) → (x : ℕ) → x < m → J x (root (unions P E) x)
  unfolding unions
  unions_sound J sy tr P f [] b h s = s
  unions_sound J sy tr P f (e ∷ E) b h s =
      unions_sound J sy tr (union P e.0 e.1) (first P f e E b) E (below_rest e E b) (λ d k. h d (inr k))
      (union_sound m P f e.0 e.1 (b e (inl refl)).0 (b e (inl refl)).1 J sy tr (h e (inl refl)) s)

  -- each edge that brings two sets together leaves one root less
  unions_count : (P : List ℕ) → Forest m P → (E : List (ℕ × ℕ)) → Below m E
      → merges P E + length (roots (at (unions P E)) m) ≡ length (roots (at P) m)
  unfolding unions merges
  unions_count P f [] b = omega arith
  unions_count P f (e ∷ E) b =
      omega (
        arith,
        union_count m P f e.0 e.1 (b e (inl refl)).0 (b e (inl refl)).1,
        unions_count (union P e.0 e.1) (first P f e E b) E (below_rest e E b),
      )

-- ---- lists of edges, one after the other

pub length_unions : (P : List ℕ) (E : List (ℕ × ℕ)) → length (unions P E) ≡ length P
unfolding unions union
length_unions P [] = refl
length_unions P (e ∷ E) = length_unions (union P e.0 e.1) E ∙ (rw length-set)

pub unions_append : (P : List ℕ) (E F : List (ℕ × ℕ)) → unions P (E ++ F) ≡ unions (unions P E) F
unfolding unions
unions_append P [] F = refl
unions_append P (e ∷ E) F = unions_append (union P e.0 e.1) E F

pub merges_append : (P : List ℕ) (E F : List (ℕ × ℕ)) → merges P (E ++ F) ≡ merges P E + merges (unions P E) F
unfolding unions merges
merges_append P [] F = omega arith
merges_append P (e ∷ E) F = omega (arith, merges_append (union P e.0 e.1) E F)

-- ---- from nodes that are alone

alone_roots : (m : ℕ) (P : List ℕ) → ((k : ℕ) → k < m → at P k ≡ k) → length (roots (at P) m) ≡ m
unfolding roots
alone_roots zero P o = refl
alone_roots (suc n) P o =
    let t : eqb (at P n) n ≡ true = eq-eqb (at P n) n (o n (omega arith)) in
    let c : ◌≡◌ {A = ℕ} (cond (eqb (at P n) n) 1 0) 1 = rw t in
    omega (arith, length_roots (at P) n, c, alone_roots n P (λ k l. o k (omega arith)))

module _ (m : ℕ) (P : List ℕ) (a : Alone m P) (E : List (ℕ × ℕ)) (b : Below m E) where
  -- THEOREM: what is left of m is the number of roots ..
  pub unions_number : merges P E + length (roots (at (unions P E)) m) ≡ m
  unions_number = unions_count m P a.forest E b ∙ alone_roots m P a.own

  -- .. and these are one node of each set, where the edges join what T joins
  module _ (T : ℕ → ℕ → Type 0) (both : (i j : ℕ) → T i j → T j i)
      (sound : (e : ℕ × ℕ) → In e E → Joined T e.0 e.1)
      (complete : (i j : ℕ) → T i j → Joined (Edge E) i j) where
    to : (x y : ℕ) → x < m → y < m → root (unions P E) x ≡ root (unions P E) y → Joined T x y
    to x y k l e =
        joined_trans T x (root (unions P E) x) y (up x k) (rw e (joined_sym T both y (root (unions P E) y) (up y l)))
      where
        up : (z : ℕ) → z < m → Joined T z (root (unions P E) z)
        up =
            unions_sound m (Joined T) (joined_sym T both) (joined_trans T) P a.forest E b sound
            (λ z l. rw (top_fixed (at P) a.forest.falls z (a.own z l)) (joined_refl T z))

    edge : (i j : ℕ) → Edge E i j → root (unions P E) i ≡ root (unions P E) j
    edge i j (inl h) = unions_joins m P a.forest E b (i, j) h
    edge i j (inr h) = sym (unions_joins m P a.forest E b (j, i) h)

    within : (U : ℕ → ℕ → Type 0) → ((i j : ℕ) → U i j → root (unions P E) i ≡ root (unions P E) j)
        → (x y : ℕ) → Joined U x y → root (unions P E) x ≡ root (unions P E) y
    within U = joined_within U (λ x y. root (unions P E) x ≡ root (unions P E) y) (λ x. refl) (λ x y z p q. p ∙ q)

    pub unions_represent : Represents (λ i. i < m) (Joined T) (roots (at (unions P E)) m)
    unions_represent =
        represents_same (λ i. i < m) (λ x y. root (unions P E) x ≡ root (unions P E) y) (Joined T) to
        (λ x y k l. within T (λ i j t. within (Edge E) edge i j (complete i j t)) x y)
        (roots (at (unions P E)) m)
        (roots_represent (at (unions P E)) (unions_forest m P a.forest E b).falls m)
