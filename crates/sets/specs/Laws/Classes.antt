-- What `classes` computes: two nodes are in one class exactly where touching joins them, and `set_count` is the number of sets. Assumes nothing.
use Rattle.std.specs.Prelude.{◌≡◌, ◌⊎◌, ◌↔◌, Bool}
use Rattle.std.proofs.Math.Path.{refl, sym, ap}
use Rattle.std.proofs.Common.{◌∙◌, true≢false}
use Rattle.std.proofs.Math.Logic.{inl, inr}
use Rattle.std.proofs.Math.Bool.{true, false}
use mathlib.Core.List.{List, [], ◌∷◌}
use Prim.Native.Nat.{suc, ◌≤◌}
use native.Mathlib.Omega.{arith}
use Rattle.std.proofs.Math.ListN.{length}
use Rattle.runs.specs.Laws.Tests.{cond_ind, or_to, or_of}
use Rattle.sets.specs.Graph.{In, Distinct, Joined, Unrelated, Represents, touches, met, unmet, classes, set_count, Touching}
use Rattle.sets.specs.Laws.Lists.{in_append_to, in_left, in_right}
use Rattle.sets.specs.Laws.Joined.{joined_refl, joined_step, joined_trans, joined_sym, joined_within, joined_more}
use Rattle.sets.specs.Laws.Represents.{same_number}

module _ {A : Type 0} where
  -- y stands in one of K
  abbrev pub InSome : A → List (List A) → Type 0
  InSome y K = (C : List A) × In C K × In y C

  -- nothing stands in two of K
  abbrev pub Disjoint : List (List A) → Type 0
  Disjoint [] = Unit {0}
  Disjoint (C ∷ K) = ((y : A) → In y C → InSome y K → ⊥) × Disjoint K

  -- two of K with a common node are one
  same_class : (K : List (List A)) → Disjoint K → (C D : List A) → In C K → In D K → (y : A) → In y C → In y D → C ≡ D
  same_class [] d C D m n y p q = absurd m
  same_class (E ∷ K) d C D (inl e) (inl f) y p q = e ∙ sym f
  same_class (E ∷ K) d C D (inl e) (inr n) y p q = absurd (d.0 y (rw e at p) (D, n, q))
  same_class (E ∷ K) d C D (inr m) (inl f) y p q = absurd (d.0 y (rw f at q) (C, m, p))
  same_class (E ∷ K) d C D (inr m) (inr n) y p q = same_class K d.1 C D m n y p q

-- the sets K part the nodes N as the steps T do
pub record Parted {A : Type 0} (T : A → A → Type 0) (N : A → Type 0) (K : List (List A)) : Type 0 where
  pub covers : (y : A) → N y → InSome y K
  pub covered : (y : A) → InSome y K → N y
  pub disjoint : Disjoint K
  -- each has a node, to which all its nodes are joined
  pub whole : (C : List A) → In C K → (c : A) × In c C × ((y : A) → In y C → Joined T y c)
  -- no step leaves it
  pub closed : (C : List A) → In C K → (y z : A) → In y C → T y z → In z C

module _ {A : Type 0} (T : A → A → Type 0) where
  -- nothing joins a node of a closed set to one outside
  joined_closed : (C : List A) → ((y z : A) → In y C → T y z → In z C) → (y z : A) → Joined T y z → In y C → In z C
  joined_closed C f = joined_within T (λ y z. In y C → In z C) (λ x m. m) (λ x y z p q m. q (p m)) (λ x y t m. f x y m t)

  -- two nodes are in one set of K exactly where steps join them
  one_set : (both : (x y : A) → T x y → T y x) (N : A → Type 0) (K : List (List A)) → Parted T N K
      → (x y : A) → N x → ((C : List A) × In C K × In x C × In y C) ↔ Joined T x y
  one_set both N K p x y n = (to, of)
    where
      to : (C : List A) × In C K × In x C × In y C → Joined T x y
      to h =
          let w : (c : A) × In c h.0 × ((y : A) → In y h.0 → Joined T y c) = p.whole h.0 h.1 in
          joined_trans T x w.0 y (w.2 x h.2) (joined_sym T both y w.0 (w.2 y h.3))

      of : Joined T x y → (C : List A) × In C K × In x C × In y C
      of j =
          let (C, m, k) = p.covers x n in
          (C, m, k, joined_closed C (p.closed C m) x y j k)

  -- one node of each set of K
  module _ (N : A → Type 0) where
    abbrev Whole : List (List A) → Type 0
    Whole K = (C : List A) → In C K → (c : A) × In c C × ((y : A) → In y C → Joined T y c)

    heads : (K : List (List A)) → Whole K → List A
    heads [] w = []
    heads (C ∷ K) w = (w C (inl refl)).0 ∷ heads K (λ D m. w D (inr m))

    length_heads : (K : List (List A)) (w : Whole K) → length (heads K w) ≡ length K
    unfolding heads
    length_heads [] w = refl
    length_heads (C ∷ K) w = ap suc (length_heads K (λ D m. w D (inr m)))

    heads_in : (K : List (List A)) (w : Whole K) (r : A) → In r (heads K w) → InSome r K
    unfolding heads
    heads_in [] w r m = absurd m
    heads_in (C ∷ K) w r (inl e) = (C, inl refl, rw e (w C (inl refl)).1)
    heads_in (C ∷ K) w r (inr m) = let (D, n, k) = heads_in K (λ D m. w D (inr m)) r m in (D, inr n, k)

    heads_apart : (K : List (List A)) (w : Whole K) → Disjoint K → ((C : List A) → In C K → (y z : A) → In y C → T y z → In z C)
        → Unrelated (Joined T) (heads K w)
    unfolding heads
    heads_apart [] w d f = tt
    heads_apart (C ∷ K) w d f =
        let c : A = (w C (inl refl)).0 in (
          λ s m j. d.0 s (joined_closed C (f C (inl refl)) c s j (w C (inl refl)).1) (heads_in K (λ D m. w D (inr m)) s m),
          heads_apart K (λ D m. w D (inr m)) d.1 (λ D m. f D (inr m)),
        )

    heads_every : (K : List (List A)) (w : Whole K) (y : A) (C : List A) → In C K → In y C
        → (r : A) × In r (heads K w) × Joined T y r
    unfolding heads
    heads_every [] w y C m k = absurd m
    heads_every (D ∷ K) w y C (inl e) k = ((w D (inl refl)).0, inl refl, (w D (inl refl)).2 y (rw e at k))
    heads_every (D ∷ K) w y C (inr m) k = let (r, n, j) = heads_every K (λ D m. w D (inr m)) y C m k in (r, inr n, j)

    parted_represents : (K : List (List A)) → Parted T N K → (R : List A) × (length R ≡ length K) × Represents N (Joined T) R
    parted_represents K p = (
      heads K p.whole,
      length_heads K p.whole,
      record {
        within = λ r m. p.covered r (heads_in K p.whole r m);
        apart = heads_apart K p.whole p.disjoint p.closed;
        every = λ x n. let (C, m, k) = p.covers x n in heads_every K p.whole x C m k;
      },
    )

module _ {A : Type 0} (touch : A → A → Bool) (both : (x y : A) → touch x y ≡ true → touch y x ≡ true) where
  touches_of : (x y : A) (C : List A) → In y C → touch x y ≡ true → touches touch x C ≡ true
  unfolding touches
  touches_of x y [] m t = absurd m
  touches_of x y (z ∷ C) (inl e) t = rw (← e, t)
  touches_of x y (z ∷ C) (inr m) t = or_of (touch x z) (touches touch x C) (inr (touches_of x y C m t))

  touches_to : (x : A) (C : List A) → touches touch x C ≡ true → (y : A) × In y C × (touch x y ≡ true)
  unfolding touches
  touches_to x [] t = absurd (true≢false (sym t))
  touches_to x (z ∷ C) t = go (touches_to x C) (or_to (touch x z) (touches touch x C) t)
    where
      go : (touches touch x C ≡ true → (y : A) × In y C × (touch x y ≡ true)) → (touch x z ≡ true) ⊎ (touches touch x C ≡ true)
          → (y : A) × In y (z ∷ C) × (touch x y ≡ true)
      go rest (inl e) = (z, inl refl, e)
      go rest (inr e) = let (y, m, k) = rest e in (y, inr m, k)

  met_to : (x y : A) (K : List (List A)) → In y (met touch x K) → (C : List A) × In C K × (touches touch x C ≡ true) × In y C
  unfolding met
  met_to x y [] m = absurd m
  met_to x y (D ∷ K) m =
      cond_ind (λ M. In y M → (C : List A) × In C (D ∷ K) × (touches touch x C ≡ true) × In y C) (touches touch x D)
      (λ e k. go e (met_to x y K) (in_append_to y D (met touch x K) k))
      (λ e k. rest (met_to x y K k))
      m
    where
      rest : (C : List A) × In C K × (touches touch x C ≡ true) × In y C → (C : List A) × In C (D ∷ K) × (touches touch x C ≡ true) × In y C
      rest (h) = (h.0, inr h.1, h.2, h.3)

      go : touches touch x D ≡ true → (In y (met touch x K) → (C : List A) × In C K × (touches touch x C ≡ true) × In y C)
          → In y D ⊎ In y (met touch x K) → (C : List A) × In C (D ∷ K) × (touches touch x C ≡ true) × In y C
      go e f (inl k) = (D, inl refl, e, k)
      go e f (inr k) = rest (f k)

  met_of : (x y : A) (K : List (List A)) (C : List A) → In C K → touches touch x C ≡ true → In y C → In y (met touch x K)
  unfolding met
  met_of x y [] C m t k = absurd m
  met_of x y (D ∷ K) C (inl e) t k = rw (← e, t) (in_left y C (met touch x K) k)
  met_of x y (D ∷ K) C (inr m) t k =
      let r : In y (met touch x K) = met_of x y K C m t k in
      cond_ind (In y) (touches touch x D) (λ e. in_right y D (met touch x K) r) (λ e. r)

  unmet_to : (x : A) (K : List (List A)) (C : List A) → In C (unmet touch x K) → In C K × (touches touch x C ≡ false)
  unfolding unmet
  unmet_to x [] C m = absurd m
  unmet_to x (D ∷ K) C m =
      cond_ind (λ M. In C M → In C (D ∷ K) × (touches touch x C ≡ false)) (touches touch x D)
      (λ e k. (inr (unmet_to x K C k).0, (unmet_to x K C k).1))
      (λ e k. go e (unmet_to x K C) k)
      m
    where
      go : touches touch x D ≡ false → (In C (unmet touch x K) → In C K × (touches touch x C ≡ false))
          → In C (D ∷ unmet touch x K) → In C (D ∷ K) × (touches touch x C ≡ false)
      go e f (inl k) = (inl k, rw k e)
      go e f (inr k) = (inr (f k).0, (f k).1)

  unmet_of : (x : A) (K : List (List A)) (C : List A) → In C K → touches touch x C ≡ false → In C (unmet touch x K)
  unfolding unmet
  unmet_of x [] C m t = absurd m
  unmet_of x (D ∷ K) C (inl e) t = rw (← e, t) (inl refl)
  unmet_of x (D ∷ K) C (inr m) t =
      let r : In C (unmet touch x K) = unmet_of x K C m t in
      cond_ind (In C) (touches touch x D) (λ e. r) (λ e. inr r)

  unmet_disjoint : (x : A) (K : List (List A)) → Disjoint K → Disjoint (unmet touch x K)
  unfolding unmet
  unmet_disjoint x [] d = tt
  unmet_disjoint x (D ∷ K) d =
      let r : Disjoint (unmet touch x K) = unmet_disjoint x K d.1 in
      cond_ind Disjoint (touches touch x D) (λ e. r)
      (λ e. (λ y m s. d.0 y m (s.0, (unmet_to x K s.0 s.1).0, s.2), r))

  step_both : (L : List A) (x y : A) → Touching touch L x y → Touching touch L y x
  step_both L x y s = (s.1, s.0, both x y s.2)

  step_more : (w : A) (L : List A) (x y : A) → Touching touch L x y → Touching touch (w ∷ L) x y
  step_more w L x y s = (inr s.0, inr s.1, s.2)

  -- one node more
  module _ (x : A) (L : List A) (fresh : In x L → ⊥) (K : List (List A)) (p : Parted (Touching touch L) (λ y. In y L) K) where
    T' : A → A → Type 0
    T' = Touching touch (x ∷ L)

    add_covers : (y : A) → In y (x ∷ L) → InSome y ((x ∷ met touch x K) ∷ unmet touch x K)
    add_covers y (inl e) = (x ∷ met touch x K, inl refl, inl e)
    add_covers y (inr m) = go (p.covers y m) refl
      where
        go : (s : InSome y K) {b : Bool} → touches touch x s.0 ≡ b → InSome y ((x ∷ met touch x K) ∷ unmet touch x K)
        go s {b = true} e = (x ∷ met touch x K, inl refl, inr (met_of x y K s.0 s.1 e s.2))
        go s {b = false} e = (s.0, inr (unmet_of x K s.0 s.1 e), s.2)

    add_covered : (y : A) → InSome y ((x ∷ met touch x K) ∷ unmet touch x K) → In y (x ∷ L)
    add_covered y s = go s.1
      where
        new : In y (x ∷ met touch x K) → In y (x ∷ L)
        new (inl e) = inl e
        new (inr m) = let (C, n, t, k) = met_to x y K m in inr (p.covered y (C, n, k))

        go : In s.0 ((x ∷ met touch x K) ∷ unmet touch x K) → In y (x ∷ L)
        go (inl e) = new (rw e at s.2)
        go (inr m) = inr (p.covered y (s.0, (unmet_to x K s.0 m).0, s.2))

    add_disjoint : Disjoint ((x ∷ met touch x K) ∷ unmet touch x K)
    add_disjoint = (go, unmet_disjoint x K p.disjoint)
      where
        go : (y : A) → In y (x ∷ met touch x K) → InSome y (unmet touch x K) → ⊥
        go y (inl e) s = fresh (rw e at (p.covered y (s.0, (unmet_to x K s.0 s.1).0, s.2)))
        go y (inr m) s =
            let (C, n, t, k) = met_to x y K m in
            let u : In s.0 K × (touches touch x s.0 ≡ false) = unmet_to x K s.0 s.1 in
            let e : C ≡ s.0 = same_class K p.disjoint C s.0 n u.0 y k s.2 in
            true≢false (sym t ∙ ap (touches touch x) e ∙ u.1)

    old : (y z : A) → Joined (Touching touch L) y z → Joined (Touching touch (x ∷ L)) y z
    old = joined_more (Touching touch L) (Touching touch (x ∷ L)) (step_more x L)

    add_whole : (C : List A) → In C ((x ∷ met touch x K) ∷ unmet touch x K)
        → (c : A) × In c C × ((y : A) → In y C → Joined (Touching touch (x ∷ L)) y c)
    add_whole C (inl e) = rw e (x, inl refl, new)
      where
        new : (y : A) → In y (x ∷ met touch x K) → Joined (Touching touch (x ∷ L)) y x
        new y (inl e) = rw e (joined_refl (Touching touch (x ∷ L)) x)
        new y (inr m) =
            let (C, n, t, k) = met_to x y K m in
            let w : (c : A) × In c C × ((y : A) → In y C → Joined (Touching touch L) y c) = p.whole C n in
            let (z, q, u) = touches_to x C t in
            joined_trans (Touching touch (x ∷ L)) y w.0 x (old y w.0 (w.2 y k))
            (joined_trans (Touching touch (x ∷ L)) w.0 z x
            (old w.0 z (joined_sym (Touching touch L) (step_both L) z w.0 (w.2 z q)))
            (joined_step (Touching touch (x ∷ L)) z x (inr (p.covered z (C, n, q)), inl refl, both x z u)))
    add_whole C (inr m) =
        let w : (c : A) × In c C × ((y : A) → In y C → Joined (Touching touch L) y c) = p.whole C (unmet_to x K C m).0 in
        (w.0, w.1, λ y k. old y w.0 (w.2 y k))

    add_closed : (C : List A) → In C ((x ∷ met touch x K) ∷ unmet touch x K) → (y z : A) → In y C → Touching touch (x ∷ L) y z → In z C
    add_closed C (inl e) y z k s = rw e (new (rw e at k) s.1 s.2)
      where
        new : In y (x ∷ met touch x K) → In z (x ∷ L) → touch y z ≡ true → In z (x ∷ met touch x K)
        new m (inl f) t = inl f
        new (inl f) (inr n) t =
            let (D, q, r) = p.covers z n in
            inr (met_of x z K D q (touches_of x z D r (rw f at t)) r)
        new (inr m) (inr n) t =
            let (D, q, u, r) = met_to x y K m in
            inr (met_of x z K D q u (p.closed D q y z r (p.covered y (D, q, r), n, t)))
    add_closed C (inr m) y z k s = far s.1 s.2
      where
        far : In z (x ∷ L) → touch y z ≡ true → In z C
        far (inl f) t = absurd (true≢false (sym (touches_of x y C k (both y x (rw f at t))) ∙ (unmet_to x K C m).1))
        far (inr n) t =
            let q : In C K = (unmet_to x K C m).0 in
            p.closed C q y z k (p.covered y (C, q, k), n, t)

  classes_parted : (L : List A) → Distinct L → Parted (Touching touch L) (λ y. In y L) (classes touch L)
  unfolding classes
  classes_parted [] d = record {
    covers = λ y m. absurd m;
    covered = λ y s. s.1;
    disjoint = tt;
    whole = λ C m. absurd m;
    closed = λ C m. absurd m;
  }
  classes_parted (x ∷ L) d =
      let p : Parted (Touching touch L) (λ y. In y L) (classes touch L) = classes_parted L d.1 in record {
        covers = add_covers x L d.0 (classes touch L) p;
        covered = add_covered x L d.0 (classes touch L) p;
        disjoint = add_disjoint x L d.0 (classes touch L) p;
        whole = add_whole x L d.0 (classes touch L) p;
        closed = add_closed x L d.0 (classes touch L) p;
      }

  -- THEOREM: two nodes are in one class exactly where a list of nodes, each touching the next, leads from one to the other
  pub class_joined : (L : List A) → Distinct L → (x y : A) → In x L
      → ((C : List A) × In C (classes touch L) × In x C × In y C) ↔ Joined (Touching touch L) x y
  class_joined L d = one_set (Touching touch L) (step_both L) (λ y. In y L) (classes touch L) (classes_parted L d)

  -- THEOREM: the number of connected sets is the length of any list with one node of each, and there is such a list
  pub sets_number : (L : List A) → Distinct L → (R : List A) → Represents (λ y. In y L) (Joined (Touching touch L)) R → set_count touch L ≡ length R
  unfolding set_count
  sets_number L d R h =
      let (S, e, k) = parted_represents (Touching touch L) (λ y. In y L) (classes touch L) (classes_parted L d) in
      sym e ∙ same_number (Joined (Touching touch L)) (joined_sym (Touching touch L) (step_both L)) (joined_trans (Touching touch L)) (λ y. In y L) S R k h

  pub sets_exist : (L : List A) → Distinct L → (R : List A) × (length R ≡ set_count touch L) × Represents (λ y. In y L) (Joined (Touching touch L)) R
  unfolding set_count
  sets_exist L d = parted_represents (Touching touch L) (λ y. In y L) (classes touch L) (classes_parted L d)

  -- there are at most as many as nodes
  unmet_few : (x : A) (K : List (List A)) → length (unmet touch x K) ≤ length K
  unfolding unmet
  unmet_few x [] = omega arith
  unmet_few x (C ∷ K) =
      cond_ind (λ (M : List (List A)). length M ≤ suc (length K)) (touches touch x C) {x = unmet touch x K} {y = C ∷ unmet touch x K}
      (λ e. omega (arith, unmet_few x K)) (λ e. omega (arith, unmet_few x K))

  pub sets_few : (L : List A) → set_count touch L ≤ length L
  unfolding set_count classes
  sets_few [] = omega arith
  sets_few (x ∷ L) = omega (arith, sets_few L, unmet_few x (classes touch L))
