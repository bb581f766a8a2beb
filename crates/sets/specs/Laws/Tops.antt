-- Roots by parents, for parents as a function. Assumes nothing.
use Rattle.std.specs.Prelude.{◌≡◌, refl, ◌⊎◌, Bool, ◌∷◌}
use Rattle.std.proofs.Math.Path.{sym}
use Rattle.std.proofs.Common.{ap, ◌∙◌, inl, eq-eqb, ne_eqb, eqb-true}
use Rattle.std.proofs.Math.Logic.{inr, ⊎_elim}
use Rattle.std.proofs.Math.Bool.{true, false, cond}
use Prim.Native.Nat.{ℕ, zero, suc, ◌+◌, ◌≤◌, ◌<◌}
use native.Mathlib.Omega.{arith}
use Rattle.std.proofs.Math.Dec.{eqb}
use Rattle.std.proofs.Math.ListN.{length}
use Rattle.std.proofs.lemmas.Bool.{eqb-false}
use Rattle.runs.specs.Laws.Tests.{cond_ind, lt_or_ge}
use Rattle.sets.specs.Graph.{In, Unrelated, Represents}
use Rattle.sets.specs.Forest.{climb, Falls, top, roots}

module _ (p : ℕ → ℕ) where
  climb_fixed : (n i : ℕ) → p i ≡ i → climb n p i ≡ i
  climb_fixed zero i e = refl
  climb_fixed (suc n) i e = rw e (climb_fixed n i e)

  climb_last : (n i : ℕ) → climb (suc n) p i ≡ p (climb n p i)
  climb_last zero i = refl
  climb_last (suc n) i = climb_last n (p i)

  -- what no step to a parent changes, no climb changes
  carried : (g : ℕ → ℕ) → ((k : ℕ) → g (p k) ≡ g k) → (n i : ℕ) → g (climb n p i) ≡ g i
  carried g h zero i = refl
  carried g h (suc n) i = carried g h n (p i) ∙ h i

module _ (p : ℕ → ℕ) (f : Falls p) where
  climb_root : (n i : ℕ) → i ≤ n → p (climb n p i) ≡ climb n p i
  climb_root zero i l = omega (arith, f i)
  climb_root (suc n) i l =
      ⊎_elim (λ k. climb_root n (p i) (omega arith)) (λ k. at_root (omega (arith, f i))) (lt_or_ge (p i) i)
    where
      at_root : p i ≡ i → p (climb n p (p i)) ≡ climb n p (p i)
      at_root e = rw e (rw (climb_fixed p n i e) e)

  climb_le : (n i : ℕ) → climb n p i ≤ i
  climb_le zero i = omega arith
  climb_le (suc n) i = omega (arith, climb_le n (p i), f i)

  pub top_le : (i : ℕ) → top p i ≤ i
  unfolding top
  top_le i = climb_le i i

  pub top_root : (i : ℕ) → p (top p i) ≡ top p i
  unfolding top
  top_root i = climb_root i i (omega arith)

  pub top_fixed : (i : ℕ) → p i ≡ i → top p i ≡ i
  unfolding top
  top_fixed i e = climb_fixed p i i e

  top_top : (i : ℕ) → top p (top p i) ≡ top p i
  top_top i = top_fixed (top p i) (top_root i)

  stable : (n i : ℕ) → i ≤ n → climb n p i ≡ top p i
  unfolding top
  stable zero i l = let e : i ≡ 0 = omega arith in rw e
  stable (suc n) i l =
      ⊎_elim (λ k. climb_last p n i ∙ climb_root n i (omega arith) ∙ stable n i (omega arith)) last (lt_or_ge i (suc n))
    where
      last : suc n ≤ i → climb (suc n) p i ≡ climb i p i
      last k = let e : i ≡ suc n = omega arith in rw e

  -- a node has its parent's root
  pub top_up : (i : ℕ) → top p (p i) ≡ top p i
  top_up i = sym (stable i (p i) (f i)) ∙ stable (suc i) i (omega arith)

  -- THEOREM: whatever agrees with the parents, and leaves the roots, gives the root
  pub top_unique : (g : ℕ → ℕ) → ((k : ℕ) → g (p k) ≡ g k) → ((k : ℕ) → p k ≡ k → g k ≡ k) → (i : ℕ) → top p i ≡ g i
  unfolding top
  top_unique g h r i = sym (r (climb i p i) (climb_root i i (omega arith))) ∙ carried p g h i i

-- q is p, but for one root b, which is now below the root a
pub record Linked (p q : ℕ → ℕ) (a b : ℕ) : Type 0 where
  pub low : p a ≡ a
  pub high : p b ≡ b
  pub order : a ≤ b
  pub here : q b ≡ a
  pub else : (k : ℕ) → (k ≡ b → ⊥) → q k ≡ p k

module _ (p q : ℕ → ℕ) (a b : ℕ) (f : Falls p) (l : Linked p q a b) where
  same_or : (k : ℕ) → (k ≡ b) ⊎ (k ≡ b → ⊥)
  same_or k = go (eqb k b) refl
    where
      go : (t : Bool) → eqb k b ≡ t → (k ≡ b) ⊎ (k ≡ b → ⊥)
      go true e = inl (eqb-true k b e)
      go false e = inr (eqb-false k b e)

  pub link_falls : Falls q
  link_falls k = go (same_or k)
    where
      go : (k ≡ b) ⊎ (k ≡ b → ⊥) → q k ≤ k
      go (inl e) = rw e (omega (arith, l.here, l.order))
      go (inr n) = omega (arith, l.else k n, f k)

  -- the root after the link
  pub link_top : (k : ℕ) → top q k ≡ cond (eqb (top p k) b) a (top p k)
  link_top = top_unique q link_falls (λ k. cond (eqb (top p k) b) a (top p k)) up fixed
    where
      low_top : top p a ≡ a
      low_top = top_fixed p f a l.low

      high_top : top p b ≡ b
      high_top = top_fixed p f b l.high

      up : (k : ℕ) → cond (eqb (top p (q k)) b) a (top p (q k)) ≡ cond (eqb (top p k) b) a (top p k)
      up k = go (same_or k)
        where
          go : (k ≡ b) ⊎ (k ≡ b → ⊥) → cond (eqb (top p (q k)) b) a (top p (q k)) ≡ cond (eqb (top p k) b) a (top p k)
          go (inl e) =
              rw (e, l.here, low_top, high_top, eq-eqb b b refl) (cond_ind (λ x. x ≡ a) (eqb a b) (λ t. refl) (λ t. refl))
          go (inr n) = rw (l.else k n, top_up p f k)

      fixed : (k : ℕ) → q k ≡ k → cond (eqb (top p k) b) a (top p k) ≡ k
      fixed k e = go (same_or k)
        where
          go : (k ≡ b) ⊎ (k ≡ b → ⊥) → cond (eqb (top p k) b) a (top p k) ≡ k
          go (inl h) =
              let s : a ≡ k = sym l.here ∙ ap q (sym h) ∙ e in
              let t : top p k ≡ k = ap (top p) h ∙ high_top ∙ sym h in
              cond_ind (λ x. x ≡ k) (eqb (top p k) b) (λ u. s) (λ u. t)
          go (inr n) =
              let t : top p k ≡ k = top_fixed p f k (sym (l.else k n) ∙ e) in
              rw (t, ne_eqb k b n)

-- ---- the list of the roots

module _ (p : ℕ → ℕ) where
  roots_to : (m r : ℕ) → In r (roots p m) → (r < m) × (p r ≡ r)
  unfolding roots
  roots_to zero r h = absurd h
  roots_to (suc n) r h =
      cond_ind (λ R. In r R → (r < suc n) × (p r ≡ r)) (eqb (p n) n)
      (λ e k. go e (roots_to n r) k)
      (λ e k. (omega (arith, (roots_to n r k).0), (roots_to n r k).1))
      h
    where
      go : eqb (p n) n ≡ true → (In r (roots p n) → (r < n) × (p r ≡ r)) → In r (n ∷ roots p n) → (r < suc n) × (p r ≡ r)
      go e f (inl k) = (omega arith, rw k (eqb-true (p n) n e))
      go e f (inr k) = (omega (arith, (f k).0), (f k).1)

  roots_of : (m r : ℕ) → r < m → p r ≡ r → In r (roots p m)
  unfolding roots
  roots_of zero r l e = absurd (omega arith)
  roots_of (suc n) r l e = ⊎_elim (λ k. old (roots_of n r k e)) new (lt_or_ge r n)
    where
      old : In r (roots p n) → In r (roots p (suc n))
      old h = cond_ind (In r) (eqb (p n) n) (λ t. inr h) (λ t. h)

      new : n ≤ r → In r (roots p (suc n))
      new k =
          let h : r ≡ n = omega arith in
          let u : eqb (p n) n ≡ true = eq-eqb (p n) n (rw h at e) in
          rw u (inl h)

  roots_apart : (f : Falls p) (m : ℕ) → Unrelated (λ i j. top p i ≡ top p j) (roots p m)
  unfolding roots
  roots_apart f zero = tt
  roots_apart f (suc n) =
      let r : Unrelated (λ i j. top p i ≡ top p j) (roots p n) = roots_apart f n in
      cond_ind (Unrelated (λ i j. top p i ≡ top p j)) (eqb (p n) n) (λ e. (far e, r)) (λ e. r)
    where
      far : eqb (p n) n ≡ true → (s : ℕ) → In s (roots p n) → top p n ≡ top p s → ⊥
      far e s m h =
          let k : (s < n) × (p s ≡ s) = roots_to n s m in
          omega (arith, h, top_fixed p f n (eqb-true (p n) n e), top_fixed p f s k.1)

  -- the roots are one node of each set
  pub roots_represent : (f : Falls p) (m : ℕ) → Represents (λ i. i < m) (λ i j. top p i ≡ top p j) (roots p m)
  roots_represent f m = record {
    within = λ r h. (roots_to m r h).0;
    apart = roots_apart f m;
    every = λ x l. (top p x, roots_of m (top p x) (omega (arith, top_le p f x)) (top_root p f x), sym (top_top p f x));
  }

  pub length_roots : (n : ℕ) → length (roots p (suc n)) ≡ cond (eqb (p n) n) 1 0 + length (roots p n)
  unfolding roots
  length_roots n = go (eqb (p n) n)
    where
      go : (t : Bool) → length (cond t (n ∷ roots p n) (roots p n)) ≡ cond t 1 0 + length (roots p n)
      go true = omega arith
      go false = omega arith

roots_cong : (p q : ℕ → ℕ) (m : ℕ) → ((k : ℕ) → k < m → q k ≡ p k) → roots q m ≡ roots p m
unfolding roots
roots_cong p q zero e = refl
roots_cong p q (suc n) e = rw (e n (omega arith), roots_cong p q n (λ k l. e k (omega arith)))

-- a link of two roots makes one root less
pub link_count : (p q : ℕ → ℕ) (a b : ℕ) → Linked p q a b → a < b → (m : ℕ) → b < m → length (roots p m) ≡ suc (length (roots q m))
link_count p q a b l o zero h = absurd (omega arith)
link_count p q a b l o (suc n) h = ⊎_elim (λ k. below k (link_count p q a b l o n k)) here (lt_or_ge b n)
  where
    below : b < n → length (roots p n) ≡ suc (length (roots q n)) → length (roots p (suc n)) ≡ suc (length (roots q (suc n)))
    below k r =
        let e : q n ≡ p n = l.else n (λ s. omega arith) in
        let c : ◌≡◌ {A = ℕ} (cond (eqb (q n) n) 1 0) (cond (eqb (p n) n) 1 0) = rw e in
        omega (arith, length_roots p n, length_roots q n, c)

    here : n ≤ b → length (roots p (suc n)) ≡ suc (length (roots q (suc n)))
    here k =
        let e : b ≡ n = omega arith in
        let t : eqb (p n) n ≡ true = eq-eqb (p n) n (rw e at l.high) in
        let u : eqb (q n) n ≡ false = ne_eqb (q n) n (λ s. omega (arith, rw e at l.here)) in
        let c : ◌≡◌ {A = ℕ} (cond (eqb (p n) n) 1 0) 1 = rw t in
        let d : ◌≡◌ {A = ℕ} (cond (eqb (q n) n) 1 0) 0 = rw u in
        let s : length (roots q n) ≡ length (roots p n) = ap length (roots_cong p q n (λ i w. l.else i (λ v. omega arith))) in
        omega (arith, length_roots p n, length_roots q n, c, d, s)
